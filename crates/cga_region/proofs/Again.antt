-- Lots that are as before agree as before.
use Rattle.std.proofs.Common.{◌≡◌, List, [], ◌∷◌, inl, inr, refl, sym, ap, ◌∙◌, subst}
use Rattle.cga_frame.specs.Box.{touches}
use Rattle.cga_region.specs.TownJobs.{LotJob}
use Rattle.cga_region.specs.Told.{AgreeOn, Told}
use Rattle.cga_order.specs.World.{Among}
use Rattle.cga_shape.specs.declared.lot.Lot.{Lot}
use Rattle.cga_region.specs.Again.{IsAsBefore, Part, parts_are, parts_were, RestAgrees}

was_among : (parts : List Part) (part : Part) → Among part parts → Among part.was (parts_were parts)
was_among [] part h = absurd h
was_among (c ∷ parts) part h = elim h [ inl e ↦ inl (ap (λ (x : Part). x.was) e) | inr r ↦ inr (was_among parts part r) ]

part_of : (parts : List Part) (job : LotJob) → Among job (parts_are parts)
    → (part : Part) × Among part parts × (part.now ≡ job)
part_of [] job h = absurd h
part_of (c ∷ parts) job h = elim h [
  | inl e ↦ (c, inl refl, e)
  | inr r ↦ let w = part_of parts job r in (w.0, inr w.1, w.2)
]

module _ (before behind : LotJob → Told) (part other : Part) (x y : Lot) (same_as : IsAsBefore before behind part other x y) where
  still : AgreeOn part.was (before part.was) (before other.was) same_as.first same_as.second
      → AgreeOn part.now (behind part.now) (behind other.now) x y
  still (inl (there, same)) =
      let now = same_as.derived.0 there in
      let seen = same_as.seen now in
      inl (
        now,
        λ t lot.
            let was = same t (lot ∙ sym same_as.second_name) in (
              (λ h. (seen.1 t lot).0 (was.0 ((seen.0.steps t lot).1 h))),
              (λ h. (seen.0.steps t lot).0 (was.1 ((seen.1 t lot).1 h))),
            ),
      )
  still (inr (far, near)) =
      let one = ap (before part.was).hull same_as.first_name ∙ same_as.box in
      let two = ap (before other.was).hull same_as.second_name ∙ same_as.other_box in
      inr (
        (λ i. touches (sym one i) (sym two i)) ∙ far,
        λ now.
            let seen = same_as.seen now in
            let three = ap (before part.was).hull same_as.second_name ∙ seen.0.box in
            (λ i. touches (sym one i) (sym three i)) ∙ near (same_as.derived.1 now),
      )

pub rest_agrees : RestAgrees
rest_agrees before behind parts agreed compared job other x y j o h g =
    let a = part_of parts job j in
    let b = part_of parts other o in
    let own = subst (λ (l : LotJob). Among x l.own) (sym a.2) h in
    let other_own = subst (λ (l : LotJob). Among y l.own) (sym b.2) g in
    let there : AgreeOn a.0.now (behind a.0.now) (behind b.0.now) x y = elim (compared a.0 b.0 x y a.1 b.1 own other_own) [
      | inl same_as ↦ still before behind a.0 b.0 x y same_as (agreed a.0.was b.0.was same_as.first same_as.second (was_among parts a.0 a.1) (was_among parts b.0 b.1) same_as.own same_as.other_own)
      | inr again ↦ again
    ] in
    subst (λ (l : LotJob). AgreeOn l (behind l) (behind other) x y) a.2
    (subst (λ (l : LotJob). AgreeOn a.0.now (behind a.0.now) (behind l) x y) b.2 there)
