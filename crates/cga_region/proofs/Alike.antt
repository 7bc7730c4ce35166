-- Two derivations whose turns tell the same of a lot have the same members of it.
use Rattle.std.proofs.Common.{◌≡◌, ℕ, zero, suc, ◌+◌, ◌-◌, ◌<◌, List, [], ◌∷◌, map, true, false, refl, sym, ap, ◌∙◌, subst, inl, inr, Some, arith}
use Rattle.std.proofs.lemmas.Bool.{cases_Bool as either}
use Rattle.cga_order.specs.declared.placed.Placed.{Placed}
use Rattle.cga_order.specs.declared.placed.Kind.{Kind}
use Rattle.cga_order.specs.declared.placed.Kind.TheVariants.{Waiting}
use Rattle.cga_order.specs.World.{Has, Among, is_instance, is_waiting}
use Rattle.cga_order.specs.Consistent.{Stands}
use Rattle.cga_order.proofs.Door.{waits}
use Rattle.cga_derivation.specs.Derivation.{Derivation, IsDerivation, NothingWaits, asked, next_of, place_of, reached}
use Rattle.cga_derivation.proofs.Door.{apart-reached}
use Rattle.cga_region.specs.Districts.{district}
use Rattle.cga_region.proofs.Turns.{before_end, created, child_new, children_of, had_turn, kind_of, kind_plain, next_from, one_member, stands_later, taken_waits, turn_ends}

-- a turn of the first at a shape of this lot is one of the second, at the same place and with the same answers
abbrev SameTurns : {N A F P : Type 0} → Derivation N A F P → Derivation N A F P → List ℕ → Type 0
SameTurns {N} {A} {F} {P} one other lot =
    (n : ℕ) (m : Placed N F P) → next_of one (reached one n) ≡ Some m → one.lot m.shape ≡ lot
    → (i : ℕ) × (t : Placed N F P) × (next_of other (reached other i) ≡ Some t)
    × (place_of one t.shape ≡ place_of one m.shape)
    × (asked other (reached other i) t.shape ≡ asked one (reached one n) m.shape)

-- and so is a root
abbrev SameRoots : {N A F P : Type 0} → Derivation N A F P → List N → List N → List ℕ → Type 0
SameRoots {N} {A} {F} {P} derivation ones others lot =
    (r : N) → derivation.lot r ≡ lot → Among r ones → Among r others

module _ {N A F P : Type 0} (derivation : Derivation N A F P) (ones others : List N) where
  abbrev One : Derivation N A F P
  One = district derivation ones

  abbrev Other : Derivation N A F P
  Other = district derivation others

  module _ (laws : IsDerivation One) (other_laws : IsDerivation Other) (end : ℕ)
      (ends : NothingWaits Other (reached Other end)) (lot : List ℕ) (roots : SameRoots derivation ones others lot) (turns : SameTurns One Other lot) where
    abbrev ys : List (Placed N F P)
    ys = reached Other end

    -- a turn of the other one, with the same outcome
    abbrev SameTurn : ℕ → Placed N F P → Type 0
    SameTurn n m =
        (i : ℕ) × (t : Placed N F P) × (next_of Other (reached Other i) ≡ Some t) × (t.shape ≡ m.shape)
        × (created Other other_laws i t ≡ created One laws n m) × (i < end)

    same_turn : (n : ℕ) (m : Placed N F P) → next_of One (reached One n) ≡ Some m → derivation.lot m.shape ≡ lot
        → Stands ys m.shape Waiting → SameTurn n m
    same_turn n m e own (j, has, alike, same) =
        let w = turns n m e own in
        let t = w.1 in
        let below = before_end Other other_laws end ends w.0 t w.2 in
        let gap : (end - w.0) + w.0 ≡ end = omega (arith, below) in
        let waited = taken_waits Other other_laws w.0 t w.2 in
        let there : Stands ys t.shape Waiting = subst (λ l. Stands (reached Other l) t.shape Waiting) gap (stands_later Other other_laws w.0 (end - w.0) t.shape Waiting waited) in
        let is = (one_member Other ys (apart-reached Other other_laws end) t.shape m.shape there.0 j there.1 has w.3).0 in
        (w.0, t, w.2, is, (λ x. derivation.expand (is x) (w.4 x)), below)

    stands_there : (n : ℕ) (x : N) (k : Kind F P) → derivation.lot x ≡ lot → Has (reached One n) x k → Stands ys x k
    unfolding reached
    stands_there zero x k own h =
        let w = from_roots ones h in
        let gap : end + zero ≡ end = omega arith in
        subst (Stands ys x) (sym w.1) (subst (λ l. Stands (reached Other l) x Waiting) gap (stands_later Other other_laws zero end x Waiting (to_roots others (roots x own w.0))))
      where
        from_roots : (rs : List N) → Has {N = N} {F = F} {P = P} (map (λ n. record { shape = n; kind = Waiting }) rs) x k
            → Among x rs × (k ≡ Waiting)
        from_roots [] g = absurd g
        from_roots (r ∷ rs) g = elim g [ inl e ↦ (inl e.0, sym e.1) | inr q ↦ let w = from_roots rs q in (inr w.0, w.1) ]

        to_roots : (rs : List N) → Among x rs
            → Has {N = N} {F = F} {P = P} (map (λ n. record { shape = n; kind = Waiting }) rs) x Waiting
        to_roots [] g = absurd g
        to_roots (r ∷ rs) g = elim g [ inl e ↦ inl (e, refl) | inr q ↦ inr (to_roots rs q) ]
    stands_there (suc n) x k own h = elim (next_from One laws n x k h) [
      | inl g ↦ stands_there n x k own g
      | inr g ↦
          let m = g.0 in
          elim g.2 [
            | inl e ↦
                let (j, has, alike, same) = stands_there n m.shape Waiting (ap derivation.lot e.0 ∙ own) (taken_waits One laws n m g.1) in
                let plain : is_instance k ≡ false = ap is_instance e.1 ∙ kind_plain One (created One laws n m) in
                (j, subst (λ y. Has ys y j) e.0 has, alike ∙ sym plain, λ q. let no : true ≡ false = sym q ∙ plain in absurd (cc))
            | inr c ↦
                let parent : derivation.lot m.shape ≡ lot = sym (child_new One laws n m (created One laws n m) refl x k c).0 ∙ own in
                let t = same_turn n m g.1 parent (stands_there n m.shape Waiting parent (taken_waits One laws n m g.1)) in
                (turn_ends Other other_laws end t.0 t.1 t.2 t.5).1 x k (subst (λ r. Has (children_of r) x k) (sym t.4) c)
          ]
    ]

    pub has_there : (last : ℕ) → NothingWaits One (reached One last) → (x : N) (k : Kind F P) → derivation.lot x ≡ lot
        → Has (reached One last) x k → Has ys x k
    has_there last quiet x k own h =
        let (j, has, alike, same) = stands_there last x k own h in
        elim (either (is_instance k)) [
          | inl p ↦ subst (Has ys x) (same p) has
          | inr p ↦ elim (either (is_waiting k)) [
            | inl w ↦ absurd (quiet x (waits (reached One last) x k h w))
            | inr w ↦
                let turn = had_turn One laws last x k h w p in
                let m = turn.1 in
                let lots : derivation.lot m.shape ≡ lot = ap derivation.lot turn.3 ∙ own in
                let first = (turn_ends One laws last turn.0 m turn.2 turn.4).0 in
                let left = kind_of (created One laws turn.0 m) in
                let kind : k ≡ left = (one_member One (reached One last) (apart-reached One laws last) x m.shape k left h first (ap (place_of derivation) (sym turn.3))).1 in
                let t = same_turn turn.0 m turn.2 lots (stands_there turn.0 m.shape Waiting lots (taken_waits One laws turn.0 m turn.2)) in
                let there = (turn_ends Other other_laws end t.0 t.1 t.2 t.5).0 in
                let shape : t.1.shape ≡ x = t.3 ∙ turn.3 in
                let now : kind_of (created Other other_laws t.0 t.1) ≡ k = ap kind_of t.4 ∙ sym kind in
                subst (Has ys x) now (subst (λ y. Has ys y (kind_of (created Other other_laws t.0 t.1))) shape there)
          ]
        ]
