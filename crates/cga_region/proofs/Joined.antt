-- Lists one behind the other.
use Rattle.std.proofs.Common.{◌≡◌, List, [], ◌∷◌, ◌++◌, inl, inr, refl, sym, ap, ◌∙◌, subst, append_assoc}
use Rattle.cga_region.proofs.TownRoots.{differ_left, differ_right}
use Rattle.cga_region.specs.TownJobs.{LotJob}
use Rattle.cga_region.specs.TownParts.{joined}
use Rattle.cga_expand.specs.Derivation.{NamesDiffer}
use Rattle.cga_order.proofs.Door.{Among-append, Among-left, Among-right}
use Rattle.cga_order.specs.World.{Among}
use Rattle.cga_shape.specs.declared.lot.Lot.{Lot}
use Rattle.cga_region.specs.Kept.{own_of}

module _ {X : Type 0} where
  pub joined_among : (lists : List (List X)) (x : X) → Among x (joined lists)
      → (xs : List X) × Among xs lists × Among x xs
  joined_among [] x h = absurd h
  joined_among (ys ∷ lists) x h = elim (Among-append ys (joined lists) x h) [
    | inl l ↦ (ys, inl refl, l)
    | inr r ↦ let w = joined_among lists x r in (w.0, inr w.1, w.2)
  ]

  pub among_joined : (lists : List (List X)) (xs : List X) (x : X) → Among xs lists → Among x xs
      → Among x (joined lists)
  among_joined [] xs x h g = absurd h
  among_joined (ys ∷ lists) xs x h g = elim h [
    | inl e ↦ Among-left ys (joined lists) x (subst (Among x) (sym e) g)
    | inr r ↦ Among-right ys (joined lists) x (among_joined lists xs x r g)
  ]

own_both : (parts others : List LotJob) → own_of (parts ++ others) ≡ own_of parts ++ own_of others
own_both [] others = refl
own_both (part ∷ parts) others = ap (λ (lots : List Lot). part.own ++ lots) (own_both parts others) ∙ sym (append_assoc part.own (own_of parts) (own_of others))

-- where the names of all own lots differ, so do those of some parts
pub own_differ : (lists : List (List LotJob)) (parts : List LotJob) → Among parts lists
    → NamesDiffer (own_of (joined lists))
    → NamesDiffer (own_of parts)
own_differ [] parts h differ = absurd h
own_differ (first ∷ lists) parts h differ =
    let all : NamesDiffer (own_of first ++ own_of (joined lists)) = subst NamesDiffer (own_both first (joined lists)) differ in
    elim h [
      | inl e ↦ subst (λ (l : List LotJob). NamesDiffer (own_of l)) e (differ_left (own_of first) (own_of (joined lists)) all)
      | inr r ↦ own_differ lists parts r (differ_right (own_of first) (own_of (joined lists)) all)
    ]
