-- What is listed of the children that came is still so when their parent is written and hulls are brought up to date.
use Rattle.std.proofs.Common.{◌≡◌, ◌≢◌, ℕ, inl, inr, List, [], ◌∷◌, ◌++◌, length, Bool, true, false, refl, ap, sym, ◌∙◌}
use Rattle.std.specs.Prelude.{Option, Some, None, is_some, slice_get, IsSome, if◌then◌else◌}
use Rattle.cga_index.specs.Tree.{Member}
use Rattle.cga_forest.specs.declared.slot_entry.SlotEntry.{SlotEntry}
use Rattle.cga_forest.specs.declared.node_change.NodeChange.{NodeChange}
use Rattle.cga_forest.specs.declared.node.Node.{Node}
use Rattle.cga_forest.specs.View.{Seen, kids, present_of, seen}
use Rattle.cga_forest.specs.NodeChange.{moved_of}
use Rattle.cga_forest.specs.Gathered.{coming, found, found_at}
use Rattle.cga_forest.specs.Tree.{IsPlaced}
use Rattle.cga_forest.proofs.Place.{same_kids}
use Rattle.cga_forest.proofs.Present.{present_some}
use Rattle.cga_forest.proofs.RemovedAndCreated.{coming_in}

found_of : (c : ℕ) (o : Option SlotEntry) (d : Seen) → present_of o ≡ Some d → found_at c o ≡ moved_of c d ∷ []
found_of c o d h =
    let w = present_some o d h in
    ap (found_at c) w.1 ∙ ap (λ (x : Seen). moved_of c x ∷ []) w.2

-- of slots that show the same nodes the same is listed
found_like : (s t : ℕ → Option SlotEntry) (xs : List ℕ)
    → ((c : ℕ) → Member xs c → (d : Seen) × (present_of (s c) ≡ Some d) × (present_of (t c) ≡ Some d))
    → found s xs ≡ found t xs
found_like s t [] h = refl
found_like s t (x ∷ xs) h =
    let w = h x (inl refl) in
    let one : found_at x (s x) ≡ found_at x (t x) = found_of x (s x) w.0 w.1 ∙ sym (found_of x (t x) w.0 w.2) in
    ap (λ (l : List NodeChange). l ++ found s xs) one ∙ ap (λ (l : List NodeChange). found_at x (t x) ++ l) (found_like s t xs (λ c m. h c (inr m)))

module _ (old now : ℕ → Option SlotEntry) (id depth : ℕ) (marking : Bool) (news : List Node) (made : List ℕ)
    (placed : IsPlaced old now id depth marking (kids (old id)) news made) (here : IsSome (old id)) where
  abbrev pub comers_now : List ℕ
  comers_now = coming (kids (now id)) made (length made)

  comer : (c : ℕ) → Member comers_now c → (c ≢ id) × ((d : Seen) × (present_of (now c) ≡ Some d))
  comer c m =
      let k = coming_in (kids (now id)) made (length made) c m in
      let same : kids (now id) ≡ kids (old id) = same_kids old now id depth marking (kids (old id)) news made placed here in
      elim (placed.each k.0 c k.2).2 [
        | inl o ↦ absurd (k.3 (ap (λ xs. slice_get xs k.0) same ∙ o.0))
        | inr v ↦ (
          (λ q. let z : false ≡ true = ap is_some (sym v.0) ∙ ap (λ x. is_some (old x)) q ∙ here in (cc)),
          (seen v.1.entry, ap present_of v.1.here ∙ ap (λ b. if b then None else Some (seen v.1.entry)) v.1.shows),
        )
      ]

  pub found_after : (t : ℕ → Option SlotEntry) → ((c : ℕ) → c ≢ id → present_of (t c) ≡ present_of (now c))
      → found now comers_now ≡ found t comers_now
  found_after t like = found_like now t comers_now (λ c m. let k = comer c m in (k.1.0, k.1.1, like c k.0 ∙ k.1.1))
