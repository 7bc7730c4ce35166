-- How many entries there are, and for how many there is room.
use Rattle.std.proofs.Common.{◌≡◌, ◌≢◌, ap, ℕ, ◌+◌, ◌≤◌, List, [], ◌∷◌, Bool, true, false, refl, sym, arith, subst, cond}
use Rattle.std.specs.Prelude.{Option, Some, None, is_some, not}
use Rattle.slab.specs.Slab.{Slab, slab_len}
use Rattle.cga_marked.specs.Count.{tally}
use Rattle.cga_marked.specs.Slab.{SlabView, slot, HasRoom, passes}
use Rattle.cga_marked.proofs.Count.{tally_count, tally_mono, tally_more}
use Rattle.cga_marked.proofs.Slots.{passes_some}

module _ {E : Type 0} where
  pub len_tally : (s : Slab E) → slab_len s ≡ tally is_some s.slots
  len_tally s = sym (tally_count is_some s.slots)

  -- each is set aside or isn't
  pub split_shown : (aside : E → Bool) (slots : List (Option E))
      → tally is_some slots ≡ tally (passes (λ e. not (aside e))) slots + tally (passes aside) slots
  split_shown aside [] = refl
  split_shown aside (None ∷ rest) = let r = split_shown aside rest in omega arith
  split_shown aside (Some e ∷ rest) = let r = split_shown aside rest in
      elim (aside e) as (λ b. 1 + tally is_some rest ≡ (cond (not b) 1 0 + tally (passes (λ e. not (aside e)))
      rest) + (cond b 1 0 + tally (passes aside) rest)) [ true ↦ omega arith | false ↦ omega arith ]

  pub few_passing : (p : E → Bool) (slots : List (Option E)) → tally (passes p) slots ≤ tally is_some slots
  few_passing p slots = tally_mono (passes p) is_some refl slots slots refl (λ c h. passes_some p (slot slots c) h)

  pub one_more : (slots now : List (Option E)) (id : ℕ) (x : E) → slot slots id ≡ None → slot now id ≡ Some x
      → ((c : ℕ) → c ≢ id → slot now c ≡ slot slots c) → tally is_some now ≡ tally is_some slots + 1
  one_more slots now id x was is others = tally_more is_some refl slots now id (ap is_some was) (ap is_some is) (λ c n. ap is_some (others c n))

  module _ (v : SlabView E) (slots : List (Option E)) (cap list : ℕ) (q : record { slots = slots; capacity = cap; listable = list } ≡ v) where
    pub room_from : (more : ℕ) → HasRoom v more
        → (tally is_some slots + more ≤ cap) × (tally is_some slots + more ≤ list)
    room_from more h = let g : HasRoom (record { slots = slots; capacity = cap; listable = list }) more = subst (λ (x : SlabView E). HasRoom x more) (sym q) h in (g.entries, g.listed)

    -- there is as much room as before
    pub room_kept : (now : List (Option E)) (cap2 list2 : ℕ) → tally is_some now ≡ tally is_some slots → cap2 ≡ cap
        → list2 ≡ list → (more : ℕ) → HasRoom v more
        → HasRoom (record { slots = now; capacity = cap2; listable = list2 }) more
    room_kept now cap2 list2 e c l more h =
        let g = room_from more h in
        let a = g.0 in let b = g.1 in record { entries = omega arith; listed = omega arith }

    -- one more has come
    pub room_less : (now : List (Option E)) (cap2 list2 : ℕ) → tally is_some now ≡ tally is_some slots + 1 → cap2 ≡ cap
        → list2 ≡ list → (more : ℕ) → HasRoom v (more + 1)
        → HasRoom (record { slots = now; capacity = cap2; listable = list2 }) more
    room_less now cap2 list2 e c l more h =
        let g = room_from (more + 1) h in
        let a = g.0 in let b = g.1 in record { entries = omega arith; listed = omega arith }
