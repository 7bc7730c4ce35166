-- Roots keep their hulls while those of others change.
use Rattle.std.proofs.Common.{◌≡◌, ◌≢◌, inl, inr, ℕ, List, Bool, true, false, refl, ap, sym, ◌∙◌}
use Rattle.std.specs.Prelude.{Option, Some, None, if◌then◌else◌}
use Rattle.cga_forest.specs.declared.slot_entry.SlotEntry.{SlotEntry}
use Rattle.cga_kept_hulls.specs.declared.hulls.Hulls.{Hulls}
use Rattle.cga_forest.specs.declared.node.Node.{Node}
use Rattle.cga_forest.specs.declared.node.NodeState.{NodeState}
use Rattle.cga_forest.specs.Tree.{IsPlaced, above, parent_of}
use Rattle.cga_forest.specs.View.{Seen, flag_if, hulls_of, present_of, rewritten, settled}
use Rattle.cga_fraction.proofs.Door.{eq_or_ne as nat_cases}
use Rattle.std.proofs.lemmas.Bool.{cases_Bool as bool_cases}
use Rattle.cga_forest.proofs.Marks.{hulls_flag, present_flag}
use Rattle.cga_forest.proofs.Present.{parent_present, present_some}

-- what is left once a slot is settled has its hulls
pub settled_hulls : (s : Option SlotEntry) (h : Hulls) → hulls_of (settled s) ≡ Some h → hulls_of s ≡ Some h
settled_hulls None h e = e
settled_hulls (Some x) h e = elim (bool_cases x.aside) [
  | inl y ↦ (let z : None ≡ Some h = ap (λ b. hulls_of (if b then None else Some (record x { created = false; touched = false; former = None; former_hulls = None }))) (sym y) ∙ e in absurd (cc))
  | inr n ↦ ap (λ b. hulls_of (if b then None else Some (record x { created = false; touched = false; former = None; former_hulls = None }))) (sym n) ∙ e
]

-- ---- on the way up from a node

module _ (s t : ℕ → Option SlotEntry) (id : ℕ) (others : (c : ℕ) → c ≢ id → t c ≡ s c) where
  pub written_here : (c : ℕ) → Some id ≢ Some c → hulls_of (t c) ≡ hulls_of (s c)
  written_here c n = ap hulls_of (others c (λ q. n (ap (λ k. Some k) (sym q))))

  -- the node isn't a root, and the way goes on from its parent
  pub written_above : (u : ℕ → Option SlotEntry) (p : ℕ) (e : Seen) (changed : Option ℕ) → present_of (s id) ≡ Some e
      → present_of (t id) ≡ present_of (s id) → parent_of (t id) ≡ Some p
      → ((c : ℕ) → above (present_of (t c)) ≡ None → changed ≢ Some c → hulls_of (u c) ≡ hulls_of (t c))
      → (c : ℕ) → above (present_of (s c)) ≡ None → changed ≢ Some c → hulls_of (u c) ≡ hulls_of (s c)
  written_above u p e changed here present up rest c top n =
      let apart : c ≢ id = (λ q. let z : None ≡ Some p = sym top ∙ ap (λ i. above (present_of (s i))) q ∙ ap above here ∙ sym (parent_present (t id) e (present ∙ here)) ∙ up in (cc)) in
      rest c (ap (λ x. above (present_of x)) (others c apart) ∙ top) n ∙ ap hulls_of (others c apart)

-- ---- where a node's children are replaced

above_flag : (b : Bool) (o : Option Seen) → above o ≡ None → above (if b then None else o) ≡ None
above_flag true o top = refl
above_flag false o top = top

above_rewritten : (state : NodeState) (children : List ℕ) (o : Option Seen) → above o ≡ None
    → above (rewritten state children o) ≡ None
above_rewritten state children None top = refl
above_rewritten state children (Some d) top = top

flag_some : (b : Bool) (s : Option SlotEntry) (d : Seen) → present_of s ≡ Some d
    → (x : SlotEntry) × (flag_if b s ≡ Some x)
flag_some false s d h = let w = present_some s d h in (w.0, w.1)
flag_some true None d h = absurd (cc)
flag_some true (Some e) d h = (record e { aside = true; touched = true }, refl)

module _ (old dropped placed written : ℕ → Option SlotEntry) (id depth : ℕ) (marking : Bool) (olds : List ℕ) (news : List Node) (made : List ℕ) (state : NodeState) (gone : ℕ → Bool)
    (drops : (c : ℕ) → dropped c ≡ flag_if (gone c) (old c)) (places : IsPlaced dropped placed id depth marking olds news made)
    (others : (c : ℕ) → c ≢ id → written c ≡ placed c) (present : present_of (written id) ≡ rewritten state made (present_of (placed id))) (hulls : hulls_of (written id) ≡ hulls_of (placed id)) where
  placed_same : (c : ℕ) (d : Seen) → present_of (old c) ≡ Some d → placed c ≡ dropped c
  placed_same c d h =
      let x = flag_some (gone c) (old c) d h in
      let e : dropped c ≡ Some x.0 = drops c ∙ x.1 in places.rest c x.0 e ∙ sym e

  top_placed : (c : ℕ) (d : Seen) → present_of (old c) ≡ Some d → d.parent ≡ None → above (present_of (placed c)) ≡ None
  top_placed c d h top =
      ap (λ x. above (present_of x)) (placed_same c d h ∙ drops c) ∙ ap above (present_flag (gone c) (old c))
      ∙ above_flag (gone c) (present_of (old c)) (ap above h ∙ top)

  pub top_written : (c : ℕ) (d : Seen) → present_of (old c) ≡ Some d → d.parent ≡ None
      → above (present_of (written c)) ≡ None
  top_written c d h top = elim (nat_cases c id) [
    | inl q ↦ ap (λ i. above (present_of (written i))) q ∙ ap above present
        ∙ above_rewritten state made (present_of (placed id)) (ap (λ i. above (present_of (placed i))) (sym q) ∙ top_placed c d h top)
    | inr n ↦ ap (λ x. above (present_of x)) (others c n) ∙ top_placed c d h top
  ]

  hulls_written : (c : ℕ) → hulls_of (written c) ≡ hulls_of (placed c)
  hulls_written c = elim (nat_cases c id) [
    | inl q ↦ ap (λ i. hulls_of (written i)) q ∙ hulls ∙ ap (λ i. hulls_of (placed i)) (sym q)
    | inr n ↦ ap hulls_of (others c n)
  ]

  pub top_hulls : (c : ℕ) (d : Seen) → present_of (old c) ≡ Some d → hulls_of (written c) ≡ hulls_of (old c)
  top_hulls c d h = hulls_written c ∙ ap hulls_of (placed_same c d h ∙ drops c) ∙ hulls_flag (gone c) (old c)
