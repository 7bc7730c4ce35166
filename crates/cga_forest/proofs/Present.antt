-- What is known of the slot of a node that is there.
use Rattle.std.proofs.Common.{◌≡◌, inl, inr, ℕ, List, [], ◌∷◌, ◌++◌, length, Bool, true, false, refl, ap, sym, ◌∙◌}
use Rattle.std.specs.Prelude.{Option, Some, None, is_some, if◌then◌else◌}
use Rattle.cga_forest.specs.declared.slot_entry.SlotEntry.{SlotEntry}
use Rattle.cga_forest.specs.View.{Seen, seen, last_from, flag_if, present_of, kids}
use Rattle.cga_forest.specs.Tree.{parent_of, depth_at}
use Rattle.std.proofs.lemmas.Bool.{cases_Bool as bool_cases}

pub present_some : (s : Option SlotEntry) (d : Seen) → present_of s ≡ Some d
    → (x : SlotEntry) × (s ≡ Some x) × (seen x ≡ d)
present_some None d h = absurd (cc)
present_some (Some e) d h = elim (bool_cases e.aside) [
  | inl y ↦ (let z : None ≡ Some d = ap (λ b. if b then None else Some (seen e)) (sym y) ∙ h in absurd (cc))
  | inr n ↦ (let z : Some (seen e) ≡ Some d = ap (λ b. if b then None else Some (seen e)) (sym n) ∙ h in (e, refl, (cc)))
]

pub some_is : {X : Type 0} (o : Option X) (x : X) → o ≡ Some x → is_some o ≡ true
some_is o x h = ap is_some h

pub parent_present : (s : Option SlotEntry) (d : Seen) → present_of s ≡ Some d → parent_of s ≡ d.parent
parent_present s d h = let w = present_some s d h in ap parent_of w.1 ∙ ap (λ (x : Seen). x.parent) w.2

pub kids_present : (s : Option SlotEntry) (d : Seen) → present_of s ≡ Some d → kids s ≡ d.children
kids_present s d h = let w = present_some s d h in ap kids w.1 ∙ ap (λ (x : Seen). x.children) w.2

pub path_present : (s : Option SlotEntry) (d : Seen) → present_of s ≡ Some d → depth_at s ≡ length d.node.shape.path
path_present s d h = let w = present_some s d h in ap depth_at w.1 ∙ ap (λ (x : Seen). length x.node.shape.path) w.2

pub depth_flag : (b : Bool) (s : Option SlotEntry) → depth_at (flag_if b s) ≡ depth_at s
depth_flag false s = refl
depth_flag true None = refl
depth_flag true (Some e) = refl

pub last_push : (d : ℕ) (xs : List ℕ) (i : ℕ) → last_from d (xs ++ i ∷ []) ≡ i
last_push d [] i = refl
last_push d (x ∷ xs) i = last_push x xs i

pub depth_present : (s : Option SlotEntry) (d : Seen) → present_of s ≡ Some d → depth_at s ≡ d.depth
depth_present s d h = let w = present_some s d h in ap depth_at w.1 ∙ ap (λ (x : Seen). x.depth) w.2

pub slot_there : (s : Option SlotEntry) → is_some (present_of s) ≡ true → is_some s ≡ true
slot_there None h = absurd (cc)
slot_there (Some e) h = refl
