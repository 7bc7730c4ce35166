-- What a step makes of a configuration: its members, and the kind of the shape that was taken.
use Rattle.std.proofs.Common.{◌≡◌, List, [], ◌++◌, map, refl, sym, ◌∙◌, ◌⊎◌, inl, inr, Result, Ok, Err, true, false}
use Rattle.std.proofs.lemmas.List.{append-nil}
use Rattle.cga_order.specs.World.{World, Placed, Kind, Waiting, Done, Faulted, Instance, Has, place_of, is_waiting, is_instance}
use Rattle.cga_order.specs.Run.{become, told}

module _ {N A F P : Type 0} (world : World N A F P) where
  abbrev Members : Type 0
  Members = List (Placed N F P)

  -- both shapes have one lot and one path
  abbrev pub SamePlace : N → N → Type 0
  SamePlace n m = place_of world n ≡ place_of world m

  -- the members of D are those of C, but s has this kind, and these children came
  pub record Changes (C D : Members) (s : N) (kind : Kind F P) (children : Members) : Type 0 where
    pub from : (n : N) (k : Kind F P) → Has D n k
        → ((SamePlace n s → ⊥) × Has C n k) ⊎ (((n ≡ s) × (k ≡ kind)) ⊎ Has children n k)
    pub to : (n : N) (k : Kind F P) → (SamePlace n s → ⊥) → Has C n k → Has D n k
    pub itself : Has D s kind
    pub created : (n : N) (k : Kind F P) → Has children n k → Has D n k

  -- the kind of a shape after its step, and the children that came
  abbrev pub kind_after : Result Members F → Kind F P
  kind_after (Ok children) = Done
  kind_after (Err fault) = Faulted fault

  -- the children that came with an outcome: none with a fault
  abbrev pub children_of : Result Members F → Members
  children_of (Ok children) = children
  children_of (Err fault) = []

  -- a configuration after a step is that before with the shape's new kind, and the children that came behind it
  pub told-is : (C : Members) (s : N) (r : Result Members F)
      → told world C s r ≡ map (become world s (kind_after r)) C ++ children_of r
  told-is C s (Ok children) = refl
  told-is C s (Err fault) = sym (append-nil (map (become world s (Faulted fault)) C))

  -- it is done, or has a fault
  abbrev pub IsExpanded : Kind F P → Type 0
  IsExpanded k = (k ≡ Done) ⊎ ((f : F) × (k ≡ Faulted f))

  -- after its step a shape is done, or has a fault
  pub expanded_after : (r : Result Members F) → IsExpanded (kind_after r)
  expanded_after (Ok children) = inl refl
  expanded_after (Err fault) = inr (fault, refl)

  -- what was expanded doesn't wait
  pub not_waiting : (k : Kind F P) → IsExpanded k → k ≡ Waiting → ⊥
  not_waiting k x e = elim x [ inl d ↦ let y : Done ≡ Waiting = sym d ∙ e in cc | inr f ↦ let y : Faulted f.0 ≡ Waiting = sym f.1 ∙ e in cc ]

  -- what neither waits nor is an instance is expanded
  pub expanded_kind : (k : Kind F P) → is_waiting k ≡ false → is_instance k ≡ false → IsExpanded k
  expanded_kind Waiting e f = let x : true ≡ false = e in cc
  expanded_kind Done e f = inl refl
  expanded_kind (Faulted y) e f = inr (y, refl)
  expanded_kind (Instance y) e f = let x : true ≡ false = f in cc
