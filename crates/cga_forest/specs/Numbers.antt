-- The numbers of nodes while a mark stands.
use Rattle.std.specs.Prelude.{◌≡◌, ℕ, Option, None, IsSome, true}
use Rattle.cga_forest.specs.declared.slot_entry.SlotEntry.{SlotEntry}
use Rattle.cga_forest.specs.View.{present_of}
use Rattle.cga_forest.specs.Tree.{ForestView, slot_at}

-- a slot that is taken stays so, and has no node where it had none
abbrev pub StaysTaken : Option SlotEntry → Option SlotEntry → Type 0
StaysTaken old new = IsSome old → IsSome new × (present_of old ≡ None → present_of new ≡ None)

-- while a mark stands, the number of a node that went is given to no other, also where it came after the mark
abbrev pub KeepsNumbers : ForestView → ForestView → Type 0
KeepsNumbers old new = old.marking ≡ true → (c : ℕ) → StaysTaken (slot_at old c) (slot_at new c)
