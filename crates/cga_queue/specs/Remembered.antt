-- Numbers of nodes that are known to be on an agenda. Each has one place, which others share.
use Rattle.std.specs.Prelude.{◌≡◌, ℕ, ◌%◌, List, Option, Some, true, slice_get}
use Rattle.cga_queue.specs.Agenda.{AgendaView, Chains, on}
use Rattle.cga_queue.specs.declared.remembered.TheConstants.{PLACES}

abbrev pub RememberedView : Type 0
RememberedView = List (Option ℕ)

abbrev pub cell_of : ℕ → ℕ
cell_of c = c % PLACES

-- the number stands in its place
abbrev pub IsRemembered : RememberedView → ℕ → Type 0
IsRemembered ns c = slice_get ns (cell_of c) ≡ Some (Some c)

-- each remembered number is that of a node on the agenda
abbrev pub AreOn : Chains → RememberedView → AgendaView → Type 0
AreOn D ns a = (c : ℕ) → IsRemembered ns c → on D a c ≡ true
