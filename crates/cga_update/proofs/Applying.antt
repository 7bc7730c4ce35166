-- What a log that is applied makes the dependents list.
use Rattle.std.proofs.Common.{ℕ, List, sym, ap, ◌∙◌, Option}
use Rattle.cga_depend.specs.Log.{IsApplied, noted_all}
use Rattle.cga_depend.specs.Pairs.{DependentsView}
use Rattle.cga_depend.specs.declared.log.Pairing.{Pairing}
use Rattle.cga_forest.specs.View.{Seen}
use Rattle.cga_update.specs.Applied.{ListsView}
use Rattle.cga_update.specs.Log.{IsLogged}

-- the dependents list the new nodes, where the log makes these of the old ones
pub lists_after : (log : List Pairing) (old new : DependentsView) (V T : ℕ → Option Seen) → IsApplied log old new
    → IsLogged V T log → ListsView old V → ListsView new T
lists_after log old new V T applied logged listed s c = applied s c ∙ (ap (noted_all log s c) (listed s c) ∙ sym (logged s c))
