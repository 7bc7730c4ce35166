use Rattle.std.proofs.Common.{◌≡◌, ℕ, ◌<◌, List, Some, true, slice_get}
use Rattle.cga_depend.specs.Pairs.{nodes_in}
use Rattle.cga_order.specs.World.{Among}
use Rattle.cga_queue.specs.Agenda.{Grows, HasAll}
use Rattle.cga_update.specs.Near.{IsAny, IsPricedFor, KeepsPriority}
use Rattle.cga_update.specs.Queue.{chains_of}
use Rattle.cga_update.proofs.queue.queue_changed.Given as goal

abbrev pub invariant-loop-symbol : goal.invariant-loop-symbol
invariant-loop-symbol l = record {
  grammars : l.grammars ≡ l.fn.grammars;
  grows : Grows (chains_of l.forest) IsAny l.fn.agenda l.agenda;
  there : (i : ℕ) (s : List ℕ) → i < l.symbol-index → slice_get l.symbol-items i ≡ Some s
      → HasAll (chains_of l.forest) (λ c. Among c (nodes_in l.dependents s)) l.agenda;
  parents : (i : ℕ) (s : List ℕ) → i < l.symbol-index → slice_get l.symbol-items i ≡ Some s
      → IsPricedFor l.forest l.fn.grammars.before l.fn.grammars.after (nodes_in l.dependents s) s l.agenda;
  prices : (i : ℕ) (s : List ℕ) → i < l.symbol-index → slice_get l.symbol-items i ≡ Some s → l.priced ≡ true
      → KeepsPriority l.fn.grammars.before l.fn.grammars.after (nodes_in l.dependents s) s;
}
