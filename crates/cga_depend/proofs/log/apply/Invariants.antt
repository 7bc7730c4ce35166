use Rattle.std.proofs.Common.{◌≡◌, ℕ, List, drop}
use Rattle.cga_depend.specs.Log.{lists, noted_all}
use Rattle.cga_depend.proofs.log.apply.Given as goal

abbrev pub invariant-loop-entry : goal.invariant-loop-entry
invariant-loop-entry l = record {
  applied : (s : List ℕ) (c : ℕ)
      → noted_all (drop l.entry-index l.log) s c (lists l.dependents s c) ≡ noted_all l.log s c (lists l.fn.dependents s c);
}
