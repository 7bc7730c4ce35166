use Rattle.std.proofs.Common.{◌≡◌, ℕ, List, ◌++◌, length, drop}
use Rattle.std.specs.Prelude.{flat_map}
use Rattle.cga_obj.specs.Faults.{index_text}
use Rattle.cga_trace.specs.Text.{AreFew}
use Rattle.cga_trace.proofs.reading.read_indices.Given as goal

abbrev pub invariant-loop-rest : goal.invariant-loop-rest
invariant-loop-rest l = record {
  again : (is : List ℕ) → AreFew is → l.text ≡ drop 1 (flat_map index_text is)
      → (left : List ℕ) × (is ≡ l.path.items ++ left) × (l.rest ≡ drop 1 (flat_map index_text left));
  few : AreFew l.path.items;
}

abbrev pub decreases-loop-rest : goal.decreases-loop-rest
decreases-loop-rest l = length l.rest
