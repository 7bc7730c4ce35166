use Rattle.std.proofs.Common.{◌≡◌, ◌≤◌, ◌*◌, List, ℕ, length, take}
use Rattle.std.specs.Prelude.{sum_by}
use Rattle.cga_asset.proofs.model_size.entries.Given as goal

abbrev pub invariant-loop-face : goal.invariant-loop-face
invariant-loop-face l = record {
  value : l.entries ≡ sum_by (λ (f : List ℕ). length f) (take l.face-index l.faces);
  small : l.entries ≤ l.face-index * 18446744073709551615;
}
