use Rattle.std.proofs.Common.{◌≡◌, ◌++◌}
use Rattle.cga_words.specs.Town.{lot_lines}
use Rattle.cga_words.proofs.town.push_lots.Given as goal

abbrev pub invariant-loop-k : goal.invariant-loop-k
invariant-loop-k l = l.text ≡ l.initial.text ++ lot_lines l.k
