use Rattle.std.proofs.Common.{◌≡◌, ◌+◌, ◌-◌, ◌≤◌, drop, length}
use Rattle.cga_lexer.specs.Line.{lex}
use Rattle.cga_script.specs.Ends.{are_end, ends_after}
use Rattle.cga_script.proofs.telling_lines.are_end.Given as goal

abbrev pub invariant-line : goal.invariant-line
invariant-line l = record {
  within : l.at ≤ length l.line;
  read : are_end (lex 0 1 l.line) ≡ ends_after l.found (lex 0 (l.at + 1) (drop l.at l.line));
}

abbrev pub decreases-line : goal.decreases-line
decreases-line l = length l.line - l.at
