use Rattle.std.proofs.Common.{◌≡◌, ◌+◌, ◌-◌, ◌≤◌, drop, length}
use Rattle.cga_lexer.specs.Line.{lex, with_found, Rise}
use Rattle.cga_lexer.proofs.tokens.Given as goal

abbrev pub invariant-line : goal.invariant-line
invariant-line l = record {
  within : l.at ≤ length l.line;
  read : lex 0 1 l.line ≡ with_found l.found (lex 0 (l.at + 1) (drop l.at l.line));
  spans : Rise 1 l.found (l.at + 1);
}

abbrev pub decreases-line : goal.decreases-line
decreases-line l = length l.line - l.at
