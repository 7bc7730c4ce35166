use Rattle.std.proofs.Common.{◌≡◌, drop}
use Rattle.cga_script.proofs.Blanks.{no_token}
use Rattle.cga_script.proofs.telling_lines.is_blank.Given as goal

abbrev pub invariant-loop-byte : goal.invariant-loop-byte
invariant-loop-byte l = no_token (drop l.byte-index l.line) ≡ no_token l.line
