use Rattle.std.proofs.Common.{◌≡◌, ◌+◌, drop}
use Rattle.cga_lexer.specs.Bytes.{run}
use Rattle.std.specs.Char.{is_ascii_digit}
use Rattle.cga_lexer.proofs.bytes.digits_len.Given as goal

abbrev pub invariant-loop-len : goal.invariant-loop-len
invariant-loop-len l = run is_ascii_digit l.text ≡ l.len + run is_ascii_digit (drop l.len l.text)
