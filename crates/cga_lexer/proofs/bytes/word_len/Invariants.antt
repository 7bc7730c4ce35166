use Rattle.std.proofs.Common.{◌≡◌, ◌+◌, drop}
use Rattle.cga_lexer.specs.Bytes.{run}
use Rattle.cga_word.specs.Name.{continues_name}
use Rattle.cga_lexer.proofs.bytes.word_len.Given as goal

abbrev pub invariant-loop-len : goal.invariant-loop-len
invariant-loop-len l = run continues_name l.text ≡ l.len + run continues_name (drop l.len l.text)
