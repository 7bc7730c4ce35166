use Rattle.std.proofs.Common.{sym, arith, ◌∙◌}
use Rattle.cga_lexer.specs.Bytes.{run}
use Rattle.std.specs.Char.{is_ascii_digit}
use Rattle.cga_lexer.proofs.Running.{run_on, run_stops, run_ends}
use Rattle.cga_lexer.proofs.bytes.digits_len.Goals as goal

pub returns-then-not-is_digit : goal.returns-then-not-is_digit
returns-then-not-is_digit c = sym (run_stops is_ascii_digit c.args.text.now (run is_ascii_digit c.args.text.now) c.loop-len.len c.loop-len.invariant c.loop-len-test.true (sym c.is_digit.ensures ∙ c.if-not-is_digit.true))

pub loop-len-preserved : goal.loop-len-preserved
loop-len-preserved c = run_on is_ascii_digit c.args.text.now (run is_ascii_digit c.args.text.now) c.loop-len.len c.loop-len.invariant c.loop-len-test.true (sym c.is_digit.ensures ∙ c.if-not-is_digit.false)

pub returns : goal.returns
returns c = let e = run_ends is_ascii_digit c.args.text.now (run is_ascii_digit c.args.text.now) c.loop-len.len c.loop-len.invariant (omega arith) in omega (arith, e)
