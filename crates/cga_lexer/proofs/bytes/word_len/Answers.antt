use Rattle.std.proofs.Common.{sym, arith, ◌∙◌}
use Rattle.cga_lexer.specs.Bytes.{run}
use Rattle.cga_word.specs.Name.{continues_name}
use Rattle.cga_lexer.proofs.Running.{run_on, run_stops, run_ends}
use Rattle.cga_lexer.proofs.bytes.word_len.Goals as goal

pub returns-then-not-continues_name : goal.returns-then-not-continues_name
returns-then-not-continues_name c = sym (run_stops continues_name c.args.text.now (run continues_name c.args.text.now) c.loop-len.len c.loop-len.invariant c.loop-len-test.true (sym c.continues_name.ensures ∙ c.if-not-continues_name.true))

pub loop-len-preserved : goal.loop-len-preserved
loop-len-preserved c = run_on continues_name c.args.text.now (run continues_name c.args.text.now) c.loop-len.len c.loop-len.invariant c.loop-len-test.true (sym c.continues_name.ensures ∙ c.if-not-continues_name.false)

pub returns : goal.returns
returns c = let e = run_ends continues_name c.args.text.now (run continues_name c.args.text.now) c.loop-len.len c.loop-len.invariant (omega arith) in omega (arith, e)
