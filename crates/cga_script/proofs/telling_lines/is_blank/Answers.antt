use Rattle.cga_script.proofs.Blanks.{at_comment, at_other, at_end}
use Rattle.cga_script.proofs.telling_lines.is_blank.Goals as goal

pub returns-then-byte-eq35 : goal.returns-then-byte-eq35
returns-then-byte-eq35 c = at_comment c.args.line.now c.loop-byte.byte-index c.loop-byte.invariant c.loop-byte-test.true c.if-byte-eq35.true

pub returns-then-not-is_space : goal.returns-then-not-is_space
returns-then-not-is_space c = at_other c.args.line.now c.loop-byte.byte-index c.loop-byte.invariant c.is_space.result c.loop-byte-test.true c.if-byte-eq35.false c.is_space.ensures c.if-not-is_space.true

pub returns : goal.returns
returns c = at_end c.args.line.now c.loop-byte.byte-index c.loop-byte.invariant c.loop-byte-test.false
