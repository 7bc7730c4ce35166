use Rattle.std.proofs.Common.{subst, take_all}
use Rattle.std.specs.Prelude.{All}
use Rattle.std.proofs.lemmas.List.Elements.{All-more}
use Rattle.cga_obj.specs.DeltaLaws.{IsNamed}
use Rattle.cga_obj.proofs.names.all_named.Goals as goal

pub loop-drawn-preserved : goal.loop-drawn-preserved
loop-drawn-preserved c =
    All-more IsNamed c.args.all.now c.loop-drawn.drawn-index c.drawn-item.result c.loop-drawn-test.true c.loop-drawn.invariant
    (subst IsNamed c.drawn-item.is c.is_named.ensures)

pub returns : goal.returns
returns c = subst (All IsNamed) (take_all c.loop-drawn.drawn-index c.args.all.now c.loop-drawn-test.false) c.loop-drawn.invariant
