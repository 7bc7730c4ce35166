use Rattle.std.proofs.Common.{◌∙◌, arith, sym}
use Rattle.std.proofs.lemmas.Grind.{common_steps}
use Rattle.cga_obj.proofs.Instances.{one_more, no_more}
use Rattle.cga_obj.proofs.obj.push_instances.Goals as goal

pub loop-instance-preserved : goal.loop-instance-preserved
loop-instance-preserved g c = record {
  text = one_more (g.M.Meshes.mesh_of c.args.meshes.now) _ _ _ c.args.drawn.now c.loop-instance.instance-index c.instance-item.result _ _ c.loop-instance-test.true (sym c.instance-item.is) c.in_ok-after.ensures.count c.in_ok-after.ensures.text ∙ c.loop-instance.invariant.text;
  count = grind (arith, common_steps);
  room = omega arith;
}

pub returns-clause-text : goal.returns-clause-text
returns-clause-text g c = no_more (g.M.Meshes.mesh_of c.args.meshes.now) _ _ c.args.drawn.now _ _ _ c.loop-instance-test.false c.loop-instance.invariant.text
