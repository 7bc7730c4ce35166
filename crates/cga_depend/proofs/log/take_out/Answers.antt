use Rattle.std.proofs.Common.{subst}
use Rattle.std.specs.Prelude.{nat_eq}
use Rattle.std.specs.List.{IsDistinct}
use Rattle.cga_depend.proofs.Applying.{removed}
use Rattle.cga_depend.proofs.log.take_out.Goals as goal

pub returns : goal.returns
returns c = record {
  noted = removed c.args.dependents.now c.remove.new.self c.args.symbol c.args.node c.remove.result c.remove.ensures.found c.remove.ensures.gone c.remove.ensures.others c.remove.ensures.same
      (subst (λ xs. IsDistinct nat_eq xs) c.nodes_of-nodes.ensures.nodes c.nodes_of-nodes.ensures.once);
}
