use Rattle.std.proofs.Common.{Vec, Global}
use Rattle.cga_index.proofs.Visiting.{all_listed}
use Rattle.cga_index.proofs.nodes.nodes_from.Goals as goal

pub returns : goal.returns
returns g c = all_listed (λ (v : Vec _ Global). v.items) _ _ _ c.new-nodes.ensures.items c.in_ok-visit_from.ensures
