use Rattle.std.proofs.Common.{◌∙◌, ap, rules}
use Rattle.std.specs.List.{filter}
use Rattle.std.proofs.lemmas.Fn.{filter_same}
use Rattle.cga_forest.specs.Walked.{lasting_tree}
use Rattle.cga_forest.proofs.Door.{keeps_laws}
use Rattle.cga_update.proofs.NearMoved.{lists_lasting}
use Rattle.cga_update.proofs.askers.lasting_askers.Goals as goal

pub all_nodes-requires : goal.all_nodes-requires
all_nodes-requires c = record { laws = keeps_laws c.args.forest.now c.laws.ensures }

pub returns : goal.returns
returns c =
    let v = c.args.forest.now in
    let kept = filter_same _ _ _ (λ x b f' k. search rules) _ _ c.retain.ensures.filtered in
    lists_lasting v c.laws.ensures c.retain.new.self.items (kept ∙ ap (filter (lasting_tree v).asks) c.in_ok-nodes.ensures)
