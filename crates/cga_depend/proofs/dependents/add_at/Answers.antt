use Rattle.std.proofs.Common.{ap, ◌∙◌}
use Rattle.indexmap.specs.IndexMap.{set_value_at}
use Rattle.std.proofs.lemmas.Result.{on_err_weaker, on_ok_weaker}
use Rattle.cga_depend.specs.Pairs.{with_node}
use Rattle.cga_depend.proofs.Written.{one_more, read, unwritten}
use Rattle.cga_depend.proofs.dependents.add_at.Goals as goal

pub returns-clause-nodes : goal.returns-clause-nodes
returns-clause-nodes c =
    let known = read c.args.nodes.now.entries c.args.place c.args.symbol c.requires.at c.in-Some.known.now c.in-Some.ensures.value in
    on_ok_weaker c.add.result (λ is. one_more c.args.nodes.now c.args.place c.args.symbol c.add.new.self c.get_index_mut.ensures.unique c.requires.at c.args.node (is ∙ ap (λ ns. with_node ns c.args.node) known)) c.add.ensures.ok

pub returns-clause-err : goal.returns-clause-err
returns-clause-err c =
    let known = read c.args.nodes.now.entries c.args.place c.args.symbol c.requires.at c.in-Some.known.now c.in-Some.ensures.value in
    on_err_weaker c.add.result (λ same. ap (set_value_at c.args.nodes.now.entries c.args.place) (same ∙ known) ∙ unwritten c.args.nodes.now.entries c.args.place c.args.symbol c.requires.at) c.add.ensures.err
