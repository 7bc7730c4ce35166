use Rattle.std.proofs.Common.{◌∙◌, ap, sym}
use Rattle.cga_index.specs.Occlusion.{join}
use Rattle.cga_index.specs.Tree.{counts_for}
use Rattle.cga_index.proofs.Levels.{passed_by}
use Rattle.cga_index.proofs.Over.{over_adds, over_hidden, over_one_asked, over_one_other}
use Rattle.cga_index.proofs.walk.look.Goals as goal

pub returns-then-hides-clause-found : goal.returns-then-hides-clause-found
returns-then-hides-clause-found g c =
    passed_by c.args.before _ (over_hidden (g.H.HullTree.view c.args.tree.now) c.args.by c.args.target c.args.node (c.hides.ensures c.if-hides.true))

pub returns-then-not-adds-clause-found : goal.returns-then-not-adds-clause-found
returns-then-not-adds-clause-found g c =
    over_adds (g.H.HullTree.view c.args.tree.now) c.args.by c.args.target c.args.node c.args.before
    (rw (← c.own_answer-found.ensures.found) (c.adds.ensures c.if-not-adds.true))

pub returns-then-counts_for-clause-found : goal.returns-then-counts_for-clause-found
returns-then-counts_for-clause-found g c =
    c.joined.ensures ∙ ap (join c.args.before) (c.own_answer-found.ensures.found
    ∙ sym (over_one_asked (g.H.HullTree.view c.args.tree.now) c.args.by c.args.target c.args.node
    (ap (counts_for c.args.target) (sym c.standing.ensures) ∙ sym c.counts_for.ensures ∙ c.if-counts_for.true)))

pub returns-clause-found : goal.returns-clause-found
returns-clause-found g c =
    passed_by c.args.before _ (over_one_other (g.H.HullTree.view c.args.tree.now) c.args.by c.args.target c.args.node
    (ap (counts_for c.args.target) (sym c.standing.ensures) ∙ sym c.counts_for.ensures ∙ c.if-counts_for.false))
