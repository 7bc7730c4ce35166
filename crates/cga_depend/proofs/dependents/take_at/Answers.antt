use Rattle.std.proofs.Common.{◌∷◌, sym, ap, ◌∙◌, nat_eq, subst}
use Rattle.std.specs.Prelude.{if◌then◌else◌}
use Rattle.std.specs.List.{list_any}
use Rattle.std.specs.List.Sorted.{IsPermutation}
use Rattle.indexmap.specs.IndexMap.{set_value_at}
use Rattle.cga_depend.specs.Pairs.{under}
use Rattle.cga_depend.proofs.Written.{read, unwritten, written, written_here}
use Rattle.cga_depend.proofs.dependents.take_at.Goals as goal

pub returns-clause-found : goal.returns-clause-found
returns-clause-found c =
    let known = read c.args.nodes.now.entries c.args.place c.args.symbol c.requires.at c.in-Some.known.now c.in-Some.ensures.value in
    c.remove.ensures.found ∙ ap (list_any (nat_eq c.args.node)) known

pub returns-clause-gone : goal.returns-clause-gone
returns-clause-gone c = λ yes.
    let entries = c.args.nodes.now.entries in
    let rest = c.remove.new.self in
    let known = read entries c.args.place c.args.symbol c.requires.at c.in-Some.known.now c.in-Some.ensures.value in
    let here = written_here c.args.nodes.now c.args.place c.args.symbol rest c.get_index_mut.ensures.unique c.requires.at in
    subst (λ ys. IsPermutation (under entries c.args.symbol) (c.args.node ∷ ys)) (sym here)
    (subst (λ xs. IsPermutation xs (c.args.node ∷ rest)) known (c.remove.ensures.gone yes))

pub returns-clause-others : goal.returns-clause-others
returns-clause-others c = λ s no.
    written c.args.nodes.now c.args.place c.args.symbol c.remove.new.self c.get_index_mut.ensures.unique c.requires.at s
    ∙ ap (λ b. if b then c.remove.new.self else under c.args.nodes.now.entries s) no

pub returns-clause-same : goal.returns-clause-same
returns-clause-same c = λ no.
    let known = read c.args.nodes.now.entries c.args.place c.args.symbol c.requires.at c.in-Some.known.now c.in-Some.ensures.value in
    ap (set_value_at c.args.nodes.now.entries c.args.place) (c.remove.ensures.same no ∙ known) ∙ unwritten c.args.nodes.now.entries c.args.place c.args.symbol c.requires.at
