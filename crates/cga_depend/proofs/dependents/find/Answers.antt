use Rattle.std.proofs.Common.{sym, ap, ◌∙◌, Some}
use Rattle.std.proofs.lemmas.Map.Made.{lookup_key_same}
use lib.Pointwise.{bytes_decides}
use Rattle.cga_depend.proofs.dependents.find.Goals as goal

pub returns-in-Some-clause-found : goal.returns-in-Some-clause-found
returns-in-Some-clause-found c =
    let entries = c.args.nodes.now.entries in
    let nodes = c.in-Some.field-0-2.now in
    let same = lookup_key_same bytes_decides c.args.symbol entries c.in-Some.field-0-1.now (sym c.in-Some.ensures.key) in record {
      nodes = nodes;
      at = c.in-Some.ensures.entry ∙ ap (λ name. Some (name, nodes)) (sym same);
      found = sym c.in-Some.ensures.value;
    }
