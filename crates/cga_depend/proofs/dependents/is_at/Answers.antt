use Rattle.std.proofs.Common.{◌≡◌, sym, ap, ◌∙◌, Some, subst}
use Rattle.std.specs.Map.{lookup}
use lib.Pointwise.{bytes_decides}
use Rattle.cga_check.specs.Uses.{same_name}
use Rattle.cga_depend.proofs.dependents.is_at.Goals as goal

pub returns-in-Some : goal.returns-in-Some
returns-in-Some c = λ yes.
    let nodes = c.in-Some.field-0-1.now in
    let same : c.in-Some.name.now ≡ c.args.symbol = (bytes_decides c.in-Some.name.now c.args.symbol).0 (sym c.eq.ensures ∙ yes) in record {
      nodes = nodes;
      at = sym c.in-Some.ensures.entry ∙ ap (λ name. Some (name, nodes)) same;
      found = subst (λ name. lookup (same_name name) c.args.nodes.now.entries ≡ Some nodes) same c.in-Some.ensures.value;
    }
