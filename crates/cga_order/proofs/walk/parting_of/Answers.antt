use Rattle.std.proofs.Common.{sym, ap, ◌∙◌}
use Rattle.std.specs.Ordering.{nat_cmp}
use Rattle.std.specs.Cmp.Lexicographic.{slice_cmp}
use Rattle.std.proofs.lemmas.Cmp.{tied_itself, nat_list_cmp_total}
use Rattle.cga_order.proofs.walk.parting_of.Goals as goal

pub returns : goal.returns
returns c = record {
  lots = sym (ap (λ l. slice_cmp nat_cmp l c.args.b.now.lot) c.requires.lots ∙ tied_itself nat_list_cmp_total c.args.b.now.lot);
  common = c.common_length.ensures;
}
