use Rattle.std.proofs.Common.{inl, inr}
use Rattle.cga_update.proofs.Lots.{name_cases}
use Rattle.cga_update.proofs.roots.clear_root.Goals as goal

pub returns-clause-loses : goal.returns-clause-loses
returns-clause-loses c = record {
  less = c.in_ok-remove_root.ensures.less;
  wanted = λ k d at up w. elim (name_cases d.node.shape.lot c.args.name) [
    | inl same ↦ absurd (c.in_ok-is_wanted.ensures.unwanted c.if-branch.false k d (at, up, same) w)
    | inr other ↦ c.in_ok-remove_root.ensures.others k d at up other
  ];
}
