use Rattle.std.proofs.Common.{sym, ap, ◌∙◌}
use Rattle.std.specs.Ordering.{is_eq}
use Rattle.std.proofs.lemmas.Cmp.{tied_itself}
use Rattle.cga_order.specs.Seen.{chain_of}
use Rattle.cga_order.specs.Stamp.{stamp_cmp}
use Rattle.cga_order.specs.Total.{stamp_total}
use Rattle.cga_order.proofs.walk.have_one_stamp.Goals as goal

pub returns-then-is_alike : goal.returns-then-is_alike
returns-then-is_alike c =
    let a = chain_of c.args.a.now in
    let alike = c.is_alike.ensures c.if-is_alike.true in
    c.if-is_alike.true
    ∙ sym (ap is_eq (sym (ap (stamp_cmp c.args.mode a) alike) ∙ tied_itself (stamp_total c.args.mode) a))
