use Rattle.std.proofs.Common.{sym, ap, ◌∙◌}
use Rattle.std.proofs.lemmas.Cmp.{tied_itself}
use Rattle.cga_word.specs.declared.mode.Mode.TheVariants.{Breadth}
use Rattle.cga_order.specs.Seen.{chain_of}
use Rattle.cga_order.specs.Stamp.{stamp_cmp}
use Rattle.cga_order.specs.Total.{stamp_total}
use Rattle.cga_order.proofs.Shared.{shared-decided}
use Rattle.cga_order.proofs.Tops.{IsWithin-from_IsTop}
use Rattle.cga_order.proofs.walk.cmp_whole.Goals as goal

pub returns-then-is_alike : goal.returns-then-is_alike
returns-then-is_alike c =
    let a = chain_of c.args.a.now in
    sym (ap (stamp_cmp c.args.mode a) (sym (c.is_alike.ensures c.if-is_alike.true)) ∙ tied_itself (stamp_total c.args.mode) a)

pub cmp_tops-requires-clause-left : goal.cmp_tops-requires-clause-left
cmp_tops-requires-clause-left c = IsWithin-from_IsTop Breadth (chain_of c.args.a.now) _ _ (c.top_from.ensures Breadth)

pub cmp_tops-requires-clause-right : goal.cmp_tops-requires-clause-right
cmp_tops-requires-clause-right c = IsWithin-from_IsTop Breadth (chain_of c.args.b.now) _ _ (c.top_from-2.ensures Breadth)

pub returns-in_default : goal.returns-in_default
returns-in_default c =
    c.cmp_tops.ensures
    ∙ shared-decided c.args.mode (chain_of c.args.a.now) (chain_of c.args.b.now) c.shared_ranks-shared.result _ _ c.requires.left c.requires.right c.shared_ranks-shared.ensures (c.top_from.ensures c.args.mode) (c.top_from-2.ensures c.args.mode) (λ e. c.in_default.not-Equal (c.cmp_tops.ensures ∙ e))
