use Rattle.std.proofs.Common.{◌∙◌, Some, ap, sym}
use Rattle.cga_order.specs.Seen.{chain_of}
use Rattle.cga_order.proofs.Order.{rank_exact}
use Rattle.cga_order.proofs.Tops.{IsTop-from_IsHead, order_from-decided}
use Rattle.cga_order.proofs.walk.cmp_stamp.Goals as goal

pub returns-in_default : goal.returns-in_default
returns-in_default c =
    let a = c.args.a.now in
    let b = c.args.b.now in
    let left = IsTop-from_IsHead c.args.mode (chain_of a) a.head c.requires.left a.headed in
    let right = IsTop-from_IsHead c.args.mode (chain_of b) b.head c.requires.right b.headed in
    c.cmp_heads.ensures
    ∙ order_from-decided c.args.mode (chain_of a) (chain_of b) (Some a.head) (Some b.head) c.requires.left c.requires.right left right (λ e. c.in_default.not-Equal (c.cmp_heads.ensures ∙ e))

pub cmp_whole-requires-clause-lots : goal.cmp_whole-requires-clause-lots
cmp_whole-requires-clause-lots c = ap (λ r. r.lot) (rank_exact c.args.mode _ _ (sym c.cmp_heads.ensures ∙ c.in-Equal.is))
