use Rattle.std.proofs.Common.{subst}
use Rattle.cga_order.specs.Seen.{chain_of}
use Rattle.cga_order.specs.Walk.{IsTop}
use Rattle.cga_order.proofs.Tops.{IsTop-under, IsTop-over}
use Rattle.cga_order.proofs.walk.top.Goals as goal

pub returns-in-Some : goal.returns-in-Some
returns-in-Some c mode whole h = IsTop-under mode (chain_of c.args.chain.now) c.args.depth c.in-Some.top whole c.if-chain-depth.false c.if-chain-depth-2.true (subst (IsTop mode (chain_of c.args.chain.now) _) c.in-Some.is h)

pub returns-in_default : goal.returns-in_default
returns-in_default c mode whole h = IsTop-over mode (chain_of c.args.chain.now) c.args.depth c.in-Some.top c.if-chain-depth.false c.if-chain-depth-2.false (subst (IsTop mode (chain_of c.args.chain.now) _) c.in-Some.is h)
