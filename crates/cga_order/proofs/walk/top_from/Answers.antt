use Rattle.std.proofs.Common.{◌≡◌, subst, arith}
use Rattle.cga_word.specs.declared.mode.Mode.TheVariants.{Breadth}
use Rattle.cga_order.specs.Seen.{chain_of}
use Rattle.cga_order.specs.Walk.{IsTop}
use Rattle.cga_order.proofs.Tops.{IsTop-pred, IsWithin-from_IsTop}
use Rattle.cga_order.proofs.walk.top_from.Goals as goal

pub top-top_below-requires : goal.top-top_below-requires
top-top_below-requires c = IsWithin-from_IsTop Breadth (chain_of c.args.chain.now) _ _ (c.loop-depth.invariant.1 Breadth)

pub loop-depth-preserved : goal.loop-depth-preserved
loop-depth-preserved c =
    (omega (arith, c.loop-depth-test.true), λ mode. c.top-top_below.ensures mode c.requires.whole (IsTop-pred _ _ _ _ (omega (arith, c.loop-depth-test.true)) (c.loop-depth.invariant.1 mode)))

pub returns : goal.returns
returns c =
    let here : c.loop-depth.depth ≡ c.args.from = omega (arith, c.loop-depth.invariant.0, c.loop-depth-test.false) in
    λ mode. subst (λ d. IsTop mode (chain_of c.args.chain.now) d c.loop-depth.top_below) here (c.loop-depth.invariant.1 mode)
