use Rattle.std.proofs.Common.{◌≡◌, ◌∙◌, Some, None, subst, sym}
use Rattle.cga_kept_hulls.specs.declared.hulls.Hulls.{Hulls}
use Rattle.cga_kept_hulls.specs.Blocks.{IsIn}
use Rattle.cga_kept_hulls.proofs.Held.{held_by}
use Rattle.cga_kept_hulls.proofs.blocks.Blocks.gather_block.Goals as goal

pub returns-in-Some-clause-here : goal.returns-in-Some-clause-here
returns-in-Some-clause-here c h there holds =
    held_by c.args.self.now.blocks.hulls.items c.args.block h _ there holds
    (λ k is.
    let z : Some c.in-Some.hulls ≡ Some k = sym c.in-Some.is ∙ c.hulls.ensures ∙ is in
    let q : c.in-Some.hulls ≡ k = (cc) in
    subst (λ (x : Hulls). IsIn c.join.new.self.hulls.items c.args.block x) q c.join.ensures.here)

pub returns-in_default-clause-here : goal.returns-in_default-clause-here
returns-in_default-clause-here c h there holds =
    held_by c.args.self.now.blocks.hulls.items c.args.block h _ there holds
    (λ k is. let z : None ≡ Some k = sym c.in_default.is ∙ c.hulls.ensures ∙ is in absurd (cc))
