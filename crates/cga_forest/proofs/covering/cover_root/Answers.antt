use Rattle.std.proofs.Common.{◌∙◌, sym}
use Rattle.cga_forest.specs.View.{at, hulls_of}
use Rattle.cga_forest.proofs.Covered.{covered_none}
use Rattle.cga_forest.proofs.covering.cover_root.Goals as goal

pub returns-in_default-root_place : goal.returns-in_default-root_place
returns-in_default-root_place c = covered_none c.args.blocks.now c.args.roots.now.list (λ k. hulls_of (at c.args.store.now k)) c.args.changed c.requires.others
    (λ p k q there. c.in_default-root_place.not-Some p (c.root_place.ensures p (there ∙ sym q ∙ c.in-Some.is)))

pub returns-in_default : goal.returns-in_default
returns-in_default c = covered_none c.args.blocks.now c.args.roots.now.list (λ k. hulls_of (at c.args.store.now k)) c.args.changed c.requires.others (λ p k q there. c.in_default.not-Some k q)
