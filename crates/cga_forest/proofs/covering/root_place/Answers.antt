use Rattle.std.proofs.Common.{sym, ap, ℕ}
use Rattle.std.specs.Prelude.{Some}
use Rattle.cga_forest.specs.View.{at}
use Rattle.cga_forest.proofs.Covered.{place_is, place_there, root_at}
use Rattle.cga_forest.proofs.covering.root_place.Goals as goal

pub returns-in_err-entry : goal.returns-in_err-entry
returns-in_err-entry c p there = absurd ((root_at (λ k. at c.args.store.now k) c.args.roots.now.list c.requires.tops c.args.root p there).3 (sym c.in_err-entry.ensures))

pub returns-in_err-place : goal.returns-in_err-place
returns-in_err-place c p there = absurd (place_there (λ k. at c.args.store.now k) c.args.roots.now.list c.requires.tops c.args.root p c.in_ok-entry.entry.now c.lot.result (sym c.in_ok-entry.ensures) c.lot.ensures c.in_err-place.ensures.id there)

pub returns : goal.returns
returns c p there = ap (λ (k : ℕ). Some k) (place_is (λ k. at c.args.store.now k) c.args.roots.now.list c.requires.tops c.args.root c.in_ok-place.place c.in_ok-place.field-0-1 p c.in_ok-entry.entry.now c.lot.result (sym c.in_ok-entry.ensures) c.lot.ensures c.in_ok-place.ensures.place there)
