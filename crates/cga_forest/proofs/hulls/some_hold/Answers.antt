use Rattle.std.proofs.Common.{◌≡◌, ℕ, List, length, true, sym, ap, ◌∙◌}
use Rattle.std.specs.Prelude.{Option}
use Rattle.cga_kept_hulls.specs.declared.hulls.Hulls.{Hulls}
use Rattle.cga_kept_hulls.specs.Hull.{holds_hulls, over}
use Rattle.cga_kept_hulls.proofs.Door.{held_through, part_own, part_with}
use Rattle.cga_forest.specs.Hull.{own_hulls}
use Rattle.cga_forest.specs.View.{at, hulls_of}
use Rattle.cga_forest.proofs.hulls.some_hold.Goals as goal

pub returns : goal.returns
returns c told =
    let H : ℕ → Option Hulls = λ d. hulls_of (at c.args.store.now d) in
    let own : Hulls = own_hulls c.args.entry.now.node in
    let xs : List ℕ = c.args.entry.now.children.items in
    let whole : Hulls = over H own xs (length xs) in
    let same = c.as_slice-children.ensures.value in
    let none : holds_hulls whole c.own_hulls-hulls.result ≡ true = ap (holds_hulls whole) c.own_hulls-hulls.ensures ∙ part_own H own xs in
    let one = part_with H own xs _ same _ _ _ c.join_at.ensures none in
    let two = part_with H own xs _ same _ _ _ c.join_at-2.ensures one in
    let three = part_with H own xs _ same _ _ _ c.join_at-3.ensures two in
    let four = part_with H own xs _ same _ _ _ c.join_at-4.ensures three in
    held_through whole _ c.args.old.now four (sym c.holds.ensures ∙ told)
