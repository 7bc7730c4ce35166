use Rattle.std.proofs.Common.{◌≡◌, ◌∙◌, Some, sym, ap, length, ℕ}
use Rattle.std.specs.Cmp.{first_so}
use Rattle.std.specs.Prelude.{Option, slice_get}
use Rattle.cga_kept_hulls.specs.declared.hulls.Hulls.{Hulls}
use Rattle.cga_kept_hulls.specs.Hull.{holds_hulls, over}
use Rattle.cga_kept_hulls.proofs.Door.{alike_itself, all_held, part_own}
use Rattle.cga_forest.specs.declared.slot_entry.SlotEntry.{SlotEntry}
use Rattle.cga_forest.specs.Hull.{hulls_known, own_hulls}
use Rattle.cga_forest.specs.View.{at, hulls_of}
use Rattle.cga_forest.proofs.hulls.are_own.Goals as goal

pub returns-then-has_own_hulls : goal.returns-then-has_own_hulls
returns-then-has_own_hulls c told e is =
    let H : ℕ → Option Hulls = λ k. hulls_of (at c.args.store.now k) in
    let x = c.in-All-Some.entry.now in
    let z : Some x ≡ Some e = c.in-All-Some.ensures ∙ is in
    let same : x ≡ e = (cc) in
    let own : hulls_known x.node x.hulls ≡ own_hulls x.node = c.has_own_hulls.ensures c.if-has_own_hulls.true in
    let w : Some c.args.old.now ≡ Some (hulls_known e.node e.hulls) = sym c.requires ∙ ap hulls_of is in
    let old : c.args.old.now ≡ own_hulls e.node = (cc) in
    let xs = e.children.items in
    let mine = ap (λ o. holds_hulls o (own_hulls e.node)) old ∙ first_so _ _ (alike_itself (own_hulls e.node)) in
    let children = c.as_slice.ensures.value ∙ ap (λ (y : SlotEntry). y.children.items) same in
    let each = λ (i k : ℕ) (h : Hulls) (here : slice_get xs i ≡ Some k) (t : H k ≡ Some h).
    c.hold_each.ensures told i k h (ap (λ ys. slice_get ys i) children ∙ here) t in (
      all_held H (own_hulls e.node) c.args.old.now xs mine each,
      ap (holds_hulls (over H (own_hulls e.node) xs (length xs))) old ∙ part_own H (own_hulls e.node) xs,
    )
