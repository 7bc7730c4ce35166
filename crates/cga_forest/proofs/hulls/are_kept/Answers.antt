use Rattle.std.proofs.Common.{◌≡◌, ℕ, Some, true, length, subst, sym, ◌∙◌}
use Rattle.cga_kept_hulls.specs.Hull.{holds_hulls, over}
use Rattle.cga_forest.specs.declared.slot_entry.SlotEntry.{SlotEntry}
use Rattle.cga_forest.specs.Hull.{own_hulls}
use Rattle.cga_forest.specs.View.{at, hulls_of}
use Rattle.cga_forest.proofs.hulls.are_kept.Goals as goal

pub returns-then-holds : goal.returns-then-holds
returns-then-holds c told = (
  c.in-Changed.place,
  c.in-Changed.hulls,
  c.in-Changed.is,
  sym c.holds.ensures ∙ c.if-holds.true,
  λ e is.
      let z : Some c.in-Some.entry.now ≡ Some e = c.in-Some.ensures ∙ is in
      let same : c.in-Some.entry.now ≡ e = (cc) in
      subst (λ (x : SlotEntry). holds_hulls (over (λ (d : ℕ). hulls_of (at c.args.store.now d)) (own_hulls x.node) x.children.items (length x.children.items)) c.args.old.now ≡ true) same (c.some_hold.ensures told),
)
