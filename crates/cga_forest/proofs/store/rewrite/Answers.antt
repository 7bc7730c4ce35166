use Rattle.std.proofs.Common.{◌≡◌, ◌∙◌, true, refl, sym}
use Rattle.std.specs.Prelude.{Option, Some, is_some}
use Rattle.cga_kept_hulls.specs.declared.hulls.Hulls.{Hulls}
use Rattle.cga_marked.specs.Slab.{touch_when}
use Rattle.cga_forest.specs.declared.slot_entry.SlotEntry.{SlotEntry}
use Rattle.cga_forest.specs.View.{Seen, at, IsRewritten, keeps_former, rewritten, touched_entry, present_of, marked_of, hulls_of, marked_hulls_of}
use Rattle.cga_forest.proofs.Books.{when_present, when_keeps, when_marked, when_hulls, when_marked_hulls}
use Rattle.cga_forest.proofs.Changed.{changed, related_with}
use Rattle.cga_forest.proofs.store.rewrite.Goals as goal

pub returns-clause-present : goal.returns-clause-present
returns-clause-present c = changed present_of (rewritten c.args.state c.args.children.items) refl (IsRewritten c.args.marking (is_some c.args.spare) c.args.state c.args.children.items) (λ x y h. h.present) c.args.marking (at c.args.store.now c.args.id) _ (when_present c.args.marking (at c.args.store.now c.args.id)) c.change.ensures.here

pub returns-clause-marked : goal.returns-clause-marked
returns-clause-marked c on boxed =
    let m = c.args.marking in
    let slot = at c.args.store.now c.args.id in
    let R = IsRewritten m (is_some c.args.spare) c.args.state c.args.children.items in
    let P = λ (o : Option SlotEntry). keeps_former m o ≡ true → is_some c.args.spare ≡ true in
    changed marked_of (λ (s : Option Seen). s) refl (λ x y. R x y × P (Some x)) (λ x y h. h.0.marked on h.1) m slot _ (when_marked m slot)
    (related_with P R (touch_when touched_entry m slot) _ (λ k. boxed (sym (when_keeps m m slot) ∙ k)) c.change.ensures.here)

pub returns-clause-hulls : goal.returns-clause-hulls
returns-clause-hulls c = changed hulls_of (λ (s : Option Hulls). s) refl (IsRewritten c.args.marking (is_some c.args.spare) c.args.state c.args.children.items) (λ x y h. h.hulls) c.args.marking (at c.args.store.now c.args.id) _ (when_hulls c.args.marking (at c.args.store.now c.args.id)) c.change.ensures.here

pub returns-clause-marked_hulls : goal.returns-clause-marked_hulls
returns-clause-marked_hulls c = changed marked_hulls_of (λ (s : Option Hulls). s) refl (IsRewritten c.args.marking (is_some c.args.spare) c.args.state c.args.children.items) (λ x y h. h.marked_hulls) c.args.marking (at c.args.store.now c.args.id) _ (when_marked_hulls c.args.marking (at c.args.store.now c.args.id)) c.change.ensures.here
