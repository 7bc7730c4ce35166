use Rattle.std.proofs.Common.{refl}
use Rattle.std.specs.Prelude.{Option}
use Rattle.cga_kept_hulls.specs.declared.hulls.Hulls.{Hulls}
use Rattle.cga_forest.specs.View.{Seen, at, IsRehulled, rehulled, present_of, marked_of, hulls_of, marked_hulls_of}
use Rattle.cga_forest.proofs.Books.{when_present, when_marked, when_hulls, when_marked_hulls}
use Rattle.cga_forest.proofs.Changed.{changed}
use Rattle.cga_forest.proofs.store.set_hulls.Goals as goal

pub returns-clause-present : goal.returns-clause-present
returns-clause-present c = changed present_of (λ (s : Option Seen). s) refl (IsRehulled c.args.marking c.args.hulls) (λ x y h. h.present) c.args.marking (at c.args.store.now c.args.id) _ (when_present c.args.marking (at c.args.store.now c.args.id)) c.change.ensures.here

pub returns-clause-marked : goal.returns-clause-marked
returns-clause-marked c = changed marked_of (λ (s : Option Seen). s) refl (IsRehulled c.args.marking c.args.hulls) (λ x y h. h.marked) c.args.marking (at c.args.store.now c.args.id) _ (when_marked c.args.marking (at c.args.store.now c.args.id)) c.change.ensures.here

pub returns-clause-hulls : goal.returns-clause-hulls
returns-clause-hulls c = changed hulls_of (rehulled c.args.hulls) refl (IsRehulled c.args.marking c.args.hulls) (λ x y h. h.hulls) c.args.marking (at c.args.store.now c.args.id) _ (when_hulls c.args.marking (at c.args.store.now c.args.id)) c.change.ensures.here

pub returns-clause-marked_hulls : goal.returns-clause-marked_hulls
returns-clause-marked_hulls c on = changed marked_hulls_of (λ (s : Option Hulls). s) refl (IsRehulled c.args.marking c.args.hulls) (λ x y h. h.marked_hulls on) c.args.marking (at c.args.store.now c.args.id) _ (when_marked_hulls c.args.marking (at c.args.store.now c.args.id)) c.change.ensures.here
