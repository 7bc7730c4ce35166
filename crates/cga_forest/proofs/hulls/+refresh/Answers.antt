use Rattle.std.proofs.Common.{◌≡◌, ℕ, true, length, sym, subst, arith, ◌∙◌}
use Rattle.std.specs.Prelude.{Option}
use Rattle.cga_forest.specs.declared.slot_entry.SlotEntry.{SlotEntry}
use Rattle.cga_forest.specs.HullsDue.{grown_of}
use Rattle.cga_kept_hulls.specs.declared.hulls.Hulls.{Hulls}
use Rattle.cga_kept_hulls.specs.Hull.{holds_hulls, over}
use Rattle.cga_forest.specs.Hull.{own_hulls}
use Rattle.cga_forest.specs.View.{Seen, at, hulls_of, present_of, marked_of, marked_hulls_of}
use Rattle.cga_forest.proofs.Known.{same_but}
use Rattle.cga_forest.proofs.Present.{present_some}
use Rattle.cga_forest.proofs.Right.{is_there, tree_now, step_up, step_top, step_due, step_kept, step_within, grown_above, parent_there, climbs, right_still}
use Rattle.cga_forest.proofs.hulls.+refresh.Goals as goal
use Rattle.cga_forest.proofs.Heads.{written_above, written_here}
use Rattle.cga_forest.proofs.Numbers.{rehulled_there, there_but}

pub refresh-requires : goal.refresh-requires
refresh-requires t c =
    let e = is_there _ c.requires.here in
    let up = sym c.in-Some-parent_at.ensures in
    let lower = climbs (λ k. at c.args.store.now k) c.args.id (grown_of c.args.due) c.in-Some.old c.in-Some-next_hulls.new e.0 e.1 c.in-Some.ensures c.in-Some-next_hulls.ensures c.requires.tree c.requires.right c.requires.due (λ k. at c.set_hulls.new.store k) c.set_hulls.ensures.others c.set_hulls.ensures.present c.set_hulls.ensures.hulls c.in-Some-parent_at.parent up in (
      omega arith,
      (
        tree_now (λ k. at c.args.store.now k) c.args.id (grown_of c.args.due) c.in-Some.old c.in-Some-next_hulls.new e.0 e.1
            c.in-Some.ensures c.in-Some-next_hulls.ensures c.requires.tree c.requires.right c.requires.due
            (λ k. at c.set_hulls.new.store k) c.set_hulls.ensures.others c.set_hulls.ensures.present c.set_hulls.ensures.hulls,
        (
          parent_there (λ k. at c.args.store.now k) c.args.id (grown_of c.args.due) c.in-Some.old c.in-Some-next_hulls.new e.0 e.1
              c.in-Some.ensures c.in-Some-next_hulls.ensures c.requires.tree c.requires.right c.requires.due
              (λ k. at c.set_hulls.new.store k) c.set_hulls.ensures.others c.set_hulls.ensures.present c.set_hulls.ensures.hulls c.in-Some-parent_at.parent up,
          (
            step_up (λ k. at c.args.store.now k) c.args.id (grown_of c.args.due) c.in-Some.old c.in-Some-next_hulls.new e.0 e.1
                c.in-Some.ensures c.in-Some-next_hulls.ensures c.requires.tree c.requires.right c.requires.due
                (λ k. at c.set_hulls.new.store k) c.set_hulls.ensures.others c.set_hulls.ensures.present c.set_hulls.ensures.hulls c.in-Some-parent_at.parent up,
            (
              step_due (λ k. at c.args.store.now k) c.args.id (grown_of c.args.due) c.in-Some.old c.in-Some-next_hulls.new e.0 e.1
                  c.in-Some.ensures c.in-Some-next_hulls.ensures c.requires.tree c.requires.right c.requires.due
                  (λ k. at c.set_hulls.new.store k) c.set_hulls.ensures.others c.set_hulls.ensures.present c.set_hulls.ensures.hulls c.in-Some-parent_at.parent up (grown_of c.above-above.result) (grown_above _ _ _ _ c.above-above.ensures),
              (
                step_within (λ k. at c.args.store.now k) c.args.id (grown_of c.args.due) c.in-Some.old c.in-Some-next_hulls.new e.0 e.1
                    c.in-Some.ensures c.in-Some-next_hulls.ensures c.requires.tree c.requires.right c.requires.due
                    (λ k. at c.set_hulls.new.store k) c.set_hulls.ensures.others c.set_hulls.ensures.present c.set_hulls.ensures.hulls c.in-Some-parent_at.parent up c.place_at.result c.above-above.result c.above-above.ensures,
                omega arith,
              ),
            ),
          ),
        ),
      ),
    )

pub returns-then-not-is_like-clause-right : goal.returns-then-not-is_like-clause-right
returns-then-not-is_like-clause-right t c =
    let e = is_there _ c.requires.here in
    step_top (λ k. at c.args.store.now k) c.args.id (grown_of c.args.due) c.in-Some.old c.in-Some-next_hulls.new e.0 e.1 c.in-Some.ensures c.in-Some-next_hulls.ensures c.requires.tree c.requires.right c.requires.due (λ k. at c.set_hulls.new.store k) c.set_hulls.ensures.others c.set_hulls.ensures.present c.set_hulls.ensures.hulls (sym c.in_default-parent_at.ensures)

pub returns-else-not-is_like-clause-right : goal.returns-else-not-is_like-clause-right
returns-else-not-is_like-clause-right t c =
    let e = is_there _ c.requires.here in
    step_kept (λ k. at c.args.store.now k) c.args.id (grown_of c.args.due) c.in-Some.old c.in-Some-next_hulls.new e.0 e.1
    c.in-Some.ensures c.in-Some-next_hulls.ensures c.requires.tree c.requires.right c.requires.due (sym c.is_like.ensures ∙ (let w = c.if-not-is_like in (cc)))

pub returns-in-Some-parent_at-clause-present : goal.returns-in-Some-parent_at-clause-present
returns-in-Some-parent_at-clause-present t c k =
    c.refresh.ensures.present k ∙ same_but (λ (s : Option SlotEntry). present_of s) (λ n. at c.args.store.now n) (λ n. at c.set_hulls.new.store n) c.args.id c.set_hulls.ensures.others c.set_hulls.ensures.present k

pub returns-in-Some-parent_at-clause-marked : goal.returns-in-Some-parent_at-clause-marked
returns-in-Some-parent_at-clause-marked t c k =
    c.refresh.ensures.marked k ∙ same_but (λ (s : Option SlotEntry). marked_of s) (λ n. at c.args.store.now n) (λ n. at c.set_hulls.new.store n) c.args.id c.set_hulls.ensures.others c.set_hulls.ensures.marked k

pub returns-in-Some-parent_at-clause-marked_hulls : goal.returns-in-Some-parent_at-clause-marked_hulls
returns-in-Some-parent_at-clause-marked_hulls t c on k =
    c.refresh.ensures.marked_hulls on k ∙ same_but (λ (s : Option SlotEntry). marked_hulls_of s) (λ n. at c.args.store.now n) (λ n. at c.set_hulls.new.store n) c.args.id c.set_hulls.ensures.others (c.set_hulls.ensures.marked_hulls on) k

pub returns-in-Some-parent_at-clause-taken : goal.returns-in-Some-parent_at-clause-taken
returns-in-Some-parent_at-clause-taken t c k =
    c.refresh.ensures.taken k ∙ there_but (λ n. at c.args.store.now n) (λ n. at c.set_hulls.new.store n) c.args.id c.set_hulls.ensures.others (rehulled_there (at c.args.store.now c.args.id) (at c.set_hulls.new.store c.args.id) _ c.set_hulls.ensures.hulls) k

pub returns-then-not-is_like-clause-taken : goal.returns-then-not-is_like-clause-taken
returns-then-not-is_like-clause-taken t c k =
    there_but (λ n. at c.args.store.now n) (λ n. at c.set_hulls.new.store n) c.args.id c.set_hulls.ensures.others (rehulled_there (at c.args.store.now c.args.id) (at c.set_hulls.new.store c.args.id) _ c.set_hulls.ensures.hulls) k

pub returns-in-Some-parent_at-clause-others : goal.returns-in-Some-parent_at-clause-others
returns-in-Some-parent_at-clause-others t c =
    let e = is_there _ c.requires.here in
    written_above (λ n. at c.args.store.now n) (λ n. at c.set_hulls.new.store n) c.args.id c.set_hulls.ensures.others (λ n. at c.refresh.new.store n) c.in-Some-parent_at.parent e.0 c.refresh.result e.1 c.set_hulls.ensures.present (sym c.in-Some-parent_at.ensures) c.refresh.ensures.others

pub returns-then-not-is_like-clause-others : goal.returns-then-not-is_like-clause-others
returns-then-not-is_like-clause-others t c k top n = written_here (λ i. at c.args.store.now i) (λ i. at c.set_hulls.new.store i) c.args.id c.set_hulls.ensures.others k n

pub returns-then-are_kept-clause-right : goal.returns-then-are_kept-clause-right
returns-then-are_kept-clause-right t c =
    let H : ℕ → Option Hulls = λ k. hulls_of (at c.args.store.now k) in
    let e = is_there _ c.requires.here in
    let x = present_some (at c.args.store.now c.args.id) e.0 e.1 in
    let kept = c.are_kept.ensures c.if-are_kept.true in
    right_still (λ k. present_of (at c.args.store.now k)) H c.args.id e.0 c.in-Some.old e.1 (sym c.in-Some.ensures)
    (c.requires.within e.0 c.in-Some.old kept.1 kept.0 e.1 (sym c.in-Some.ensures) kept.2 kept.3)
    (subst (λ (s : Seen). holds_hulls (over H (own_hulls s.node) s.children (length s.children)) c.in-Some.old ≡ true) x.2 (kept.4 x.0 x.1))
    c.requires.right

pub returns-then-are_own-clause-right : goal.returns-then-are_own-clause-right
returns-then-are_own-clause-right t c =
    let H : ℕ → Option Hulls = λ k. hulls_of (at c.args.store.now k) in
    let e = is_there _ c.requires.here in
    let x = present_some (at c.args.store.now c.args.id) e.0 e.1 in
    let own = c.are_own.ensures c.if-are_own.true x.0 x.1 in
    let all = λ (s : Seen). over H (own_hulls s.node) s.children (length s.children) in
    let holds = subst (λ (s : Seen). (holds_hulls c.in-Some.old (all s) ≡ true) × (holds_hulls (all s) c.in-Some.old ≡ true)) x.2 own in
    right_still (λ k. present_of (at c.args.store.now k)) H c.args.id e.0 c.in-Some.old e.1 (sym c.in-Some.ensures) holds.0 holds.1 c.requires.right
