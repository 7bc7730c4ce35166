use Rattle.std.proofs.Common.{rules, ◌≡◌, ℕ, ◌-◌, ◌≤◌, ◌||◌, length, arith, ap, sym, ◌∙◌, refl, nat_eq}
use Rattle.std.specs.Prelude.{slice_get}
use Rattle.cga_forest.specs.View.{at, kids, flag_if}
use Rattle.cga_forest.proofs.Under.{kids_flag, flags_next, flags_none, under_step, under_zero, any_take_all}
use Rattle.cga_forest.proofs.slots.+set_aside.Goals as goal
use Rattle.cga_forest.proofs.slots.+set_aside.Goals.{in-Some, in_default}

pub loop-place-preserved : goal.loop-place-preserved
loop-place-preserved t c =
    let old = λ (d : ℕ). at c.args.store.now d in
    let h = c.loop-place.invariant.so_far in
    let reads : slice_get (kids (at c.loop-place.store c.args.id)) c.loop-place.place ≡ slice_get (kids (old c.args.id)) c.loop-place.place =
    ap (λ xs. slice_get xs c.loop-place.place) (ap kids (h c.args.id) ∙ kids_flag _ (old c.args.id)) in record {
      counted = search rules;
      so_far = elim c.match-child_at.branch [
        | in-Some w ↦ λ d. rw w.store-is (flags_next (λ e. kids (old e)) old (λ e. at c.loop-place.store e) (λ e. at w.set_aside.new.store e) (c.args.left - 1) c.args.id c.loop-place.place w.in-Some.child
            (sym (w.in-Some.ensures ∙ reads)) (λ e. refl) h w.set_aside.ensures.pointwise d)
        | in_default w ↦ λ d. rw w.store-is (flags_none (λ e. kids (old e)) old (λ e. at c.loop-place.store e) (c.args.left - 1) c.args.id c.loop-place.place (sym (w.in_default.ensures ∙ reads)) h d)
      ];
      room = elim c.match-child_at.branch [
        | in-Some w ↦ λ more r. rw w.store-is (w.set_aside.ensures.room more (c.loop-place.invariant.room more r))
        | in_default w ↦ λ more r. rw w.store-is (c.loop-place.invariant.room more r)
      ];
    }

pub returns-after-loop-place : goal.returns-after-loop-place
returns-after-loop-place t c = record {
  pointwise = λ d.
      let done : length (kids (at c.args.store.now c.args.id)) ≤ c.loop-place.place = omega (arith, c.loop-place.invariant.counted) in
      c.loop-place.invariant.so_far d ∙ ap (λ b. flag_if b (at c.args.store.now d)) (ap (λ b. nat_eq c.args.id d || b) (any_take_all _ _ _ done) ∙ sym (under_step (λ e. kids (at c.args.store.now e)) c.args.left c.args.id d c.if-left-gt0.true));
  room = c.loop-place.invariant.room;
}

pub returns-else-left-gt0 : goal.returns-else-left-gt0
returns-else-left-gt0 t c = record {
  pointwise = λ d. let e = under_zero (λ e. kids (at c.args.store.now e)) c.args.left c.args.id d c.if-left-gt0.false in rw e refl;
  room = λ more r. r;
}
