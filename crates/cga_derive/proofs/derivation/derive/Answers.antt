use Rattle.std.proofs.Common.{◌≡◌, ◌+◌, ◌<◌, ◌≤◌, ℕ, List, suc, length, Some, sym, ap, ◌∙◌, subst, arith}
use Rattle.std.proofs.lemmas.List.{length-map}
use Rattle.cga_derivation.specs.Derivation.{reached}
use Rattle.cga_expand.specs.Children.{Member}
use Rattle.cga_expand.specs.Derivation.{roots_of}
use Rattle.cga_order.specs.declared.stamp_key.StampKey.{StampKey}
use Rattle.cga_shape.specs.declared.sources.Sources.{Sources}
use Rattle.cga_derive.specs.Derives.{expanded_count}
use Rattle.cga_derive.specs.Run.{IsAfter}
use Rattle.cga_derive.specs.Underway.{IsNext, IsUnderway, turned}
use Rattle.cga_derive.proofs.Stepping.{ended, none_by, some_by}
use Rattle.cga_derive.proofs.Working.{over, ended-full, stands, rises_to}
use Rattle.cga_derive.proofs.derivation.derive.Goals as goal

-- at first there are the roots
first_size : (s : Sources) (list : List Member) (entries : List (StampKey × ℕ)) → IsAfter s 0 list entries
    → length list ≡ length (roots_of s.lots)
unfolding reached
first_size s list entries at = ap length at.list_is ∙ length-map (roots_of s.lots) _

pub returns-then-len-most-clause-value : goal.returns-then-len-most-clause-value
returns-then-len-most-clause-value g c =
    let big : c.args.budget < length c.in_ok-run.run'.list.items = omega (arith, c.if-len-most.true, c.len.ensures, c.in_ok-run.run'.list.ok.0) in
    over c.args.sources.now c.requires.names c.args.budget 0 c.in_ok-run.run'.list.items c.in_ok-run.run'.waiting.entries c.in_ok-run.ensures.after (omega arith) big

pub turns-init : goal.turns-init
turns-init g c = record {
  underway = c.in_ok-run.ensures;
  count = omega arith;
  fits = omega (arith, c.if-len-most.false, c.len.ensures, c.in_ok-run.run'.list.ok.0);
}

pub next-requires-clause-underway : goal.next-requires-clause-underway
next-requires-clause-underway g c = (c.turns.done, c.turns.invariant.underway)

pub returns-then-is_none-clause-value : goal.returns-then-is_none-clause-value
returns-then-is_none-clause-value g c =
    let sources = c.args.sources.now in
    let was = c.turns.invariant.underway in
    let none = none_by c.in_ok-next.field-0 c.is_none.result c.is_none.ensures c.if-is_none.true in
    let now = subst (λ s. IsUnderway sources (turned c.turns.done s) c.next.new.self) none (c.in_ok-next.ensures.underway c.turns.done was) in
    let quiet = subst (IsNext sources c.turns.done) none (c.in_ok-next.ensures.step c.turns.done was) in
    let same : length c.next.new.self.list.items ≡ length c.turns.run.list.items = ap length (now.after.list_is ∙ sym was.after.list_is) in
    let fits : length c.next.new.self.list.items ≤ c.args.budget = omega (arith, same, c.turns.invariant.fits) in
    (ended sources c.turns.done c.next.new.self.list.items c.next.new.self.waiting.entries now.after quiet c.args.budget (omega (arith, c.turns-test.true)) fits).0 ∙ ap Some (sym c.into_list.ensures)

pub returns-then-is_none-clause-expansions : goal.returns-then-is_none-clause-expansions
returns-then-is_none-clause-expansions g c =
    let sources = c.args.sources.now in
    let was = c.turns.invariant.underway in
    let none = none_by c.in_ok-next.field-0 c.is_none.result c.is_none.ensures c.if-is_none.true in
    let now = subst (λ s. IsUnderway sources (turned c.turns.done s) c.next.new.self) none (c.in_ok-next.ensures.underway c.turns.done was) in
    let quiet = subst (IsNext sources c.turns.done) none (c.in_ok-next.ensures.step c.turns.done was) in
    let same : length c.next.new.self.list.items ≡ length c.turns.run.list.items = ap length (now.after.list_is ∙ sym was.after.list_is) in
    let fits : length c.next.new.self.list.items ≤ c.args.budget = omega (arith, same, c.turns.invariant.fits) in
    let done = ended sources c.turns.done c.next.new.self.list.items c.next.new.self.waiting.entries now.after quiet c.args.budget (omega (arith, c.turns-test.true)) fits in
    let still = subst (λ s. c.next.new.expansions ≡ turned c.turns.expansions s) none c.in_ok-next.ensures.ticks in
    still ∙ (c.turns.invariant.count ∙ ap (λ n. c.args.expansions.now + n) (sym now.after.count ∙ (done.1 ∙ ap expanded_count (sym c.into_list.ensures))))

pub returns-then-len-most-2-clause-value : goal.returns-then-len-most-2-clause-value
returns-then-len-most-2-clause-value g c =
    let sources = c.args.sources.now in
    let step = some_by c.in_ok-next.field-0 c.is_none.result c.is_none.ensures c.if-is_none.false in
    let now = subst (λ s. IsUnderway sources (turned c.turns.done s) c.next.new.self) step.1 (c.in_ok-next.ensures.underway c.turns.done c.turns.invariant.underway) in
    let big : c.args.budget < length c.next.new.self.list.items = omega (arith, c.if-len-most-2.true, c.len-in-turns.ensures, c.next.new.self.list.ok.0) in
    over sources c.requires.names c.args.budget (suc c.turns.done) c.next.new.self.list.items c.next.new.self.waiting.entries now.after (omega (arith, c.turns-test.true)) big

pub turns-preserved : goal.turns-preserved
turns-preserved g c =
    let sources = c.args.sources.now in
    let step = some_by c.in_ok-next.field-0 c.is_none.result c.is_none.ensures c.if-is_none.false in
    let now = subst (λ s. IsUnderway sources (turned c.turns.done s) c.next.new.self) step.1 (c.in_ok-next.ensures.underway c.turns.done c.turns.invariant.underway) in
    let ticks = subst (λ s. c.next.new.expansions ≡ turned c.turns.expansions s) step.1 c.in_ok-next.ensures.ticks in
    let one : suc c.turns.done ≡ c.turns.done + 1 = omega arith in record {
      underway = subst (λ n. IsUnderway sources n c.next.new.self) one now;
      count = omega (arith, c.turns.invariant.count, ticks);
      fits = omega (arith, c.if-len-most-2.false, c.len-in-turns.ensures, c.next.new.self.list.ok.0);
    }

pub returns-clause-value : goal.returns-clause-value
returns-clause-value g c =
    let same : c.turns.done ≡ c.args.budget = omega (arith, c.turns-test.false, c.turns.auto.done-end) in
    (ended-full c.args.sources.now c.requires.names c.args.budget c.turns.done c.turns.run.list.items c.turns.run.waiting.entries c.turns.invariant.underway.after same c.turns.invariant.fits).0 ∙ ap Some (sym c.into_list-2.ensures)

pub returns-clause-expansions : goal.returns-clause-expansions
returns-clause-expansions g c =
    let same : c.turns.done ≡ c.args.budget = omega (arith, c.turns-test.false, c.turns.auto.done-end) in
    let done = ended-full c.args.sources.now c.requires.names c.args.budget c.turns.done c.turns.run.list.items c.turns.run.waiting.entries c.turns.invariant.underway.after same c.turns.invariant.fits in
    c.turns.invariant.count ∙ ap (λ n. c.args.expansions.now + n) (sym c.turns.invariant.underway.after.count ∙ (done.1 ∙ ap expanded_count (sym c.into_list-2.ensures)))

pub returns-then-is_none-clause-order : goal.returns-then-is_none-clause-order
returns-then-is_none-clause-order g c = stands c.args.sources.now c.requires.names c.args.budget c.into_list.result (returns-then-is_none-clause-value g c)

pub returns-then-is_none-clause-rises : goal.returns-then-is_none-clause-rises
returns-then-is_none-clause-rises g c = rises_to c.args.sources.now c.requires.names c.args.budget c.into_list.result (returns-then-is_none-clause-value g c)

pub returns-clause-order : goal.returns-clause-order
returns-clause-order g c = stands c.args.sources.now c.requires.names c.args.budget c.into_list-2.result (returns-clause-value g c)

pub returns-clause-rises : goal.returns-clause-rises
returns-clause-rises g c = rises_to c.args.sources.now c.requires.names c.args.budget c.into_list-2.result (returns-clause-value g c)

pub returns-in_err-next-clause-counted : goal.returns-in_err-next-clause-counted
returns-in_err-next-clause-counted g c = omega (arith, c.turns.invariant.count, c.in_err-next.ensures.counted)

pub returns-in_err-next-clause-unspent : goal.returns-in_err-next-clause-unspent
returns-in_err-next-clause-unspent g c = λ over.
    let size = first_size c.args.sources.now c.in_ok-run.run'.list.items c.in_ok-run.run'.waiting.entries c.in_ok-run.ensures.after in
    omega (arith, over, size, c.if-len-most.false, c.len.ensures, c.in_ok-run.run'.list.ok.0)

pub returns-then-is_none-clause-unspent : goal.returns-then-is_none-clause-unspent
returns-then-is_none-clause-unspent g c = λ over.
    let size = first_size c.args.sources.now c.in_ok-run.run'.list.items c.in_ok-run.run'.waiting.entries c.in_ok-run.ensures.after in
    omega (arith, over, size, c.if-len-most.false, c.len.ensures, c.in_ok-run.run'.list.ok.0)

pub returns-then-len-most-2-clause-unspent : goal.returns-then-len-most-2-clause-unspent
returns-then-len-most-2-clause-unspent g c = λ over.
    let size = first_size c.args.sources.now c.in_ok-run.run'.list.items c.in_ok-run.run'.waiting.entries c.in_ok-run.ensures.after in
    omega (arith, over, size, c.if-len-most.false, c.len.ensures, c.in_ok-run.run'.list.ok.0)

pub returns-clause-unspent : goal.returns-clause-unspent
returns-clause-unspent g c = λ over.
    let size = first_size c.args.sources.now c.in_ok-run.run'.list.items c.in_ok-run.run'.waiting.entries c.in_ok-run.ensures.after in
    omega (arith, over, size, c.if-len-most.false, c.len.ensures, c.in_ok-run.run'.list.ok.0)
