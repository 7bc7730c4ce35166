use Rattle.std.proofs.Common.{◌≡◌, ◌+◌, suc, List, ◌∷◌, [], ◌++◌, take, true, false, refl, Some, sym, ap, ◌∙◌, subst, arith}
use Rattle.std.specs.Prelude.{slice_get}
use Rattle.cga_derivation.specs.Derivation.{reached}
use Rattle.cga_fraction.proofs.Door.{same_Some as some_same}
use Rattle.cga_shape.specs.declared.trace_step.TraceStep.{TraceStep}
use Rattle.cga_expand.specs.Derivation.{derivation_of}
use Rattle.cga_expand.specs.Run.{traced, run_to, IsRun}
use Rattle.cga_derive.specs.Underway.{IsNext, IsUnderway, turned}
use Rattle.cga_judge.specs.declared.limits.TheConstants.{MOST_SHAPES}
use Rattle.cga_judge.specs.Judged.{DifferFirstAt}
use Rattle.cga_judge.proofs.Runs.{ends_by, get-end, get-there, later, next-there, run-begins, run-ended, run-goes, run-step, some_apart, some_of, take-end, take-more}
use Rattle.cga_judge.proofs.judging.judge.Goals as goal

pub loop-given-init : goal.loop-given-init
loop-given-init g c = record {
  place = omega arith;
  most = omega arith;
  within = omega arith;
  along = run-begins c.args.sources.now c.args.steps.now;
  underway = c.in_ok-run.ensures;
  count = omega arith;
}

pub next-requires-clause-underway : goal.next-requires-clause-underway
next-requires-clause-underway g c = (c.loop-given.given-index, c.loop-given.invariant.underway)

pub returns-in_default-clause-value : goal.returns-in_default-clause-value
returns-in_default-clause-value g c =
    let sources = c.args.sources.now in
    let steps = c.args.steps.now in
    let i = c.loop-given.given-index in
    let inv = c.loop-given.invariant in
    let quiet = subst (IsNext sources i) c.in_default.is (c.in_ok-next.ensures.step i inv.underway) in
    let at : suc i ≡ c.loop-given.place = omega (arith, inv.place) in
    subst (λ k. (run : List TraceStep) × IsRun sources run × DifferFirstAt run steps k) at (run-ended sources steps i inv.along inv.within quiet c.loop-given-test.true)

pub returns-then-not-is_same-clause-value : goal.returns-then-not-is_same-clause-value
returns-then-not-is_same-clause-value g c =
    let sources = c.args.sources.now in
    let steps = c.args.steps.now in
    let i = c.loop-given.given-index in
    let inv = c.loop-given.invariant in
    let told = subst (IsNext sources i) c.in-Some.is (c.in_ok-next.ensures.step i inv.underway) in
    let end = some_of _ c.requires.within in
    let last = ends_by sources c.requires.names MOST_SHAPES end.0 end.1 in
    let here = get-there steps i c.given-item.result c.loop-given-test.true c.given-item.is in
    let at : suc i ≡ c.loop-given.place = omega (arith, inv.place) in
    subst (λ k. (run : List TraceStep) × IsRun sources run × DifferFirstAt run steps k) at
    (run-goes sources steps i inv.along inv.within last.0 last.2 c.in-Some.step told
    (λ same. let wrong : false ≡ true = sym c.if-not-is_same.true ∙ c.is_same.ensures.1 (some_same c.given-item.result c.in-Some.step (sym here ∙ same)) in cc))

pub loop-given-preserved : goal.loop-given-preserved
loop-given-preserved g c =
    let sources = c.args.sources.now in
    let steps = c.args.steps.now in
    let i = c.loop-given.given-index in
    let inv = c.loop-given.invariant in
    let told = subst (IsNext sources i) c.in-Some.is (c.in_ok-next.ensures.step i inv.underway) in
    let now = subst (λ s. IsUnderway sources (turned i s) c.next.new.self) c.in-Some.is (c.in_ok-next.ensures.underway i inv.underway) in
    let ticks = subst (λ s. c.next.new.expansions ≡ turned c.loop-given.expansions s) c.in-Some.is c.in_ok-next.ensures.ticks in
    let end = some_of _ c.requires.within in
    let last = ends_by sources c.requires.names MOST_SHAPES end.0 end.1 in
    let lt = later sources i last.0 (told.0, told.1) last.2 in
    let same = c.is_same.ensures.0 c.if-not-is_same.false in
    let here = get-there steps i c.given-item.result c.loop-given-test.true c.given-item.is ∙ ap Some same in
    let one : suc i ≡ i + 1 = omega arith in record {
      place = omega (arith, inv.place);
      most = omega (arith, lt, last.1);
      within = omega (arith, c.loop-given-test.true);
      along = subst (λ n. run_to sources n ≡ take n steps) one (run-step sources i c.in-Some.step told ∙ (ap (λ l. l ++ c.in-Some.step ∷ []) inv.along ∙ sym (take-more steps i c.in-Some.step here)));
      underway = subst (λ n. IsUnderway sources n c.next.new.self) one now;
      count = omega (arith, inv.count, ticks);
    }

pub returns-then-is_over-clause-value : goal.returns-then-is_over-clause-value
returns-then-is_over-clause-value g c =
    let sources = c.args.sources.now in
    let steps = c.args.steps.now in
    let i = c.loop-given.given-index in
    let inv = c.loop-given.invariant in
    (i, (c.is_over.ensures sources i inv.underway).0 c.if-is_over.true, sym (inv.along ∙ take-end steps i c.loop-given-test.false))

pub returns-clause-value : goal.returns-clause-value
returns-clause-value g c =
    let sources = c.args.sources.now in
    let steps = c.args.steps.now in
    let i = c.loop-given.given-index in
    let inv = c.loop-given.invariant in
    let end = some_of _ c.requires.within in
    let last = ends_by sources c.requires.names MOST_SHAPES end.0 end.1 in
    let next = next-there sources i last.0 (λ quiet. let wrong : false ≡ true = sym c.if-is_over.false ∙ (c.is_over.ensures sources i inv.underway).1 quiet in cc) last.2 in
    let step = traced sources (reached (derivation_of sources) i) next.0.shape in
    let at : suc i ≡ c.loop-given.place = omega (arith, inv.place) in
    subst (λ k. (run : List TraceStep) × IsRun sources run × DifferFirstAt run steps k) at
    (run-goes sources steps i inv.along inv.within last.0 last.2 step (next.0, next.1, refl)
    (λ same. some_apart step (slice_get steps i) (get-end steps i c.loop-given-test.false) same))
