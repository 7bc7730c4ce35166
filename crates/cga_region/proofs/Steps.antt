-- Jobs whose runs have the same steps of a lot derived it alike.
use Rattle.std.proofs.Common.{◌≡◌, ℕ, zero, suc, ◌<◌, List, refl, sym, ap, ◌∙◌, subst, inl, inr, Option, Some, None, arith}
use Rattle.std.proofs.lemmas.Bool.{cases_lt}
use Rattle.cga_order.specs.World.{Among, Has}
use Rattle.cga_order.specs.declared.placed.Kind.{Kind}
use Rattle.cga_order.proofs.Door.{Among-append}
use Rattle.cga_word.specs.declared.primitive.Primitive.{Primitive}
use Rattle.cga_shape.specs.declared.lot.Lot.{Lot}
use Rattle.cga_shape.specs.declared.shape.Shape.{Shape}
use Rattle.cga_shape.specs.declared.shape_fault.ShapeFault.{ShapeFault}
use Rattle.cga_shape.specs.declared.sources.Sources.{Sources}
use Rattle.cga_shape.specs.declared.trace_step.TraceStep.{TraceStep}
use Rattle.cga_shape.specs.Root.{root_of}
use Rattle.cga_derivation.specs.Derivation.{IsDerived, NothingWaits, asked, next_of, place_of, reached}
use Rattle.cga_expand.specs.Children.{Member}
use Rattle.cga_expand.specs.Derivation.{derivation_of, roots_of, NamesDiffer}
use Rattle.cga_expand.specs.Run.{IsRun, run_to, step_of, traced}
use Rattle.cga_expand.proofs.Door.{sources_are_derivations}
use Rattle.cga_region.specs.Towns.{with_lots}
use Rattle.cga_region.proofs.TownJobs.{one_lot}
use Rattle.cga_order.proofs.Door.{Among-left, Among-right}
use Rattle.cga_region.proofs.TownRoots.{lot_of_root, name_of, root_of_lot}
use Rattle.cga_region.proofs.Alike.{has_there}
use Rattle.cga_region.proofs.Turns.{before_end}

-- ---- turns and the steps that they tell

module _ (sources : Sources) where
  abbrev at : ℕ → List Member
  at n = reached (derivation_of sources) n

  abbrev IsTurn : ℕ → Member → Type 0
  IsTurn n m = next_of (derivation_of sources) (at n) ≡ Some m

  -- a step was told by a turn
  pub step_told : (n : ℕ) (t : TraceStep) → Among t (run_to sources n)
      → (i : ℕ) × (m : Member) × IsTurn i m × (t ≡ traced sources (at i) m.shape)
  unfolding run_to
  step_told zero t h = absurd h
  step_told (suc n) t h = elim (Among-append (run_to sources n) (step_of sources (at n) (next_of (derivation_of sources) (at n))) t h) [
    | inl l ↦ step_told n t l
    | inr r ↦ last (next_of (derivation_of sources) (at n)) refl r
  ]
    where
      last : (o : Option Member) → next_of (derivation_of sources) (at n) ≡ o → Among t (step_of sources (at n) o)
          → (i : ℕ) × (m : Member) × IsTurn i m × (t ≡ traced sources (at i) m.shape)
      last None e g = absurd g
      last (Some m) e g = elim g [ inl q ↦ (n, m, e, sym q) | inr q ↦ absurd q ]

  -- and a turn tells a step
  told_before : (n i : ℕ) (m : Member) → IsTurn i m → i < n → Among (traced sources (at i) m.shape) (run_to sources n)
  unfolding run_to
  told_before zero i m e below = absurd (omega (arith, below))
  told_before (suc n) i m e below = elim (cases_lt i n) [
    | inl less ↦ Among-left (run_to sources n) (step_of sources (at n) (next_of (derivation_of sources) (at n))) _ (told_before n i m e less)
    | inr above ↦
        let is : i ≡ n = omega (arith, below, above) in
        Among-right (run_to sources n) (step_of sources (at n) (next_of (derivation_of sources) (at n))) _
        (subst (λ j. Among (traced sources (at j) m.shape) (step_of sources (at n) (next_of (derivation_of sources) (at n)))) (sym is)
        (subst (λ o. Among (traced sources (at n) m.shape) (step_of sources (at n) o)) (sym (subst (λ j. IsTurn j m) is e)) (inl refl)))
  ]

  pub turn_told : NamesDiffer sources.lots → (end : ℕ) → NothingWaits (derivation_of sources) (at end) → (i : ℕ)
      (m : Member) → IsTurn i m → Among (traced sources (at i) m.shape) (run_to sources end)
  turn_told differ end ends i m e = told_before end i m e (before_end (derivation_of sources) (sources_are_derivations sources differ) end ends i m e)

-- ---- two lists of lots

-- names differ, and this is what the sources end with, and by which steps
pub record IsEnded (sources : Sources) (list : List Member) (steps : List TraceStep) : Type 0 where
  pub differ : NamesDiffer sources.lots
  pub ends : IsDerived (derivation_of sources) list
  pub run : IsRun sources steps

module _ (sources : Sources) (lots others : List Lot) (xs ys : List Member) (steps turns : List TraceStep)
    (y : Lot) (in_lots : Among y lots) (in_others : Among y others)
    (one : IsEnded (with_lots sources lots) xs steps) (other : IsEnded (with_lots sources others) ys turns)
    (same : (t : TraceStep) → t.lot ≡ y.name → Among t steps → Among t turns) where
  abbrev One : Sources
  One = with_lots sources lots

  abbrev Other : Sources
  Other = with_lots sources others

  root_there : (r : Shape) → r.lot ≡ y.name → Among r (roots_of lots) → Among r (roots_of others)
  root_there r e h =
      let x = lot_of_root lots r h in
      let is = one_lot lots one.differ x.0 y x.1 in_lots (sym (name_of x.0 r x.2) ∙ e) in
      root_of_lot others y r in_others (ap root_of (sym is) ∙ x.2)

  turn_there : (n : ℕ) (m : Member) → next_of (derivation_of One) (reached (derivation_of One) n) ≡ Some m
      → m.shape.lot ≡ y.name
      → (i : ℕ) × (t : Member) × (next_of (derivation_of Other) (reached (derivation_of Other) i) ≡ Some t)
      × (place_of (derivation_of sources) t.shape ≡ place_of (derivation_of sources) m.shape)
      × (asked (derivation_of Other) (reached (derivation_of Other) i) t.shape ≡ asked (derivation_of One)
      (reached (derivation_of One) n) m.shape)
  turn_there n m e lot =
      let step = traced One (reached (derivation_of One) n) m.shape in
      let here : Among step steps = subst (Among step) (sym one.run.2) (turn_told One one.differ one.run.0 one.run.1 n m e) in
      let w = step_told Other other.run.0 step (subst (Among step) other.run.2 (same step lot here)) in
      (w.0, w.1, w.2, (λ i. (sym (ap (λ (t : TraceStep). t.lot) w.3) i, sym (ap (λ (t : TraceStep). t.path) w.3) i)), sym (ap (λ (t : TraceStep). t.answers) w.3))

  pub lot_there : (n : Shape) (k : Kind ShapeFault Primitive) → n.lot ≡ y.name → Has xs n k → Has ys n k
  lot_there n k e h =
      let quiet = subst (NothingWaits (derivation_of One)) one.ends.1 one.ends.2 in
      let other_quiet = subst (NothingWaits (derivation_of Other)) other.ends.1 other.ends.2 in
      subst (λ (l : List Member). Has l n k) (sym other.ends.1)
      (has_there (derivation_of sources) (roots_of lots) (roots_of others)
      (sources_are_derivations One one.differ) (sources_are_derivations Other other.differ)
      other.ends.0 other_quiet y.name root_there turn_there one.ends.0 quiet n k e
      (subst (λ (l : List Member). Has l n k) one.ends.1 h))
