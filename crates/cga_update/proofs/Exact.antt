-- What the work of an edit comes to, in the words of sources.
use Rattle.std.proofs.Common.{◌≡◌, inl, inr, ℕ, ◌+◌, List, map, length, Bool, ap, sym, ◌∙◌, subst}
use Rattle.std.specs.Prelude.{count_by}
use Rattle.cga_word.specs.declared.answers.Answers.{Answers}
use Rattle.cga_word.specs.declared.primitive.Primitive.{Primitive}
use Rattle.cga_shape.specs.declared.changes.Changes.{Changes}
use Rattle.cga_shape.specs.declared.drawn.Drawn as reported
use Rattle.cga_shape.specs.declared.shape.Shape.{Shape}
use Rattle.cga_shape.specs.declared.shape_fault.ShapeFault.{ShapeFault}
use Rattle.cga_shape.specs.declared.sources.Sources.{Sources}
use Rattle.cga_order.specs.World.{Has, Among}
use Rattle.cga_order.specs.Agenda as kept
use Rattle.cga_order.specs.declared.placed.Kind.TheVariants.{Instance}
use Rattle.cga_derivation.specs.Derivation.{Derivation}
use Rattle.cga_agenda.specs.Record.{Drawn, drawn}
use Rattle.cga_rework.specs.Exact as rework
use Rattle.cga_rework.specs.Ranked.{Ranked, unranked_drawn}
use Rattle.cga_rework.specs.Rules.{derivation_of}
use Rattle.cga_rework.specs.Touched as plain
use Rattle.cga_fraction.proofs.Door.{length-map}
use Rattle.cga_rework.proofs.Door.{Among-map, count-map}
use Rattle.cga_expand.specs.Children.{Member}
use Rattle.cga_expand.specs.Derivation as expansion
use Rattle.cga_expand.specs.Settings.{setting_of}
use Rattle.cga_expand.specs.Touched.{NonInstance, Kept, SameInputs, Touched}
use Rattle.cga_update.specs.Edit.{shapes_of, rules_of}
use Rattle.cga_update.specs.Updates.{told, instances, IsBelow, CountsTouched, IsChange}

-- a ranked instance as it is reported
abbrev pub told_ranked : Drawn (Ranked Shape) Primitive → reported.Drawn
told_ranked d = told (unranked_drawn d)

module _ (old new : Sources) (mode : old.mode ≡ new.mode) (before after : List Member) where
  -- in the new mode the old rules are the old derivation
  pub same_derivation : derivation_of (shapes_of new) (rules_of old) ≡ expansion.derivation_of old
  same_derivation = λ i. record (expansion.derivation_of old) { mode = sym mode i }

  -- equal inputs, where the old derivation is this one
  abbrev SameIn : Derivation Shape Answers ShapeFault Primitive → Shape → Type 0
  SameIn D s =
      (setting_of old.grammar s.symbol ≡ setting_of new.grammar s.symbol)
      × ((a : Answers) × plain.Answered D s a × plain.Answered (expansion.derivation_of new) s a)

  to_inputs : (s : Shape) → plain.SameInputs (shapes_of new) (rules_of old) (rules_of new) s → SameInputs old new s
  to_inputs s h = subst (λ D. SameIn D s) same_derivation h

  from_inputs : (s : Shape) → SameInputs old new s → plain.SameInputs (shapes_of new) (rules_of old) (rules_of new) s
  from_inputs s h = subst (λ D. SameIn D s) (sym same_derivation) h

  abbrev PlainTouched : Shape → Type 0
  PlainTouched s = plain.Touched (shapes_of new) (rules_of old) (rules_of new) before after s

  pub to_touched : (s : Shape) → PlainTouched s → Touched old new before after s
  to_touched s h = (
    h.0,
    elim h.1 [
      | inl apart ↦ inl (λ k. apart k.1)
      | inr both ↦ inr ((mode, both.0), λ same. both.1 (from_inputs s same))
    ],
  )

  pub from_touched : (s : Shape) → Touched old new before after s → PlainTouched s
  from_touched s h = (
    h.0,
    elim h.1 [
      | inl apart ↦ inl (λ k. apart (mode, k))
      | inr both ↦ inr (both.0.1, λ same. both.1 (to_inputs s same))
    ],
  )

  module _ (now : List (kept.Node (Ranked Shape) Answers ShapeFault Primitive)) (worked : List (Ranked Shape))
      (gone come : List (Drawn (Ranked Shape) Primitive))
      (exact : rework.IsExactRework (shapes_of new) (rules_of old) (rules_of new) now worked gone come before after) where
    pub counts : (n : ℕ) → n ≡ length worked → CountsTouched old new before after n
    counts n e = (
      map (λ (m : Ranked Shape). m.shape) worked,
      exact.work.once,
      λ s. (λ h. to_touched s ((exact.work.touched s).0 h), λ h. (exact.work.touched s).1 (from_touched s h)),
      e ∙ sym (length-map (λ (m : Ranked Shape). m.shape) worked),
    )

    come_is : (d : Drawn Shape Primitive) → Among d (map unranked_drawn come)
        → Has after d.shape (Instance d.solid)
        × ((parent : Shape) × (i : ℕ) × IsBelow parent i d.shape × Touched old new before after parent)
    come_is d h =
        let x = Among-map unranked_drawn come d h in
        let y = exact.each_come x.0 x.1 in
        let found : Has after x.0.shape.shape (Instance x.0.solid)
        × ((parent : Shape) × (i : ℕ) × IsBelow parent i x.0.shape.shape
        × Touched old new before after parent) = (y.0, (y.1.0, y.1.1, y.1.2, to_touched y.1.0 y.1.3)) in
        subst (λ (z : Drawn Shape Primitive). Has after z.shape (Instance z.solid) × ((parent : Shape) × (i : ℕ) × IsBelow parent i z.shape × Touched old new before after parent)) x.2 found

    gone_is : (d : Drawn Shape Primitive) → Among d (map unranked_drawn gone)
        → Has before d.shape (Instance d.solid)
        × ((parent : Shape) (i : ℕ) → NonInstance after parent → IsBelow parent i d.shape
        → Kept old new before after parent → SameInputs old new parent → ⊥)
    gone_is d h =
        let x = Among-map unranked_drawn gone d h in
        let y = exact.each_gone x.0 x.1 in
        let found : Has before x.0.shape.shape (Instance x.0.solid)
        × ((parent : Shape) (i : ℕ) → NonInstance after parent → IsBelow parent i x.0.shape.shape
        → Kept old new before after parent → SameInputs old new parent
        → ⊥) = (y.0, λ parent i non below keeps same. y.1 parent i non below keeps.1 (from_inputs parent same)) in
        subst (λ (z : Drawn Shape Primitive). Has before z.shape (Instance z.solid)
        × ((parent : Shape) (i : ℕ) → NonInstance after parent → IsBelow parent i z.shape
        → Kept old new before after parent → SameInputs old new parent → ⊥)) x.2 found

    told_count : (test : reported.Drawn → Bool) (list : List (Drawn Shape Primitive))
        → count_by test (map told list) ≡ count_by (λ d. test (told d)) list
    told_count test list = count-map told test list

    module _ (changes : Changes) (gone_told : changes.gone ≡ map told (map unranked_drawn gone)) (come_told : changes.come ≡ map told (map unranked_drawn come)) where
      balances : (test : reported.Drawn → Bool)
          → count_by test (instances before) + count_by test changes.come ≡ count_by test (instances after) + count_by
          test changes.gone
      balances test =
          let a = told_count test (drawn before) in
          let b = ap (count_by test) come_told ∙ told_count test (map unranked_drawn come) in
          let c = told_count test (drawn after) in
          let d = ap (count_by test) gone_told ∙ told_count test (map unranked_drawn gone) in
          (λ i. a i + b i) ∙ exact.balance (λ d. test (told d)) ∙ sym (λ i. c i + d i)

      pub changed : IsChange old new before after changes
      changed = record {
        gone = map unranked_drawn gone;
        come = map unranked_drawn come;
        «record» = record { gone_once = exact.gone_once; come_once = exact.come_once; each_come = come_is; each_gone = gone_is };
        gone_told = gone_told;
        come_told = come_told;
        balance = balances;
      }
