-- Whether a condition holds reads of the attributes only those that the condition names.
use Rattle.std.proofs.Common.{◌≡◌, List, [], ◌∷◌, map, refl, ap, sym, ◌∙◌, subst, Ok, Bool, true, false, not, if◌then◌else◌}
use Rattle.std.specs.Prelude.{Result}
use Rattle.cga_fraction.specs.Order.{rat_cmp}
use Rattle.cga_fraction.specs.Results.{and_then}
use Rattle.cga_word.specs.declared.answers.Answers.{Answers}
use Rattle.cga_rule.specs.declared.cond.Cond.{Cond, Cond-F, roll-Cond}
use Rattle.cga_rule.specs.declared.cond.Conj.{Conj, Conj-F, roll-Conj}
use Rattle.cga_rule.specs.declared.cond.Test.{Test, Test-F, roll-Test}
use Rattle.cga_rule.specs.declared.cond.Test.TheFolds.{fold-roll-Cond, fold-roll-Conj, fold-roll-Test, map-Cond, map-Conj, map-Test, ind-Cond}
use Rattle.cga_rule.specs.declared.cond.Test.TheOpen.{Group, Not, Occ, Compare}
use Rattle.cga_rule.specs.declared.grammar.Attribute.{Attribute}
use Rattle.cga_check.specs.declared.usage.Use.{Use}
use Rattle.cga_check.specs.Uses as used
use Rattle.cga_expr.specs.declared.expr_fault.ExprFault.{ExprFault}
use Rattle.cga_expr.specs.Names.{Known}
use Rattle.cga_expr.specs.Value as value
use Rattle.cga_expr.specs.Holds as holds
use Rattle.cga_expand.proofs.ReadsExprs.{with_others, Agrees, agrees_left, agrees_right, then_same, expr_reads}

module _ (k : Known) (others : List Attribute) (answers : Answers) where
  -- where the names agree, it holds alike
  abbrev Same : holds.Holding → List Use → Type 0
  Same m us = Agrees k others us → m k answers ≡ m (with_others k others) answers

  abbrev SomeTest : Type 0
  SomeTest = (x : Test) × Same (holds.test_holds x) (used.test_uses x)

  abbrev SomeCond : Type 0
  SomeCond = (x : Cond) × Same (holds.cond_holds x) (used.cond_uses x)

  abbrev SomeConj : Type 0
  SomeConj = (x : Conj) × Same (holds.conj_holds x) (used.conj_uses x)

  abbrev test_parts : Test-F SomeTest SomeCond SomeConj → Test-F Test Cond Conj
  test_parts y = map-Test SomeTest SomeCond SomeConj Test Cond Conj (λ e. e.0) (λ e. e.0) (λ e. e.0) y

  abbrev test_meant : Test-F Test Cond Conj → Test-F holds.Holding holds.Holding holds.Holding
  test_meant x = map-Test Test Cond Conj holds.Holding holds.Holding holds.Holding holds.test_holds holds.cond_holds holds.conj_holds x

  abbrev test_used : Test-F Test Cond Conj → Test-F (List Use) (List Use) (List Use)
  test_used x = map-Test Test Cond Conj (List Use) (List Use) (List Use) used.test_uses used.cond_uses used.conj_uses x

  test_value : (x : Test-F Test Cond Conj) → holds.test_holds (roll-Test x) ≡ holds.test_step (test_meant x)
  unfolding holds.test_holds holds.cond_holds holds.conj_holds
  test_value x = fold-roll-Test holds.Holding holds.Holding holds.Holding holds.test_step holds.cond_step holds.conj_step x

  test_uses : (x : Test-F Test Cond Conj) → used.test_uses (roll-Test x) ≡ used.test_step (test_used x)
  unfolding used.test_uses used.cond_uses used.conj_uses
  test_uses x = fold-roll-Test (List Use) (List Use) (List Use) used.test_step used.cond_step used.conj_step x

  abbrev cond_parts : Cond-F SomeTest SomeCond SomeConj → Cond-F Test Cond Conj
  cond_parts y = map-Cond SomeTest SomeCond SomeConj Test Cond Conj (λ e. e.0) (λ e. e.0) (λ e. e.0) y

  abbrev cond_meant : Cond-F Test Cond Conj → Cond-F holds.Holding holds.Holding holds.Holding
  cond_meant x = map-Cond Test Cond Conj holds.Holding holds.Holding holds.Holding holds.test_holds holds.cond_holds holds.conj_holds x

  abbrev cond_used : Cond-F Test Cond Conj → Cond-F (List Use) (List Use) (List Use)
  cond_used x = map-Cond Test Cond Conj (List Use) (List Use) (List Use) used.test_uses used.cond_uses used.conj_uses x

  cond_value : (x : Cond-F Test Cond Conj) → holds.cond_holds (roll-Cond x) ≡ holds.cond_step (cond_meant x)
  unfolding holds.test_holds holds.cond_holds holds.conj_holds
  cond_value x = fold-roll-Cond holds.Holding holds.Holding holds.Holding holds.test_step holds.cond_step holds.conj_step x

  cond_uses : (x : Cond-F Test Cond Conj) → used.cond_uses (roll-Cond x) ≡ used.cond_step (cond_used x)
  unfolding used.test_uses used.cond_uses used.conj_uses
  cond_uses x = fold-roll-Cond (List Use) (List Use) (List Use) used.test_step used.cond_step used.conj_step x

  abbrev conj_parts : Conj-F SomeTest SomeCond SomeConj → Conj-F Test Cond Conj
  conj_parts y = map-Conj SomeTest SomeCond SomeConj Test Cond Conj (λ e. e.0) (λ e. e.0) (λ e. e.0) y

  abbrev conj_meant : Conj-F Test Cond Conj → Conj-F holds.Holding holds.Holding holds.Holding
  conj_meant x = map-Conj Test Cond Conj holds.Holding holds.Holding holds.Holding holds.test_holds holds.cond_holds holds.conj_holds x

  abbrev conj_used : Conj-F Test Cond Conj → Conj-F (List Use) (List Use) (List Use)
  conj_used x = map-Conj Test Cond Conj (List Use) (List Use) (List Use) used.test_uses used.cond_uses used.conj_uses x

  conj_value : (x : Conj-F Test Cond Conj) → holds.conj_holds (roll-Conj x) ≡ holds.conj_step (conj_meant x)
  unfolding holds.test_holds holds.cond_holds holds.conj_holds
  conj_value x = fold-roll-Conj holds.Holding holds.Holding holds.Holding holds.test_step holds.cond_step holds.conj_step x

  conj_uses : (x : Conj-F Test Cond Conj) → used.conj_uses (roll-Conj x) ≡ used.conj_step (conj_used x)
  unfolding used.test_uses used.cond_uses used.conj_uses
  conj_uses x = fold-roll-Conj (List Use) (List Use) (List Use) used.test_step used.cond_step used.conj_step x

  rolled : (m n : holds.Holding) (us vs : List Use) → m ≡ n → us ≡ vs → Same n vs → Same m us
  rolled m n us vs em eu h a =
      ap (λ (z : holds.Holding). z k answers) em ∙ h (subst (Agrees k others) eu a) ∙ sym (ap (λ (z : holds.Holding). z (with_others k others) answers) em)

  if_same : (b : Bool) (x : Result Bool ExprFault) (r s : Result Bool ExprFault) → r ≡ s
      → (if b then r else x) ≡ (if b then s else x)
  if_same b x r s e = ap (λ o. if b then o else x) e

  else_same : (b : Bool) (x : Result Bool ExprFault) (r s : Result Bool ExprFault) → r ≡ s
      → (if b then x else r) ≡ (if b then x else s)
  else_same b x r s e = ap (λ o. if b then x else o) e

  -- ---- each layer

  all_same : (tests : List SomeTest) → Agrees k others (used.all (map used.test_uses (map (λ e. e.0) tests)))
      → holds.all_hold (map holds.test_holds (map (λ e. e.0) tests)) k answers ≡ holds.all_hold
      (map holds.test_holds (map (λ e. e.0) tests)) (with_others k others) answers
  all_same [] h = refl
  all_same (t ∷ ts) h =
      let m : holds.Holding = holds.test_holds t.0 in
      let ms : List holds.Holding = map holds.test_holds (map (λ e. e.0) ts) in
      then_same k others (m k answers) (m (with_others k others) answers)
      (λ (b : Bool). if b then holds.all_hold ms k answers else Ok false) (λ (b : Bool). if b then holds.all_hold ms (with_others k others) answers else Ok false)
      (t.1 (agrees_left k others (used.test_uses t.0) _ h))
      (λ b. if_same b (Ok false) _ _ (all_same ts (agrees_right k others (used.test_uses t.0) _ h)))

  any_same : (conjs : List SomeConj) → Agrees k others (used.all (map used.conj_uses (map (λ e. e.0) conjs)))
      → holds.any_holds (map holds.conj_holds (map (λ e. e.0) conjs)) k answers ≡ holds.any_holds
      (map holds.conj_holds (map (λ e. e.0) conjs)) (with_others k others) answers
  any_same [] h = refl
  any_same (t ∷ ts) h =
      let m : holds.Holding = holds.conj_holds t.0 in
      let ms : List holds.Holding = map holds.conj_holds (map (λ e. e.0) ts) in
      then_same k others (m k answers) (m (with_others k others) answers)
      (λ (b : Bool). if b then Ok true else holds.any_holds ms k answers) (λ (b : Bool). if b then Ok true else holds.any_holds ms (with_others k others) answers)
      (t.1 (agrees_left k others (used.conj_uses t.0) _ h))
      (λ b. else_same b (Ok true) _ _ (any_same ts (agrees_right k others (used.conj_uses t.0) _ h)))

  test_case : (y : Test-F SomeTest SomeCond SomeConj)
      → Same (holds.test_step (test_meant (test_parts y))) (used.test_step (test_used (test_parts y)))
  test_case (Group c) h = c.1 h
  test_case (Not c) h = ap (λ (o : Result Bool ExprFault). and_then o (λ b. Ok (not b))) (c.1 h)
  test_case (Occ target equal state) h = refl
  test_case (Compare left relation right) h =
      let l : value.Meaning = value.expr_value left in
      let r : value.Meaning = value.expr_value right in
      then_same k others (l k) (l (with_others k others))
      (λ x. and_then (r k) (λ y. Ok (holds.relates relation (rat_cmp x y))))
      (λ x. and_then (r (with_others k others)) (λ y. Ok (holds.relates relation (rat_cmp x y))))
      (expr_reads k others left (agrees_left k others (used.expr_uses left) _ h))
      (λ x. ap (λ o. and_then o (λ y. Ok (holds.relates relation (rat_cmp x y)))) (expr_reads k others right (agrees_right k others (used.expr_uses left) _ h)))

  cond_case : (y : Cond-F SomeTest SomeCond SomeConj)
      → Same (holds.cond_step (cond_meant (cond_parts y))) (used.cond_step (cond_used (cond_parts y)))
  cond_case y h = any_same y.conjs h

  conj_case : (y : Conj-F SomeTest SomeCond SomeConj)
      → Same (holds.conj_step (conj_meant (conj_parts y))) (used.conj_step (conj_used (conj_parts y)))
  conj_case y h = all_same y.tests h

  test_step : (x : Test-F Test Cond Conj) (y : Test-F SomeTest SomeCond SomeConj) → test_parts y ≡ x
      → Same (holds.test_holds (roll-Test x)) (used.test_uses (roll-Test x))
  test_step x y is =
      subst (λ (z : Test-F Test Cond Conj). Same (holds.test_holds (roll-Test z)) (used.test_uses (roll-Test z))) is
      (rolled _ _ _ _ (test_value (test_parts y)) (test_uses (test_parts y)) (test_case y))

  cond_step : (x : Cond-F Test Cond Conj) (y : Cond-F SomeTest SomeCond SomeConj) → cond_parts y ≡ x
      → Same (holds.cond_holds (roll-Cond x)) (used.cond_uses (roll-Cond x))
  cond_step x y is =
      subst (λ (z : Cond-F Test Cond Conj). Same (holds.cond_holds (roll-Cond z)) (used.cond_uses (roll-Cond z))) is
      (rolled _ _ _ _ (cond_value (cond_parts y)) (cond_uses (cond_parts y)) (cond_case y))

  conj_step : (x : Conj-F Test Cond Conj) (y : Conj-F SomeTest SomeCond SomeConj) → conj_parts y ≡ x
      → Same (holds.conj_holds (roll-Conj x)) (used.conj_uses (roll-Conj x))
  conj_step x y is =
      subst (λ (z : Conj-F Test Cond Conj). Same (holds.conj_holds (roll-Conj z)) (used.conj_uses (roll-Conj z))) is
      (rolled _ _ _ _ (conj_value (conj_parts y)) (conj_uses (conj_parts y)) (conj_case y))

  pub cond_reads : (c : Cond) → Same (holds.cond_holds c) (used.cond_uses c)
  cond_reads =
      ind-Cond (λ x. Same (holds.test_holds x) (used.test_uses x)) (λ x. Same (holds.cond_holds x) (used.cond_uses x)) (λ x. Same (holds.conj_holds x) (used.conj_uses x))
      test_step cond_step conj_step
