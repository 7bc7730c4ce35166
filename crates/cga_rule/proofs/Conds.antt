-- `==` of conditions tells equality.
use Rattle.std.proofs.Common.{refl, ◌∙◌, ◌≡◌, Bool, true, false, ◌&&◌, ap, subst}
use Rattle.std.specs.Cmp.{first_so, second_so, booleans_Decides}
use mathlib.Core.Bool.{beq}
use lib.Pointwise.{pointwise}
use denote.Enum.Bare.{sameb, same_true}
use denote.Enum.Compared.{Each, by}
use denote.Hole.Carrier.{Values, out}
use denote.Hole.Compared.{compared_is}
use Rattle.cga_word.specs.contracts.answer.Answer as answer
use Rattle.cga_word.specs.contracts.target.Target as target
use Rattle.cga_rule.specs.contracts.cond.Relation as relation
use Rattle.cga_rule.specs.contracts.expr.ExprPartialEq.TheImpl as expr
use Rattle.cga_rule.proofs.Told.{Sound, Sure, not_so, parts_sound, layer_sound}
use Rattle.cga_rule.proofs.Exprs.{expr_equal}
use Rattle.cga_rule.specs.declared.cond.Test.{Test, Test-F, out-Test, roll-Test, roll-out-Test, out-roll-Test}
use Rattle.cga_rule.specs.declared.cond.Cond.{Cond, Cond-F, out-Cond, roll-Cond, roll-out-Cond, out-roll-Cond}
use Rattle.cga_rule.specs.declared.cond.Conj.{Conj, Conj-F, out-Conj, roll-Conj, roll-out-Conj, out-roll-Conj}
use Rattle.cga_rule.specs.declared.cond.Test.TheFolds.{map-Test, map-Cond, map-Conj, ind-Cond}
use Rattle.cga_rule.specs.declared.cond.Test.TheBlock.{the_members, the_sigs, the_carrier, the_depth, split-Test, member-Test, member-Cond, member-Conj}
use Rattle.cga_rule.specs.declared.cond.Test.TheVariants as test
use Rattle.cga_rule.specs.declared.cond.Test.TheOpen.{Group, Not, Occ, Compare}
use Rattle.cga_rule.specs.contracts.cond.Test.{enum}
use Rattle.cga_rule.specs.contracts.cond.CondPartialEq.TheImpl.{the_step}
use Rattle.cga_rule.specs.contracts.cond.CondPartialEq.TheImpl.Laws.{family, local}

-- the family of derived tests, and that each asks the tests of the parts
abbrev same : (j : the_members) → Values the_members the_sigs the_carrier j → Values the_members the_sigs the_carrier j
    → Bool
same = family

abbrev Parts : ((A B C : Type 0) → Type 0) → Type 0
Parts F = F Test Cond Conj

abbrev Found : ((A B C : Type 0) → Type 0) → Type 0
Found F = F (Sure (same member-Test)) (Sure (same member-Cond)) (Sure (same member-Conj))

abbrev test_parts : Found Test-F → Parts Test-F
test_parts = map-Test (Sure (same member-Test)) (Sure (same member-Cond)) (Sure (same member-Conj)) Test Cond Conj (λ e. e.0) (λ e. e.0) (λ e. e.0)

abbrev variants : Each Bool enum.parts
variants = (
  λ a b. same member-Cond a.0 b.0,
  (
    λ a b. same member-Cond a.0 b.0,
    (
      λ a b. sameb target.the_type a.0 b.0 && (beq a.1.0 b.1.0 && sameb answer.the_type a.1.1.0 b.1.1.0),
      (λ a b. (expr.ghosts).eq a.0 b.0 && (sameb relation.the_type a.1.0 b.1.0 && (expr.ghosts).eq a.1.1.0 b.1.1.0), tt),
    ),
  ),
)

abbrev test_passes : Parts Test-F → Parts Test-F → Bool
test_passes a b = by false false enum.parts variants (split-Test (Values the_members the_sigs the_carrier) a) (split-Test (Values the_members the_sigs the_carrier) b)

test_values : (d : Test) → enum.as_values d ≡ split-Test (Values the_members the_sigs the_carrier) (out-Test d)
unfolding out-Test out
test_values (test.Group c) = refl
test_values (test.Not c) = refl
test_values (test.Occ target equal state) = refl
test_values (test.Compare left relation right) = refl

test_is : (d e : Test) → same member-Test d e ≡ test_passes (out-Test d) (out-Test e)
test_is d e =
    compared_is the_members (Values the_members the_sigs the_carrier) the_depth Bool true the_step local member-Test d e
    ∙ (λ i. by false false enum.parts variants (test_values d i) (test_values e i))

test_sound : (y : Found Test-F) (z : Parts Test-F) → test_passes (test_parts y) z ≡ true → test_parts y ≡ z
test_sound (Group c) (Group d) h = ap Group (c.1 d h)
test_sound (Not c) (Not d) h = ap Not (c.1 d h)
test_sound (Occ t equal s) (Occ u is r) h =
    let v = second_so (sameb target.the_type t u) _ h in
    let one = same_true target.the_type tt t u (first_so (sameb target.the_type t u) _ h) in
    let two = (booleans_Decides equal is).0 (first_so (beq equal is) (sameb answer.the_type s r) v) in
    let three = same_true answer.the_type tt s r (second_so (beq equal is) (sameb answer.the_type s r) v) in
    λ i. Occ (one i) (two i) (three i)
test_sound (Compare left r right) (Compare l s k) h =
    let v = second_so ((expr.ghosts).eq left l) _ h in
    let one = expr_equal left l (first_so ((expr.ghosts).eq left l) _ h) in
    let two = same_true relation.the_type tt r s (first_so (sameb relation.the_type r s) ((expr.ghosts).eq right k) v) in
    let three = expr_equal right k (second_so (sameb relation.the_type r s) ((expr.ghosts).eq right k) v) in
    λ i. Compare (one i) (two i) (three i)
test_sound y z h = not_so h

test_step : (x : Parts Test-F) (y : Found Test-F) → test_parts y ≡ x → Sound (same member-Test) (roll-Test x)
test_step x y is =
    subst (λ (z : Parts Test-F). Sound (same member-Test) (roll-Test z)) is
    (layer_sound (same member-Test) roll-Test out-Test test_passes roll-out-Test out-roll-Test test_is (test_parts y) (test_sound y))

abbrev cond_parts : Found Cond-F → Parts Cond-F
cond_parts = map-Cond (Sure (same member-Test)) (Sure (same member-Cond)) (Sure (same member-Conj)) Test Cond Conj (λ e. e.0) (λ e. e.0) (λ e. e.0)

abbrev cond_passes : Parts Cond-F → Parts Cond-F → Bool
cond_passes a b = pointwise (same member-Conj) a.conjs b.conjs

cond_is : (d e : Cond) → same member-Cond d e ≡ cond_passes (out-Cond d) (out-Cond e)
cond_is = compared_is the_members (Values the_members the_sigs the_carrier) the_depth Bool true the_step local member-Cond

cond_sound : (y : Found Cond-F) (z : Parts Cond-F) → cond_passes (cond_parts y) z ≡ true → cond_parts y ≡ z
cond_sound y z h =
    let all = parts_sound (same member-Conj) y.conjs z.conjs h in
    λ i. record { conjs = all i }

cond_step : (x : Parts Cond-F) (y : Found Cond-F) → cond_parts y ≡ x → Sound (same member-Cond) (roll-Cond x)
cond_step x y is =
    subst (λ (z : Parts Cond-F). Sound (same member-Cond) (roll-Cond z)) is
    (layer_sound (same member-Cond) roll-Cond out-Cond cond_passes roll-out-Cond out-roll-Cond cond_is (cond_parts y) (cond_sound y))

abbrev conj_parts : Found Conj-F → Parts Conj-F
conj_parts = map-Conj (Sure (same member-Test)) (Sure (same member-Cond)) (Sure (same member-Conj)) Test Cond Conj (λ e. e.0) (λ e. e.0) (λ e. e.0)

abbrev conj_passes : Parts Conj-F → Parts Conj-F → Bool
conj_passes a b = pointwise (same member-Test) a.tests b.tests

conj_is : (d e : Conj) → same member-Conj d e ≡ conj_passes (out-Conj d) (out-Conj e)
conj_is = compared_is the_members (Values the_members the_sigs the_carrier) the_depth Bool true the_step local member-Conj

conj_sound : (y : Found Conj-F) (z : Parts Conj-F) → conj_passes (conj_parts y) z ≡ true → conj_parts y ≡ z
conj_sound y z h =
    let all = parts_sound (same member-Test) y.tests z.tests h in
    λ i. record { tests = all i }

conj_step : (x : Parts Conj-F) (y : Found Conj-F) → conj_parts y ≡ x → Sound (same member-Conj) (roll-Conj x)
conj_step x y is =
    subst (λ (z : Parts Conj-F). Sound (same member-Conj) (roll-Conj z)) is
    (layer_sound (same member-Conj) roll-Conj out-Conj conj_passes roll-out-Conj out-roll-Conj conj_is (conj_parts y) (conj_sound y))

pub cond_equal : (a : Cond) → Sound (same member-Cond) a
cond_equal =
    ind-Cond (Sound (same member-Test)) (Sound (same member-Cond)) (Sound (same member-Conj))
    test_step cond_step conj_step
