-- `==` of expressions tells equality: by induction, each layer from its parts.
use Rattle.std.proofs.Common.{◌≡◌, Bool, true, false, ◌&&◌, ap, subst, eqb-true, nat_eq}
use Rattle.std.specs.Cmp.{first_so, second_so, booleans_Decides}
use mathlib.Core.Bool.{beq}
use lib.Pointwise.{pointwise, bytes_decides}
use denote.Enum.Bare.{sameb, same_true}
use denote.Enum.Compared.{by}
use denote.Hole.Carrier.{Values}
use denote.Hole.Compared.{compared_is}
use Rattle.cga_fraction.specs.contracts.fraction.FractionPartialEq.TheImpl as fraction
use Rattle.cga_word.specs.contracts.axis.Axis as axis
use Rattle.cga_rule.proofs.Told.{Sound, Sure, not_so, parts_sound, layer_sound, fraction_sound}
use Rattle.cga_rule.specs.declared.expr.Primary.{Primary, Primary-F, out-Primary, roll-Primary, roll-out-Primary, out-roll-Primary}
use Rattle.cga_rule.specs.declared.expr.Added.{Added, Added-F, out-Added, roll-Added, roll-out-Added, out-roll-Added}
use Rattle.cga_rule.specs.declared.expr.Expr.{Expr, Expr-F, out-Expr, roll-Expr, roll-out-Expr, out-roll-Expr}
use Rattle.cga_rule.specs.declared.expr.Factor.{Factor, Factor-F, out-Factor, roll-Factor, roll-out-Factor, out-roll-Factor}
use Rattle.cga_rule.specs.declared.expr.Scaled.{Scaled, Scaled-F, out-Scaled, roll-Scaled, roll-out-Scaled, out-roll-Scaled}
use Rattle.cga_rule.specs.declared.expr.Term.{Term, Term-F, out-Term, roll-Term, roll-out-Term, out-roll-Term}
use Rattle.cga_rule.specs.declared.expr.Primary.TheFolds.{map-Primary, map-Added, map-Expr, map-Factor, map-Scaled, map-Term, ind-Expr}
use Rattle.cga_rule.specs.declared.expr.Primary.TheBlock.{the_members, the_sigs, the_carrier, the_depth}
use Rattle.cga_rule.specs.declared.expr.Primary.TheBlock.{split-Primary, member-Primary, member-Added, member-Expr}
use Rattle.cga_rule.specs.declared.expr.Primary.TheBlock.{member-Factor, member-Scaled, member-Term}
use Rattle.cga_rule.specs.declared.expr.Primary.TheOpen.{Number, Named, ScopeSize, Group, Floor, Ceil, Rand}
use Rattle.cga_rule.specs.contracts.expr.Primary.{enum}
use Rattle.cga_rule.specs.contracts.expr.ExprPartialEq.TheImpl.{the_step}
use Rattle.cga_rule.specs.contracts.expr.ExprPartialEq.TheImpl.Laws.{family, local}

-- the family of derived tests, and that each asks the tests of the parts
abbrev same : (j : the_members) → Values the_members the_sigs the_carrier j → Values the_members the_sigs the_carrier j
    → Bool
same = family

abbrev Parts : ((A B C D E F : Type 0) → Type 0) → Type 0
Parts F = F Primary Added Expr Factor Scaled Term

abbrev Found : ((A B C D E F : Type 0) → Type 0) → Type 0
Found F = F (Sure (same member-Primary)) (Sure (same member-Added)) (Sure (same member-Expr)) (Sure (same member-Factor)) (Sure (same member-Scaled)) (Sure (same member-Term))

abbrev primary_parts : Found Primary-F → Parts Primary-F
primary_parts = map-Primary (Sure (same member-Primary)) (Sure (same member-Added)) (Sure (same member-Expr))
    (Sure (same member-Factor)) (Sure (same member-Scaled)) (Sure (same member-Term)) Primary Added Expr Factor
    Scaled Term (λ e. e.0) (λ e. e.0) (λ e. e.0) (λ e. e.0) (λ e. e.0) (λ e. e.0)

abbrev primary_passes : Parts Primary-F → Parts Primary-F → Bool
primary_passes a b = by false false enum.parts (
  λ a b. (fraction.ghosts).eq a.0 b.0,
  (
    λ a b. pointwise nat_eq a.0 b.0,
    (
      λ a b. sameb axis.the_type a.0 b.0,
      (
        λ a b. same member-Expr a.0 b.0,
        (
          λ a b. same member-Expr a.0 b.0,
          (
            λ a b. same member-Expr a.0 b.0,
            (λ a b. nat_eq a.0 b.0 && (same member-Expr a.1.0 b.1.0 && (same member-Expr a.1.1.0 b.1.1.0 && nat_eq a.1.1.1.0 b.1.1.1.0)), tt),
          ),
        ),
      ),
    ),
  ),
)
    (split-Primary (Values the_members the_sigs the_carrier) a) (split-Primary (Values the_members the_sigs the_carrier) b)

primary_is : (d e : Primary) → same member-Primary d e ≡ primary_passes (out-Primary d) (out-Primary e)
primary_is = compared_is the_members (Values the_members the_sigs the_carrier) the_depth Bool true the_step local member-Primary

primary_sound : (y : Found Primary-F) (z : Parts Primary-F) → primary_passes (primary_parts y) z ≡ true
    → primary_parts y ≡ z
primary_sound (Number n) (Number m) h = ap Number (fraction_sound n m h)
primary_sound (Named n) (Named m) h = ap Named ((bytes_decides n m).0 h)
primary_sound (ScopeSize a) (ScopeSize b) h = ap ScopeSize (same_true axis.the_type tt a b h)
primary_sound (Group e) (Group f) h = ap Group (e.1 f h)
primary_sound (Floor e) (Floor f) h = ap Floor (e.1 f h)
primary_sound (Ceil e) (Ceil f) h = ap Ceil (e.1 f h)
primary_sound (Rand n low high steps) (Rand m l t s) h =
    let u = second_so (nat_eq n m) _ h in
    let v = second_so (same member-Expr low.0 l) _ u in
    let one = eqb-true n m (first_so (nat_eq n m) _ h) in
    let least = low.1 l (first_so (same member-Expr low.0 l) _ u) in
    let most = high.1 t (first_so (same member-Expr high.0 t) (nat_eq steps s) v) in
    let last = eqb-true steps s (second_so (same member-Expr high.0 t) (nat_eq steps s) v) in
    λ i. Rand (one i) (least i) (most i) (last i)
primary_sound y z h = not_so h

primary_step : (x : Parts Primary-F) (y : Found Primary-F) → primary_parts y ≡ x
    → Sound (same member-Primary) (roll-Primary x)
primary_step x y is =
    subst (λ (z : Parts Primary-F). Sound (same member-Primary) (roll-Primary z)) is
    (layer_sound (same member-Primary) roll-Primary out-Primary primary_passes roll-out-Primary out-roll-Primary primary_is (primary_parts y) (primary_sound y))

abbrev added_parts : Found Added-F → Parts Added-F
added_parts = map-Added (Sure (same member-Primary)) (Sure (same member-Added)) (Sure (same member-Expr))
    (Sure (same member-Factor)) (Sure (same member-Scaled)) (Sure (same member-Term)) Primary Added Expr Factor
    Scaled Term (λ e. e.0) (λ e. e.0) (λ e. e.0) (λ e. e.0) (λ e. e.0) (λ e. e.0)

abbrev added_passes : Parts Added-F → Parts Added-F → Bool
added_passes a b = beq a.minus b.minus && same member-Term a.term b.term

added_is : (d e : Added) → same member-Added d e ≡ added_passes (out-Added d) (out-Added e)
added_is = compared_is the_members (Values the_members the_sigs the_carrier) the_depth Bool true the_step local member-Added

added_sound : (y : Found Added-F) (z : Parts Added-F) → added_passes (added_parts y) z ≡ true → added_parts y ≡ z
added_sound y z h =
    let one = (booleans_Decides y.minus z.minus).0 (first_so (beq y.minus z.minus) _ h) in
    let other = y.term.1 z.term (second_so (beq y.minus z.minus) _ h) in
    λ i. record { minus = one i; term = other i }

added_step : (x : Parts Added-F) (y : Found Added-F) → added_parts y ≡ x → Sound (same member-Added) (roll-Added x)
added_step x y is =
    subst (λ (z : Parts Added-F). Sound (same member-Added) (roll-Added z)) is
    (layer_sound (same member-Added) roll-Added out-Added added_passes roll-out-Added out-roll-Added added_is (added_parts y) (added_sound y))

abbrev expr_parts : Found Expr-F → Parts Expr-F
expr_parts = map-Expr (Sure (same member-Primary)) (Sure (same member-Added)) (Sure (same member-Expr))
    (Sure (same member-Factor)) (Sure (same member-Scaled)) (Sure (same member-Term)) Primary Added Expr Factor
    Scaled Term (λ e. e.0) (λ e. e.0) (λ e. e.0) (λ e. e.0) (λ e. e.0) (λ e. e.0)

abbrev expr_passes : Parts Expr-F → Parts Expr-F → Bool
expr_passes a b = same member-Term a.first b.first && pointwise (same member-Added) a.rest b.rest

expr_is : (d e : Expr) → same member-Expr d e ≡ expr_passes (out-Expr d) (out-Expr e)
expr_is = compared_is the_members (Values the_members the_sigs the_carrier) the_depth Bool true the_step local member-Expr

expr_sound : (y : Found Expr-F) (z : Parts Expr-F) → expr_passes (expr_parts y) z ≡ true → expr_parts y ≡ z
expr_sound y z h =
    let one = y.first.1 z.first (first_so (same member-Term y.first.0 z.first) _ h) in
    let other = parts_sound (same member-Added) y.rest z.rest (second_so (same member-Term y.first.0 z.first) _ h) in
    λ i. record { first = one i; rest = other i }

expr_step : (x : Parts Expr-F) (y : Found Expr-F) → expr_parts y ≡ x → Sound (same member-Expr) (roll-Expr x)
expr_step x y is =
    subst (λ (z : Parts Expr-F). Sound (same member-Expr) (roll-Expr z)) is
    (layer_sound (same member-Expr) roll-Expr out-Expr expr_passes roll-out-Expr out-roll-Expr expr_is (expr_parts y) (expr_sound y))

abbrev factor_parts : Found Factor-F → Parts Factor-F
factor_parts = map-Factor (Sure (same member-Primary)) (Sure (same member-Added)) (Sure (same member-Expr))
    (Sure (same member-Factor)) (Sure (same member-Scaled)) (Sure (same member-Term)) Primary Added Expr Factor
    Scaled Term (λ e. e.0) (λ e. e.0) (λ e. e.0) (λ e. e.0) (λ e. e.0) (λ e. e.0)

abbrev factor_passes : Parts Factor-F → Parts Factor-F → Bool
factor_passes a b = beq a.minus b.minus && same member-Primary a.primary b.primary

factor_is : (d e : Factor) → same member-Factor d e ≡ factor_passes (out-Factor d) (out-Factor e)
factor_is = compared_is the_members (Values the_members the_sigs the_carrier) the_depth Bool true the_step local member-Factor

factor_sound : (y : Found Factor-F) (z : Parts Factor-F) → factor_passes (factor_parts y) z ≡ true → factor_parts y ≡ z
factor_sound y z h =
    let one = (booleans_Decides y.minus z.minus).0 (first_so (beq y.minus z.minus) _ h) in
    let other = y.primary.1 z.primary (second_so (beq y.minus z.minus) _ h) in
    λ i. record { minus = one i; primary = other i }

factor_step : (x : Parts Factor-F) (y : Found Factor-F) → factor_parts y ≡ x
    → Sound (same member-Factor) (roll-Factor x)
factor_step x y is =
    subst (λ (z : Parts Factor-F). Sound (same member-Factor) (roll-Factor z)) is
    (layer_sound (same member-Factor) roll-Factor out-Factor factor_passes roll-out-Factor out-roll-Factor factor_is (factor_parts y) (factor_sound y))

abbrev scaled_parts : Found Scaled-F → Parts Scaled-F
scaled_parts = map-Scaled (Sure (same member-Primary)) (Sure (same member-Added)) (Sure (same member-Expr))
    (Sure (same member-Factor)) (Sure (same member-Scaled)) (Sure (same member-Term)) Primary Added Expr Factor
    Scaled Term (λ e. e.0) (λ e. e.0) (λ e. e.0) (λ e. e.0) (λ e. e.0) (λ e. e.0)

abbrev scaled_passes : Parts Scaled-F → Parts Scaled-F → Bool
scaled_passes a b = beq a.divide b.divide && same member-Factor a.factor b.factor

scaled_is : (d e : Scaled) → same member-Scaled d e ≡ scaled_passes (out-Scaled d) (out-Scaled e)
scaled_is = compared_is the_members (Values the_members the_sigs the_carrier) the_depth Bool true the_step local member-Scaled

scaled_sound : (y : Found Scaled-F) (z : Parts Scaled-F) → scaled_passes (scaled_parts y) z ≡ true → scaled_parts y ≡ z
scaled_sound y z h =
    let one = (booleans_Decides y.divide z.divide).0 (first_so (beq y.divide z.divide) _ h) in
    let other = y.factor.1 z.factor (second_so (beq y.divide z.divide) _ h) in
    λ i. record { divide = one i; factor = other i }

scaled_step : (x : Parts Scaled-F) (y : Found Scaled-F) → scaled_parts y ≡ x
    → Sound (same member-Scaled) (roll-Scaled x)
scaled_step x y is =
    subst (λ (z : Parts Scaled-F). Sound (same member-Scaled) (roll-Scaled z)) is
    (layer_sound (same member-Scaled) roll-Scaled out-Scaled scaled_passes roll-out-Scaled out-roll-Scaled scaled_is (scaled_parts y) (scaled_sound y))

abbrev term_parts : Found Term-F → Parts Term-F
term_parts = map-Term (Sure (same member-Primary)) (Sure (same member-Added)) (Sure (same member-Expr))
    (Sure (same member-Factor)) (Sure (same member-Scaled)) (Sure (same member-Term)) Primary Added Expr Factor
    Scaled Term (λ e. e.0) (λ e. e.0) (λ e. e.0) (λ e. e.0) (λ e. e.0) (λ e. e.0)

abbrev term_passes : Parts Term-F → Parts Term-F → Bool
term_passes a b = same member-Factor a.first b.first && pointwise (same member-Scaled) a.rest b.rest

term_is : (d e : Term) → same member-Term d e ≡ term_passes (out-Term d) (out-Term e)
term_is = compared_is the_members (Values the_members the_sigs the_carrier) the_depth Bool true the_step local member-Term

term_sound : (y : Found Term-F) (z : Parts Term-F) → term_passes (term_parts y) z ≡ true → term_parts y ≡ z
term_sound y z h =
    let one = y.first.1 z.first (first_so (same member-Factor y.first.0 z.first) _ h) in
    let other = parts_sound (same member-Scaled) y.rest z.rest (second_so (same member-Factor y.first.0 z.first) _ h) in
    λ i. record { first = one i; rest = other i }

term_step : (x : Parts Term-F) (y : Found Term-F) → term_parts y ≡ x → Sound (same member-Term) (roll-Term x)
term_step x y is =
    subst (λ (z : Parts Term-F). Sound (same member-Term) (roll-Term z)) is
    (layer_sound (same member-Term) roll-Term out-Term term_passes roll-out-Term out-roll-Term term_is (term_parts y) (term_sound y))

pub expr_equal : (a : Expr) → Sound (same member-Expr) a
expr_equal =
    ind-Expr (Sound (same member-Primary)) (Sound (same member-Added)) (Sound (same member-Expr)) (Sound (same member-Factor)) (Sound (same member-Scaled)) (Sound (same member-Term))
    primary_step added_step expr_step factor_step scaled_step term_step
