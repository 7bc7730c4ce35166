-- The value of an expression, or the fault of the first operation in reading order that is refused.
use Rattle.std.specs.Prelude.{ℕ, List, [], ◌∷◌, Bool, Ok}
use Rattle.cga_fraction.specs.Rat.{Rat}
use Rattle.cga_fraction.specs.Results.{and_then}
use Rattle.cga_word.specs.Seed.{shape_word_of}
use Rattle.cga_frame.specs.Points.{coordinate}
use Rattle.cga_rule.specs.declared.expr.Expr.{Expr, Expr-F}
use Rattle.cga_rule.specs.declared.expr.Term.{Term, Term-F}
use Rattle.cga_rule.specs.declared.expr.Added.{Added, Added-F}
use Rattle.cga_rule.specs.declared.expr.Scaled.{Scaled, Scaled-F}
use Rattle.cga_rule.specs.declared.expr.Factor.{Factor, Factor-F}
use Rattle.cga_rule.specs.declared.expr.Primary.{Primary, Primary-F}
use Rattle.cga_rule.specs.declared.expr.Primary.TheFolds.{fold-Expr, fold-Term, fold-Added, fold-Scaled, fold-Factor, fold-Primary}
use Rattle.cga_rule.specs.declared.expr.Primary.TheOpen.{Number, Named, ScopeSize, Group, Floor, Ceil, Rand}
use Rattle.cga_expr.specs.Names.{Known, number_of}
use Rattle.cga_expr.specs.Arithmetic.{Computed, added, scaled, signed, floored, ceiled, drawn}

-- what a part of an expression comes to
abbrev pub Meaning : Type 0
Meaning = Known → Computed

-- a part, and whether it is taken away, or divided by
abbrev pub Marked : Type 0
Marked = Bool × Meaning

-- a value, and further operands from the left: each is computed, and then taken by the operation
abbrev pub from_left : (Bool → Rat → Rat → Computed) → List Marked → Known → Rat → Computed
from_left by [] k x = Ok x
from_left by (m ∷ ms) k x = and_then (m.1 k) (λ y. and_then (by m.0 x y) (from_left by ms k))

-- a rand: its lower end, its upper end, and the number that the shape's word of this number picks
abbrev pub random_value : Meaning → Meaning → ℕ → ℕ → Meaning
random_value low high number steps k = and_then (low k) (λ x. and_then (high k) (λ y. drawn (shape_word_of k.seed number) steps x y))

abbrev pub Layer : ((A B C D E F : Type 0) → Type 0) → Type 0
Layer F = F Meaning Marked Meaning Meaning Marked Meaning

abbrev pub primary_step : Layer Primary-F → Meaning
primary_step (Number n) k = Ok n
primary_step (Named name) k = Ok (number_of k name)
primary_step (ScopeSize axis) k = Ok (coordinate k.size axis)
primary_step (Group e) k = e k
primary_step (Floor e) k = and_then (e k) floored
primary_step (Ceil e) k = and_then (e k) ceiled
primary_step (Rand number low high steps) k = random_value low high number steps k

abbrev pub added_step : Layer Added-F → Marked
added_step a = (a.minus, a.term)

abbrev pub expr_step : Layer Expr-F → Meaning
expr_step e k = and_then (e.first k) (from_left added e.rest k)

abbrev pub factor_step : Layer Factor-F → Meaning
factor_step f k = and_then (f.primary k) (λ x. Ok (signed f.minus x))

abbrev pub scaled_step : Layer Scaled-F → Marked
scaled_step s = (s.divide, s.factor)

abbrev pub term_step : Layer Term-F → Meaning
term_step t k = and_then (t.first k) (from_left scaled t.rest k)

unfoldable pub expr_value : Expr → Meaning
expr_value = fold-Expr Meaning Marked Meaning Meaning Marked Meaning primary_step added_step expr_step factor_step scaled_step term_step

unfoldable pub term_value : Term → Meaning
term_value = fold-Term Meaning Marked Meaning Meaning Marked Meaning primary_step added_step expr_step factor_step scaled_step term_step

unfoldable pub added_value : Added → Marked
added_value = fold-Added Meaning Marked Meaning Meaning Marked Meaning primary_step added_step expr_step factor_step scaled_step term_step

unfoldable pub scaled_value : Scaled → Marked
scaled_value = fold-Scaled Meaning Marked Meaning Meaning Marked Meaning primary_step added_step expr_step factor_step scaled_step term_step

unfoldable pub factor_value : Factor → Meaning
factor_value = fold-Factor Meaning Marked Meaning Meaning Marked Meaning primary_step added_step expr_step factor_step scaled_step term_step

unfoldable pub primary_value : Primary → Meaning
primary_value = fold-Primary Meaning Marked Meaning Meaning Marked Meaning primary_step added_step expr_step factor_step scaled_step term_step
