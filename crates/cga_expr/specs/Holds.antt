-- Whether a condition holds, or the first fault of what is looked at.
use Rattle.std.specs.Prelude.{List, [], ◌∷◌, Bool, true, false, not, Option, Some, None, Result, Ok, if◌then◌else◌}
use Rattle.std.specs.Ordering.{is_eq, is_ne, is_lt, is_le, is_gt, is_ge}
use Rattle.std.specs.declared.cmp.Ordering.{Ordering}
use Rattle.cga_fraction.specs.Order.{rat_cmp}
use Rattle.cga_fraction.specs.Results.{and_then}
use Rattle.cga_word.specs.declared.answer.Answer.{Answer}
use Rattle.cga_word.specs.declared.answer.Answer.TheVariants.{Nothing, Part, Full}
use Rattle.cga_word.specs.declared.answers.Answers.{Answers}
use Rattle.cga_word.specs.declared.target.Target.{Target}
use Rattle.cga_word.specs.declared.target.Target.TheVariants.{Noparent, Active}
use Rattle.cga_rule.specs.declared.cond.Cond.{Cond, Cond-F}
use Rattle.cga_rule.specs.declared.cond.Conj.{Conj, Conj-F}
use Rattle.cga_rule.specs.declared.cond.Test.{Test, Test-F}
use Rattle.cga_rule.specs.declared.cond.Test.TheFolds.{fold-Cond, fold-Conj, fold-Test}
use Rattle.cga_rule.specs.declared.cond.Test.TheOpen.{Group, Not, Occ, Compare}
use Rattle.cga_rule.specs.declared.cond.Relation.{Relation}
use Rattle.cga_rule.specs.declared.cond.Relation.TheVariants.{Equal, Unequal, Less, AtMost, Greater, AtLeast}
use Rattle.cga_expr.specs.declared.expr_fault.ExprFault.{ExprFault}
use Rattle.cga_expr.specs.Names.{Known}
use Rattle.cga_expr.specs.Value.{Meaning, expr_value}

-- whether a part of a condition holds
abbrev pub Holding : Type 0
Holding = Known → Answers → Result Bool ExprFault

-- `and` stops at the first that doesn't hold
abbrev pub all_hold : List Holding → Holding
all_hold [] k answers = Ok true
all_hold (t ∷ ts) k answers = and_then (t k answers) (λ b. if b then all_hold ts k answers else Ok false)

-- `or` stops at the first that holds
abbrev pub any_holds : List Holding → Holding
any_holds [] k answers = Ok false
any_holds (t ∷ ts) k answers = and_then (t k answers) (λ b. if b then Ok true else any_holds ts k answers)

-- what two numbers that compare so have to each other
abbrev pub relates : Relation → Ordering → Bool
relates Equal o = is_eq o
relates Unequal o = is_ne o
relates Less o = is_lt o
relates AtMost o = is_le o
relates Greater o = is_gt o
relates AtLeast o = is_ge o

-- the left value, the right value, and how they compare
abbrev pub compared : Meaning → Relation → Meaning → Known → Result Bool ExprFault
compared left relation right k = and_then (left k) (λ x. and_then (right k) (λ y. Ok (relates relation (rat_cmp x y))))

-- the shape's answer for a target
abbrev pub answer_to : Answers → Target → Option Answer
answer_to answers Noparent = answers.noparent
answer_to answers Active = answers.active

-- whether an answer is there and is this state
abbrev pub is_state : Option Answer → Answer → Bool
is_state None state = false
is_state (Some Nothing) Nothing = true
is_state (Some Nothing) Part = false
is_state (Some Nothing) Full = false
is_state (Some Part) Nothing = false
is_state (Some Part) Part = true
is_state (Some Part) Full = false
is_state (Some Full) Nothing = false
is_state (Some Full) Part = false
is_state (Some Full) Full = true

abbrev pub is_answered : Answers → Target → Answer → Bool
is_answered answers target state = is_state (answer_to answers target) state

abbrev pub Layer : ((A B C : Type 0) → Type 0) → Type 0
Layer F = F Holding Holding Holding

abbrev pub test_step : Layer Test-F → Holding
test_step (Group c) k answers = c k answers
test_step (Not c) k answers = and_then (c k answers) (λ b. Ok (not b))
test_step (Occ target equal state) k answers = Ok (if equal then is_answered answers target state else not (is_answered answers target state))
test_step (Compare left relation right) k answers = compared (expr_value left) relation (expr_value right) k

abbrev pub cond_step : Layer Cond-F → Holding
cond_step c = any_holds c.conjs

abbrev pub conj_step : Layer Conj-F → Holding
conj_step c = all_hold c.tests

unfoldable pub cond_holds : Cond → Holding
cond_holds = fold-Cond Holding Holding Holding test_step cond_step conj_step

unfoldable pub conj_holds : Conj → Holding
conj_holds = fold-Conj Holding Holding Holding test_step cond_step conj_step

unfoldable pub test_holds : Test → Holding
test_holds = fold-Test Holding Holding Holding test_step cond_step conj_step
