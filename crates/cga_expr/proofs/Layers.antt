-- One layer of what an expression and a condition mean.
use Rattle.std.proofs.Common.{◌≡◌, ℕ, List, map, Bool, Ok, not, ap, sym, ◌∙◌, if◌then◌else◌}
use Rattle.cga_fraction.specs.Rat.{Rat}
use Rattle.cga_fraction.specs.Results.{and_then}
use Rattle.cga_word.specs.declared.answer.Answer.{Answer}
use Rattle.cga_word.specs.declared.answers.Answers.{Answers}
use Rattle.cga_word.specs.declared.axis.Axis.{Axis}
use Rattle.cga_word.specs.declared.target.Target.{Target}
use Rattle.cga_frame.specs.Points.{coordinate}
use Rattle.cga_rule.specs.declared.expr.Expr.{Expr, out-Expr}
use Rattle.cga_rule.specs.declared.expr.Term.{Term, out-Term}
use Rattle.cga_rule.specs.declared.expr.Added.{Added, out-Added}
use Rattle.cga_rule.specs.declared.expr.Scaled.{Scaled}
use Rattle.cga_rule.specs.declared.expr.Factor.{Factor}
use Rattle.cga_rule.specs.declared.expr.Primary.TheVariants.{Number, rolls-Number, Named, rolls-Named, ScopeSize}
use Rattle.cga_rule.specs.declared.expr.Primary.TheVariants.{rolls-ScopeSize, Group, rolls-Group, Floor, rolls-Floor}
use Rattle.cga_rule.specs.declared.expr.Primary.TheVariants.{Ceil, rolls-Ceil, Rand, rolls-Rand}
use Rattle.cga_rule.specs.declared.expr.Primary.TheFolds.{fold_out-Expr, fold_out-Term, fold_out-Added, fold_out-Scaled, fold_out-Factor, fold-roll-Primary}
use Rattle.cga_rule.specs.declared.expr.Primary.TheOpen as layer
use Rattle.cga_rule.specs.declared.cond.Cond.{Cond, out-Cond}
use Rattle.cga_rule.specs.declared.cond.Conj.{Conj, out-Conj}
use Rattle.cga_rule.specs.declared.cond.Relation.{Relation}
use Rattle.cga_rule.specs.declared.cond.Test.TheVariants as test
use Rattle.cga_rule.specs.declared.cond.Test.TheFolds.{fold_out-Cond, fold_out-Conj, fold-roll-Test}
use Rattle.cga_rule.specs.declared.cond.Test.TheOpen as part
use Rattle.cga_expr.specs.Names.{Known, number_of}
use Rattle.cga_expr.specs.Arithmetic.{added, scaled, signed, floored, ceiled}
use Rattle.cga_expr.specs.Value.{Meaning, Marked, from_left, random_value, expr_value, term_value, added_value}
use Rattle.cga_expr.specs.Value.{scaled_value, factor_value, primary_value, primary_step, added_step, expr_step}
use Rattle.cga_expr.specs.Value.{factor_step, scaled_step, term_step}
use Rattle.cga_expr.specs.Holds.{Holding, all_hold, any_holds, compared, is_answered, cond_holds, conj_holds, test_holds, test_step, cond_step, conj_step}

at_known : {m n : Meaning} → m ≡ n → (k : Known) → m k ≡ n k
at_known e k = ap (λ (m : Meaning). m k) e

at_both : {m n : Holding} → m ≡ n → (k : Known) (a : Answers) → m k a ≡ n k a
at_both e k a = ap (λ (m : Holding). m k a) e

pub expr_layer : (e : Expr) (k : Known)
    → expr_value e k ≡ and_then (term_value (out-Expr e).first k)
    (from_left added (map added_value (out-Expr e).rest) k)
unfolding expr_value term_value added_value
expr_layer e = at_known (fold_out-Expr Meaning Marked Meaning Meaning Marked Meaning primary_step added_step expr_step factor_step scaled_step term_step e)

pub term_layer : (t : Term) (k : Known)
    → term_value t k ≡ and_then (factor_value (out-Term t).first k)
    (from_left scaled (map scaled_value (out-Term t).rest) k)
unfolding term_value factor_value scaled_value
term_layer t = at_known (fold_out-Term Meaning Marked Meaning Meaning Marked Meaning primary_step added_step expr_step factor_step scaled_step term_step t)

pub added_layer : (a : Added) → added_value a ≡ ((out-Added a).minus, term_value (out-Added a).term)
unfolding added_value term_value
added_layer a = fold_out-Added Meaning Marked Meaning Meaning Marked Meaning primary_step added_step expr_step factor_step scaled_step term_step a

pub scaled_layer : (s : Scaled) → scaled_value s ≡ (s.divide, factor_value s.factor)
unfolding scaled_value factor_value
scaled_layer s = fold_out-Scaled Meaning Marked Meaning Meaning Marked Meaning primary_step added_step expr_step factor_step scaled_step term_step s

pub factor_layer : (f : Factor) (k : Known)
    → factor_value f k ≡ and_then (primary_value f.primary k) (λ x. Ok (signed f.minus x))
unfolding factor_value primary_value
factor_layer f = at_known (fold_out-Factor Meaning Marked Meaning Meaning Marked Meaning primary_step added_step expr_step factor_step scaled_step term_step f)

pub primary_Number : (n : Rat) (k : Known) → primary_value (Number n) k ≡ Ok n
unfolding primary_value expr_value
primary_Number n = at_known (ap primary_value (sym (rolls-Number n)) ∙ fold-roll-Primary Meaning Marked Meaning
    Meaning Marked Meaning primary_step added_step expr_step factor_step scaled_step term_step (layer.Number n))

-- a name comes to the number that it stands for
pub primary_Named : (name : List ℕ) (k : Known) → primary_value (Named name) k ≡ Ok (number_of k name)
unfolding primary_value expr_value
primary_Named name = at_known (ap primary_value (sym (rolls-Named name)) ∙ fold-roll-Primary Meaning Marked Meaning
    Meaning Marked Meaning primary_step added_step expr_step factor_step scaled_step term_step (layer.Named name))

pub primary_ScopeSize : (axis : Axis) (k : Known) → primary_value (ScopeSize axis) k ≡ Ok (coordinate k.size axis)
unfolding primary_value expr_value
primary_ScopeSize axis = at_known (ap primary_value (sym (rolls-ScopeSize axis)) ∙ fold-roll-Primary Meaning Marked
    Meaning Meaning Marked Meaning primary_step added_step expr_step factor_step scaled_step term_step (layer.ScopeSize axis))

pub primary_Group : (e : Expr) (k : Known) → primary_value (Group e) k ≡ expr_value e k
unfolding primary_value expr_value
primary_Group e = at_known (ap primary_value (sym (rolls-Group e)) ∙ fold-roll-Primary Meaning Marked Meaning
    Meaning Marked Meaning primary_step added_step expr_step factor_step scaled_step term_step (layer.Group e))

pub primary_Floor : (e : Expr) (k : Known) → primary_value (Floor e) k ≡ and_then (expr_value e k) floored
unfolding primary_value expr_value
primary_Floor e = at_known (ap primary_value (sym (rolls-Floor e)) ∙ fold-roll-Primary Meaning Marked Meaning
    Meaning Marked Meaning primary_step added_step expr_step factor_step scaled_step term_step (layer.Floor e))

pub primary_Ceil : (e : Expr) (k : Known) → primary_value (Ceil e) k ≡ and_then (expr_value e k) ceiled
unfolding primary_value expr_value
primary_Ceil e = at_known (ap primary_value (sym (rolls-Ceil e)) ∙ fold-roll-Primary Meaning Marked Meaning Meaning
    Marked Meaning primary_step added_step expr_step factor_step scaled_step term_step (layer.Ceil e))

pub primary_Rand : (number : ℕ) (low : Expr) (high : Expr) (steps : ℕ) (k : Known)
    → primary_value (Rand number low high steps) k ≡ random_value (expr_value low) (expr_value high) number steps k
unfolding primary_value expr_value
primary_Rand number low high steps = at_known (ap primary_value (sym (rolls-Rand number low high steps))
    ∙ fold-roll-Primary Meaning Marked Meaning Meaning Marked Meaning primary_step added_step expr_step factor_step
    scaled_step term_step (layer.Rand number low high steps))

pub cond_layer : (c : Cond) (k : Known) (a : Answers)
    → cond_holds c k a ≡ any_holds (map conj_holds (out-Cond c).conjs) k a
unfolding cond_holds conj_holds
cond_layer c = at_both (fold_out-Cond Holding Holding Holding test_step cond_step conj_step c)

pub conj_layer : (c : Conj) (k : Known) (a : Answers)
    → conj_holds c k a ≡ all_hold (map test_holds (out-Conj c).tests) k a
unfolding conj_holds test_holds
conj_layer c = at_both (fold_out-Conj Holding Holding Holding test_step cond_step conj_step c)

pub test_Group : (c : Cond) (k : Known) (a : Answers) → test_holds (test.Group c) k a ≡ cond_holds c k a
unfolding test_holds cond_holds
test_Group c = at_both (ap test_holds (sym (test.rolls-Group c)) ∙ fold-roll-Test Holding Holding Holding test_step cond_step conj_step (part.Group c))

pub test_Not : (c : Cond) (k : Known) (a : Answers)
    → test_holds (test.Not c) k a ≡ and_then (cond_holds c k a) (λ b. Ok (not b))
unfolding test_holds cond_holds
test_Not c = at_both (ap test_holds (sym (test.rolls-Not c)) ∙ fold-roll-Test Holding Holding Holding test_step cond_step conj_step (part.Not c))

pub test_Occ : (target : Target) (equal : Bool) (state : Answer) (k : Known) (a : Answers)
    → test_holds (test.Occ target equal state) k a ≡ Ok
    (if equal then is_answered a target state else not (is_answered a target state))
unfolding test_holds cond_holds
test_Occ target equal state = at_both (ap test_holds (sym (test.rolls-Occ target equal state)) ∙ fold-roll-Test Holding Holding Holding test_step cond_step conj_step (part.Occ target equal state))

pub test_Compare : (left : Expr) (relation : Relation) (right : Expr) (k : Known) (a : Answers)
    → test_holds (test.Compare left relation right) k a ≡ compared (expr_value left) relation (expr_value right) k
unfolding test_holds cond_holds
test_Compare left relation right = at_both (ap test_holds (sym (test.rolls-Compare left relation right))
    ∙ fold-roll-Test Holding Holding Holding test_step cond_step conj_step (part.Compare left relation right))

pub ruleset layers = (
  expr_layer,
  term_layer,
  factor_layer,
  added_layer,
  scaled_layer,
  primary_Number,
  primary_Named,
  primary_ScopeSize,
  primary_Group,
  primary_Floor,
  primary_Ceil,
  primary_Rand,
  cond_layer,
  conj_layer,
  test_Group,
  test_Not,
  test_Occ,
  test_Compare,
)
