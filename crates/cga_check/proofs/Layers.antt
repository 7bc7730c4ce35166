-- One layer of the uses of a tree.
use Rattle.std.proofs.Common.{◌≡◌, ℕ, List, [], ◌++◌, map, ap, sym, ◌∙◌, length, Bool}
use Rattle.std.specs.Prelude.{flat_map}
use Rattle.std.proofs.lemmas.List.{length-map}
use Rattle.cga_fraction.specs.Rat.{Rat}
use Rattle.cga_word.specs.declared.axis.Axis.{Axis}
use Rattle.cga_word.specs.declared.turn.Turn.{Turn}
use Rattle.cga_word.specs.declared.primitive.Primitive.{Primitive}
use Rattle.cga_word.specs.declared.selector.Selector.{Selector}
use Rattle.cga_word.specs.declared.target.Target.{Target}
use Rattle.cga_word.specs.declared.answer.Answer.{Answer as State}
use Rattle.cga_rule.specs.declared.cond.Relation.{Relation}
use Rattle.cga_rule.specs.declared.expr.Expr.{Expr, out-Expr}
use Rattle.cga_rule.specs.declared.expr.Term.{Term, out-Term}
use Rattle.cga_rule.specs.declared.expr.Added.{Added, out-Added}
use Rattle.cga_rule.specs.declared.expr.Scaled.{Scaled, out-Scaled}
use Rattle.cga_rule.specs.declared.expr.Factor.{Factor, out-Factor}
use Rattle.cga_rule.specs.declared.expr.Primary.TheFolds.{fold_out-Expr, fold_out-Term, fold_out-Added, fold_out-Scaled, fold_out-Factor, fold-roll-Primary}
use Rattle.cga_rule.specs.declared.expr.Primary.TheVariants as p
use Rattle.cga_rule.specs.declared.expr.Primary.TheOpen as primary
use Rattle.cga_rule.specs.declared.cond.Cond.{Cond, out-Cond}
use Rattle.cga_rule.specs.declared.cond.Conj.{Conj, out-Conj}
use Rattle.cga_rule.specs.declared.cond.Test.TheFolds.{fold_out-Cond, fold_out-Conj, fold-roll-Test}
use Rattle.cga_rule.specs.declared.cond.Test.TheVariants as t
use Rattle.cga_rule.specs.declared.cond.Test.TheOpen as test
use Rattle.cga_rule.specs.declared.item.Size.{Size}
use Rattle.cga_rule.specs.declared.item.Body.{Body, out-Body}
use Rattle.cga_rule.specs.declared.item.Item.{Item}
use Rattle.cga_rule.specs.declared.item.Item.TheFolds.{fold_out-Body, fold-roll-Item}
use Rattle.cga_rule.specs.declared.item.Item.TheVariants as i
use Rattle.cga_rule.specs.declared.item.Item.TheOpen as item
use Rattle.cga_check.specs.declared.usage.Use.TheVariants.{Answer, Child, Named}
use Rattle.cga_check.specs.Uses.{Uses, only, all, primary_step, added_step, expr_step, factor_step, scaled_step}
use Rattle.cga_check.specs.Uses.{term_step, primary_uses, added_uses, expr_uses, factor_uses, scaled_uses, term_uses}
use Rattle.cga_check.specs.Uses.{test_step, cond_step, conj_step, test_uses, cond_uses, conj_uses, size_uses}
use Rattle.cga_check.specs.Uses.{parts_uses, item_step, body_step, item_uses, body_uses}
use Rattle.cga_check.proofs.Sifted.{flat_map_of_map, sifted_append, sifted_none}

-- ---- expressions

pub expr_out : (e : Expr) → expr_uses e ≡ term_uses (out-Expr e).first ++ flat_map added_uses (out-Expr e).rest
unfolding expr_uses term_uses added_uses
expr_out e =
    fold_out-Expr Uses Uses Uses Uses Uses Uses primary_step added_step expr_step factor_step scaled_step term_step e
    ∙ ap (λ us. term_uses (out-Expr e).first ++ us) (flat_map_of_map added_uses (out-Expr e).rest)

pub term_out : (t : Term) → term_uses t ≡ factor_uses (out-Term t).first ++ flat_map scaled_uses (out-Term t).rest
unfolding term_uses factor_uses scaled_uses
term_out t =
    fold_out-Term Uses Uses Uses Uses Uses Uses primary_step added_step expr_step factor_step scaled_step term_step t
    ∙ ap (λ us. factor_uses (out-Term t).first ++ us) (flat_map_of_map scaled_uses (out-Term t).rest)

pub added_out : (a : Added) → added_uses a ≡ term_uses (out-Added a).term
unfolding added_uses term_uses
added_out a = fold_out-Added Uses Uses Uses Uses Uses Uses primary_step added_step expr_step factor_step scaled_step term_step a

pub scaled_out : (s : Scaled) → scaled_uses s ≡ factor_uses (out-Scaled s).factor
unfolding scaled_uses factor_uses
scaled_out s = fold_out-Scaled Uses Uses Uses Uses Uses Uses primary_step added_step expr_step factor_step scaled_step term_step s

pub factor_out : (f : Factor) → factor_uses f ≡ primary_uses (out-Factor f).primary
unfolding factor_uses primary_uses
factor_out f = fold_out-Factor Uses Uses Uses Uses Uses Uses primary_step added_step expr_step factor_step scaled_step term_step f

pub primary_Number : (n : Rat) → primary_uses (p.Number n) ≡ []
unfolding primary_uses
primary_Number n = ap primary_uses (sym (p.rolls-Number n)) ∙ fold-roll-Primary Uses Uses Uses Uses Uses Uses primary_step added_step expr_step factor_step scaled_step term_step (primary.Number n)

-- a name in an expression uses that name alone
pub primary_Named : (name : List ℕ) → primary_uses (p.Named name) ≡ only (Named name)
unfolding primary_uses
primary_Named name = ap primary_uses (sym (p.rolls-Named name)) ∙ fold-roll-Primary Uses Uses Uses Uses Uses Uses
    primary_step added_step expr_step factor_step scaled_step term_step (primary.Named name)

pub primary_ScopeSize : (axis : Axis) → primary_uses (p.ScopeSize axis) ≡ []
unfolding primary_uses
primary_ScopeSize axis = ap primary_uses (sym (p.rolls-ScopeSize axis)) ∙ fold-roll-Primary Uses Uses Uses Uses
    Uses Uses primary_step added_step expr_step factor_step scaled_step term_step (primary.ScopeSize axis)

pub primary_Group : (e : Expr) → primary_uses (p.Group e) ≡ expr_uses e
unfolding primary_uses expr_uses
primary_Group e = ap primary_uses (sym (p.rolls-Group e)) ∙ fold-roll-Primary Uses Uses Uses Uses Uses Uses primary_step added_step expr_step factor_step scaled_step term_step (primary.Group e)

pub primary_Floor : (e : Expr) → primary_uses (p.Floor e) ≡ expr_uses e
unfolding primary_uses expr_uses
primary_Floor e = ap primary_uses (sym (p.rolls-Floor e)) ∙ fold-roll-Primary Uses Uses Uses Uses Uses Uses primary_step added_step expr_step factor_step scaled_step term_step (primary.Floor e)

pub primary_Ceil : (e : Expr) → primary_uses (p.Ceil e) ≡ expr_uses e
unfolding primary_uses expr_uses
primary_Ceil e = ap primary_uses (sym (p.rolls-Ceil e)) ∙ fold-roll-Primary Uses Uses Uses Uses Uses Uses primary_step added_step expr_step factor_step scaled_step term_step (primary.Ceil e)

pub primary_Rand : (j : ℕ) (low high : Expr) (steps : ℕ)
    → primary_uses (p.Rand j low high steps) ≡ expr_uses low ++ expr_uses high
unfolding primary_uses expr_uses
primary_Rand j low high steps = ap primary_uses (sym (p.rolls-Rand j low high steps))
    ∙ fold-roll-Primary Uses Uses Uses Uses Uses Uses primary_step added_step expr_step factor_step scaled_step term_step (primary.Rand j low high steps)

-- ---- conditions

pub cond_out : (c : Cond) → cond_uses c ≡ flat_map conj_uses (out-Cond c).conjs
unfolding cond_uses conj_uses
cond_out c = fold_out-Cond Uses Uses Uses test_step cond_step conj_step c ∙ flat_map_of_map conj_uses (out-Cond c).conjs

pub conj_out : (c : Conj) → conj_uses c ≡ flat_map test_uses (out-Conj c).tests
unfolding conj_uses test_uses
conj_out c = fold_out-Conj Uses Uses Uses test_step cond_step conj_step c ∙ flat_map_of_map test_uses (out-Conj c).tests

pub test_Group : (c : Cond) → test_uses (t.Group c) ≡ cond_uses c
unfolding test_uses cond_uses
test_Group c = ap test_uses (sym (t.rolls-Group c)) ∙ fold-roll-Test Uses Uses Uses test_step cond_step conj_step (test.Group c)

pub test_Not : (c : Cond) → test_uses (t.Not c) ≡ cond_uses c
unfolding test_uses cond_uses
test_Not c = ap test_uses (sym (t.rolls-Not c)) ∙ fold-roll-Test Uses Uses Uses test_step cond_step conj_step (test.Not c)

pub test_Occ : (target : Target) (equal : Bool) (state : State)
    → test_uses (t.Occ target equal state) ≡ only (Answer target)
unfolding test_uses
test_Occ target equal state = ap test_uses (sym (t.rolls-Occ target equal state)) ∙ fold-roll-Test Uses Uses Uses test_step cond_step conj_step (test.Occ target equal state)

pub test_Compare : (left : Expr) (relation : Relation) (right : Expr)
    → test_uses (t.Compare left relation right) ≡ expr_uses left ++ expr_uses right
unfolding test_uses
test_Compare left relation right = ap test_uses (sym (t.rolls-Compare left relation right)) ∙ fold-roll-Test Uses Uses Uses test_step cond_step conj_step (test.Compare left relation right)

-- ---- items

pub body_out : (b : Body) → body_uses b ≡ flat_map item_uses (out-Body b).items
unfolding body_uses item_uses
body_out b = fold_out-Body Uses Uses item_step body_step b ∙ flat_map_of_map item_uses (out-Body b).items

pub item_Move : (x y z : Expr) → item_uses (i.Move x y z) ≡ expr_uses x ++ (expr_uses y ++ expr_uses z)
unfolding item_uses
item_Move x y z = ap item_uses (sym (i.rolls-Move x y z)) ∙ fold-roll-Item Uses Uses item_step body_step (item.Move x y z)

-- a change of size uses what its three sizes use, in their order
pub item_Resize : (x y z : Size) → item_uses (i.Resize x y z) ≡ size_uses x ++ (size_uses y ++ size_uses z)
unfolding item_uses
item_Resize x y z = ap item_uses (sym (i.rolls-Resize x y z)) ∙ fold-roll-Item Uses Uses item_step body_step (item.Resize x y z)

pub item_Rotate : (axis : Axis) (by : Turn) → item_uses (i.Rotate axis by) ≡ []
unfolding item_uses
item_Rotate axis by = ap item_uses (sym (i.rolls-Rotate axis by)) ∙ fold-roll-Item Uses Uses item_step body_step (item.Rotate axis by)

pub item_Scoped : (items : List Item) → item_uses (i.Scoped items) ≡ flat_map item_uses items
unfolding item_uses
item_Scoped items = ap item_uses (sym (i.rolls-Scoped items)) ∙ fold-roll-Item Uses Uses item_step body_step (item.Scoped items) ∙ flat_map_of_map item_uses items

pub item_Solid : (solid : Primitive) → item_uses (i.Solid solid) ≡ []
unfolding item_uses
item_Solid solid = ap item_uses (sym (i.rolls-Solid solid)) ∙ fold-roll-Item Uses Uses item_step body_step (item.Solid solid)

parts_of_map : (sizes : List Size) (bodies : List Body) →
    parts_uses sizes (length (map body_uses bodies)) ++ all (map body_uses bodies) ≡ parts_uses sizes (length bodies) ++ flat_map body_uses bodies
parts_of_map sizes bodies =
    ap (λ n. parts_uses sizes n ++ all (map body_uses bodies)) (length-map bodies body_uses)
    ∙ ap (λ us. parts_uses sizes (length bodies) ++ us) (flat_map_of_map body_uses bodies)

pub item_Subdiv : (axis : Axis) (sizes : List Size) (bodies : List Body)
    → item_uses (i.Subdiv axis sizes bodies) ≡ parts_uses sizes (length bodies) ++ flat_map body_uses bodies
unfolding item_uses body_uses
item_Subdiv axis sizes bodies =
    ap item_uses (sym (i.rolls-Subdiv axis sizes bodies)) ∙ fold-roll-Item Uses Uses item_step body_step (item.Subdiv axis sizes bodies)
    ∙ parts_of_map sizes bodies

pub item_Repeat : (axis : Axis) (step : Expr) (body : Body)
    → item_uses (i.Repeat axis step body) ≡ expr_uses step ++ body_uses body
unfolding item_uses body_uses
item_Repeat axis step body = ap item_uses (sym (i.rolls-Repeat axis step body)) ∙ fold-roll-Item Uses Uses item_step body_step (item.Repeat axis step body)

pub item_Comp : (selector : Selector) (body : Body) → item_uses (i.Comp selector body) ≡ body_uses body
unfolding item_uses body_uses
item_Comp selector body = ap item_uses (sym (i.rolls-Comp selector body)) ∙ fold-roll-Item Uses Uses item_step body_step (item.Comp selector body)

-- a child uses its symbol with the number of its arguments, and then what the arguments use
pub item_Child : (symbol : List ℕ) (args : List Expr)
    → item_uses (i.Child symbol args) ≡ only (Child symbol (length args)) ++ flat_map expr_uses args
unfolding item_uses
item_Child symbol args = ap item_uses (sym (i.rolls-Child symbol args)) ∙ fold-roll-Item Uses Uses item_step body_step (item.Child symbol args)

pub ruleset exprs = (
  expr_out,
  term_out,
  added_out,
  scaled_out,
  factor_out,
  primary_Number,
  primary_Named,
  primary_ScopeSize,
  primary_Group,
  primary_Floor,
  primary_Ceil,
  primary_Rand,
  sifted_append,
  sifted_none,
)

pub ruleset conds = (cond_out, conj_out, test_Group, test_Not, test_Occ, test_Compare, sifted_append, sifted_none)

pub ruleset items = (body_out, item_Move, item_Resize, item_Rotate, item_Scoped, item_Solid, item_Subdiv, item_Repeat, item_Comp, item_Child, sifted_append, sifted_none)
