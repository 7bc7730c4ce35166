-- What a rule uses, in reading order.
use Rattle.std.specs.Prelude.{ℕ, List, [], ◌∷◌, ◌++◌, length, flat_map, Bool, nat_eq, Option, Some, None}
use Rattle.std.specs.List.{list_any}
use lib.Pointwise.{pointwise}
use Rattle.cga_rule.specs.declared.expr.Expr.{Expr, Expr-F}
use Rattle.cga_rule.specs.declared.expr.Term.{Term, Term-F}
use Rattle.cga_rule.specs.declared.expr.Added.{Added, Added-F}
use Rattle.cga_rule.specs.declared.expr.Scaled.{Scaled, Scaled-F}
use Rattle.cga_rule.specs.declared.expr.Factor.{Factor, Factor-F}
use Rattle.cga_rule.specs.declared.expr.Primary.{Primary, Primary-F}
use Rattle.cga_rule.specs.declared.expr.Primary.TheFolds.{fold-Expr, fold-Term, fold-Added, fold-Scaled, fold-Factor, fold-Primary}
use Rattle.cga_rule.specs.declared.expr.Primary.TheOpen as primary
use Rattle.cga_rule.specs.declared.cond.Cond.{Cond, Cond-F}
use Rattle.cga_rule.specs.declared.cond.Conj.{Conj, Conj-F}
use Rattle.cga_rule.specs.declared.cond.Test.{Test, Test-F}
use Rattle.cga_rule.specs.declared.cond.Test.TheFolds.{fold-Cond, fold-Conj, fold-Test}
use Rattle.cga_rule.specs.declared.cond.Test.TheOpen as test
use Rattle.cga_rule.specs.declared.item.Size.{Size}
use Rattle.cga_rule.specs.declared.item.Size.TheVariants as size
use Rattle.cga_rule.specs.declared.item.Body.{Body, Body-F}
use Rattle.cga_rule.specs.declared.item.Item.{Item, Item-F}
use Rattle.cga_rule.specs.declared.item.Item.TheFolds.{fold-Body, fold-Item}
use Rattle.cga_rule.specs.declared.item.Item.TheOpen as item
use Rattle.cga_rule.specs.declared.rule.Alternative.{Alternative}
use Rattle.cga_rule.specs.declared.rule.Rule.{Rule}
use Rattle.cga_check.specs.declared.usage.Use.{Use}
use Rattle.cga_check.specs.declared.usage.Use.TheVariants.{Answer, Child, Parts, Named}

abbrev pub Uses : Type 0
Uses = List Use

-- one use alone
unfoldable pub only : Use → Uses
only u = u ∷ []

-- those of parts, one after the other
abbrev pub all : List Uses → Uses
all = flat_map (λ us. us)

-- ---- expressions

abbrev pub primary_step : Primary-F Uses Uses Uses Uses Uses Uses → Uses
primary_step (primary.Number value) = []
primary_step (primary.Named name) = only (Named name)
primary_step (primary.ScopeSize axis) = []
primary_step (primary.Group e) = e
primary_step (primary.Floor e) = e
primary_step (primary.Ceil e) = e
primary_step (primary.Rand number low high steps) = low ++ high

abbrev pub added_step : Added-F Uses Uses Uses Uses Uses Uses → Uses
added_step a = a.term

abbrev pub expr_step : Expr-F Uses Uses Uses Uses Uses Uses → Uses
expr_step e = e.first ++ all e.rest

abbrev pub factor_step : Factor-F Uses Uses Uses Uses Uses Uses → Uses
factor_step f = f.primary

abbrev pub scaled_step : Scaled-F Uses Uses Uses Uses Uses Uses → Uses
scaled_step s = s.factor

abbrev pub term_step : Term-F Uses Uses Uses Uses Uses Uses → Uses
term_step t = t.first ++ all t.rest

unfoldable pub primary_uses : Primary → Uses
primary_uses = fold-Primary Uses Uses Uses Uses Uses Uses primary_step added_step expr_step factor_step scaled_step term_step

unfoldable pub factor_uses : Factor → Uses
factor_uses = fold-Factor Uses Uses Uses Uses Uses Uses primary_step added_step expr_step factor_step scaled_step term_step

unfoldable pub scaled_uses : Scaled → Uses
scaled_uses = fold-Scaled Uses Uses Uses Uses Uses Uses primary_step added_step expr_step factor_step scaled_step term_step

unfoldable pub term_uses : Term → Uses
term_uses = fold-Term Uses Uses Uses Uses Uses Uses primary_step added_step expr_step factor_step scaled_step term_step

unfoldable pub added_uses : Added → Uses
added_uses = fold-Added Uses Uses Uses Uses Uses Uses primary_step added_step expr_step factor_step scaled_step term_step

-- its names
unfoldable pub expr_uses : Expr → Uses
expr_uses = fold-Expr Uses Uses Uses Uses Uses Uses primary_step added_step expr_step factor_step scaled_step term_step

-- ---- conditions

abbrev pub test_step : Test-F Uses Uses Uses → Uses
test_step (test.Group c) = c
test_step (test.Not c) = c
test_step (test.Occ target equal state) = only (Answer target)
test_step (test.Compare left relation right) = expr_uses left ++ expr_uses right

abbrev pub conj_step : Conj-F Uses Uses Uses → Uses
conj_step c = all c.tests

abbrev pub cond_step : Cond-F Uses Uses Uses → Uses
cond_step c = all c.conjs

unfoldable pub test_uses : Test → Uses
test_uses = fold-Test Uses Uses Uses test_step cond_step conj_step

unfoldable pub conj_uses : Conj → Uses
conj_uses = fold-Conj Uses Uses Uses test_step cond_step conj_step

-- its names and the targets that it asks for
unfoldable pub cond_uses : Cond → Uses
cond_uses = fold-Cond Uses Uses Uses test_step cond_step conj_step

-- ---- items

abbrev pub size_uses : Size → Uses
size_uses (size.Relative factor) = []
size_uses (size.Absolute value) = expr_uses value

-- a Subdiv before its sizes
abbrev pub parts_uses : List Size → ℕ → Uses
parts_uses sizes bodies = only (Parts (length sizes) bodies) ++ flat_map size_uses sizes

abbrev pub item_step : Item-F Uses Uses → Uses
item_step (item.Move x y z) = expr_uses x ++ (expr_uses y ++ expr_uses z)
item_step (item.Resize x y z) = size_uses x ++ (size_uses y ++ size_uses z)
item_step (item.Rotate axis by) = []
item_step (item.Scoped items) = all items
item_step (item.Solid primitive) = []
item_step (item.Subdiv axis sizes bodies) = parts_uses sizes (length bodies) ++ all bodies
item_step (item.Repeat axis step body) = expr_uses step ++ body
item_step (item.Comp selector body) = body
item_step (item.Child symbol args) = only (Child symbol (length args)) ++ flat_map expr_uses args

abbrev pub body_step : Body-F Uses Uses → Uses
body_step b = all b.items

unfoldable pub body_uses : Body → Uses
body_uses = fold-Body Uses Uses item_step body_step

-- what it names, with a child before its arguments
unfoldable pub item_uses : Item → Uses
item_uses = fold-Item Uses Uses item_step body_step

-- ---- rules

abbrev pub condition_uses : Option Cond → Uses
condition_uses None = []
condition_uses (Some c) = cond_uses c

abbrev pub alternative_uses : Alternative → Uses
alternative_uses a = flat_map item_uses a.items

-- first its condition, and then its alternatives
unfoldable pub rule_uses : Rule → Uses
rule_uses r = condition_uses r.cond ++ flat_map alternative_uses r.alternatives

-- ---- mentions

abbrev pub same_name : List ℕ → List ℕ → Bool
same_name = pointwise nat_eq

-- a name is among names
abbrev pub has_name : List (List ℕ) → List ℕ → Bool
has_name names name = list_any (λ x. same_name x name) names
