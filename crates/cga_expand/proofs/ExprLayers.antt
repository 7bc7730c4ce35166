-- What a layer of an expression comes to and which names it uses, from what its parts come to and use.
use Rattle.std.proofs.Common.{◌≡◌, List}
use Rattle.cga_rule.specs.declared.expr.Expr.{Expr, Expr-F, roll-Expr}
use Rattle.cga_rule.specs.declared.expr.Term.{Term, Term-F, roll-Term}
use Rattle.cga_rule.specs.declared.expr.Added.{Added, Added-F, roll-Added}
use Rattle.cga_rule.specs.declared.expr.Scaled.{Scaled, Scaled-F, roll-Scaled}
use Rattle.cga_rule.specs.declared.expr.Factor.{Factor, Factor-F, roll-Factor}
use Rattle.cga_rule.specs.declared.expr.Primary.{Primary, Primary-F, roll-Primary}
use Rattle.cga_rule.specs.declared.expr.Primary.TheFolds.{fold-roll-Expr, fold-roll-Term, fold-roll-Added}
use Rattle.cga_rule.specs.declared.expr.Primary.TheFolds.{fold-roll-Scaled, fold-roll-Factor, fold-roll-Primary}
use Rattle.cga_rule.specs.declared.expr.Primary.TheFolds.{map-Expr, map-Term, map-Added, map-Scaled, map-Factor}
use Rattle.cga_rule.specs.declared.expr.Primary.TheFolds.{map-Primary}
use Rattle.cga_check.specs.declared.usage.Use.{Use}
use Rattle.cga_check.specs.Uses as used
use Rattle.cga_expr.specs.Value as value

abbrev pub primary_meant : Primary-F Primary Added Expr Factor Scaled Term
    → Primary-F value.Meaning value.Marked value.Meaning value.Meaning value.Marked value.Meaning
primary_meant x = map-Primary Primary Added Expr Factor Scaled Term value.Meaning value.Marked value.Meaning
    value.Meaning value.Marked value.Meaning value.primary_value value.added_value value.expr_value value.factor_value value.scaled_value value.term_value x

abbrev pub primary_used : Primary-F Primary Added Expr Factor Scaled Term
    → Primary-F (List Use) (List Use) (List Use) (List Use) (List Use) (List Use)
primary_used x = map-Primary Primary Added Expr Factor Scaled Term (List Use) (List Use) (List Use) (List Use)
    (List Use) (List Use) used.primary_uses used.added_uses used.expr_uses used.factor_uses used.scaled_uses used.term_uses x

pub primary_value : (x : Primary-F Primary Added Expr Factor Scaled Term)
    → value.primary_value (roll-Primary x) ≡ value.primary_step (primary_meant x)
unfolding value.primary_value value.added_value value.expr_value value.factor_value value.scaled_value value.term_value
primary_value x = fold-roll-Primary value.Meaning value.Marked value.Meaning value.Meaning value.Marked
    value.Meaning value.primary_step value.added_step value.expr_step value.factor_step value.scaled_step value.term_step x

pub primary_uses : (x : Primary-F Primary Added Expr Factor Scaled Term)
    → used.primary_uses (roll-Primary x) ≡ used.primary_step (primary_used x)
unfolding used.primary_uses used.added_uses used.expr_uses used.factor_uses used.scaled_uses used.term_uses
primary_uses x = fold-roll-Primary (List Use) (List Use) (List Use) (List Use) (List Use) (List Use) used.primary_step used.added_step used.expr_step used.factor_step used.scaled_step used.term_step x

abbrev pub added_meant : Added-F Primary Added Expr Factor Scaled Term
    → Added-F value.Meaning value.Marked value.Meaning value.Meaning value.Marked value.Meaning
added_meant x = map-Added Primary Added Expr Factor Scaled Term value.Meaning value.Marked value.Meaning
    value.Meaning value.Marked value.Meaning value.primary_value value.added_value value.expr_value value.factor_value value.scaled_value value.term_value x

abbrev pub added_used : Added-F Primary Added Expr Factor Scaled Term
    → Added-F (List Use) (List Use) (List Use) (List Use) (List Use) (List Use)
added_used x = map-Added Primary Added Expr Factor Scaled Term (List Use) (List Use) (List Use) (List Use)
    (List Use) (List Use) used.primary_uses used.added_uses used.expr_uses used.factor_uses used.scaled_uses used.term_uses x

pub added_value : (x : Added-F Primary Added Expr Factor Scaled Term)
    → value.added_value (roll-Added x) ≡ value.added_step (added_meant x)
unfolding value.primary_value value.added_value value.expr_value value.factor_value value.scaled_value value.term_value
added_value x = fold-roll-Added value.Meaning value.Marked value.Meaning value.Meaning value.Marked value.Meaning
    value.primary_step value.added_step value.expr_step value.factor_step value.scaled_step value.term_step x

pub added_uses : (x : Added-F Primary Added Expr Factor Scaled Term)
    → used.added_uses (roll-Added x) ≡ used.added_step (added_used x)
unfolding used.primary_uses used.added_uses used.expr_uses used.factor_uses used.scaled_uses used.term_uses
added_uses x = fold-roll-Added (List Use) (List Use) (List Use) (List Use) (List Use) (List Use) used.primary_step used.added_step used.expr_step used.factor_step used.scaled_step used.term_step x

abbrev pub expr_meant : Expr-F Primary Added Expr Factor Scaled Term
    → Expr-F value.Meaning value.Marked value.Meaning value.Meaning value.Marked value.Meaning
expr_meant x = map-Expr Primary Added Expr Factor Scaled Term value.Meaning value.Marked value.Meaning
    value.Meaning value.Marked value.Meaning value.primary_value value.added_value value.expr_value value.factor_value value.scaled_value value.term_value x

abbrev pub expr_used : Expr-F Primary Added Expr Factor Scaled Term
    → Expr-F (List Use) (List Use) (List Use) (List Use) (List Use) (List Use)
expr_used x = map-Expr Primary Added Expr Factor Scaled Term (List Use) (List Use) (List Use) (List Use) (List Use)
    (List Use) used.primary_uses used.added_uses used.expr_uses used.factor_uses used.scaled_uses used.term_uses x

pub expr_value : (x : Expr-F Primary Added Expr Factor Scaled Term)
    → value.expr_value (roll-Expr x) ≡ value.expr_step (expr_meant x)
unfolding value.primary_value value.added_value value.expr_value value.factor_value value.scaled_value value.term_value
expr_value x = fold-roll-Expr value.Meaning value.Marked value.Meaning value.Meaning value.Marked value.Meaning
    value.primary_step value.added_step value.expr_step value.factor_step value.scaled_step value.term_step x

pub expr_uses : (x : Expr-F Primary Added Expr Factor Scaled Term)
    → used.expr_uses (roll-Expr x) ≡ used.expr_step (expr_used x)
unfolding used.primary_uses used.added_uses used.expr_uses used.factor_uses used.scaled_uses used.term_uses
expr_uses x = fold-roll-Expr (List Use) (List Use) (List Use) (List Use) (List Use) (List Use) used.primary_step used.added_step used.expr_step used.factor_step used.scaled_step used.term_step x

abbrev pub factor_meant : Factor-F Primary Added Expr Factor Scaled Term
    → Factor-F value.Meaning value.Marked value.Meaning value.Meaning value.Marked value.Meaning
factor_meant x = map-Factor Primary Added Expr Factor Scaled Term value.Meaning value.Marked value.Meaning
    value.Meaning value.Marked value.Meaning value.primary_value value.added_value value.expr_value value.factor_value value.scaled_value value.term_value x

abbrev pub factor_used : Factor-F Primary Added Expr Factor Scaled Term
    → Factor-F (List Use) (List Use) (List Use) (List Use) (List Use) (List Use)
factor_used x = map-Factor Primary Added Expr Factor Scaled Term (List Use) (List Use) (List Use) (List Use)
    (List Use) (List Use) used.primary_uses used.added_uses used.expr_uses used.factor_uses used.scaled_uses used.term_uses x

pub factor_value : (x : Factor-F Primary Added Expr Factor Scaled Term)
    → value.factor_value (roll-Factor x) ≡ value.factor_step (factor_meant x)
unfolding value.primary_value value.added_value value.expr_value value.factor_value value.scaled_value value.term_value
factor_value x = fold-roll-Factor value.Meaning value.Marked value.Meaning value.Meaning value.Marked value.Meaning
    value.primary_step value.added_step value.expr_step value.factor_step value.scaled_step value.term_step x

pub factor_uses : (x : Factor-F Primary Added Expr Factor Scaled Term)
    → used.factor_uses (roll-Factor x) ≡ used.factor_step (factor_used x)
unfolding used.primary_uses used.added_uses used.expr_uses used.factor_uses used.scaled_uses used.term_uses
factor_uses x = fold-roll-Factor (List Use) (List Use) (List Use) (List Use) (List Use) (List Use) used.primary_step used.added_step used.expr_step used.factor_step used.scaled_step used.term_step x

abbrev pub scaled_meant : Scaled-F Primary Added Expr Factor Scaled Term
    → Scaled-F value.Meaning value.Marked value.Meaning value.Meaning value.Marked value.Meaning
scaled_meant x = map-Scaled Primary Added Expr Factor Scaled Term value.Meaning value.Marked value.Meaning
    value.Meaning value.Marked value.Meaning value.primary_value value.added_value value.expr_value value.factor_value value.scaled_value value.term_value x

abbrev pub scaled_used : Scaled-F Primary Added Expr Factor Scaled Term
    → Scaled-F (List Use) (List Use) (List Use) (List Use) (List Use) (List Use)
scaled_used x = map-Scaled Primary Added Expr Factor Scaled Term (List Use) (List Use) (List Use) (List Use)
    (List Use) (List Use) used.primary_uses used.added_uses used.expr_uses used.factor_uses used.scaled_uses used.term_uses x

pub scaled_value : (x : Scaled-F Primary Added Expr Factor Scaled Term)
    → value.scaled_value (roll-Scaled x) ≡ value.scaled_step (scaled_meant x)
unfolding value.primary_value value.added_value value.expr_value value.factor_value value.scaled_value value.term_value
scaled_value x = fold-roll-Scaled value.Meaning value.Marked value.Meaning value.Meaning value.Marked value.Meaning
    value.primary_step value.added_step value.expr_step value.factor_step value.scaled_step value.term_step x

pub scaled_uses : (x : Scaled-F Primary Added Expr Factor Scaled Term)
    → used.scaled_uses (roll-Scaled x) ≡ used.scaled_step (scaled_used x)
unfolding used.primary_uses used.added_uses used.expr_uses used.factor_uses used.scaled_uses used.term_uses
scaled_uses x = fold-roll-Scaled (List Use) (List Use) (List Use) (List Use) (List Use) (List Use) used.primary_step used.added_step used.expr_step used.factor_step used.scaled_step used.term_step x

abbrev pub term_meant : Term-F Primary Added Expr Factor Scaled Term
    → Term-F value.Meaning value.Marked value.Meaning value.Meaning value.Marked value.Meaning
term_meant x = map-Term Primary Added Expr Factor Scaled Term value.Meaning value.Marked value.Meaning
    value.Meaning value.Marked value.Meaning value.primary_value value.added_value value.expr_value value.factor_value value.scaled_value value.term_value x

abbrev pub term_used : Term-F Primary Added Expr Factor Scaled Term
    → Term-F (List Use) (List Use) (List Use) (List Use) (List Use) (List Use)
term_used x = map-Term Primary Added Expr Factor Scaled Term (List Use) (List Use) (List Use) (List Use) (List Use)
    (List Use) used.primary_uses used.added_uses used.expr_uses used.factor_uses used.scaled_uses used.term_uses x

pub term_value : (x : Term-F Primary Added Expr Factor Scaled Term)
    → value.term_value (roll-Term x) ≡ value.term_step (term_meant x)
unfolding value.primary_value value.added_value value.expr_value value.factor_value value.scaled_value value.term_value
term_value x = fold-roll-Term value.Meaning value.Marked value.Meaning value.Meaning value.Marked value.Meaning
    value.primary_step value.added_step value.expr_step value.factor_step value.scaled_step value.term_step x

pub term_uses : (x : Term-F Primary Added Expr Factor Scaled Term)
    → used.term_uses (roll-Term x) ≡ used.term_step (term_used x)
unfolding used.primary_uses used.added_uses used.expr_uses used.factor_uses used.scaled_uses used.term_uses
term_uses x = fold-roll-Term (List Use) (List Use) (List Use) (List Use) (List Use) (List Use) used.primary_step used.added_step used.expr_step used.factor_step used.scaled_step used.term_step x
