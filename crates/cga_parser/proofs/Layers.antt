-- One layer of the pieces of an expression.
use Rattle.std.proofs.Common.{◌≡◌, ℕ, List, [], ◌∷◌, ◌++◌, map, Bool, if◌then◌else◌, ap, sym, ◌∙◌}
use Rattle.cga_fraction.specs.Rat.{Rat}
use Rattle.cga_lexer.specs.declared.sign.Sign.TheVariants as s
use Rattle.cga_word.specs.declared.axis.Axis.{Axis}
use Rattle.cga_syntax.specs.declared.keyword.Keyword.TheVariants as k
use Rattle.cga_syntax.specs.declared.lexeme.Lexeme.TheVariants as lexeme
use Rattle.cga_rule.specs.declared.expr.Expr.{Expr, roll-Expr}
use Rattle.cga_rule.specs.declared.expr.Term.{Term, roll-Term}
use Rattle.cga_rule.specs.declared.expr.Added.{Added, roll-Added}
use Rattle.cga_rule.specs.declared.expr.Scaled.{Scaled}
use Rattle.cga_rule.specs.declared.expr.Factor.{Factor}
use Rattle.cga_rule.specs.declared.expr.Primary.{Primary}
use Rattle.cga_rule.specs.declared.expr.Primary.TheVariants.{Number, rolls-Number, Named, rolls-Named, ScopeSize}
use Rattle.cga_rule.specs.declared.expr.Primary.TheVariants.{rolls-ScopeSize, Group, rolls-Group, Floor, rolls-Floor}
use Rattle.cga_rule.specs.declared.expr.Primary.TheVariants.{Ceil, rolls-Ceil, Rand, rolls-Rand}
use Rattle.cga_rule.specs.declared.expr.Primary.TheFolds.{fold-roll-Expr, fold-roll-Term, fold-roll-Added, fold_out-Scaled, fold_out-Factor, fold-roll-Primary}
use Rattle.cga_rule.specs.declared.expr.Primary.TheOpen as layer
use Rattle.cga_syntax.specs.declared.print.space.Space.TheVariants.{NoneAfter}
use Rattle.cga_syntax.specs.Pieces.{Pieces, plain, token, drawn, sign, keyword, word, named, whole, concat, grouped}
use Rattle.cga_syntax.specs.Pieces.{size_word, expr_pieces, term_pieces, added_pieces, scaled_pieces, factor_pieces}
use Rattle.cga_syntax.specs.Pieces.{primary_pieces, primary_step, added_step, expr_step, factor_step, scaled_step}
use Rattle.cga_syntax.specs.Pieces.{term_step}

pub expr_layer : (t : Term) (rest : List Added)
    → expr_pieces (roll-Expr (record { first = t; rest = rest })) ≡ term_pieces t ++ concat (map added_pieces rest)
unfolding expr_pieces term_pieces added_pieces
expr_layer t rest = fold-roll-Expr Pieces Pieces Pieces Pieces Pieces Pieces primary_step added_step expr_step factor_step scaled_step term_step (record { first = t; rest = rest })

pub term_layer : (f : Factor) (rest : List Scaled)
    → term_pieces (roll-Term (record { first = f; rest = rest })) ≡ factor_pieces f ++ concat (map scaled_pieces rest)
unfolding term_pieces factor_pieces scaled_pieces
term_layer f rest = fold-roll-Term Pieces Pieces Pieces Pieces Pieces Pieces primary_step added_step expr_step factor_step scaled_step term_step (record { first = f; rest = rest })

pub added_layer : (minus : Bool) (t : Term)
    → added_pieces (roll-Added (record { minus = minus; term = t })) ≡ sign (if minus then s.Minus else s.Plus) ∷
    term_pieces t
unfolding added_pieces term_pieces
added_layer minus t = fold-roll-Added Pieces Pieces Pieces Pieces Pieces Pieces primary_step added_step expr_step factor_step scaled_step term_step (record { minus = minus; term = t })

pub scaled_layer : (divide : Bool) (f : Factor)
    → scaled_pieces (record { divide = divide; factor = f }) ≡ sign (if divide then s.Slash else s.Star) ∷
    factor_pieces f
unfolding scaled_pieces factor_pieces
scaled_layer divide f = fold_out-Scaled Pieces Pieces Pieces Pieces Pieces Pieces primary_step added_step expr_step factor_step scaled_step term_step (record { divide = divide; factor = f })

pub factor_layer : (minus : Bool) (p : Primary)
    → factor_pieces (record { minus = minus; primary = p }) ≡
    (if minus then token NoneAfter (lexeme.Sign s.Minus) ∷ primary_pieces p else primary_pieces p)
unfolding factor_pieces primary_pieces
factor_layer minus p = fold_out-Factor Pieces Pieces Pieces Pieces Pieces Pieces primary_step added_step expr_step factor_step scaled_step term_step (record { minus = minus; primary = p })

pub number_layer : (value : Rat) → primary_pieces (Number value) ≡ plain (lexeme.Number value) ∷ []
unfolding primary_pieces expr_pieces
number_layer value = ap primary_pieces (sym (rolls-Number value)) ∙ fold-roll-Primary Pieces Pieces Pieces Pieces
    Pieces Pieces primary_step added_step expr_step factor_step scaled_step term_step (layer.Number value)

pub named_layer : (name : List ℕ) → primary_pieces (Named name) ≡ named name ∷ []
unfolding primary_pieces expr_pieces
named_layer name = ap primary_pieces (sym (rolls-Named name)) ∙ fold-roll-Primary Pieces Pieces Pieces Pieces
    Pieces Pieces primary_step added_step expr_step factor_step scaled_step term_step (layer.Named name)

pub size_layer : (a : Axis) → primary_pieces (ScopeSize a) ≡ keyword k.Scope ∷ sign s.Dot ∷ word (size_word a) ∷ []
unfolding primary_pieces expr_pieces
size_layer a = ap primary_pieces (sym (rolls-ScopeSize a)) ∙ fold-roll-Primary Pieces Pieces Pieces Pieces Pieces
    Pieces primary_step added_step expr_step factor_step scaled_step term_step (layer.ScopeSize a)

pub group_layer : (e : Expr) → primary_pieces (Group e) ≡ grouped (expr_pieces e)
unfolding primary_pieces expr_pieces
group_layer e = ap primary_pieces (sym (rolls-Group e)) ∙ fold-roll-Primary Pieces Pieces Pieces Pieces Pieces
    Pieces primary_step added_step expr_step factor_step scaled_step term_step (layer.Group e)

pub floor_layer : (e : Expr) → primary_pieces (Floor e) ≡ keyword k.Floor ∷ grouped (expr_pieces e)
unfolding primary_pieces expr_pieces
floor_layer e = ap primary_pieces (sym (rolls-Floor e)) ∙ fold-roll-Primary Pieces Pieces Pieces Pieces Pieces
    Pieces primary_step added_step expr_step factor_step scaled_step term_step (layer.Floor e)

pub ceil_layer : (e : Expr) → primary_pieces (Ceil e) ≡ keyword k.Ceil ∷ grouped (expr_pieces e)
unfolding primary_pieces expr_pieces
ceil_layer e = ap primary_pieces (sym (rolls-Ceil e)) ∙ fold-roll-Primary Pieces Pieces Pieces Pieces Pieces Pieces primary_step added_step expr_step factor_step scaled_step term_step (layer.Ceil e)

pub rand_layer : (j : ℕ) (low high : Expr) (steps : ℕ)
    → primary_pieces (Rand j low high steps) ≡ drawn j ∷ sign s.LeftRound ∷
    (expr_pieces low ++ (sign s.Comma ∷
    (expr_pieces high ++ (sign s.Comma ∷ whole 1 1000000 steps ∷ sign s.RightRound ∷ []))))
unfolding primary_pieces expr_pieces
rand_layer j low high steps = ap primary_pieces (sym (rolls-Rand j low high steps))
    ∙ fold-roll-Primary Pieces Pieces Pieces Pieces Pieces Pieces primary_step added_step expr_step factor_step
    scaled_step term_step (layer.Rand j low high steps)
