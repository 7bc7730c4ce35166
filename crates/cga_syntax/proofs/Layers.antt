-- One layer of the pieces of a tree that is read.
use Rattle.std.proofs.Common.{◌≡◌, ℕ, List, [], ◌∷◌, ◌++◌, map, if◌then◌else◌, ap, sym, ◌∙◌}
use Rattle.cga_lexer.specs.declared.sign.Sign.TheVariants as s
use Rattle.cga_rule.specs.declared.expr.Expr.{Expr, out-Expr}
use Rattle.cga_rule.specs.declared.expr.Term.{Term, out-Term}
use Rattle.cga_rule.specs.declared.expr.Added.{Added, out-Added}
use Rattle.cga_rule.specs.declared.expr.Primary.TheFolds.{fold_out-Expr, fold_out-Term, fold_out-Added, fold-roll-Primary}
use Rattle.cga_rule.specs.declared.expr.Primary.{Primary}
use Rattle.cga_rule.specs.declared.expr.Primary.TheVariants.{Rand, rolls-Rand}
use Rattle.cga_rule.specs.declared.expr.Primary.TheOpen as layer
use Rattle.cga_syntax.specs.declared.print.mark.Mark.{Mark}
use Rattle.cga_syntax.specs.Printing.{printed_on}
use Rattle.cga_syntax.proofs.Printed.{on_join}
use Rattle.cga_syntax.specs.Pieces.{Pieces, sign, concat, drawn, whole, primary_pieces, expr_pieces, term_pieces}
use Rattle.cga_syntax.specs.Pieces.{added_pieces, scaled_pieces, primary_step, added_step, expr_step, factor_pieces}
use Rattle.cga_syntax.specs.Pieces.{factor_step, scaled_step, term_step}

pub expr_out : (e : Expr)
    → expr_pieces e ≡ term_pieces (out-Expr e).first ++ concat (map added_pieces (out-Expr e).rest)
unfolding expr_pieces term_pieces added_pieces
expr_out e = fold_out-Expr Pieces Pieces Pieces Pieces Pieces Pieces primary_step added_step expr_step factor_step scaled_step term_step e

pub term_out : (t : Term)
    → term_pieces t ≡ factor_pieces (out-Term t).first ++ concat (map scaled_pieces (out-Term t).rest)
unfolding term_pieces factor_pieces scaled_pieces
term_out t = fold_out-Term Pieces Pieces Pieces Pieces Pieces Pieces primary_step added_step expr_step factor_step scaled_step term_step t

pub added_out : (a : Added)
    → added_pieces a ≡ sign (if (out-Added a).minus then s.Minus else s.Plus) ∷ term_pieces (out-Added a).term
unfolding added_pieces term_pieces
added_out a = fold_out-Added Pieces Pieces Pieces Pieces Pieces Pieces primary_step added_step expr_step factor_step scaled_step term_step a

pub rand_out : (j : ℕ) (low high : Expr) (steps : ℕ)
    → primary_pieces (Rand j low high steps) ≡ drawn j ∷ sign s.LeftRound ∷
    (expr_pieces low ++ (sign s.Comma ∷
    (expr_pieces high ++ (sign s.Comma ∷ whole 1 1000000 steps ∷ sign s.RightRound ∷ []))))
unfolding primary_pieces expr_pieces
rand_out j low high steps = ap primary_pieces (sym (rolls-Rand j low high steps)) ∙ fold-roll-Primary Pieces Pieces
    Pieces Pieces Pieces Pieces primary_step added_step expr_step factor_step scaled_step term_step (layer.Rand j low high steps)

-- the tokens of a rand, one part after the other
module _ (p : Primary) (j : ℕ) (low high : Expr) (steps : ℕ) (is : p ≡ Rand j low high steps) where
  pub rand_on : (ms m2 m3 m4 : List Mark) (x y : Expr) → x ≡ low → y ≡ high →
      m2 ≡ printed_on ms (drawn j ∷ sign s.LeftRound ∷ []) →
      m3 ≡ printed_on (printed_on m2 (expr_pieces x)) (sign s.Comma ∷ []) →
      m4 ≡ printed_on (printed_on m3 (expr_pieces y)) (sign s.Comma ∷ []) →
      printed_on m4 (whole 1 1000000 steps ∷ sign s.RightRound ∷ []) ≡ printed_on ms (primary_pieces p)
  rand_on ms m2 m3 m4 x y e f h2 h3 h4 =
      let a : Pieces = expr_pieces x in
      let b : Pieces = expr_pieces y in
      let end : Pieces = whole 1 1000000 steps ∷ sign s.RightRound ∷ [] in
      ap (λ z. printed_on z end) h4
      ∙ sym (on_join m3 b (sign s.Comma ∷ end))
      ∙ ap (λ z. printed_on z (b ++ (sign s.Comma ∷ end))) h3
      ∙ sym (on_join m2 a (sign s.Comma ∷ (b ++ (sign s.Comma ∷ end))))
      ∙ ap (λ z. printed_on z (a ++ (sign s.Comma ∷ (b ++ (sign s.Comma ∷ end))))) h2
      ∙ ap (λ z. printed_on ms (drawn j ∷ sign s.LeftRound ∷ (expr_pieces z ++ (sign s.Comma ∷ (b ++ (sign s.Comma ∷ end)))))) e
      ∙ ap (λ z. printed_on ms (drawn j ∷ sign s.LeftRound ∷ (expr_pieces low ++ (sign s.Comma ∷ (expr_pieces z ++ (sign s.Comma ∷ end)))))) f
      ∙ ap (printed_on ms) (sym (ap primary_pieces is ∙ rand_out j low high steps))
