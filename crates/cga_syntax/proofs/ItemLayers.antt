-- One layer of the pieces of a body or an item that is read.
use Rattle.std.proofs.Common.{◌≡◌, List, [], ◌∷◌, ◌++◌, map, ap, sym, ◌∙◌}
use Rattle.cga_lexer.specs.declared.sign.Sign.TheVariants as s
use Rattle.cga_word.specs.declared.axis.Axis.{Axis}
use Rattle.cga_syntax.specs.declared.keyword.Keyword.TheVariants as k
use Rattle.cga_rule.specs.declared.expr.Expr.{Expr}
use Rattle.cga_rule.specs.declared.item.Size.{Size}
use Rattle.cga_rule.specs.declared.item.Body.{Body, out-Body}
use Rattle.cga_rule.specs.declared.item.Item.{Item}
use Rattle.cga_rule.specs.declared.item.Item.TheVariants.{Subdiv, rolls-Subdiv, Repeat, rolls-Repeat}
use Rattle.cga_rule.specs.declared.item.Item.TheFolds.{fold_out-Body, fold-roll-Item}
use Rattle.cga_rule.specs.declared.item.Item.TheOpen as layer
use Rattle.cga_syntax.specs.declared.print.mark.Mark.{Mark}
use Rattle.cga_syntax.specs.Pieces.{Pieces, keyword, sign, text, axis_text, preceded, in_curly, body_of, expr_pieces, size_pieces, item_pieces, body_pieces, item_step, body_step}
use Rattle.cga_syntax.specs.Forms.{subdivided, bodies_of, repeated}
use Rattle.cga_syntax.specs.Printing.{printed_on}
use Rattle.cga_syntax.proofs.Printed.{on_join, preceded_cut}

pub body_out : (b : Body) → body_pieces b ≡ body_of (map item_pieces (out-Body b).items)
unfolding body_pieces item_pieces
body_out b = fold_out-Body Pieces Pieces item_step body_step b

pub subdiv_out : (a : Axis) (sizes : List Size) (bodies : List Body) → item_pieces (Subdiv a sizes bodies) ≡
    keyword k.Subdiv ∷ sign s.LeftRound ∷ text (axis_text a) ∷ preceded (sign s.Comma) (map size_pieces sizes) (sign s.RightRound ∷ bodies_of (map body_pieces bodies))
unfolding item_pieces body_pieces
subdiv_out a sizes bodies = ap item_pieces (sym (rolls-Subdiv a sizes bodies)) ∙ fold-roll-Item Pieces Pieces item_step body_step (layer.Subdiv a sizes bodies)

pub repeat_out : (a : Axis) (length : Expr) (body : Body) → item_pieces (Repeat a length body) ≡
    keyword k.Repeat ∷ sign s.LeftRound ∷ text (axis_text a) ∷ sign s.Comma ∷ (expr_pieces length ++ (sign s.RightRound ∷ in_curly (body_pieces body)))
unfolding item_pieces body_pieces
repeat_out a length body = ap item_pieces (sym (rolls-Repeat a length body)) ∙ fold-roll-Item Pieces Pieces item_step body_step (layer.Repeat a length body)

-- the tokens of a Subdiv, first those before its bodies
pub subdiv_on : (i : Item) (ms middle : List Mark) (a : Axis) (xs sizes : List Size) (ys bodies : List Body)
    → i ≡ Subdiv a sizes bodies → xs ≡ sizes → ys ≡ bodies →
    middle ≡ printed_on ms (subdivided a (map size_pieces xs)) → printed_on middle (bodies_of (map body_pieces ys)) ≡ printed_on ms (item_pieces i)
subdiv_on i ms middle a xs sizes ys bodies is e f h =
    let start : List Mark = printed_on ms (keyword k.Subdiv ∷ sign s.LeftRound ∷ text (axis_text a) ∷ []) in
    let rest : Pieces = bodies_of (map body_pieces ys) in
    ap (λ z. printed_on z rest) (h ∙ preceded_cut (sign s.Comma) start (map size_pieces xs) (sign s.RightRound ∷ []))
    ∙ sym (preceded_cut (sign s.Comma) start (map size_pieces xs) (sign s.RightRound ∷ rest))
    ∙ ap (λ z. printed_on start (preceded (sign s.Comma) (map size_pieces z) (sign s.RightRound ∷ rest))) e
    ∙ ap (λ z. printed_on start (preceded (sign s.Comma) (map size_pieces sizes) (sign s.RightRound ∷ bodies_of (map body_pieces z)))) f
    ∙ ap (printed_on ms) (sym (ap item_pieces is ∙ subdiv_out a sizes bodies))

-- the tokens of a Repeat, first those before its body
pub repeat_on : (i : Item) (ms middle : List Mark) (a : Axis) (length : Expr) (body : Body) → i ≡ Repeat a length body →
    middle ≡ printed_on ms (repeated a (expr_pieces length)) → printed_on middle (in_curly (body_pieces body)) ≡ printed_on ms (item_pieces i)
repeat_on i ms middle a length body is h =
    let start : List Mark = printed_on ms (keyword k.Repeat ∷ sign s.LeftRound ∷ text (axis_text a) ∷ sign s.Comma ∷ []) in
    let rest : Pieces = in_curly (body_pieces body) in
    ap (λ z. printed_on z rest) (h ∙ on_join start (expr_pieces length) (sign s.RightRound ∷ []))
    ∙ sym (on_join start (expr_pieces length) (sign s.RightRound ∷ rest))
    ∙ ap (printed_on ms) (sym (ap item_pieces is ∙ repeat_out a length body))
