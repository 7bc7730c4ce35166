-- What one layer of an item is written as.
use Rattle.std.proofs.Common.{◌≡◌, ℕ, List, [], ◌∷◌, ◌++◌, map, length, ap, sym, ◌∙◌}
use Rattle.cga_lexer.specs.declared.sign.Sign.TheVariants as s
use Rattle.cga_word.specs.declared.axis.Axis.{Axis}
use Rattle.cga_word.specs.declared.turn.Turn.{Turn}
use Rattle.cga_word.specs.declared.primitive.Primitive.{Primitive}
use Rattle.cga_word.specs.declared.selector.Selector.{Selector}
use Rattle.cga_syntax.specs.Lexemes.{is}
use Rattle.cga_syntax.specs.declared.keyword.Keyword.TheVariants as k
use Rattle.cga_rule.specs.declared.expr.Expr.{Expr}
use Rattle.cga_rule.specs.declared.item.Size.{Size}
use Rattle.cga_rule.specs.declared.item.Body.{Body, roll-Body}
use Rattle.cga_rule.specs.declared.item.Item.{Item}
use Rattle.cga_rule.specs.declared.item.Item.TheVariants as i
use Rattle.cga_rule.specs.declared.item.Item.TheVariants.{rolls-Move, rolls-Resize, rolls-Rotate, rolls-Scoped}
use Rattle.cga_rule.specs.declared.item.Item.TheVariants.{rolls-Solid, rolls-Subdiv, rolls-Repeat, rolls-Comp}
use Rattle.cga_rule.specs.declared.item.Item.TheVariants.{rolls-Child}
use Rattle.cga_rule.specs.declared.item.Item.TheFolds.{fold-roll-Body, fold-roll-Item}
use Rattle.cga_rule.specs.declared.item.Item.TheOpen as layer
use Rattle.cga_syntax.specs.Pieces.{turned, sign, keyword, text, named, Pieces, nonempty, separated, preceded}
use Rattle.cga_syntax.specs.Pieces.{arguments, three, body_of, in_curly, axis_text, turn_keyword, solid_text}
use Rattle.cga_syntax.specs.Pieces.{selector_pieces, size_pieces, expr_pieces, item_pieces, body_pieces, item_step}
use Rattle.cga_syntax.specs.Pieces.{body_step}

pub move_layer : (x y z : Expr)
    → item_pieces (i.Move x y z) ≡ keyword k.T ∷ three (expr_pieces x) (expr_pieces y) (expr_pieces z)
unfolding item_pieces
move_layer x y z = ap item_pieces (sym (rolls-Move x y z)) ∙ fold-roll-Item Pieces Pieces item_step body_step (layer.Move x y z)

pub resize_layer : (x y z : Size)
    → item_pieces (i.Resize x y z) ≡ keyword k.S ∷ three (size_pieces x) (size_pieces y) (size_pieces z)
unfolding item_pieces
resize_layer x y z = ap item_pieces (sym (rolls-Resize x y z)) ∙ fold-roll-Item Pieces Pieces item_step body_step (layer.Resize x y z)

pub rotate_layer : (a : Axis) (by : Turn)
    → item_pieces (i.Rotate a by) ≡ keyword (turn_keyword a) ∷ sign s.LeftRound ∷ turned by ∷ sign s.RightRound ∷ []
unfolding item_pieces
rotate_layer a by = ap item_pieces (sym (rolls-Rotate a by)) ∙ fold-roll-Item Pieces Pieces item_step body_step (layer.Rotate a by)

pub scoped_layer : (items : List Item)
    → item_pieces (i.Scoped items) ≡ sign s.LeftSquare ∷ nonempty (map item_pieces items) (sign s.RightSquare ∷ [])
unfolding item_pieces
scoped_layer items = ap item_pieces (sym (rolls-Scoped items)) ∙ fold-roll-Item Pieces Pieces item_step body_step (layer.Scoped items)

pub solid_layer : (p : Primitive)
    → item_pieces (i.Solid p) ≡ keyword k.I ∷ sign s.LeftRound ∷ text (solid_text p) ∷ sign s.RightRound ∷ []
unfolding item_pieces
solid_layer p = ap item_pieces (sym (rolls-Solid p)) ∙ fold-roll-Item Pieces Pieces item_step body_step (layer.Solid p)

pub subdiv_layer : (a : Axis) (sizes : List Size) (bodies : List Body) →
    item_pieces (i.Subdiv a sizes bodies) ≡ keyword k.Subdiv ∷ sign s.LeftRound ∷ text (axis_text a)
    ∷ preceded (sign s.Comma) (map size_pieces sizes) (sign s.RightRound ∷ sign s.LeftCurly
    ∷ separated (sign s.Bar) (map body_pieces bodies) (sign s.RightCurly ∷ []))
unfolding item_pieces body_pieces
subdiv_layer a sizes bodies = ap item_pieces (sym (rolls-Subdiv a sizes bodies)) ∙ fold-roll-Item Pieces Pieces item_step body_step (layer.Subdiv a sizes bodies)

pub repeat_layer : (a : Axis) (length : Expr) (body : Body)
    → item_pieces (i.Repeat a length body) ≡ keyword k.Repeat ∷ sign s.LeftRound ∷ text (axis_text a) ∷ sign s.Comma ∷
    (expr_pieces length ++ (sign s.RightRound ∷ in_curly (body_pieces body)))
unfolding item_pieces body_pieces
repeat_layer a length body = ap item_pieces (sym (rolls-Repeat a length body)) ∙ fold-roll-Item Pieces Pieces item_step body_step (layer.Repeat a length body)

pub comp_layer : (x : Selector) (body : Body)
    → item_pieces (i.Comp x body) ≡ keyword k.Comp ∷ sign s.LeftRound ∷
    (selector_pieces x ++ (sign s.RightRound ∷ in_curly (body_pieces body)))
unfolding item_pieces body_pieces
comp_layer x body = ap item_pieces (sym (rolls-Comp x body)) ∙ fold-roll-Item Pieces Pieces item_step body_step (layer.Comp x body)

pub child_layer : (name : List ℕ) (args : List Expr)
    → item_pieces (i.Child name args) ≡ named name ∷ arguments (map expr_pieces args)
unfolding item_pieces
child_layer name args = ap item_pieces (sym (rolls-Child name args)) ∙ fold-roll-Item Pieces Pieces item_step body_step (layer.Child name args)

abbrev pub list_pieces : List Item → Pieces
list_pieces is = body_of (map item_pieces is)

pub body_layer : (is : List Item) → body_pieces (roll-Body (record { items = is })) ≡ list_pieces is
unfolding body_pieces item_pieces
body_layer is = fold-roll-Body Pieces Pieces item_step body_step (record { items = is })
