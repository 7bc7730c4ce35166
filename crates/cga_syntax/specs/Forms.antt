-- The pieces of single forms, as the printer goes through them.
use Rattle.std.specs.Prelude.{ℕ, List, [], ◌∷◌, ◌++◌, Bool, codes}
use Rattle.cga_lexer.specs.declared.sign.Sign.TheVariants as s
use Rattle.cga_word.specs.declared.axis.Axis.{Axis}
use Rattle.cga_word.specs.declared.target.Target.{Target}
use Rattle.cga_word.specs.declared.answer.Answer.{Answer}
use Rattle.cga_word.specs.declared.primitive.Primitive.{Primitive}
use Rattle.cga_word.specs.declared.selector.Selector.{Selector}
use Rattle.cga_word.specs.declared.turn.Turn.{Turn}
use Rattle.cga_syntax.specs.Limits.{last_id}
use Rattle.cga_syntax.specs.declared.print.space.Space.TheVariants.{NoneBefore}
use Rattle.cga_syntax.specs.Pieces.{Pieces, keyword, sign, word, text, named, whole, nonempty, preceded, separated}
use Rattle.cga_syntax.specs.Pieces.{turn_keyword, solid_text, axis_text, selector_pieces, size_word, target_text}
use Rattle.cga_syntax.specs.Pieces.{equality_sign, relation_sign, state_text, token, turned}
use Rattle.cga_syntax.specs.declared.keyword.Keyword.TheVariants as k
use Rattle.cga_syntax.specs.declared.lexeme.Lexeme.TheVariants as lexeme
use Rattle.cga_rule.specs.declared.cond.Relation.{Relation}

abbrev pub scope_size : Axis → Pieces
scope_size a = keyword k.Scope ∷ sign s.Dot ∷ word (size_word a) ∷ []

abbrev pub name_pieces : List ℕ → Pieces
name_pieces name = named name ∷ []

abbrev pub head_of : ℕ → List ℕ → Pieces
head_of id symbol = whole 1 last_id id ∷ token NoneBefore (lexeme.Sign s.Colon) ∷ named symbol ∷ []

abbrev pub rotated : Axis → Turn → Pieces
rotated a by = keyword (turn_keyword a) ∷ sign s.LeftRound ∷ turned by ∷ sign s.RightRound ∷ []

abbrev pub solid_of : Primitive → Pieces
solid_of p = keyword k.I ∷ sign s.LeftRound ∷ text (solid_text p) ∷ sign s.RightRound ∷ []

abbrev pub scoped : List Pieces → Pieces
scoped items = sign s.LeftSquare ∷ nonempty items (sign s.RightSquare ∷ [])

abbrev pub subdivided : Axis → List Pieces → Pieces
subdivided a sizes = keyword k.Subdiv ∷ sign s.LeftRound ∷ text (axis_text a) ∷ preceded (sign s.Comma) sizes (sign s.RightRound ∷ [])

abbrev pub bodies_of : List Pieces → Pieces
bodies_of bodies = sign s.LeftCurly ∷ separated (sign s.Bar) bodies (sign s.RightCurly ∷ [])

abbrev pub repeated : Axis → Pieces → Pieces
repeated a length = keyword k.Repeat ∷ sign s.LeftRound ∷ text (axis_text a) ∷ sign s.Comma ∷ (length ++ (sign s.RightRound ∷ []))

abbrev pub selected : Selector → Pieces
selected sel = keyword k.Comp ∷ sign s.LeftRound ∷ (selector_pieces sel ++ (sign s.RightRound ∷ []))

abbrev pub occ_pieces : Target → Bool → Answer → Pieces
occ_pieces t equal state =
    keyword k.Scope ∷ sign s.Dot ∷ word (codes "occ") ∷ sign s.LeftRound ∷ text (target_text t) ∷ sign s.RightRound ∷ sign (equality_sign equal) ∷ text (state_text state) ∷ []

abbrev pub compared : Pieces → Relation → Pieces → Pieces
compared left r right = left ++ (sign (relation_sign r) ∷ right)
