-- What the words, texts and signs of rules stand for. Each list has the values with the tokens that write them.
use Rattle.std.specs.Prelude.{ℕ, Bool, true, false, List, [], ◌∷◌, Option, Some, None, if◌then◌else◌, codes}
use Rattle.cga_fraction.specs.Rat.{Rat}
use Rattle.cga_lexer.specs.declared.sign.Sign.TheVariants as s
use Rattle.cga_word.specs.declared.axis.Axis.{Axis}
use Rattle.cga_word.specs.declared.axis.Axis.TheVariants as axis
use Rattle.cga_word.specs.declared.turn.Turn.{Turn}
use Rattle.cga_word.specs.declared.turn.Turn.TheVariants as turn
use Rattle.cga_word.specs.declared.primitive.Primitive.{Primitive}
use Rattle.cga_word.specs.declared.primitive.Primitive.TheVariants as solid
use Rattle.cga_word.specs.declared.side.Side.{Side}
use Rattle.cga_word.specs.declared.side.Side.TheVariants as side
use Rattle.cga_word.specs.declared.target.Target.{Target}
use Rattle.cga_word.specs.declared.target.Target.TheVariants as target
use Rattle.cga_word.specs.declared.answer.Answer.{Answer}
use Rattle.cga_word.specs.declared.answer.Answer.TheVariants as answer
use Rattle.cga_syntax.specs.Lexemes.{is_reserved}
use Rattle.cga_syntax.specs.Pieces.{number, size_word, target_text, state_text, relation_sign, equality_sign, axis_text, solid_text, side_text}
use Rattle.cga_syntax.specs.declared.keyword.Keyword.TheVariants as k
use Rattle.cga_syntax.specs.declared.lexeme.Lexeme.{Lexeme}
use Rattle.cga_syntax.specs.declared.lexeme.Lexeme.TheVariants as lexeme
use Rattle.cga_rule.specs.declared.cond.Relation.{Relation}
use Rattle.cga_rule.specs.declared.cond.Relation.TheVariants as relation
use Rattle.cga_form.specs.declared.heads.PrimaryHead.{PrimaryHead}
use Rattle.cga_form.specs.declared.heads.PrimaryHead.TheVariants as primary
use Rattle.cga_form.specs.declared.heads.ScopeWord.{ScopeWord}
use Rattle.cga_form.specs.declared.heads.ScopeWord.TheVariants as scope_word
use Rattle.cga_form.specs.declared.heads.ItemHead.{ItemHead}
use Rattle.cga_form.specs.declared.heads.ItemHead.TheVariants as item
use Rattle.cga_form.specs.declared.heads.SelectorHead.{SelectorHead}
use Rattle.cga_form.specs.declared.heads.SelectorHead.TheVariants as selector
use Rattle.cga_form.specs.Tokens.{unless, beside, chosen}

-- ---- what a form's first token says of the rest

-- the reserved words that begin a primary
abbrev pub primary_words : List (Lexeme × PrimaryHead)
primary_words = (lexeme.Keyword k.Scope, primary.Scope) ∷ (lexeme.Keyword k.Floor, primary.Floor) ∷ (lexeme.Keyword k.Ceil, primary.Ceil) ∷ []

-- what begins a primary
abbrev pub primary_head : Lexeme → Option PrimaryHead
primary_head (lexeme.Number value) = Some (primary.Number value)
primary_head (lexeme.Name name) = unless (is_reserved name) (primary.Named name)
primary_head l = chosen primary_words l

-- a name of a size
abbrev pub size_axis : Lexeme → Option Axis
size_axis = chosen (beside (λ a. lexeme.Name (size_word a)) (axis.X ∷ axis.Y ∷ axis.Z ∷ []))

-- whether a term is subtracted
abbrev pub an_addition : Lexeme → Option Bool
an_addition = chosen (beside (λ minus. lexeme.Sign (if minus then s.Minus else s.Plus)) (false ∷ true ∷ []))

-- whether a factor divides
abbrev pub a_scaling : Lexeme → Option Bool
a_scaling = chosen (beside (λ divide. lexeme.Sign (if divide then s.Slash else s.Star)) (false ∷ true ∷ []))

-- ---- conditions

-- which relation
abbrev pub a_relation : Lexeme → Option Relation
a_relation = chosen (beside (λ r. lexeme.Sign (relation_sign r)) (relation.Equal ∷ relation.Unequal ∷ relation.Less ∷ relation.AtMost ∷ relation.Greater ∷ relation.AtLeast ∷ []))

-- whether it is ==, and not !=
abbrev pub an_equality : Lexeme → Option Bool
an_equality = chosen (beside (λ equal. lexeme.Sign (equality_sign equal)) (true ∷ false ∷ []))

-- which target
abbrev pub a_target : Lexeme → Option Target
a_target = chosen (beside (λ a. lexeme.Text (target_text a)) (target.Noparent ∷ target.Active ∷ []))

-- which state
abbrev pub a_state : Lexeme → Option Answer
a_state = chosen (beside (λ a. lexeme.Text (state_text a)) (answer.Nothing ∷ answer.Part ∷ answer.Full ∷ []))

abbrev pub scope_bytes : ScopeWord → List ℕ
scope_bytes scope_word.Occ = codes "occ"
scope_bytes (scope_word.Size a) = size_word a

-- a word after `Scope.`
abbrev pub a_scope_word : Lexeme → Option ScopeWord
a_scope_word = chosen (beside (λ a. lexeme.Name (scope_bytes a)) (scope_word.Occ ∷ scope_word.Size axis.X ∷ scope_word.Size axis.Y ∷ scope_word.Size axis.Z ∷ []))

-- ---- items

-- the reserved words that begin an item
abbrev pub item_words : List (Lexeme × ItemHead)
item_words =
    (lexeme.Keyword k.T, item.Move) ∷ (lexeme.Keyword k.S, item.Resize)
    ∷ (lexeme.Keyword k.Rx, item.Rotate axis.X) ∷ (lexeme.Keyword k.Ry, item.Rotate axis.Y) ∷ (lexeme.Keyword k.Rz, item.Rotate axis.Z)
    ∷ (lexeme.Keyword k.I, item.Solid) ∷ (lexeme.Keyword k.Subdiv, item.Subdiv)
    ∷ (lexeme.Keyword k.Repeat, item.Repeat) ∷ (lexeme.Keyword k.Comp, item.Comp) ∷ []

-- what begins an item, but for a bracket
abbrev pub item_head : Lexeme → Option ItemHead
item_head (lexeme.Name name) = unless (is_reserved name) (item.Child name)
item_head l = chosen item_words l

-- a relative number
abbrev pub a_relative : Lexeme → Option Rat
a_relative (lexeme.Relative value) = Some value
a_relative _ = None

-- it is a relative number
abbrev pub is_relative : Lexeme → Bool
is_relative (lexeme.Relative value) = true
is_relative _ = false

abbrev pub turn_number : Turn → ℕ
turn_number turn.By0 = 0
turn_number turn.By90 = 90
turn_number turn.By180 = 180
turn_number turn.By270 = 270

-- a turn by its degrees
abbrev pub a_turn : Lexeme → Option Turn
a_turn = chosen (beside (λ a. number (turn_number a)) (turn.By0 ∷ turn.By90 ∷ turn.By180 ∷ turn.By270 ∷ []))

-- the number 90
abbrev pub a_ninety : Lexeme → Option (Unit {0})
a_ninety = chosen (beside (λ _. number 90) (tt ∷ []))

-- which axis
abbrev pub an_axis : Lexeme → Option Axis
an_axis = chosen (beside (λ a. lexeme.Text (axis_text a)) (axis.X ∷ axis.Y ∷ axis.Z ∷ []))

-- which solid
abbrev pub a_solid : Lexeme → Option Primitive
a_solid = chosen (beside (λ a. lexeme.Text (solid_text a)) (solid.Cube ∷ solid.Quad ∷ solid.Shed ∷ solid.Gable ∷ solid.Hip ∷ []))

-- which side
abbrev pub a_side : Lexeme → Option Side
a_side = chosen (beside (λ a. lexeme.Text (side_text a)) (side.Front ∷ side.Right ∷ side.Back ∷ side.Left ∷ side.Top ∷ side.Bottom ∷ []))

abbrev pub choice_text : SelectorHead → List ℕ
choice_text selector.Faces = codes "faces"
choice_text selector.Sidefaces = codes "sidefaces"
choice_text selector.Face = codes "face"
choice_text selector.Edges = codes "edges"
choice_text selector.Edge = codes "edge"
choice_text selector.Vertices = codes "vertices"

-- which selector
abbrev pub a_selector : Lexeme → Option SelectorHead
a_selector = chosen (beside (λ a. lexeme.Text (choice_text a)) (selector.Faces ∷ selector.Sidefaces ∷ selector.Face ∷ selector.Edges ∷ selector.Edge ∷ selector.Vertices ∷ []))
