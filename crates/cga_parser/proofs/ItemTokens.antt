-- The tokens of items are read exactly.
use Rattle.std.proofs.Common.{◌≡◌, ℕ, List, [], ◌∷◌, Bool, true, false, Option, Some, None, refl, ap, sym, ◌∙◌, pos}
use Rattle.cga_fraction.specs.Rat.{Rat, of_int}
use Rattle.cga_word.specs.declared.axis.Axis.TheVariants as axis
use Rattle.cga_word.specs.declared.turn.Turn.TheVariants as turn
use Rattle.cga_word.specs.declared.primitive.Primitive.TheVariants as solid
use Rattle.cga_word.specs.declared.side.Side.TheVariants as side
use Rattle.cga_syntax.specs.Lexemes.{is_reserved}
use Rattle.cga_syntax.specs.declared.keyword.Keyword.TheVariants as k
use Rattle.cga_syntax.specs.declared.lexeme.Lexeme.{Lexeme}
use Rattle.cga_syntax.specs.declared.lexeme.Lexeme.TheVariants as lexeme
use Rattle.cga_syntax.specs.declared.print.space.Space.{Space}
use Rattle.cga_syntax.specs.declared.print.space.Space.TheVariants.{Usual}
use Rattle.cga_syntax.specs.Pieces.{token, plain, number, keyword, text, named, Pieces, axis_text, turn_keyword}
use Rattle.cga_syntax.specs.Pieces.{solid_text, side_text}
use Rattle.cga_syntax.specs.Brackets.{counted, bracket_of}
use Rattle.cga_form.specs.Tokens.{unless}
use Rattle.cga_form.specs.Words.{item_head, item_words, a_relative, turn_number, a_turn, a_ninety, an_axis, a_solid, a_side, choice_text, a_selector}
use Rattle.cga_form.specs.declared.heads.ItemHead.{ItemHead}
use Rattle.cga_form.specs.declared.heads.ItemHead.TheVariants as head
use Rattle.cga_form.specs.declared.heads.SelectorHead.TheVariants as choice
use Rattle.cga_form.proofs.Door.{Token, by_token, chosen_has, chosen_token, named_is}

relative_is : (l : Lexeme) (a : Rat) → a_relative l ≡ Some a → l ≡ lexeme.Relative a
relative_is (lexeme.Relative value) a e = let q : value ≡ a = cc in ap lexeme.Relative q
relative_is _ a e = absurd (cc)

pub relative_token : (n : ℕ) → Token n n (λ a. plain (lexeme.Relative a) ∷ []) a_relative
relative_token n = by_token Usual lexeme.Relative a_relative n relative_is (λ a. refl) (of_int (pos 1)) refl

pub turn_token : (n : ℕ) → Token n n (λ a. plain (number (turn_number a)) ∷ []) a_turn
turn_token n = chosen_token turn.By0 (turn.By90 ∷ turn.By180 ∷ turn.By270 ∷ []) n refl

pub ninety_token : (n : ℕ) → Token n n (λ _. plain (number 90) ∷ []) a_ninety
ninety_token n = chosen_token tt [] n refl

pub axis_token : (n : ℕ) → Token n n (λ a. text (axis_text a) ∷ []) an_axis
axis_token n = chosen_token axis.X (axis.Y ∷ axis.Z ∷ []) n refl

pub solid_token : (n : ℕ) → Token n n (λ a. text (solid_text a) ∷ []) a_solid
solid_token n = chosen_token solid.Cube (solid.Quad ∷ solid.Shed ∷ solid.Gable ∷ solid.Hip ∷ []) n refl

pub side_token : (n : ℕ) → Token n n (λ a. text (side_text a) ∷ []) a_side
side_token n = chosen_token side.Front (side.Right ∷ side.Back ∷ side.Left ∷ side.Top ∷ side.Bottom ∷ []) n refl

pub choice_token : (n : ℕ) → Token n n (λ a. text (choice_text a) ∷ []) a_selector
choice_token n = chosen_token choice.Faces (choice.Sidefaces ∷ choice.Face ∷ choice.Edges ∷ choice.Edge ∷ choice.Vertices ∷ []) n refl

abbrev pub head_pieces : ItemHead → Pieces
head_pieces head.Move = keyword k.T ∷ []
head_pieces head.Resize = keyword k.S ∷ []
head_pieces (head.Rotate a) = keyword (turn_keyword a) ∷ []
head_pieces head.Solid = keyword k.I ∷ []
head_pieces head.Subdiv = keyword k.Subdiv ∷ []
head_pieces head.Repeat = keyword k.Repeat ∷ []
head_pieces head.Comp = keyword k.Comp ∷ []
head_pieces (head.Child name) = named name ∷ []

named_head : (b : Bool) (name : List ℕ) (a : ItemHead) → unless b (head.Child name) ≡ Some a
    → (b ≡ false) × (head.Child name ≡ a)
named_head true name a e = absurd (cc)
named_head false name a e = (refl, cc)

head_means : (l : Lexeme) (a : ItemHead) → item_head l ≡ Some a → (sp : Space) × (head_pieces a ≡ token sp l ∷ [])
head_means (lexeme.Name name) a e = let t = named_head (is_reserved name) name a e in (Usual, ap head_pieces (sym t.1) ∙ ap (λ z. z ∷ []) (named_is name t.0))
head_means l a e = (Usual, chosen_has (λ l a. head_pieces a ≡ token Usual l ∷ []) item_words (refl, (refl, (refl, (refl, (refl, (refl, (refl, (refl, (refl, tt))))))))) l a e)

head_counts : (n : ℕ) (l : Lexeme) (a : ItemHead) → item_head l ≡ Some a → counted (bracket_of l) n ≡ Some n
head_counts n (lexeme.Name name) a e = refl
head_counts n l a e = chosen_has (λ l a. counted (bracket_of l) n ≡ Some n) item_words (refl, (refl, (refl, (refl, (refl, (refl, (refl, (refl, (refl, tt))))))))) l a e

pub head_token : (n : ℕ) → Token n n head_pieces item_head
head_token n = record { means = head_means; counts = head_counts n; some = (lexeme.Keyword k.I, head.Solid, refl) }
