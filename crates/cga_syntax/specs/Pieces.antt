-- What a tree is written as.
use Rattle.std.specs.Prelude.{◌≡◌, ℕ, ◌+◌, ◌<◌, ◌⊎◌, ◌&&◌, List, [], ◌∷◌, ◌++◌, map, Bool, if◌then◌else◌, length, nat_le, pos, Option, Some, None, codes}
use Rattle.cga_fraction.specs.Rat.{Rat, of_int}
use Rattle.cga_fraction.specs.Arithmetic.{negated, divided}
use Rattle.cga_lexer.specs.declared.sign.Sign.{Sign}
use Rattle.cga_lexer.specs.declared.sign.Sign.TheVariants as s
use Rattle.cga_word.specs.declared.axis.Axis.{Axis}
use Rattle.cga_word.specs.declared.axis.Axis.TheVariants as axis
use Rattle.cga_word.specs.declared.turn.Turn.{Turn}
use Rattle.cga_word.specs.declared.turn.Turn.TheVariants as turn
use Rattle.cga_word.specs.declared.primitive.Primitive.{Primitive}
use Rattle.cga_word.specs.declared.primitive.Primitive.TheVariants as solid
use Rattle.cga_word.specs.declared.side.Side.{Side}
use Rattle.cga_word.specs.declared.side.Side.TheVariants as side
use Rattle.cga_word.specs.declared.selector.Selector.{Selector}
use Rattle.cga_word.specs.declared.selector.Selector.TheVariants as selector
use Rattle.cga_word.specs.declared.target.Target.{Target}
use Rattle.cga_word.specs.declared.target.Target.TheVariants as target
use Rattle.cga_word.specs.declared.answer.Answer.{Answer}
use Rattle.cga_word.specs.declared.answer.Answer.TheVariants as answer
use Rattle.cga_syntax.specs.declared.print.space.Space.{Space}
use Rattle.cga_syntax.specs.declared.print.space.Space.TheVariants.{Usual, NoneBefore, NoneAfter}
use Rattle.cga_syntax.specs.Lexemes.{is_reserved}
use Rattle.cga_syntax.specs.Limits.{last_id, last_edge, most_steps, most_further}
use Rattle.cga_syntax.specs.declared.keyword.Keyword.{Keyword}
use Rattle.cga_syntax.specs.declared.keyword.Keyword.TheVariants as k
use Rattle.cga_syntax.specs.declared.lexeme.Lexeme.{Lexeme}
use Rattle.cga_syntax.specs.declared.lexeme.Lexeme.TheVariants as lexeme
use Rattle.cga_rule.specs.declared.expr.Expr.{Expr, Expr-F}
use Rattle.cga_rule.specs.declared.expr.Term.{Term, Term-F}
use Rattle.cga_rule.specs.declared.expr.Added.{Added, Added-F}
use Rattle.cga_rule.specs.declared.expr.Scaled.{Scaled, Scaled-F}
use Rattle.cga_rule.specs.declared.expr.Factor.{Factor, Factor-F}
use Rattle.cga_rule.specs.declared.expr.Primary.{Primary, Primary-F}
use Rattle.cga_rule.specs.declared.expr.Primary.TheFolds.{fold-Expr, fold-Term, fold-Added, fold-Scaled, fold-Factor, fold-Primary}
use Rattle.cga_rule.specs.declared.expr.Primary.TheOpen as primary
use Rattle.cga_rule.specs.declared.cond.Cond.{Cond, Cond-F}
use Rattle.cga_rule.specs.declared.cond.Conj.{Conj, Conj-F}
use Rattle.cga_rule.specs.declared.cond.Test.{Test, Test-F}
use Rattle.cga_rule.specs.declared.cond.Test.TheFolds.{fold-Cond, fold-Conj, fold-Test}
use Rattle.cga_rule.specs.declared.cond.Test.TheOpen as test
use Rattle.cga_rule.specs.declared.cond.Relation.{Relation}
use Rattle.cga_rule.specs.declared.cond.Relation.TheVariants as relation
use Rattle.cga_rule.specs.declared.item.Size.{Size}
use Rattle.cga_rule.specs.declared.item.Size.TheVariants as size
use Rattle.cga_rule.specs.declared.item.Body.{Body, Body-F}
use Rattle.cga_rule.specs.declared.item.Item.{Item, Item-F}
use Rattle.cga_rule.specs.declared.item.Item.TheFolds.{fold-Body, fold-Item}
use Rattle.cga_rule.specs.declared.item.Item.TheOpen as item
use Rattle.cga_rule.specs.declared.rule.Alternative.{Alternative}
use Rattle.cga_rule.specs.declared.rule.Rule.{Rule}

-- A part of a text: a token, or what may be written in several ways.
pub data Piece : Type 0 where
  token : Space → Lexeme → Piece
  -- the word of the rand with this number
  drawn : ℕ → Piece
  turned : Turn → Piece
  -- the probability of an alternative, with the colon before it
  probability : Rat → Piece
  valued : Rat → Piece
  -- what no text is written as
  never : Piece

abbrev pub number : ℕ → Lexeme
number n = lexeme.Number (of_int (pos n))

abbrev pub IsTurn : Turn → List Lexeme → Type 0
IsTurn turn.By0 text = text ≡ number 0 ∷ []
IsTurn turn.By90 text = text ≡ number 90 ∷ []
IsTurn turn.By180 text = text ≡ number 180 ∷ []
IsTurn turn.By270 text = (text ≡ number 270 ∷ []) ⊎ (text ≡ lexeme.Sign s.Minus ∷ number 90 ∷ [])

abbrev pub IsProbability : Rat → List Lexeme → Type 0
IsProbability p text = (text ≡ lexeme.Sign s.Colon ∷ lexeme.Number p ∷ []) ⊎ ((p ≡ of_int (pos 1)) × (text ≡ []))

-- a number; or a whole number, a slash and a whole number that isn't 0, the first divided by the second
abbrev pub IsMagnitude : Rat → List Lexeme → Type 0
IsMagnitude v text =
    (text ≡ lexeme.Number v ∷ [])
    ⊎ ((n : ℕ) × (d : ℕ) × (text ≡ number n ∷ lexeme.Sign s.Slash ∷ number d ∷ []) × (0 < d) × (v ≡ divided (of_int (pos n)) (of_int (pos d))))

-- that, or the negative of what stands after a minus
abbrev pub IsValue : Rat → List Lexeme → Type 0
IsValue v text = IsMagnitude v text ⊎ ((m : Rat) × (rest : List Lexeme) × (text ≡ lexeme.Sign s.Minus ∷ rest) × IsMagnitude m rest × (v ≡ negated m))

-- the piece is written as the text, where so many rands come before it and after it
abbrev pub IsWritten : ℕ → Piece → List Lexeme → ℕ → Type 0
IsWritten n (token space l) text m = (text ≡ l ∷ []) × (n ≡ m)
IsWritten n (drawn j) text m = (text ≡ lexeme.Keyword k.Rand ∷ []) × (j ≡ n + 1) × (m ≡ n + 1)
IsWritten n (turned t) text m = IsTurn t text × (n ≡ m)
IsWritten n (probability p) text m = IsProbability p text × (n ≡ m)
IsWritten n (valued v) text m = IsValue v text × (n ≡ m)
IsWritten n never text m = ⊥

-- the pieces are written one after the other as the text
unfoldable pub Writes : ℕ → List Piece → List Lexeme → ℕ → Type 0
Writes n [] text m = (text ≡ []) × (n ≡ m)
Writes n (p ∷ ps) text m = (here : List Lexeme) × (rest : List Lexeme) × (c : ℕ) × (text ≡ here ++ rest) × IsWritten n p here c × Writes c ps rest m

-- ---- small parts

abbrev pub Pieces : Type 0
Pieces = List Piece

abbrev pub plain : Lexeme → Piece
plain l = token Usual l

abbrev pub sign : Sign → Piece
sign x = plain (lexeme.Sign x)

abbrev pub keyword : Keyword → Piece
keyword x = plain (lexeme.Keyword x)

-- a word that the language knows but doesn't reserve
abbrev pub word : List ℕ → Piece
word bytes = plain (lexeme.Name bytes)

abbrev pub text : List ℕ → Piece
text bytes = plain (lexeme.Text bytes)

-- a name, which isn't reserved
abbrev pub named : List ℕ → Piece
named name = if is_reserved name then never else word name

-- a whole number within bounds
abbrev pub whole : ℕ → ℕ → ℕ → Piece
whole low high n = if nat_le low n && nat_le n high then plain (number n) else never

abbrev pub concat : List Pieces → Pieces
concat [] = []
concat (p ∷ ps) = p ++ concat ps

-- each after a token
abbrev pub after_each : Piece → List Pieces → Pieces
after_each p [] = []
after_each p (ps ∷ pss) = p ∷ (ps ++ after_each p pss)

-- one or more, one after the other, and what follows them
abbrev pub nonempty : List Pieces → Pieces → Pieces
nonempty [] end = never ∷ end
nonempty (p ∷ ps) end = p ++ (concat ps ++ end)

-- one or more, with a token between them, and what follows them
abbrev pub separated : Piece → List Pieces → Pieces → Pieces
separated p [] end = never ∷ end
separated p (ps ∷ pss) end = ps ++ (after_each p pss ++ end)

-- one or more, each after a token, and what follows them
abbrev pub preceded : Piece → List Pieces → Pieces → Pieces
preceded p [] end = never ∷ end
preceded p (ps ∷ pss) end = p ∷ (ps ++ (after_each p pss ++ end))

-- at most so many, each after a token
abbrev pub at_most : ℕ → Piece → List Pieces → Pieces
at_most most p pss = if nat_le (length pss) most then after_each p pss else never ∷ []

-- at most four in brackets; nothing where there is none
abbrev pub arguments : List Pieces → Pieces
arguments [] = []
arguments (a ∷ more) = sign s.LeftRound ∷ (a ++ (at_most most_further (sign s.Comma) more ++ (sign s.RightRound ∷ [])))

-- ---- expressions

abbrev pub size_word : Axis → List ℕ
size_word axis.X = codes "sx"
size_word axis.Y = codes "sy"
size_word axis.Z = codes "sz"

abbrev pub grouped : Pieces → Pieces
grouped ps = sign s.LeftRound ∷ (ps ++ (sign s.RightRound ∷ []))

abbrev pub primary_step : Primary-F Pieces Pieces Pieces Pieces Pieces Pieces → Pieces
primary_step (primary.Number value) = plain (lexeme.Number value) ∷ []
primary_step (primary.Named name) = named name ∷ []
primary_step (primary.ScopeSize a) = keyword k.Scope ∷ sign s.Dot ∷ word (size_word a) ∷ []
primary_step (primary.Group e) = grouped e
primary_step (primary.Floor e) = keyword k.Floor ∷ grouped e
primary_step (primary.Ceil e) = keyword k.Ceil ∷ grouped e
primary_step (primary.Rand j low high steps) = drawn j ∷ sign s.LeftRound ∷ (low ++ (sign s.Comma ∷ (high ++ (sign s.Comma ∷ whole 1 most_steps steps ∷ sign s.RightRound ∷ []))))

abbrev pub added_step : Added-F Pieces Pieces Pieces Pieces Pieces Pieces → Pieces
added_step a = sign (if a.minus then s.Minus else s.Plus) ∷ a.term

abbrev pub expr_step : Expr-F Pieces Pieces Pieces Pieces Pieces Pieces → Pieces
expr_step e = e.first ++ concat e.rest

-- a minus that begins a factor has no space after it
abbrev pub factor_step : Factor-F Pieces Pieces Pieces Pieces Pieces Pieces → Pieces
factor_step f = if f.minus then token NoneAfter (lexeme.Sign s.Minus) ∷ f.primary else f.primary

abbrev pub scaled_step : Scaled-F Pieces Pieces Pieces Pieces Pieces Pieces → Pieces
scaled_step f = sign (if f.divide then s.Slash else s.Star) ∷ f.factor

abbrev pub term_step : Term-F Pieces Pieces Pieces Pieces Pieces Pieces → Pieces
term_step t = t.first ++ concat t.rest

unfoldable pub expr_pieces : Expr → Pieces
expr_pieces = fold-Expr Pieces Pieces Pieces Pieces Pieces Pieces primary_step added_step expr_step factor_step scaled_step term_step

unfoldable pub term_pieces : Term → Pieces
term_pieces = fold-Term Pieces Pieces Pieces Pieces Pieces Pieces primary_step added_step expr_step factor_step scaled_step term_step

unfoldable pub added_pieces : Added → Pieces
added_pieces = fold-Added Pieces Pieces Pieces Pieces Pieces Pieces primary_step added_step expr_step factor_step scaled_step term_step

unfoldable pub scaled_pieces : Scaled → Pieces
scaled_pieces = fold-Scaled Pieces Pieces Pieces Pieces Pieces Pieces primary_step added_step expr_step factor_step scaled_step term_step

unfoldable pub factor_pieces : Factor → Pieces
factor_pieces = fold-Factor Pieces Pieces Pieces Pieces Pieces Pieces primary_step added_step expr_step factor_step scaled_step term_step

unfoldable pub primary_pieces : Primary → Pieces
primary_pieces = fold-Primary Pieces Pieces Pieces Pieces Pieces Pieces primary_step added_step expr_step factor_step scaled_step term_step

-- ---- conditions

abbrev pub target_text : Target → List ℕ
target_text target.Noparent = codes "noparent"
target_text target.Active = codes "active"

abbrev pub state_text : Answer → List ℕ
state_text answer.Nothing = codes "none"
state_text answer.Part = codes "part"
state_text answer.Full = codes "full"

abbrev pub relation_sign : Relation → Sign
relation_sign relation.Equal = s.Equal
relation_sign relation.Unequal = s.Unequal
relation_sign relation.Less = s.Less
relation_sign relation.AtMost = s.AtMost
relation_sign relation.Greater = s.Greater
relation_sign relation.AtLeast = s.AtLeast

abbrev pub equality_sign : Bool → Sign
equality_sign equal = if equal then s.Equal else s.Unequal

abbrev pub squared : Pieces → Pieces
squared ps = sign s.LeftSquare ∷ (ps ++ (sign s.RightSquare ∷ []))

abbrev pub test_step : Test-F Pieces Pieces Pieces → Pieces
test_step (test.Group c) = squared c
test_step (test.Not c) = keyword k.Not ∷ squared c
test_step (test.Occ t equal state) =
    keyword k.Scope ∷ sign s.Dot ∷ word (codes "occ") ∷ sign s.LeftRound ∷ text (target_text t) ∷ sign s.RightRound ∷ sign (equality_sign equal) ∷ text (state_text state) ∷ []
test_step (test.Compare left r right) = expr_pieces left ++ (sign (relation_sign r) ∷ expr_pieces right)

abbrev pub cond_step : Cond-F Pieces Pieces Pieces → Pieces
cond_step c = separated (keyword k.Or) c.conjs []

abbrev pub conj_step : Conj-F Pieces Pieces Pieces → Pieces
conj_step c = separated (keyword k.And) c.tests []

unfoldable pub cond_pieces : Cond → Pieces
cond_pieces = fold-Cond Pieces Pieces Pieces test_step cond_step conj_step

unfoldable pub conj_pieces : Conj → Pieces
conj_pieces = fold-Conj Pieces Pieces Pieces test_step cond_step conj_step

unfoldable pub test_pieces : Test → Pieces
test_pieces = fold-Test Pieces Pieces Pieces test_step cond_step conj_step

-- ---- items

abbrev pub axis_text : Axis → List ℕ
axis_text axis.X = codes "X"
axis_text axis.Y = codes "Y"
axis_text axis.Z = codes "Z"

abbrev pub turn_keyword : Axis → Keyword
turn_keyword axis.X = k.Rx
turn_keyword axis.Y = k.Ry
turn_keyword axis.Z = k.Rz

abbrev pub solid_text : Primitive → List ℕ
solid_text solid.Cube = codes "cube"
solid_text solid.Quad = codes "quad"
solid_text solid.Shed = codes "shed"
solid_text solid.Gable = codes "gable"
solid_text solid.Hip = codes "hip"

abbrev pub side_text : Side → List ℕ
side_text side.Front = codes "front"
side_text side.Right = codes "right"
side_text side.Back = codes "back"
side_text side.Left = codes "left"
side_text side.Top = codes "top"
side_text side.Bottom = codes "bottom"

abbrev pub selector_pieces : Selector → Pieces
selector_pieces selector.Faces = text (codes "faces") ∷ []
selector_pieces selector.Sidefaces = text (codes "sidefaces") ∷ []
selector_pieces (selector.Face s') = text (codes "face") ∷ sign s.Comma ∷ text (side_text s') ∷ []
selector_pieces selector.Edges = text (codes "edges") ∷ []
selector_pieces (selector.Edge n) = text (codes "edge") ∷ sign s.Comma ∷ whole 1 last_edge n ∷ []
selector_pieces selector.Vertices = text (codes "vertices") ∷ []

unfoldable pub size_pieces : Size → Pieces
size_pieces (size.Relative factor) = plain (lexeme.Relative factor) ∷ []
size_pieces (size.Absolute e) = expr_pieces e

abbrev pub three : Pieces → Pieces → Pieces → Pieces
three x y z = sign s.LeftRound ∷ (x ++ (sign s.Comma ∷ (y ++ (sign s.Comma ∷ (z ++ (sign s.RightRound ∷ []))))))

-- an empty body is NIL
abbrev pub body_of : List Pieces → Pieces
body_of [] = keyword k.Nil ∷ []
body_of (i ∷ is) = i ++ concat is

abbrev pub in_curly : Pieces → Pieces
in_curly ps = sign s.LeftCurly ∷ (ps ++ (sign s.RightCurly ∷ []))

abbrev pub item_step : Item-F Pieces Pieces → Pieces
item_step (item.Move x y z) = keyword k.T ∷ three (expr_pieces x) (expr_pieces y) (expr_pieces z)
item_step (item.Resize x y z) = keyword k.S ∷ three (size_pieces x) (size_pieces y) (size_pieces z)
item_step (item.Rotate a by) = keyword (turn_keyword a) ∷ sign s.LeftRound ∷ turned by ∷ sign s.RightRound ∷ []
item_step (item.Scoped items) = sign s.LeftSquare ∷ nonempty items (sign s.RightSquare ∷ [])
item_step (item.Solid p) = keyword k.I ∷ sign s.LeftRound ∷ text (solid_text p) ∷ sign s.RightRound ∷ []
item_step (item.Subdiv a sizes bodies) =
    keyword k.Subdiv ∷ sign s.LeftRound ∷ text (axis_text a)
    ∷ preceded (sign s.Comma) (map size_pieces sizes) (sign s.RightRound ∷ sign s.LeftCurly ∷ separated (sign s.Bar) bodies (sign s.RightCurly ∷ []))
item_step (item.Repeat a length body) =
    keyword k.Repeat ∷ sign s.LeftRound ∷ text (axis_text a) ∷ sign s.Comma ∷ (expr_pieces length ++ (sign s.RightRound ∷ in_curly body))
item_step (item.Comp sel body) = keyword k.Comp ∷ sign s.LeftRound ∷ (selector_pieces sel ++ (sign s.RightRound ∷ in_curly body))
item_step (item.Child symbol args) = named symbol ∷ arguments (map expr_pieces args)

abbrev pub body_step : Body-F Pieces Pieces → Pieces
body_step b = body_of b.items

unfoldable pub item_pieces : Item → Pieces
item_pieces = fold-Item Pieces Pieces item_step body_step

unfoldable pub body_pieces : Body → Pieces
body_pieces = fold-Body Pieces Pieces item_step body_step

-- ---- rules

unfoldable pub alternative_pieces : Alternative → Pieces
alternative_pieces a = sign s.Arrow ∷ (body_of (map item_pieces a.items) ++ (probability a.prob ∷ []))

abbrev pub condition_pieces : Option Cond → Pieces
condition_pieces None = []
condition_pieces (Some c) = sign s.Colon ∷ cond_pieces c

-- the colon after the id has no space before it
unfoldable pub rule_pieces : Rule → Pieces
rule_pieces r =
    whole 1 last_id r.id ∷ token NoneBefore (lexeme.Sign s.Colon) ∷ named r.symbol
    ∷ (arguments (map (λ p. named p ∷ []) r.params) ++ (condition_pieces r.cond ++ nonempty (map alternative_pieces r.alternatives) []))
