-- The parts of an item are read exactly.
use Rattle.std.proofs.Common.{◌≡◌, ℕ, suc, inl, inr, nat_le, List, [], ◌∷◌, ◌++◌, map, length, append_assoc, refl, ap}
use Rattle.std.proofs.Common.{sym, ◌∙◌, subst, if◌then◌else◌}
use Rattle.cga_fraction.specs.Rat.{Rat}
use Rattle.cga_lexer.specs.declared.sign.Sign.TheVariants as s
use Rattle.cga_word.specs.declared.axis.Axis.{Axis}
use Rattle.cga_word.specs.declared.turn.Turn.{Turn}
use Rattle.cga_word.specs.declared.turn.Turn.TheVariants as turn
use Rattle.cga_word.specs.declared.primitive.Primitive.{Primitive}
use Rattle.cga_word.specs.declared.selector.Selector.{Selector}
use Rattle.cga_syntax.specs.declared.lexeme.Lexeme.{Lexeme}
use Rattle.cga_syntax.specs.declared.lexeme.Lexeme.TheVariants as lexeme
use Rattle.cga_rule.specs.declared.expr.Expr.{Expr}
use Rattle.cga_rule.specs.declared.item.Size.{Size}
use Rattle.cga_rule.specs.declared.item.Size.TheVariants as size
use Rattle.cga_syntax.specs.declared.print.space.Space.TheVariants.{Usual}
use Rattle.cga_syntax.specs.Pieces.{Piece, turned, plain, number, never, sign, text, Pieces, concat, IsTurn}
use Rattle.cga_syntax.specs.Pieces.{Writes, preceded, at_most, after_each, arguments, three, axis_text, solid_text}
use Rattle.cga_syntax.specs.Pieces.{selector_pieces, size_pieces, expr_pieces}
use Rattle.cga_form.specs.Reader.{Reader, ◌>>=◌, ◌>>◌, pure, refuse, single, many, many_from}
use Rattle.cga_form.specs.Tokens.{is_sign}
use Rattle.cga_form.specs.Words.{is_relative, turn_number, an_axis, a_solid, choice_text}
use Rattle.cga_parser.specs.Grammar as g
use Rattle.cga_parser.proofs.Threes.{threes_are}
use Rattle.cga_form.specs.declared.heads.SelectorHead.{SelectorHead}
use Rattle.cga_form.specs.declared.heads.SelectorHead.TheVariants as choice
use Rattle.cga_form.proofs.Door.{Long, done, either, end_of, few_pieces, head_of, limited, listed, long_of, next}
use Rattle.cga_form.proofs.Door.{one_token, piece_written, refusing, sign_token, translated, whole_token}
use Rattle.cga_form.specs.Laws.{After, Goes, Reads, Some_text}
use Rattle.cga_parser.proofs.Lists.{after_map, preceded_is}
use Rattle.cga_parser.proofs.Exprs.{comma, close, round, in_round, some_as, expr_some, refused_expr, IsInside}
use Rattle.cga_parser.proofs.ItemTokens.{relative_token, turn_token, ninety_token, axis_token, solid_token}
use Rattle.cga_parser.proofs.ItemTokens.{side_token, choice_token}

-- ---- forms of a value

pub size_relative : (r : Rat) → size_pieces (size.Relative r) ≡ plain (lexeme.Relative r) ∷ []
unfolding size_pieces
size_relative r = refl

pub size_absolute : (e : Expr) → size_pieces (size.Absolute e) ≡ expr_pieces e
unfolding size_pieces
size_absolute e = refl

pub size_reads : (n m : ℕ) (p : Reader Expr) → Reads m m expr_pieces p → Reads m m size_pieces (g.size n p)
unfolding g.size
size_reads n m p h = either is_relative (next (one_token (relative_token m)) (λ r. done (size_relative r))) (next h (λ e. done (size_absolute e)))

size_some : Some_text (After [] size_pieces)
size_some = some_as expr_pieces size_pieces size.Absolute size_absolute expr_some

abbrev pub triple : {A : Type 0} → (A → Pieces) → A × A × A → Pieces
triple w p = three (w p.0) (w p.1) (w p.2)

triple_rest : {A : Type 0} {w : A → Pieces} (m : ℕ) (p : Reader A) → Reads m m w p →
    Goes m (suc m) round (triple w) (g.in_threes p)
triple_rest {w = w} m p h =
    subst (Goes m (suc m) round (triple w)) (threes_are p)
    (next h (λ x. next (comma m) (λ _. next h (λ y. next (comma m) (λ _. next h (λ z. next (close m) (λ _. done (simp append_assoc))))))))

pub move_reads : (n : ℕ) (inside : Reader Expr) → IsInside n inside
    → Reads n n (triple expr_pieces) (g.move_parts n inside)
unfolding g.move_parts
move_reads n inside h = in_round n (triple_rest 0 refuse (refused_expr 0)).some (λ m e. triple_rest m inside (h m e))

pub resize_reads : (n : ℕ) (inside : Reader Expr) → IsInside n inside
    → Reads n n (triple size_pieces) (g.resize_parts n inside)
unfolding g.resize_parts
resize_reads n inside h = in_round n (triple_rest 0 refuse (refusing size_some)).some (λ m e. triple_rest m (g.size n inside) (size_reads n m inside (h m e)))

-- ---- turns

abbrev pub turn_pieces : Turn → Pieces
turn_pieces a = turned a ∷ []

minus_reads : (n : ℕ) → Reads n n (λ (_ : Unit {0}). sign s.Minus ∷ plain (number 90) ∷ []) g.minus_ninety
unfolding g.minus_ninety
minus_reads n = next (one_token (sign_token Usual s.Minus n n refl refl)) (λ _. next (one_token (ninety_token n)) (λ u. done refl))

turned_plainly : (a : Turn) → IsTurn a (number (turn_number a) ∷ [])
turned_plainly turn.By0 = refl
turned_plainly turn.By90 = refl
turned_plainly turn.By180 = refl
turned_plainly turn.By270 = inl refl

-- one token written as the piece
as_turn : (c : ℕ) (x : List Lexeme) (a : Turn) (d : ℕ) → Writes c (plain (number (turn_number a)) ∷ []) x d
    → Writes c (turn_pieces a) x d
as_turn c x a d w =
    let t = head_of c Usual (number (turn_number a)) [] x d w in
    let u = end_of c t.0 d t.2 in
    piece_written c (turned a) x d (subst (λ z. IsTurn a z) (sym (t.1 ∙ ap (λ z. number (turn_number a) ∷ z) u.0)) (turned_plainly a), u.1)

as_minus : (c : ℕ) (x : List Lexeme) (u : Unit {0}) (d : ℕ) → Writes c (sign s.Minus ∷ plain (number 90) ∷ []) x d
    → Writes c (turn_pieces turn.By270) x d
as_minus c x u d w =
    let t = head_of c Usual (lexeme.Sign s.Minus) (plain (number 90) ∷ []) x d w in
    let v = head_of c Usual (number 90) [] t.0 d t.2 in
    let z = end_of c v.0 d v.2 in
    piece_written c (turned turn.By270) x d (inr (t.1 ∙ ap (λ y. lexeme.Sign s.Minus ∷ y) (v.1 ∙ ap (λ y. number 90 ∷ y) z.0)), z.1)

pub quarter_reads : (n : ℕ) → Reads n n turn_pieces g.quarter_turn
unfolding g.quarter_turn
quarter_reads n = either (is_sign s.Minus) (translated (λ _. turn.By270) as_minus (minus_reads n)) (translated (λ a. a) as_turn (one_token (turn_token n)))

abbrev pub turn_part_pieces : Turn → Pieces
turn_part_pieces a = sign s.LeftRound ∷ turned a ∷ sign s.RightRound ∷ []

turn_rest : (m : ℕ) → Goes m (suc m) round turn_part_pieces (g.quarter_turn >>= λ a. g.sign s.RightRound >> pure a)
turn_rest m = next (quarter_reads m) (λ a. next (close m) (λ _. done refl))

pub turn_reads : (n : ℕ) (inside : Reader Expr) → Reads n n turn_part_pieces (g.turn_part n inside)
unfolding g.turn_part
turn_reads n inside = in_round n (turn_rest 0).some (λ m e. turn_rest m)

-- ---- solids, splits and components

abbrev pub solid_pieces : Primitive → Pieces
solid_pieces a = sign s.LeftRound ∷ text (solid_text a) ∷ sign s.RightRound ∷ []

solid_rest : (m : ℕ) → Goes m (suc m) round solid_pieces (single a_solid >>= λ a. g.sign s.RightRound >> pure a)
solid_rest m = next (one_token (solid_token m)) (λ a. next (close m) (λ _. done refl))

pub solid_reads : (n : ℕ) (inside : Reader Expr) → Reads n n solid_pieces (g.solid_part n inside)
unfolding g.solid_part
solid_reads n inside = in_round n (solid_rest 0).some (λ m e. solid_rest m)

abbrev pub further_size_pieces : Size → Pieces
further_size_pieces a = sign s.Comma ∷ size_pieces a

pub further_size_long : Long further_size_pieces
further_size_long c x a d w = long_of c Usual (lexeme.Sign s.Comma) (size_pieces a) x d w

pub further_size_reads : (n m : ℕ) (p : Reader Expr) → Reads m m expr_pieces p
    → Reads m m further_size_pieces (g.further_size n p)
unfolding g.further_size
further_size_reads n m p h = next (comma m) (λ _. next (size_reads n m p h) (λ a. done refl))

abbrev pub split_pieces : Axis × List Size → Pieces
split_pieces p = sign s.LeftRound ∷ text (axis_text p.0) ∷ preceded (sign s.Comma) (map size_pieces p.1) (sign s.RightRound ∷ [])

split_is : (a : Axis) (x : Size) (more : List Size)
    → split_pieces (a, x ∷ more) ≡
    (((round ++ (text (axis_text a) ∷ [])) ++ further_size_pieces x) ++ concat (map further_size_pieces more)) ++
    (sign s.RightRound ∷ [])
split_is a x more = ap (λ z. sign s.LeftRound ∷ text (axis_text a) ∷ z) (preceded_is (sign s.Comma) size_pieces x more (sign s.RightRound ∷ [])) ∙ simp append_assoc

split_rest : (n m : ℕ) (p : Reader Expr) → Reads m m expr_pieces p →
    Goes m (suc m) round split_pieces (single an_axis >>= λ a. g.further_size n p >>= λ x. many (is_sign s.Comma) (g.further_size n p) >>= λ more. g.sign s.RightRound >> pure (a, x ∷ more))
split_rest n m p h =
    next (one_token (axis_token m))
    (λ a. next (further_size_reads n m p h)
    (λ x. next (listed (is_sign s.Comma) further_size_long (further_size_reads n m p h)) (λ more. next (close m) (λ _. done (split_is a x more)))))

pub split_reads : (n : ℕ) (inside : Reader Expr) → IsInside n inside → Reads n n split_pieces (g.split_parts n inside)
unfolding g.split_parts
split_reads n inside h = in_round n (split_rest n 0 refuse (refused_expr 0)).some (λ m e. split_rest n m inside (h m e))

abbrev pub repeat_pieces : Axis × Expr → Pieces
repeat_pieces p = sign s.LeftRound ∷ text (axis_text p.0) ∷ sign s.Comma ∷ (expr_pieces p.1 ++ (sign s.RightRound ∷ []))

repeat_rest : (m : ℕ) (p : Reader Expr) → Reads m m expr_pieces p
    → Goes m (suc m) round repeat_pieces
    (single an_axis >>= λ a. g.sign s.Comma >> (p >>= λ e. g.sign s.RightRound >> pure (a, e)))
repeat_rest m p h = next (one_token (axis_token m)) (λ a. next (comma m) (λ _. next h (λ e. next (close m) (λ _. done refl))))

pub repeat_reads : (n : ℕ) (inside : Reader Expr) → IsInside n inside
    → Reads n n repeat_pieces (g.repeat_parts n inside)
unfolding g.repeat_parts
repeat_reads n inside h = in_round n (repeat_rest 0 refuse (refused_expr 0)).some (λ m e. repeat_rest m inside (h m e))

selector_rest : (m : ℕ) (h : SelectorHead) → Goes m m (text (choice_text h) ∷ []) selector_pieces (g.selector_rest h)
selector_rest m choice.Faces = done refl
selector_rest m choice.Sidefaces = done refl
selector_rest m choice.Face = next (comma m) (λ _. next (one_token (side_token m)) (λ x. done refl))
selector_rest m choice.Edges = done refl
selector_rest m choice.Edge = next (comma m) (λ _. next (one_token (whole_token 1 12 m refl)) (λ x. done refl))
selector_rest m choice.Vertices = done refl

abbrev pub selector_part_pieces : Selector → Pieces
selector_part_pieces x = sign s.LeftRound ∷ (selector_pieces x ++ (sign s.RightRound ∷ []))

pub selector_reads : (m : ℕ) → Reads m m selector_pieces g.selector
unfolding g.selector
selector_reads m = next (one_token (choice_token m)) (selector_rest m)

selector_part_rest : (m : ℕ)
    → Goes m (suc m) round selector_part_pieces (g.selector >>= λ a. g.sign s.RightRound >> pure a)
selector_part_rest m = next (selector_reads m) (λ a. next (close m) (λ _. done refl))

pub selector_part_reads : (n : ℕ) (inside : Reader Expr) → Reads n n selector_part_pieces (g.selector_part n inside)
unfolding g.selector_part
selector_part_reads n inside = in_round n (selector_part_rest 0).some (λ m e. selector_part_rest m)

-- ---- arguments

abbrev pub further_argument_pieces : Expr → Pieces
further_argument_pieces a = sign s.Comma ∷ expr_pieces a

pub further_argument_long : Long further_argument_pieces
further_argument_long c x a d w = long_of c Usual (lexeme.Sign s.Comma) (expr_pieces a) x d w

pub further_argument_reads : (n m : ℕ) (p : Reader Expr) → Reads m m expr_pieces p
    → Reads m m further_argument_pieces (g.further_argument n p)
unfolding g.further_argument
further_argument_reads n m p h = next (comma m) (λ _. next h (λ a. done refl))

length_map : {A : Type 0} (w : A → Pieces) (xs : List A) → length (map w xs) ≡ length xs
length_map w [] = refl
length_map w (x ∷ xs) = ap suc (length_map w xs)

pub at_most_is : {A : Type 0} (most : ℕ) (p : Piece) (w : A → Pieces) (xs : List A)
    → at_most most p (map w xs) ≡ few_pieces most (λ a. p ∷ w a) xs
at_most_is most p w xs = ap (λ n. if nat_le n most then after_each p (map w xs) else never ∷ []) (length_map w xs) ∙ ap (λ z. if nat_le (length xs) most then z else never ∷ []) (after_map p w xs)

-- arguments, one and further ones
pub arguments_is : {A : Type 0} (w : A → Pieces) (x : A) (more : List A)
    → arguments (map w (x ∷ more)) ≡ ((round ++ w x) ++ few_pieces 3 (λ a. sign s.Comma ∷ w a) more) ++
    (sign s.RightRound ∷ [])
arguments_is w x more = ap (λ z. sign s.LeftRound ∷ (w x ++ (z ++ (sign s.RightRound ∷ [])))) (at_most_is 3 (sign s.Comma) w more) ∙ simp append_assoc

abbrev pub arguments_pieces : List Expr → Pieces
arguments_pieces es = arguments (map expr_pieces es)

arguments_rest : (n m : ℕ) (p : Reader Expr) → Reads m m expr_pieces p →
    Goes m (suc m) round arguments_pieces (p >>= λ e. many_from (is_sign s.Comma) (g.further_argument n p) 3 [] >>= λ more. g.sign s.RightRound >> pure (e ∷ more))
arguments_rest n m p h = next h (λ e. next (limited (is_sign s.Comma) 3 (further_argument_reads n m p h)) (λ more. next (close m) (λ _. done (arguments_is expr_pieces e more))))

some_arguments_reads : (n : ℕ) (inside : Reader Expr) → IsInside n inside
    → Reads n n arguments_pieces (g.some_arguments n inside)
unfolding g.some_arguments
some_arguments_reads n inside h = in_round n (arguments_rest n 0 refuse (refused_expr 0)).some (λ m e. arguments_rest n m inside (h m e))

pub arguments_reads : (n : ℕ) (inside : Reader Expr) → IsInside n inside
    → Reads n n arguments_pieces (g.arguments n inside)
unfolding g.arguments
arguments_reads n inside h = either (is_sign s.LeftRound) (some_arguments_reads n inside h) (done refl)
