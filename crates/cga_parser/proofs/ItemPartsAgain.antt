-- The parts of an item are read as they are written.
use Rattle.std.proofs.Common.{◌≡◌, ℕ, suc, List, [], ◌∷◌, ◌++◌, false, Some, refl, ap, subst, inl, inr}
use Rattle.cga_lexer.specs.declared.sign.Sign.TheVariants as s
use Rattle.cga_word.specs.declared.axis.Axis.{Axis}
use Rattle.cga_word.specs.declared.axis.Axis.TheVariants as axis
use Rattle.cga_word.specs.declared.turn.Turn.{Turn}
use Rattle.cga_word.specs.declared.turn.Turn.TheVariants as turn
use Rattle.cga_word.specs.declared.primitive.Primitive.{Primitive}
use Rattle.cga_word.specs.declared.primitive.Primitive.TheVariants as solid
use Rattle.cga_word.specs.declared.side.Side.{Side}
use Rattle.cga_word.specs.declared.side.Side.TheVariants as side
use Rattle.cga_word.specs.declared.selector.Selector.{Selector}
use Rattle.cga_word.specs.declared.selector.Selector.TheVariants as selector
use Rattle.cga_syntax.specs.declared.lexeme.Lexeme.{Lexeme}
use Rattle.cga_syntax.specs.declared.lexeme.Lexeme.TheVariants as lexeme
use Rattle.cga_rule.specs.declared.expr.Expr.{Expr}
use Rattle.cga_rule.specs.declared.item.Size.{Size}
use Rattle.cga_rule.specs.declared.item.Size.TheVariants as size
use Rattle.cga_syntax.specs.Pieces.{turned, plain, number, sign, text, Pieces, IsTurn, axis_text}
use Rattle.cga_syntax.specs.Pieces.{solid_text, side_text, selector_pieces, size_pieces, expr_pieces}
use Rattle.cga_form.specs.Reader.{Reader, at, begins}
use Rattle.cga_form.specs.Tokens.{a_sign, is_sign, a_whole}
use Rattle.cga_form.specs.Words.{a_relative, is_relative, turn_number, a_turn, a_ninety, an_axis, a_solid, a_side, a_selector}
use Rattle.cga_parser.specs.Grammar as g
use Rattle.cga_parser.proofs.Threes.{threes_are}
use Rattle.cga_form.specs.declared.heads.SelectorHead.TheVariants as choice
use Rattle.cga_form.proofs.Door.{after, all_of, begun_token, ends, entered, few_misses, few_of, missed, misses_each}
use Rattle.cga_form.proofs.Door.{misses_end, misses_nothing, never_leads, peek_no, peek_yes, piece_of}
use Rattle.cga_form.proofs.Door.{plainly, starts_token, took, turned as unrolled, whole_leads, written_as}
use Rattle.cga_form.specs.Laws.{Again, Agrees, Leads, nothing}
use Rattle.cga_parser.proofs.Lists.{preceded_is}
use Rattle.cga_parser.proofs.Exprs.{IsInside}
use Rattle.cga_parser.proofs.ExprsAgain.{goes_on, Spares, expr_begun, AgainInside}
use Rattle.cga_parser.proofs.ItemParts.{size_relative, size_absolute, triple, turn_pieces, turn_part_pieces}
use Rattle.cga_parser.proofs.ItemParts.{solid_pieces, further_size_pieces, further_size_long, further_size_reads}
use Rattle.cga_parser.proofs.ItemParts.{split_pieces, repeat_pieces, selector_part_pieces, further_argument_pieces}
use Rattle.cga_parser.proofs.ItemParts.{at_most_is, arguments_pieces}
use Rattle.cga_parser.proofs.ItemFronts.{with_bracket}
use Rattle.cga_form.proofs.Door.{written_plainly}

relative_spares : Spares is_relative
relative_spares = record { number = λ v. refl; name = λ n. refl; bracket = refl; scope = refl; floor = refl; ceil = refl; rand = refl }

turn_read : (a : Turn) → a_turn (number (turn_number a)) ≡ Some a
turn_read turn.By0 = refl
turn_read turn.By90 = refl
turn_read turn.By180 = refl
turn_read turn.By270 = refl

axis_read : (a : Axis) → an_axis (lexeme.Text (axis_text a)) ≡ Some a
axis_read axis.X = refl
axis_read axis.Y = refl
axis_read axis.Z = refl

solid_read : (a : Primitive) → a_solid (lexeme.Text (solid_text a)) ≡ Some a
solid_read solid.Cube = refl
solid_read solid.Quad = refl
solid_read solid.Shed = refl
solid_read solid.Gable = refl
solid_read solid.Hip = refl

side_read : (a : Side) → a_side (lexeme.Text (side_text a)) ≡ Some a
side_read side.Front = refl
side_read side.Right = refl
side_read side.Back = refl
side_read side.Left = refl
side_read side.Top = refl
side_read side.Bottom = refl

-- ---- turns

minus_again : Leads nothing (sign s.Minus ∷ plain (number 90) ∷ []) g.minus_ninety tt
unfolding g.minus_ninety
minus_again = took (a_sign s.Minus) tt refl (took a_ninety tt refl ends)

turn_plainly : (a : Turn) → Leads nothing (plain (number (turn_number a)) ∷ []) g.quarter_turn a
unfolding g.quarter_turn
turn_plainly a = peek_no _ (missed (begun_token refl)) (took a_turn a (turn_read a) ends)

turn_minus : Leads nothing (sign s.Minus ∷ plain (number 90) ∷ []) g.quarter_turn turn.By270
unfolding g.quarter_turn
turn_minus =
    peek_yes _ (starts_token refl) (plainly (after {v = λ (_ : Unit {0}). sign s.Minus ∷ plain (number 90) ∷ []} _ tt (record { all = λ u. minus_again }) misses_nothing ends))

turn_at : (a : Turn) (c : ℕ) (x : List Lexeme) (d : ℕ) (r : List Lexeme) → IsTurn a x → c ≡ d → begins nothing r ≡ false
    → Agrees (g.quarter_turn (at (x ++ r) c)) a (at r d)
turn_at turn.By0 c x d r h q e = (turn_plainly turn.By0).leads c x d r (written_plainly c x d (number 0 ∷ []) h q) e
turn_at turn.By90 c x d r h q e = (turn_plainly turn.By90).leads c x d r (written_plainly c x d (number 90 ∷ []) h q) e
turn_at turn.By180 c x d r h q e = (turn_plainly turn.By180).leads c x d r (written_plainly c x d (number 180 ∷ []) h q) e
turn_at turn.By270 c x d r (inl h) q e = (turn_plainly turn.By270).leads c x d r (written_plainly c x d (number 270 ∷ []) h q) e
turn_at turn.By270 c x d r (inr h) q e = turn_minus.leads c x d r (written_plainly c x d (lexeme.Sign s.Minus ∷ number 90 ∷ []) h q) e

quarter_again : Again turn_pieces nothing g.quarter_turn
quarter_again = record { all = λ a. record { leads = λ c x d r w e. let t = piece_of c (turned a) x d w in turn_at a c x d r t.0 t.1 e } }

-- ---- selectors

selector_at : (x : Selector) → Leads nothing (selector_pieces x) g.selector x
unfolding g.selector
selector_at selector.Faces = took a_selector choice.Faces refl ends
selector_at selector.Sidefaces = took a_selector choice.Sidefaces refl ends
selector_at (selector.Face x) = took a_selector choice.Face refl (took (a_sign s.Comma) tt refl (took a_side x (side_read x) ends))
selector_at selector.Edges = took a_selector choice.Edges refl ends
selector_at (selector.Edge n) = took a_selector choice.Edge refl (took (a_sign s.Comma) tt refl (whole_leads 1 12 n (λ e. took (a_whole 1 12) n e ends)))
selector_at selector.Vertices = took a_selector choice.Vertices refl ends

selector_again : Again selector_pieces nothing g.selector
selector_again = record { all = selector_at }

module _ (n : ℕ) (inside : Reader Expr) (h : AgainInside n inside) (r : IsInside n inside) where
  size_at : (a : Size) (m : ℕ) → n ≡ suc m → Leads goes_on (size_pieces a) (g.size n inside) a
  unfolding g.size
  size_at (size.Relative q) m e = written_as (size_relative q) (peek_yes _ (starts_token refl) (took a_relative q refl ends))
  size_at (size.Absolute x) m e = written_as (size_absolute x) (peek_no _ (missed (expr_begun relative_spares refl x)) (plainly (after _ x (h m e) (misses_end (λ l q. q)) ends)))

  size_again : (m : ℕ) → n ≡ suc m → Again size_pieces goes_on (g.size n inside)
  size_again m e = record { all = λ a. size_at a m e }

  triple_again : {A : Type 0} {w : A → Pieces} (p : Reader A) (again : Again w goes_on p) (t : A × A × A) →
      Leads nothing (w t.0 ++ (sign s.Comma ∷ (w t.1 ++ (sign s.Comma ∷ (w t.2 ++ (sign s.RightRound ∷ [])))))) (g.in_threes p) t
  triple_again {w = w} p again t =
      subst (λ r. Leads nothing (w t.0 ++ (sign s.Comma ∷ (w t.1 ++ (sign s.Comma ∷ (w t.2 ++ (sign s.RightRound ∷ [])))))) r t) (threes_are p)
      (after _ t.0 again (missed (begun_token refl)) (took (a_sign s.Comma) tt refl (after _ t.1 again (missed (begun_token refl)) (took (a_sign s.Comma) tt refl
      (after _ t.2 again (missed (begun_token refl)) (took (a_sign s.RightRound) tt refl ends))))))

  pub move_again : Again (triple expr_pieces) nothing (g.move_parts n inside)
  unfolding g.move_parts
  move_again = record { all = λ t. entered (a_sign s.LeftRound) n refl (λ m e. triple_again inside (h m e) t) }

  pub resize_again : Again (triple size_pieces) nothing (g.resize_parts n inside)
  unfolding g.resize_parts
  resize_again = record { all = λ t. entered (a_sign s.LeftRound) n refl (λ m e. triple_again (g.size n inside) (size_again m e) t) }

  pub turn_part_again : Again turn_part_pieces nothing (g.turn_part n inside)
  unfolding g.turn_part
  turn_part_again = record { all = λ a. entered (a_sign s.LeftRound) n refl (λ m e. after {v = turn_pieces} _ a quarter_again misses_nothing (took (a_sign s.RightRound) tt refl ends)) }

  pub solid_again : Again solid_pieces nothing (g.solid_part n inside)
  unfolding g.solid_part
  solid_again = record { all = λ a. entered (a_sign s.LeftRound) n refl (λ m e. took a_solid a (solid_read a) (took (a_sign s.RightRound) tt refl ends)) }

  further_size_again : (m : ℕ) → n ≡ suc m → Again further_size_pieces goes_on (g.further_size n inside)
  unfolding g.further_size
  further_size_again m e = record { all = λ a. took (a_sign s.Comma) tt refl (plainly (after _ a (size_again m e) (misses_end (λ l q. q)) ends)) }

  split_at : (a : Axis) (sizes : List Size)
      → Leads nothing (split_pieces (a, sizes)) (g.split_parts n inside) (a, sizes)
  unfolding g.split_parts
  split_at a [] = entered (a_sign s.LeftRound) n refl (λ m e. took an_axis a (axis_read a) never_leads)
  split_at a (x ∷ more) =
      written_as (ap (λ z. sign s.LeftRound ∷ text (axis_text a) ∷ z) (preceded_is (sign s.Comma) size_pieces x more (sign s.RightRound ∷ [])))
      (entered (a_sign s.LeftRound) n refl (λ m e. took an_axis a (axis_read a)
      (after {v = further_size_pieces} _ x (further_size_again m e) (misses_each more (λ z. begun_token refl) (missed (begun_token refl)))
      (all_of _ (is_sign s.Comma) more (record { again = further_size_again m e; starting = λ z. starts_token refl; apart = λ z. begun_token refl })
      (unrolled further_size_pieces m (is_sign s.Comma) (g.further_size n inside) further_size_long (further_size_reads n m inside (r m e)))
      (record { no_more = missed (begun_token refl); no_member = missed (begun_token refl); leads = took (a_sign s.RightRound) tt refl ends })))))

  pub split_again : Again split_pieces nothing (g.split_parts n inside)
  split_again = record { all = λ p. split_at p.0 p.1 }

  pub repeat_again : Again repeat_pieces nothing (g.repeat_parts n inside)
  unfolding g.repeat_parts
  repeat_again = record {
    all = λ p. entered (a_sign s.LeftRound) n refl
        (λ m e. took an_axis p.0 (axis_read p.0)
        (took (a_sign s.Comma) tt refl (after _ p.1 (h m e) (missed (begun_token refl)) (took (a_sign s.RightRound) tt refl ends))));
  }

  pub selector_part_again : Again selector_part_pieces nothing (g.selector_part n inside)
  unfolding g.selector_part
  selector_part_again = record { all = λ x. entered (a_sign s.LeftRound) n refl (λ m e. after _ x selector_again misses_nothing (took (a_sign s.RightRound) tt refl ends)) }

  further_argument_again : (m : ℕ) → n ≡ suc m → Again further_argument_pieces goes_on (g.further_argument n inside)
  unfolding g.further_argument
  further_argument_again m e = record { all = λ a. took (a_sign s.Comma) tt refl (plainly (after _ a (h m e) (misses_end (λ l q. q)) ends)) }

  some_arguments_at : (x : Expr) (more : List Expr)
      → Leads with_bracket (arguments_pieces (x ∷ more)) (g.some_arguments n inside) (x ∷ more)
  unfolding g.some_arguments
  some_arguments_at x more =
      written_as (ap (λ z. sign s.LeftRound ∷ (expr_pieces x ++ (z ++ (sign s.RightRound ∷ [])))) (at_most_is 3 (sign s.Comma) expr_pieces more))
      (entered (a_sign s.LeftRound) n refl
      (λ m e. after _ x (h m e) (few_misses further_argument_pieces (sign s.RightRound ∷ []) 3 more
      (misses_each more (λ z. begun_token refl) (missed (begun_token refl))))
      (few_of further_argument_pieces (sign s.RightRound ∷ []) _ (is_sign s.Comma) 3 more
      (record { again = further_argument_again m e; starting = λ z. starts_token refl; apart = λ z. begun_token refl })
      (record { no_more = missed (begun_token refl); no_member = missed (begun_token refl); leads = took (a_sign s.RightRound) tt refl ends }))))

  arguments_at : (es : List Expr) → Leads with_bracket (arguments_pieces es) (g.arguments n inside) es
  unfolding g.arguments
  arguments_at [] = peek_no _ (misses_end (λ l e. e)) ends
  arguments_at (x ∷ more) = peek_yes _ (starts_token refl) (some_arguments_at x more)

  pub arguments_again : Again arguments_pieces with_bracket (g.arguments n inside)
  arguments_again = record { all = arguments_at }
