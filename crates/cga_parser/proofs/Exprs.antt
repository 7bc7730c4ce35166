-- Expressions are read exactly.
use Rattle.std.proofs.Common.{◌≡◌, ℕ, zero, suc, List, [], ◌∷◌, ◌++◌, append_assoc, Bool, true, false, Some, refl, ap, sym, ◌∙◌, subst, if◌then◌else◌, arith, pos}
use Rattle.cga_fraction.specs.Rat.{of_int}
use Rattle.cga_lexer.specs.declared.sign.Sign.{Sign}
use Rattle.cga_lexer.specs.declared.sign.Sign.TheVariants as s
use Rattle.cga_word.specs.declared.axis.Axis.{Axis}
use Rattle.cga_word.specs.declared.axis.Axis.TheVariants as axis
use Rattle.cga_syntax.specs.Lexemes.{is, is_reserved}
use Rattle.cga_syntax.specs.declared.keyword.Keyword.{Keyword}
use Rattle.cga_syntax.specs.declared.keyword.Keyword.TheVariants as k
use Rattle.cga_syntax.specs.declared.lexeme.Lexeme.{Lexeme}
use Rattle.cga_syntax.specs.declared.lexeme.Lexeme.TheVariants as lexeme
use Rattle.cga_rule.specs.declared.expr.Expr.{Expr, roll-Expr}
use Rattle.cga_rule.specs.declared.expr.Term.{Term, roll-Term}
use Rattle.cga_rule.specs.declared.expr.Added.{out-Added, roll-out-Added}
use Rattle.cga_rule.specs.declared.expr.Factor.{Factor}
use Rattle.cga_rule.specs.declared.expr.Primary.TheVariants as v
use Rattle.cga_syntax.specs.declared.print.space.Space.{Space}
use Rattle.cga_syntax.specs.declared.print.space.Space.TheVariants.{Usual, NoneAfter}
use Rattle.cga_syntax.specs.Pieces.{token, plain, sign, keyword, named, word, whole, Pieces, Writes, grouped}
use Rattle.cga_syntax.specs.Pieces.{size_word, expr_pieces, term_pieces, added_pieces, scaled_pieces, factor_pieces}
use Rattle.cga_syntax.specs.Pieces.{primary_pieces}
use Rattle.cga_syntax.specs.Brackets.{counted, bracket_of}
use Rattle.cga_form.specs.Reader.{Reader, ◌>>=◌, ◌>>◌, pure, refuse, single, enter}
use Rattle.cga_form.specs.Tokens.{a_sign, a_whole, is_sign, is_keyword, unless}
use Rattle.cga_form.specs.Words.{primary_head, primary_words, size_axis, an_addition, a_scaling}
use Rattle.cga_parser.specs.Grammar as g
use Rattle.cga_form.specs.declared.heads.PrimaryHead.{PrimaryHead}
use Rattle.cga_form.specs.declared.heads.PrimaryHead.TheVariants as head
use Rattle.cga_form.proofs.Door.{Long, Token, a_keyword_is, a_sign_is, as_token, bracketed, chosen_has, chosen_token, done, either}
use Rattle.cga_form.proofs.Door.{listed, long_of, named_is, next, nothing, one_rand, one_token, opening}
use Rattle.cga_form.proofs.Door.{refusing, sign_token, token_first, whole_token}
use Rattle.cga_form.specs.Laws.{After, Goes, Reads, Some_text}
use Rattle.std.proofs.Common.{append-nil as nil_right}
use Rattle.cga_parser.proofs.Layers.{expr_layer, term_layer, added_layer, scaled_layer, factor_layer, number_layer, named_layer, size_layer, group_layer, floor_layer, ceil_layer, rand_layer}

pub comma : (n : ℕ) → Reads n n (as_token Usual (lexeme.Sign s.Comma)) (g.sign s.Comma)
comma n = one_token (sign_token Usual s.Comma n n refl refl)

pub dot : (n : ℕ) → Reads n n (as_token Usual (lexeme.Sign s.Dot)) (g.sign s.Dot)
dot n = one_token (sign_token Usual s.Dot n n refl refl)

pub close : (n : ℕ) → Reads n (suc n) (as_token Usual (lexeme.Sign s.RightRound)) (g.sign s.RightRound)
close n = one_token (sign_token Usual s.RightRound n (suc n) refl refl)

pub close_square : (n : ℕ) → Reads n (suc n) (as_token Usual (lexeme.Sign s.RightSquare)) (g.sign s.RightSquare)
close_square n = one_token (sign_token Usual s.RightSquare n (suc n) refl refl)

abbrev pub round : Pieces
round = sign s.LeftRound ∷ []

-- a form in round brackets
pub in_round : {A : Type 0} {w : A → Pieces} {q : Reader A} (n : ℕ) → Some_text (After round w)
    → ((m : ℕ) → n ≡ suc m → Goes m (suc m) round w q) → Reads n n w (enter (a_sign s.LeftRound) n >>= λ _. q)
in_round n some h = bracketed n (opening s.LeftRound refl refl) (λ i e. a_sign_is s.LeftRound i tt e) some h

-- ---- the shortest texts

number_some : Some_text (After [] primary_pieces)
number_some c = (
  lexeme.Number (of_int (pos 1)) ∷ [],
  v.Number (of_int (pos 1)),
  c,
  (plain (lexeme.Number (of_int (pos 1))) ∷ [], number_layer (of_int (pos 1)), token_first c Usual (lexeme.Number (of_int (pos 1))) [] [] c (nothing c)),
)

pub some_as : {A B : Type 0} (v : A → Pieces) (w : B → Pieces) (f : A → B) → ((a : A) → w (f a) ≡ v a)
    → Some_text (After [] v) → Some_text (After [] w)
some_as v w f e s c = let t = s c in (t.0, f t.1, t.2, (t.3.0, e t.1 ∙ t.3.1, t.3.2))

factor_some : Some_text (After [] factor_pieces)
factor_some = some_as primary_pieces factor_pieces (λ p. record { minus = false; primary = p }) (factor_layer false) number_some

term_some : Some_text (After [] term_pieces)
term_some = some_as factor_pieces term_pieces (λ f. roll-Term (record { first = f; rest = [] })) (λ f. term_layer f [] ∙ nil_right (factor_pieces f)) factor_some

pub expr_some : Some_text (After [] expr_pieces)
expr_some = some_as term_pieces expr_pieces (λ t. roll-Expr (record { first = t; rest = [] })) (λ t. expr_layer t [] ∙ nil_right (term_pieces t)) term_some

pub refused_expr : (m : ℕ) → Reads m m expr_pieces refuse
refused_expr m = refusing expr_some

-- ---- brackets

abbrev pub IsInside : ℕ → Reader Expr → Type 0
IsInside n inside = (m : ℕ) → n ≡ suc m → Reads m m expr_pieces inside

abbrev pub group_pieces : Expr → Pieces
group_pieces e = grouped (expr_pieces e)

group_rest : (m : ℕ) (p : Reader Expr) → Reads m m expr_pieces p
    → Goes m (suc m) round group_pieces (p >>= λ e. g.sign s.RightRound >> pure e)
group_rest m p h = next h (λ e. next (close m) (λ _. done refl))

pub group_reads : (n : ℕ) (inside : Reader Expr) → IsInside n inside → Reads n n group_pieces (g.group n inside)
unfolding g.group
group_reads n inside h = in_round n (group_rest 0 refuse (refused_expr 0)).some (λ m e. group_rest m inside (h m e))

abbrev pub rand_rest_pieces : Expr × Expr × ℕ → Pieces
rand_rest_pieces p = sign s.LeftRound ∷ (expr_pieces p.0 ++ (sign s.Comma ∷ (expr_pieces p.1 ++ (sign s.Comma ∷ whole 1 1000000 p.2 ∷ sign s.RightRound ∷ []))))

rand_rest : (m : ℕ) (p : Reader Expr) → Reads m m expr_pieces p →
    Goes m (suc m) round rand_rest_pieces (p >>= λ low. g.sign s.Comma >> (p >>= λ high. g.sign s.Comma >> (single (a_whole 1 1000000) >>= λ steps. g.sign s.RightRound >> pure (low, high, steps))))
rand_rest m p h =
    next h (λ low. next (comma m) (λ _. next h (λ high. next (comma m) (λ _. next (one_token (whole_token 1 1000000 m refl)) (λ steps. next (close m) (λ _. done (simp append_assoc)))))))

rand_reads : (n : ℕ) (inside : Reader Expr) → IsInside n inside → Reads n n rand_rest_pieces (g.rand_parts n inside)
unfolding g.rand_parts
rand_reads n inside h = in_round n (rand_rest 0 refuse (refused_expr 0)).some (λ m e. rand_rest m inside (h m e))

-- ---- heads

abbrev head_pieces : PrimaryHead → Pieces
head_pieces (head.Number value) = plain (lexeme.Number value) ∷ []
head_pieces (head.Named name) = named name ∷ []
head_pieces head.Scope = keyword k.Scope ∷ []
head_pieces head.Floor = keyword k.Floor ∷ []
head_pieces head.Ceil = keyword k.Ceil ∷ []

named_head : (b : Bool) (name : List ℕ) (a : PrimaryHead) → unless b (head.Named name) ≡ Some a
    → (b ≡ false) × (head.Named name ≡ a)
named_head true name a e = absurd (cc)
named_head false name a e = (refl, cc)

head_means : (l : Lexeme) (a : PrimaryHead) → primary_head l ≡ Some a → (sp : Space) × (head_pieces a ≡ token sp l ∷ [])
head_means (lexeme.Number value) a e = let q : head.Number value ≡ a = cc in (Usual, ap head_pieces (sym q))
head_means (lexeme.Name name) a e = let t = named_head (is_reserved name) name a e in (Usual, ap head_pieces (sym t.1) ∙ ap (λ z. z ∷ []) (named_is name t.0))
head_means l a e = (Usual, chosen_has (λ l a. head_pieces a ≡ token Usual l ∷ []) primary_words (refl, (refl, (refl, tt))) l a e)

head_counts : (n : ℕ) (l : Lexeme) (a : PrimaryHead) → primary_head l ≡ Some a → counted (bracket_of l) n ≡ Some n
head_counts n (lexeme.Number value) a e = refl
head_counts n (lexeme.Name name) a e = refl
head_counts n l a e = chosen_has (λ l a. counted (bracket_of l) n ≡ Some n) primary_words (refl, (refl, (refl, tt))) l a e

head_token : (n : ℕ) → Token n n head_pieces primary_head
head_token n = record { means = head_means; counts = head_counts n; some = (lexeme.Keyword k.Scope, head.Scope, refl) }

pub size_token : (n : ℕ) → Token n n (λ a. word (size_word a) ∷ []) size_axis
size_token n = chosen_token axis.X (axis.Y ∷ axis.Z ∷ []) n refl

-- ---- signs of operators

add_token : (n : ℕ) → Token n n (λ minus. sign (if minus then s.Minus else s.Plus) ∷ []) an_addition
add_token n = chosen_token false (true ∷ []) n refl

scale_token : (n : ℕ) → Token n n (λ divide. sign (if divide then s.Slash else s.Star) ∷ []) a_scaling
scale_token n = chosen_token false (true ∷ []) n refl

-- ---- expressions

pub scaled_long : Long scaled_pieces
scaled_long c x f d w = long_of c Usual (lexeme.Sign (if f.divide then s.Slash else s.Star)) (factor_pieces f.factor) x d (subst (λ ps. Writes c ps x d) (scaled_layer f.divide f.factor) w)

pub added_long : Long added_pieces
added_long c x a d w =
    long_of c Usual (lexeme.Sign (if (out-Added a).minus then s.Minus else s.Plus)) (term_pieces (out-Added a).term) x d
    (subst (λ ps. Writes c ps x d) (ap added_pieces (sym (roll-out-Added a)) ∙ added_layer (out-Added a).minus (out-Added a).term) w)

module _ (n : ℕ) (inside : Reader Expr) (h : IsInside n inside) where
  rest_reads : (x : PrimaryHead) → Goes n n (head_pieces x) primary_pieces (g.primary_rest n inside x)
  rest_reads (head.Number value) = done (number_layer value)
  rest_reads (head.Named name) = done (named_layer name)
  rest_reads head.Scope = next (dot n) (λ _. next (one_token (size_token n)) (λ a. done (size_layer a)))
  rest_reads head.Floor = next (group_reads n inside h) (λ e. done (floor_layer e))
  rest_reads head.Ceil = next (group_reads n inside h) (λ e. done (ceil_layer e))

  pub primary_reads : Reads n n primary_pieces (g.primary n inside)
  unfolding g.primary
  primary_reads =
      either (is_sign s.LeftRound) (next (group_reads n inside h) (λ e. done (group_layer e)))
      (either (is_keyword k.Rand) (next (one_rand (λ l e. a_keyword_is k.Rand l tt e) n) (λ j. next (rand_reads n inside h) (λ p. done (rand_layer j p.0 p.1 p.2))))
      (next (one_token (head_token n)) rest_reads))

  pub factor_reads : Reads n n factor_pieces (g.factor n inside)
  unfolding g.factor
  factor_reads =
      either (is_sign s.Minus) (next (one_token (sign_token NoneAfter s.Minus n n refl refl)) (λ _. next primary_reads (λ p. done (factor_layer true p))))
      (next primary_reads (λ p. done (factor_layer false p)))

  pub scaled_reads : Reads n n scaled_pieces (g.scaled n inside)
  unfolding g.scaled
  scaled_reads = next (one_token (scale_token n)) (λ divide. next factor_reads (λ f. done (scaled_layer divide f)))

  pub term_after_reads : (f : Factor) → Goes n n (factor_pieces f) term_pieces (g.term_after n inside f)
  term_after_reads f = next (listed g.is_scaling scaled_long scaled_reads) (λ rest. done (term_layer f rest))

  pub term_reads : Reads n n term_pieces (g.term n inside)
  unfolding g.term
  term_reads = next factor_reads term_after_reads

  pub added_reads : Reads n n added_pieces (g.added n inside)
  unfolding g.added
  added_reads = next (one_token (add_token n)) (λ minus. next term_reads (λ t. done (added_layer minus t)))

  pub expr_after_reads : (t : Term) → Goes n n (term_pieces t) expr_pieces (g.expr_after n inside t)
  expr_after_reads t = next (listed g.is_addition added_long added_reads) (λ rest. done (expr_layer t rest))

  pub layer_reads : Reads n n expr_pieces (g.expr_layer n inside)
  unfolding g.expr_layer
  layer_reads = next term_reads expr_after_reads

pub no_inside : IsInside 0 refuse
no_inside m e = absurd (omega arith)

pub one_inside : (n : ℕ) (p : Reader Expr) → Reads n n expr_pieces p → IsInside (suc n) p
one_inside n p r m e = let q : n ≡ m = omega arith in subst (λ i. Reads i i expr_pieces p) q r

pub expr_reads : (n : ℕ) → Reads n n expr_pieces (g.expr n)
unfolding g.expr
expr_reads zero = layer_reads zero refuse no_inside
expr_reads (suc n) = layer_reads (suc n) (g.expr n) (one_inside n (g.expr n) (expr_reads n))

pub inside_reads : (n : ℕ) → IsInside n (g.inside_of n)
inside_reads zero = no_inside
inside_reads (suc n) = one_inside n (g.expr n) (expr_reads n)
