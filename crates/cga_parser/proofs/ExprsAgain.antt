-- An expression is read as it is written.
use Rattle.std.proofs.Common.{◌≡◌, ℕ, zero, suc, ◌||◌, List, [], ◌++◌, map, Bool, true, false, Some, refl, ap, sym, ◌∙◌, subst, if◌then◌else◌, arith}
use Rattle.cga_fraction.specs.Rat.{Rat}
use Rattle.cga_lexer.specs.declared.sign.Sign.TheVariants as s
use Rattle.cga_word.specs.declared.axis.Axis.{Axis}
use Rattle.cga_word.specs.declared.axis.Axis.TheVariants as axis
use Rattle.cga_syntax.specs.declared.keyword.Keyword.TheVariants as k
use Rattle.cga_syntax.specs.declared.lexeme.Lexeme.{Lexeme}
use Rattle.cga_syntax.specs.declared.lexeme.Lexeme.TheVariants as lexeme
use Rattle.cga_rule.specs.declared.expr.Expr.{Expr, roll-Expr, out-Expr, roll-out-Expr}
use Rattle.cga_rule.specs.declared.expr.Term.{Term, roll-Term, out-Term, roll-out-Term}
use Rattle.cga_rule.specs.declared.expr.Added.{Added, roll-Added, out-Added, roll-out-Added}
use Rattle.cga_rule.specs.declared.expr.Scaled.{Scaled}
use Rattle.cga_rule.specs.declared.expr.Factor.{Factor}
use Rattle.cga_rule.specs.declared.expr.Primary.{Primary, Primary-F, out-Primary, roll-Primary, roll-out-Primary}
use Rattle.cga_rule.specs.declared.expr.Primary.TheVariants as v
use Rattle.cga_rule.specs.declared.expr.Primary.TheVariants.{rolls-Number, rolls-Named, rolls-ScopeSize, rolls-Group, rolls-Floor, rolls-Ceil, rolls-Rand}
use Rattle.cga_rule.specs.declared.expr.Primary.TheOpen as layer
use Rattle.cga_syntax.specs.Pieces.{concat, size_word, expr_pieces, term_pieces, added_pieces, scaled_pieces, factor_pieces, primary_pieces}
use Rattle.cga_form.specs.Reader.{Reader, refuse}
use Rattle.cga_form.specs.Tokens.{a_sign, a_keyword, a_whole, is_sign, unless}
use Rattle.cga_form.specs.Words.{primary_head, size_axis, an_addition, a_scaling}
use Rattle.cga_parser.specs.Grammar as g
use Rattle.cga_form.specs.declared.heads.PrimaryHead.TheVariants as head
use Rattle.cga_form.proofs.Door.{Begun, Starts, after, all_of, begun_append, begun_as, begun_drawn, begun_named}
use Rattle.cga_form.proofs.Door.{begun_nothing, begun_token, by_name, drew, ends, entered, missed, misses_each}
use Rattle.cga_form.proofs.Door.{misses_end, misses_nothing, peek_no, peek_yes, plainly, starts_as, starts_drawn}
use Rattle.cga_form.proofs.Door.{starts_token, took, turned, whole_leads, written_as}
use Rattle.cga_form.specs.Laws.{Again, Leads, nothing}
use Rattle.std.proofs.Common.{append-nil as nil_right}
use Rattle.cga_parser.proofs.Exprs.{IsInside, group_pieces, rand_rest_pieces, scaled_long, scaled_reads, added_long, added_reads, expr_reads, no_inside, one_inside}
use Rattle.cga_parser.proofs.Layers.{expr_layer, term_layer, added_layer, scaled_layer, factor_layer, number_layer, named_layer, size_layer, group_layer, floor_layer, ceil_layer, rand_layer}
pub use Rattle.std.proofs.lemmas.Bool.{or_parts as neither}

-- the tokens that go on with an expression
abbrev pub goes_on : Lexeme → Bool
goes_on l = g.is_scaling l || g.is_addition l

pub no_scaling : (l : Lexeme) → goes_on l ≡ false → g.is_scaling l ≡ false
no_scaling l e = (neither (g.is_scaling l) (g.is_addition l) e).0

pub no_addition : (l : Lexeme) → goes_on l ≡ false → g.is_addition l ≡ false
no_addition l e = (neither (g.is_scaling l) (g.is_addition l) e).1

pub axis_read : (a : Axis) → size_axis (lexeme.Name (size_word a)) ≡ Some a
axis_read axis.X = refl
axis_read axis.Y = refl
axis_read axis.Z = refl

scale_read : (divide : Bool) → a_scaling (lexeme.Sign (if divide then s.Slash else s.Star)) ≡ Some divide
scale_read true = refl
scale_read false = refl

add_read : (minus : Bool) → an_addition (lexeme.Sign (if minus then s.Minus else s.Plus)) ≡ Some minus
add_read true = refl
add_read false = refl

add_starts : (minus : Bool) → g.is_addition (lexeme.Sign (if minus then s.Minus else s.Plus)) ≡ true
add_starts true = refl
add_starts false = refl

add_begun : (minus : Bool) → g.is_scaling (lexeme.Sign (if minus then s.Minus else s.Plus)) ≡ false
add_begun true = refl
add_begun false = refl

scale_starts : (divide : Bool) → g.is_scaling (lexeme.Sign (if divide then s.Slash else s.Star)) ≡ true
scale_starts true = refl
scale_starts false = refl

-- none of the tokens begins a primary
pub record Spares (test : Lexeme → Bool) : Type 0 where
  pub number : (value : Rat) → test (lexeme.Number value) ≡ false
  pub name : (name : List ℕ) → test (lexeme.Name name) ≡ false
  pub bracket : test (lexeme.Sign s.LeftRound) ≡ false
  pub scope : test (lexeme.Keyword k.Scope) ≡ false
  pub floor : test (lexeme.Keyword k.Floor) ≡ false
  pub ceil : test (lexeme.Keyword k.Ceil) ≡ false
  pub rand : test (lexeme.Keyword k.Rand) ≡ false

layer_begun : {test : Lexeme → Bool} → Spares test → (q : Primary-F Primary Added Expr Factor Scaled Term)
    → Begun test (primary_pieces (roll-Primary q))
layer_begun h (layer.Number value) = begun_as (ap primary_pieces (rolls-Number value) ∙ number_layer value) (begun_token (h.number value))
layer_begun h (layer.Named name) = begun_as (ap primary_pieces (rolls-Named name) ∙ named_layer name) (begun_named name (h.name name))
layer_begun h (layer.ScopeSize a) = begun_as (ap primary_pieces (rolls-ScopeSize a) ∙ size_layer a) (begun_token h.scope)
layer_begun h (layer.Group e) = begun_as (ap primary_pieces (rolls-Group e) ∙ group_layer e) (begun_token h.bracket)
layer_begun h (layer.Floor e) = begun_as (ap primary_pieces (rolls-Floor e) ∙ floor_layer e) (begun_token h.floor)
layer_begun h (layer.Ceil e) = begun_as (ap primary_pieces (rolls-Ceil e) ∙ ceil_layer e) (begun_token h.ceil)
layer_begun h (layer.Rand j low high steps) = begun_as (ap primary_pieces (rolls-Rand j low high steps) ∙ rand_layer j low high steps) (begun_drawn h.rand)

pub primary_begun : {test : Lexeme → Bool} → Spares test → (p : Primary) → Begun test (primary_pieces p)
primary_begun {test} h p = subst (λ z. Begun test (primary_pieces z)) (roll-out-Primary p) (layer_begun h (out-Primary p))

factor_begun_by : {test : Lexeme → Bool} → Spares test → test (lexeme.Sign s.Minus) ≡ false
    → (minus : Bool) (p : Primary) → Begun test (factor_pieces (record { minus = minus; primary = p }))
factor_begun_by h m true p = begun_as (factor_layer true p) (begun_token m)
factor_begun_by h m false p = begun_as (factor_layer false p) (primary_begun h p)

pub factor_begun : {test : Lexeme → Bool} → Spares test → test (lexeme.Sign s.Minus) ≡ false → (f : Factor)
    → Begun test (factor_pieces f)
factor_begun h m f = factor_begun_by h m f.minus f.primary

pub term_begun : {test : Lexeme → Bool} → Spares test → test (lexeme.Sign s.Minus) ≡ false → (t : Term)
    → Begun test (term_pieces t)
term_begun {test} h m t = subst (λ z. Begun test (term_pieces z)) (roll-out-Term t)
    (begun_as (term_layer (out-Term t).first (out-Term t).rest)
    (begun_append (concat (map scaled_pieces (out-Term t).rest)) (factor_begun h m (out-Term t).first)))

pub expr_begun : {test : Lexeme → Bool} → Spares test → test (lexeme.Sign s.Minus) ≡ false → (e : Expr)
    → Begun test (expr_pieces e)
expr_begun {test} h m e = subst (λ z. Begun test (expr_pieces z)) (roll-out-Expr e)
    (begun_as (expr_layer (out-Expr e).first (out-Expr e).rest)
    (begun_append (concat (map added_pieces (out-Expr e).rest)) (term_begun h m (out-Expr e).first)))

abbrev pub AgainInside : ℕ → Reader Expr → Type 0
AgainInside n inside = (m : ℕ) → n ≡ suc m → Again expr_pieces goes_on inside

minus_spares : Spares (is_sign s.Minus)
minus_spares = record { number = λ v. refl; name = λ n. refl; bracket = refl; scope = refl; floor = refl; ceil = refl; rand = refl }

pub added_starts : (a : Added) → Starts g.is_addition (added_pieces a)
added_starts a = subst (λ z. Starts g.is_addition (added_pieces z)) (roll-out-Added a) (starts_as (added_layer (out-Added a).minus (out-Added a).term) (starts_token (add_starts (out-Added a).minus)))

pub added_begun : (a : Added) → Begun g.is_scaling (added_pieces a)
added_begun a = subst (λ z. Begun g.is_scaling (added_pieces z)) (roll-out-Added a) (begun_as (added_layer (out-Added a).minus (out-Added a).term) (begun_token (add_begun (out-Added a).minus)))

pub scaled_starts : (f : Scaled) → Starts g.is_scaling (scaled_pieces f)
scaled_starts f = starts_as (scaled_layer f.divide f.factor) (starts_token (scale_starts f.divide))

module _ (n : ℕ) (inside : Reader Expr) (h : AgainInside n inside) (r : IsInside n inside) where
  pub group_again : Again group_pieces nothing (g.group n inside)
  unfolding g.group
  group_again = record { all = λ e. entered (a_sign s.LeftRound) n refl (λ m q. after _ e (h m q) (missed (begun_token refl)) (took (a_sign s.RightRound) tt refl ends)) }

  rand_again : Again rand_rest_pieces nothing (g.rand_parts n inside)
  unfolding g.rand_parts
  rand_again = record {
    all = λ p. entered (a_sign s.LeftRound) n refl (λ m q.
        after _ p.0 (h m q) (missed (begun_token refl)) (took (a_sign s.Comma) tt refl
        (after _ p.1 (h m q) (missed (begun_token refl)) (took (a_sign s.Comma) tt refl
        (whole_leads 1 1000000 p.2 (λ e. took (a_whole 1 1000000) p.2 e (took (a_sign s.RightRound) tt refl ends)))))));
  }

  number_again : (value : Rat) → Leads nothing (primary_pieces (v.Number value)) (g.primary n inside) (v.Number value)
  unfolding g.primary
  number_again value = written_as (number_layer value) (peek_no _ (missed (begun_token refl)) (peek_no _ (missed (begun_token refl)) (took primary_head (head.Number value) refl ends)))

  named_again : (name : List ℕ) → Leads nothing (primary_pieces (v.Named name)) (g.primary n inside) (v.Named name)
  unfolding g.primary
  named_again name =
      written_as (named_layer name) (peek_no _ (missed (begun_named name refl)) (peek_no _ (missed (begun_named name refl))
      (by_name name (λ e. took primary_head (head.Named name) (ap (λ b. unless b (head.Named name)) e) ends))))

  size_again : (a : Axis) → Leads nothing (primary_pieces (v.ScopeSize a)) (g.primary n inside) (v.ScopeSize a)
  unfolding g.primary
  size_again a =
      written_as (size_layer a) (peek_no _ (missed (begun_token refl)) (peek_no _ (missed (begun_token refl))
      (took primary_head head.Scope refl (took (a_sign s.Dot) tt refl (took size_axis a (axis_read a) ends)))))

  grouped_again : (e : Expr) → Leads nothing (primary_pieces (v.Group e)) (g.primary n inside) (v.Group e)
  unfolding g.primary
  grouped_again e = written_as (group_layer e) (peek_yes _ (starts_token refl) (plainly (after _ e group_again misses_nothing ends)))

  floor_again : (e : Expr) → Leads nothing (primary_pieces (v.Floor e)) (g.primary n inside) (v.Floor e)
  unfolding g.primary
  floor_again e = written_as (floor_layer e)
      (peek_no _ (missed (begun_token refl))
      (peek_no _ (missed (begun_token refl)) (took primary_head head.Floor refl (plainly (after _ e group_again misses_nothing ends)))))

  ceil_again : (e : Expr) → Leads nothing (primary_pieces (v.Ceil e)) (g.primary n inside) (v.Ceil e)
  unfolding g.primary
  ceil_again e = written_as (ceil_layer e)
      (peek_no _ (missed (begun_token refl))
      (peek_no _ (missed (begun_token refl)) (took primary_head head.Ceil refl (plainly (after _ e group_again misses_nothing ends)))))

  drawn_again : (j : ℕ) (low high : Expr) (steps : ℕ)
      → Leads nothing (primary_pieces (v.Rand j low high steps)) (g.primary n inside) (v.Rand j low high steps)
  unfolding g.primary
  drawn_again j low high steps =
      written_as (rand_layer j low high steps) (peek_no _ (missed (begun_drawn refl)) (peek_yes _ (starts_drawn refl)
      (drew (a_keyword k.Rand) j refl (plainly (after _ (low, high, steps) rand_again misses_nothing ends)))))

  abbrev At_primary : Primary → Type 0
  At_primary p = Leads nothing (primary_pieces p) (g.primary n inside) p

  primary_at : (q : Primary-F Primary Added Expr Factor Scaled Term) → At_primary (roll-Primary q)
  primary_at (layer.Number value) = subst At_primary (sym (rolls-Number value)) (number_again value)
  primary_at (layer.Named name) = subst At_primary (sym (rolls-Named name)) (named_again name)
  primary_at (layer.ScopeSize a) = subst At_primary (sym (rolls-ScopeSize a)) (size_again a)
  primary_at (layer.Group e) = subst At_primary (sym (rolls-Group e)) (grouped_again e)
  primary_at (layer.Floor e) = subst At_primary (sym (rolls-Floor e)) (floor_again e)
  primary_at (layer.Ceil e) = subst At_primary (sym (rolls-Ceil e)) (ceil_again e)
  primary_at (layer.Rand j low high steps) = subst At_primary (sym (rolls-Rand j low high steps)) (drawn_again j low high steps)

  pub primary_again : Again primary_pieces nothing (g.primary n inside)
  primary_again = record { all = λ p. subst At_primary (roll-out-Primary p) (primary_at (out-Primary p)) }

  factor_at : (minus : Bool) (p : Primary)
      → Leads nothing (factor_pieces (record { minus = minus; primary = p })) (g.factor n inside)
      (record { minus = minus; primary = p })
  unfolding g.factor
  factor_at true p = written_as (factor_layer true p) (peek_yes _ (starts_token refl) (took (a_sign s.Minus) tt refl (plainly (after _ p primary_again misses_nothing ends))))
  factor_at false p = written_as (factor_layer false p) (peek_no _ (missed (primary_begun minus_spares p)) (plainly (after _ p primary_again misses_nothing ends)))

  pub factor_again : Again factor_pieces nothing (g.factor n inside)
  factor_again = record { all = λ f. factor_at f.minus f.primary }

  scaled_at : (divide : Bool) (f : Factor)
      → Leads nothing (scaled_pieces (record { divide = divide; factor = f })) (g.scaled n inside)
      (record { divide = divide; factor = f })
  unfolding g.scaled
  scaled_at divide f = written_as (scaled_layer divide f) (took a_scaling divide (scale_read divide) (plainly (after _ f factor_again misses_nothing ends)))

  pub scaled_again : Again scaled_pieces nothing (g.scaled n inside)
  scaled_again = record { all = λ f. scaled_at f.divide f.factor }

  -- the factors after the first
  pub term_rest : (f : Factor) (rest : List Scaled)
      → Leads g.is_scaling (concat (map scaled_pieces rest)) (g.term_after n inside f)
      (roll-Term (record { first = f; rest = rest }))
  term_rest f rest =
      plainly (all_of _ g.is_scaling rest (record { again = scaled_again; starting = scaled_starts; apart = λ a. begun_nothing })
      (turned scaled_pieces n g.is_scaling (g.scaled n inside) scaled_long (scaled_reads n inside r))
      (record { no_more = misses_nothing; no_member = misses_end (λ l e. e); leads = ends }))

  term_at : (f : Factor) (rest : List Scaled)
      → Leads g.is_scaling (term_pieces (roll-Term (record { first = f; rest = rest }))) (g.term n inside)
      (roll-Term (record { first = f; rest = rest }))
  unfolding g.term
  term_at f rest = written_as (term_layer f rest) (after _ f factor_again misses_nothing (term_rest f rest))

  pub term_again : Again term_pieces g.is_scaling (g.term n inside)
  term_again = record { all = λ t. subst (λ z. Leads g.is_scaling (term_pieces z) (g.term n inside) z) (roll-out-Term t) (term_at (out-Term t).first (out-Term t).rest) }

  added_at : (minus : Bool) (t : Term)
      → Leads g.is_scaling (added_pieces (roll-Added (record { minus = minus; term = t }))) (g.added n inside)
      (roll-Added (record { minus = minus; term = t }))
  unfolding g.added
  added_at minus t = written_as (added_layer minus t) (took an_addition minus (add_read minus) (plainly (after _ t term_again (misses_end (λ l e. e)) ends)))

  pub added_again : Again added_pieces g.is_scaling (g.added n inside)
  added_again = record { all = λ a. subst (λ z. Leads g.is_scaling (added_pieces z) (g.added n inside) z) (roll-out-Added a) (added_at (out-Added a).minus (out-Added a).term) }

  -- the terms after the first
  pub expr_rest : (t : Term) (rest : List Added)
      → Leads goes_on (concat (map added_pieces rest) ++ []) (g.expr_after n inside t)
      (roll-Expr (record { first = t; rest = rest }))
  expr_rest t rest =
      all_of _ g.is_addition rest (record { again = added_again; starting = added_starts; apart = added_begun })
      (turned added_pieces n g.is_addition (g.added n inside) added_long (added_reads n inside r))
      (record { no_more = misses_end no_scaling; no_member = misses_end no_addition; leads = ends })

  expr_at : (t : Term) (rest : List Added)
      → Leads goes_on (expr_pieces (roll-Expr (record { first = t; rest = rest }))) (g.expr_layer n inside)
      (roll-Expr (record { first = t; rest = rest }))
  unfolding g.expr_layer
  expr_at t rest =
      written_as (expr_layer t rest ∙ ap (λ z. term_pieces t ++ z) (sym (nil_right (concat (map added_pieces rest)))))
      (after _ t term_again (misses_each rest added_begun (misses_end no_scaling)) (expr_rest t rest))

  pub layer_again : Again expr_pieces goes_on (g.expr_layer n inside)
  layer_again = record { all = λ e. subst (λ z. Leads goes_on (expr_pieces z) (g.expr_layer n inside) z) (roll-out-Expr e) (expr_at (out-Expr e).first (out-Expr e).rest) }

no_inside_again : AgainInside 0 refuse
no_inside_again m e = absurd (omega arith)

pub expr_again : (n : ℕ) → Again expr_pieces goes_on (g.expr n)
unfolding g.expr
expr_again zero = layer_again zero refuse no_inside_again no_inside
expr_again (suc n) = layer_again (suc n) (g.expr n) (λ m e. expr_again n) (one_inside n (g.expr n) (expr_reads n))

pub inside_again : (n : ℕ) → AgainInside n (g.inside_of n)
inside_again zero = no_inside_again
inside_again (suc n) = λ m e. expr_again n
