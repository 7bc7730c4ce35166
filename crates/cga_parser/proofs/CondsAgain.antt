-- A condition is read as it is written.
use Rattle.std.proofs.Common.{◌≡◌, ℕ, zero, suc, ◌||◌, List, [], ◌∷◌, ◌++◌, map, append_assoc, Bool, true, false, Some, refl, ap, sym, ◌∙◌, subst, arith}
use Rattle.cga_lexer.specs.declared.sign.Sign.TheVariants as s
use Rattle.cga_word.specs.declared.axis.Axis.{Axis}
use Rattle.cga_word.specs.declared.axis.Axis.TheVariants as axis
use Rattle.cga_word.specs.declared.target.Target.{Target}
use Rattle.cga_word.specs.declared.target.Target.TheVariants as target
use Rattle.cga_word.specs.declared.answer.Answer.{Answer}
use Rattle.cga_word.specs.declared.answer.Answer.TheVariants as answer
use Rattle.cga_syntax.specs.declared.keyword.Keyword.TheVariants as k
use Rattle.cga_syntax.specs.declared.lexeme.Lexeme.{Lexeme}
use Rattle.cga_syntax.specs.declared.lexeme.Lexeme.TheVariants as lexeme
use Rattle.cga_rule.specs.declared.expr.Expr.{Expr, roll-Expr, out-Expr, roll-out-Expr}
use Rattle.cga_rule.specs.declared.expr.Term.{Term, out-Term, roll-out-Term}
use Rattle.cga_rule.specs.declared.expr.Added.{Added}
use Rattle.cga_rule.specs.declared.expr.Scaled.{Scaled}
use Rattle.cga_rule.specs.declared.expr.Factor.{Factor}
use Rattle.cga_rule.specs.declared.expr.Primary.{Primary, Primary-F, out-Primary, roll-Primary, roll-out-Primary}
use Rattle.cga_rule.specs.declared.expr.Primary.TheVariants.{rolls-Number, rolls-Named, rolls-ScopeSize, rolls-Group, rolls-Floor, rolls-Ceil, rolls-Rand}
use Rattle.cga_rule.specs.declared.expr.Primary.TheOpen as layer
use Rattle.cga_rule.specs.declared.cond.Cond.{Cond, roll-Cond, out-Cond, roll-out-Cond}
use Rattle.cga_rule.specs.declared.cond.Conj.{Conj, roll-Conj, out-Conj, roll-out-Conj}
use Rattle.cga_rule.specs.declared.cond.Test.{Test, Test-F, out-Test, roll-Test, roll-out-Test}
use Rattle.cga_rule.specs.declared.cond.Test.TheVariants as t
use Rattle.cga_rule.specs.declared.cond.Test.TheVariants.{rolls-Group as rolls-Squared, rolls-Not, rolls-Occ, rolls-Compare}
use Rattle.cga_rule.specs.declared.cond.Test.TheFolds.{fold-roll-Cond, fold-roll-Conj}
use Rattle.cga_rule.specs.declared.cond.Test.TheOpen as test
use Rattle.cga_rule.specs.declared.cond.Relation.{Relation}
use Rattle.cga_rule.specs.declared.cond.Relation.TheVariants as relation
use Rattle.cga_syntax.specs.Pieces.{never, sign, keyword, word, Pieces, concat, target_text, state_text}
use Rattle.cga_syntax.specs.Pieces.{relation_sign, equality_sign, expr_pieces, scaled_pieces, added_pieces}
use Rattle.cga_syntax.specs.Pieces.{factor_pieces, primary_pieces, cond_pieces, conj_pieces, test_pieces, test_step}
use Rattle.cga_syntax.specs.Pieces.{cond_step, conj_step}
use Rattle.cga_form.specs.Reader.{Reader, refuse}
use Rattle.cga_form.specs.Tokens.{a_sign, a_keyword, is_sign, is_keyword}
use Rattle.cga_form.specs.Words.{a_relation, an_equality, a_target, a_state, scope_bytes, a_scope_word}
use Rattle.cga_parser.specs.Grammar as g
use Rattle.cga_form.specs.declared.heads.ScopeWord.TheVariants as scope_word
use Rattle.cga_form.proofs.Door.{Begun, after, all_of, begun_append, begun_as, begun_drawn, begun_named}
use Rattle.cga_form.proofs.Door.{begun_nothing, begun_token, ends, entered, missed, misses_each, misses_end}
use Rattle.cga_form.proofs.Door.{misses_nothing, never_leads, peek_no, peek_yes, plainly, starts_token, took, turned}
use Rattle.cga_form.proofs.Door.{written_as}
use Rattle.cga_form.specs.Laws.{Again, Leads, nothing}
use Rattle.cga_parser.proofs.Layers.{expr_layer, term_layer, factor_layer, number_layer, named_layer, group_layer as bracket_layer, floor_layer, ceil_layer, rand_layer}
use Rattle.cga_parser.proofs.Exprs.{inside_reads, scaled_long, scaled_reads, added_long, added_reads}
use Rattle.cga_parser.proofs.ExprsAgain.{goes_on, no_scaling, no_addition, Spares, expr_begun, scaled_again, scaled_starts, added_again, added_starts, added_begun, expr_again, inside_again, neither}
use Rattle.cga_parser.proofs.Conds.{IsInner, no_inner, one_inner, cond_reads, square_pieces, occ_pieces}
use Rattle.cga_parser.proofs.Conds.{sum_layer, further_test_pieces, further_test_long, further_test_reads}
use Rattle.cga_parser.proofs.Conds.{further_conj_pieces, further_conj_long, further_conj_reads, cond_layer}
use Rattle.cga_parser.proofs.Conds.{conj_layer, group_layer, not_layer, occ_layer, compare_layer}

-- the tokens that go on with a conjunction, and with a condition
abbrev pub with_and : Lexeme → Bool
with_and l = goes_on l || is_keyword k.And l

abbrev pub with_or : Lexeme → Bool
with_or l = with_and l || is_keyword k.Or l

relation_read : (r : Relation) → a_relation (lexeme.Sign (relation_sign r)) ≡ Some r
relation_read relation.Equal = refl
relation_read relation.Unequal = refl
relation_read relation.Less = refl
relation_read relation.AtMost = refl
relation_read relation.Greater = refl
relation_read relation.AtLeast = refl

relation_stops : (r : Relation) → goes_on (lexeme.Sign (relation_sign r)) ≡ false
relation_stops relation.Equal = refl
relation_stops relation.Unequal = refl
relation_stops relation.Less = refl
relation_stops relation.AtMost = refl
relation_stops relation.Greater = refl
relation_stops relation.AtLeast = refl

equality_read : (b : Bool) → an_equality (lexeme.Sign (equality_sign b)) ≡ Some b
equality_read true = refl
equality_read false = refl

target_read : (a : Target) → a_target (lexeme.Text (target_text a)) ≡ Some a
target_read target.Noparent = refl
target_read target.Active = refl

state_read : (a : Answer) → a_state (lexeme.Text (state_text a)) ≡ Some a
state_read answer.Nothing = refl
state_read answer.Part = refl
state_read answer.Full = refl

size_read : (a : Axis) → a_scope_word (lexeme.Name (scope_bytes (scope_word.Size a))) ≡ Some (scope_word.Size a)
size_read axis.X = refl
size_read axis.Y = refl
size_read axis.Z = refl

square_spares : Spares (is_sign s.LeftSquare)
square_spares = record { number = λ v. refl; name = λ n. refl; bracket = refl; scope = refl; floor = refl; ceil = refl; rand = refl }

not_spares : Spares (is_keyword k.Not)
not_spares = record { number = λ v. refl; name = λ n. refl; bracket = refl; scope = refl; floor = refl; ceil = refl; rand = refl }

-- a sum begins as its first factor does
sum_begun : {test : Lexeme → Bool} (f : Factor) (fs : List Scaled) (ts : List Added) → Begun test (factor_pieces f)
    → Begun test (expr_pieces (g.sum_of f fs ts))
sum_begun f fs ts b = begun_as (expr_layer _ ts ∙ ap (λ z. z ++ concat (map added_pieces ts)) (term_layer f fs))
    (begun_append (concat (map added_pieces ts)) (begun_append (concat (map scaled_pieces fs)) b))

abbrev pub AgainInner : ℕ → Reader Cond → Type 0
AgainInner n inner = (m : ℕ) → n ≡ suc m → Again cond_pieces with_or inner

no_conjs : conj_pieces (roll-Conj (record { tests = [] })) ≡ never ∷ []
unfolding conj_pieces test_pieces
no_conjs = fold-roll-Conj Pieces Pieces Pieces test_step cond_step conj_step (record { tests = [] })

no_conds : cond_pieces (roll-Cond (record { conjs = [] })) ≡ never ∷ []
unfolding cond_pieces conj_pieces
no_conds = fold-roll-Cond Pieces Pieces Pieces test_step cond_step conj_step (record { conjs = [] })

module _ (n : ℕ) (inner : Reader Cond) (h : AgainInner n inner) (r : IsInner n inner) where
  square_again : Again square_pieces nothing (g.square n inner)
  unfolding g.square
  square_again = record { all = λ c. entered (a_sign s.LeftSquare) n refl (λ m q. after _ c (h m q) (missed (begun_token refl)) (took (a_sign s.RightSquare) tt refl ends)) }

  occ_again : Again occ_pieces nothing (g.occ_parts n inner)
  unfolding g.occ_parts
  occ_again = record {
    all = λ p. entered (a_sign s.LeftRound) n refl (λ m q.
        took a_target p.0 (target_read p.0) (took (a_sign s.RightRound) tt refl (took an_equality p.1 (equality_read p.1) (took a_state p.2 (state_read p.2) ends))));
  }

  compare_again : (left : Expr) (o : Relation) (right : Expr)
      → Leads goes_on (sign (relation_sign o) ∷ expr_pieces right) (g.compare_after n inner left)
      (t.Compare left o right)
  unfolding g.compare_after
  compare_again left o right = took a_relation o (relation_read o) (plainly (after _ right (expr_again n) (misses_end (λ l e. e)) ends))

  abbrev At_test : Test → Type 0
  At_test a = Leads goes_on (test_pieces a) (g.one_test n inner) a

  group_again : (c : Cond) → At_test (t.Group c)
  unfolding g.one_test
  group_again c = written_as (group_layer c) (peek_yes _ (starts_token refl) (plainly (after _ c square_again misses_nothing ends)))

  not_again : (c : Cond) → At_test (t.Not c)
  unfolding g.one_test
  not_again c = written_as (not_layer c)
      (peek_no _ (missed (begun_token refl))
      (peek_yes _ (starts_token refl) (took (a_keyword k.Not) tt refl (plainly (after _ c square_again misses_nothing ends)))))

  asked_again : (a : Target) (equal : Bool) (state : Answer) → At_test (t.Occ a equal state)
  unfolding g.one_test
  asked_again a equal state =
      written_as (occ_layer a equal state) (peek_no _ (missed (begun_token refl)) (peek_no _ (missed (begun_token refl)) (peek_yes _ (starts_token refl)
      (took (a_keyword k.Scope) tt refl (took (a_sign s.Dot) tt refl (took a_scope_word scope_word.Occ refl (plainly (after _ (a, equal, state) occ_again misses_nothing ends))))))))

  -- a comparison that begins with a size of the scope
  sum_again : (a : Axis) (fs : List Scaled) (ts : List Added) (o : Relation) (right : Expr)
      → At_test (t.Compare (g.sum_of (g.size_factor a) fs ts) o right)
  unfolding g.one_test
  sum_again a fs ts o right =
      let left : Expr = g.sum_of (g.size_factor a) fs ts in
      let end : Pieces = sign (relation_sign o) ∷ expr_pieces right in
      written_as (compare_layer left o right ∙ ap (λ z. z ++ end) (sum_layer n inner r a fs ts)
      ∙ ap (λ z. keyword k.Scope ∷ sign s.Dot ∷ word (scope_bytes (scope_word.Size a)) ∷ z)
      (append_assoc (concat (map scaled_pieces fs)) (concat (map added_pieces ts)) end))
      (peek_no _ (missed (begun_token refl)) (peek_no _ (missed (begun_token refl)) (peek_yes _ (starts_token refl)
      (took (a_keyword k.Scope) tt refl (took (a_sign s.Dot) tt refl (took a_scope_word (scope_word.Size a) (size_read a)
      (all_of _ g.is_scaling fs (record { again = scaled_again n (g.inside_of n) (inside_again n) (inside_reads n); starting = scaled_starts; apart = λ z. begun_nothing })
      (turned scaled_pieces n g.is_scaling (g.scaled n (g.inside_of n)) scaled_long (scaled_reads n (g.inside_of n) (inside_reads n)))
      (record {
        no_more = misses_nothing;
        no_member = misses_each ts added_begun (missed (begun_token (no_scaling (lexeme.Sign (relation_sign o)) (relation_stops o))));
        leads =
            all_of _ g.is_addition ts (record { again = added_again n (g.inside_of n) (inside_again n) (inside_reads n); starting = added_starts; apart = added_begun })
            (turned added_pieces n g.is_addition (g.added n (g.inside_of n)) added_long (added_reads n (g.inside_of n) (inside_reads n)))
            (record {
              no_more = missed (begun_token (no_scaling (lexeme.Sign (relation_sign o)) (relation_stops o)));
              no_member = missed (begun_token (no_addition (lexeme.Sign (relation_sign o)) (relation_stops o)));
              leads = compare_again left o right;
            });
      }))))))))

  -- one that doesn't
  other_again : (left : Expr) (o : Relation) (right : Expr) → Begun (is_keyword k.Scope) (expr_pieces left)
      → At_test (t.Compare left o right)
  unfolding g.one_test
  other_again left o right b =
      let end : Pieces = sign (relation_sign o) ∷ expr_pieces right in
      written_as (compare_layer left o right) (peek_no _ (missed (begun_append end (expr_begun square_spares refl left))) (peek_no _ (missed (begun_append end (expr_begun not_spares refl left)))
      (peek_no _ (missed (begun_append end b)) (after _ left (expr_again n) (missed (begun_token (relation_stops o))) (compare_again left o right)))))

  by_primary : (q : Primary-F Primary Added Expr Factor Scaled Term) (fs : List Scaled) (ts : List Added)
      (o : Relation) (right : Expr)
      → At_test (t.Compare (g.sum_of (record { minus = false; primary = roll-Primary q }) fs ts) o right)
  by_primary (layer.ScopeSize a) fs ts o right = subst (λ p. At_test (t.Compare (g.sum_of (record { minus = false; primary = p }) fs ts) o right)) (sym (rolls-ScopeSize a)) (sum_again a fs ts o right)
  by_primary (layer.Number value) fs ts o right = other_again _ o right
      (sum_begun _ fs ts (begun_as (factor_layer false _ ∙ ap primary_pieces (rolls-Number value) ∙ number_layer value) (begun_token refl)))
  by_primary (layer.Named name) fs ts o right = other_again _ o right
      (sum_begun _ fs ts (begun_as (factor_layer false _ ∙ ap primary_pieces (rolls-Named name) ∙ named_layer name) (begun_named name refl)))
  by_primary (layer.Group e) fs ts o right = other_again _ o right (sum_begun _ fs ts (begun_as (factor_layer false _ ∙ ap primary_pieces (rolls-Group e) ∙ bracket_layer e) (begun_token refl)))
  by_primary (layer.Floor e) fs ts o right = other_again _ o right (sum_begun _ fs ts (begun_as (factor_layer false _ ∙ ap primary_pieces (rolls-Floor e) ∙ floor_layer e) (begun_token refl)))
  by_primary (layer.Ceil e) fs ts o right = other_again _ o right (sum_begun _ fs ts (begun_as (factor_layer false _ ∙ ap primary_pieces (rolls-Ceil e) ∙ ceil_layer e) (begun_token refl)))
  by_primary (layer.Rand j low high steps) fs ts o right =
      other_again _ o right (sum_begun _ fs ts (begun_as (factor_layer false _ ∙ ap primary_pieces (rolls-Rand j low high steps) ∙ rand_layer j low high steps) (begun_drawn refl)))

  by_factor : (minus : Bool) (p : Primary) (fs : List Scaled) (ts : List Added) (o : Relation) (right : Expr)
      → At_test (t.Compare (g.sum_of (record { minus = minus; primary = p }) fs ts) o right)
  by_factor true p fs ts o right = other_again _ o right (sum_begun _ fs ts (begun_as (factor_layer true p) (begun_token refl)))
  by_factor false p fs ts o right = subst (λ z. At_test (t.Compare (g.sum_of (record { minus = false; primary = z }) fs ts) o right)) (roll-out-Primary p) (by_primary (out-Primary p) fs ts o right)

  compared_again : (left : Expr) (o : Relation) (right : Expr) → At_test (t.Compare left o right)
  compared_again left o right =
      subst (λ z. At_test (t.Compare z o right)) (roll-out-Expr left)
      (subst (λ z. At_test (t.Compare (roll-Expr (record { first = z; rest = (out-Expr left).rest })) o right)) (roll-out-Term (out-Expr left).first)
      (by_factor (out-Term (out-Expr left).first).first.minus (out-Term (out-Expr left).first).first.primary (out-Term (out-Expr left).first).rest (out-Expr left).rest o right))

  test_at : (q : Test-F Test Cond Conj) → At_test (roll-Test q)
  test_at (test.Group c) = subst At_test (sym (rolls-Squared c)) (group_again c)
  test_at (test.Not c) = subst At_test (sym (rolls-Not c)) (not_again c)
  test_at (test.Occ a equal state) = subst At_test (sym (rolls-Occ a equal state)) (asked_again a equal state)
  test_at (test.Compare left o right) = subst At_test (sym (rolls-Compare left o right)) (compared_again left o right)

  test_again : Again test_pieces goes_on (g.one_test n inner)
  test_again = record { all = λ a. subst At_test (roll-out-Test a) (test_at (out-Test a)) }

  further_test_again : Again further_test_pieces goes_on (g.further_test n inner)
  unfolding g.further_test
  further_test_again = record { all = λ a. took (a_keyword k.And) tt refl (plainly (after _ a test_again (misses_end (λ l e. e)) ends)) }

  conj_at : (tests : List Test)
      → Leads with_and (conj_pieces (roll-Conj (record { tests = tests }))) (g.conj n inner)
      (roll-Conj (record { tests = tests }))
  unfolding g.conj
  conj_at [] = written_as no_conjs never_leads
  conj_at (a ∷ more) =
      let stop : (l : Lexeme) → with_and l ≡ false → goes_on l ≡ false = λ l e. (neither (goes_on l) (is_keyword k.And l) e).0 in
      written_as (conj_layer a more) (after _ a test_again (misses_each more (λ z. begun_token refl) (misses_end stop))
      (all_of _ (is_keyword k.And) more (record { again = further_test_again; starting = λ z. starts_token refl; apart = λ z. begun_token refl })
      (turned further_test_pieces n (is_keyword k.And) (g.further_test n inner) (further_test_long n inner r) (further_test_reads n inner r))
      (record { no_more = misses_end stop; no_member = misses_end (λ l e. (neither (goes_on l) (is_keyword k.And l) e).1); leads = ends })))

  conj_again : Again conj_pieces with_and (g.conj n inner)
  conj_again = record { all = λ c. subst (λ z. Leads with_and (conj_pieces z) (g.conj n inner) z) (roll-out-Conj c) (conj_at (out-Conj c).tests) }

  further_conj_again : Again further_conj_pieces with_and (g.further_conj n inner)
  unfolding g.further_conj
  further_conj_again = record { all = λ a. took (a_keyword k.Or) tt refl (plainly (after _ a conj_again (misses_end (λ l e. e)) ends)) }

  cond_at : (conjs : List Conj)
      → Leads with_or (cond_pieces (roll-Cond (record { conjs = conjs }))) (g.cond_layer n inner)
      (roll-Cond (record { conjs = conjs }))
  unfolding g.cond_layer
  cond_at [] = written_as no_conds never_leads
  cond_at (a ∷ more) =
      let stop : (l : Lexeme) → with_or l ≡ false → with_and l ≡ false = λ l e. (neither (with_and l) (is_keyword k.Or l) e).0 in
      written_as (cond_layer a more) (after _ a conj_again (misses_each more (λ z. begun_token refl) (misses_end stop))
      (all_of _ (is_keyword k.Or) more (record { again = further_conj_again; starting = λ z. starts_token refl; apart = λ z. begun_token refl })
      (turned further_conj_pieces n (is_keyword k.Or) (g.further_conj n inner) (further_conj_long n inner r) (further_conj_reads n inner r))
      (record { no_more = misses_end stop; no_member = misses_end (λ l e. (neither (with_and l) (is_keyword k.Or l) e).1); leads = ends })))

  pub layer_again : Again cond_pieces with_or (g.cond_layer n inner)
  layer_again = record { all = λ c. subst (λ z. Leads with_or (cond_pieces z) (g.cond_layer n inner) z) (roll-out-Cond c) (cond_at (out-Cond c).conjs) }

no_inner_again : AgainInner 0 refuse
no_inner_again m e = absurd (omega arith)

pub cond_again : (n : ℕ) → Again cond_pieces with_or (g.cond n)
unfolding g.cond
cond_again zero = layer_again zero refuse no_inner_again no_inner
cond_again (suc n) = layer_again (suc n) (g.cond n) (λ m e. cond_again n) (one_inner n (g.cond n) (cond_reads n))
