-- Conditions are read exactly.
use Rattle.std.proofs.Common.{◌≡◌, ℕ, zero, suc, List, [], ◌∷◌, ◌++◌, map, append_assoc, Bool, true, false, Some, refl, ap, sym, ◌∙◌, subst, arith, codes}
use Rattle.cga_lexer.specs.declared.sign.Sign.{Sign}
use Rattle.cga_lexer.specs.declared.sign.Sign.TheVariants as s
use Rattle.cga_word.specs.declared.axis.Axis.{Axis}
use Rattle.cga_word.specs.declared.axis.Axis.TheVariants as axis
use Rattle.cga_word.specs.declared.target.Target.{Target}
use Rattle.cga_word.specs.declared.target.Target.TheVariants as target
use Rattle.cga_word.specs.declared.answer.Answer.{Answer}
use Rattle.cga_word.specs.declared.answer.Answer.TheVariants as answer
use Rattle.cga_syntax.specs.Lexemes.{is}
use Rattle.cga_syntax.specs.declared.keyword.Keyword.TheVariants as k
use Rattle.cga_syntax.specs.declared.lexeme.Lexeme.{Lexeme}
use Rattle.cga_syntax.specs.declared.lexeme.Lexeme.TheVariants as lexeme
use Rattle.cga_rule.specs.declared.expr.Expr.{Expr}
use Rattle.cga_rule.specs.declared.expr.Scaled.{Scaled}
use Rattle.cga_rule.specs.declared.expr.Added.{Added}
use Rattle.cga_rule.specs.declared.cond.Cond.{Cond, roll-Cond}
use Rattle.cga_rule.specs.declared.cond.Conj.{Conj, roll-Conj}
use Rattle.cga_rule.specs.declared.cond.Test.{Test}
use Rattle.cga_rule.specs.declared.cond.Test.TheVariants as t
use Rattle.cga_rule.specs.declared.cond.Test.TheVariants.{rolls-Group, rolls-Not, rolls-Occ, rolls-Compare}
use Rattle.cga_rule.specs.declared.cond.Test.TheFolds.{fold-roll-Cond, fold-roll-Conj, fold-roll-Test}
use Rattle.cga_rule.specs.declared.cond.Test.TheOpen as layer
use Rattle.cga_rule.specs.declared.cond.Relation.{Relation}
use Rattle.cga_rule.specs.declared.cond.Relation.TheVariants as relation
use Rattle.cga_syntax.specs.declared.print.space.Space.TheVariants.{Usual}
use Rattle.cga_syntax.specs.Pieces.{token, sign, keyword, word, text, Pieces, concat, squared, size_word, target_text}
use Rattle.cga_syntax.specs.Pieces.{state_text, relation_sign, equality_sign, expr_pieces, scaled_pieces}
use Rattle.cga_syntax.specs.Pieces.{added_pieces, cond_pieces, conj_pieces, test_pieces, test_step, cond_step}
use Rattle.cga_syntax.specs.Pieces.{conj_step}
use Rattle.cga_syntax.specs.Brackets.{counted, bracket_of}
use Rattle.cga_form.specs.Reader.{Reader, ◌>>=◌, ◌>>◌, pure, refuse, single}
use Rattle.cga_form.specs.Tokens.{is_sign, is_keyword}
use Rattle.cga_form.specs.Words.{a_relation, an_equality, a_target, a_state, scope_bytes, a_scope_word}
use Rattle.cga_parser.specs.Grammar as g
use Rattle.cga_form.specs.declared.heads.ScopeWord.{ScopeWord}
use Rattle.cga_form.specs.declared.heads.ScopeWord.TheVariants as scope_word
use Rattle.cga_form.proofs.Door.{Long, Token, a_sign_is, bracketed, chosen_token, done, either, keyword_token}
use Rattle.cga_form.proofs.Door.{listed, long_of, next, one_token, opening, plain_written, refusing}
use Rattle.cga_form.specs.Laws.{After, Goes, Reads, Some_text}
use Rattle.std.proofs.Common.{append-nil as nil_right}
use Rattle.cga_parser.proofs.Layers.{expr_layer, term_layer, factor_layer, size_layer}
use Rattle.cga_parser.proofs.Lists.{separated_is}
use Rattle.cga_parser.proofs.Exprs.{dot, close, close_square, round, in_round, some_as, expr_reads, inside_reads, scaled_long, scaled_reads, added_long, added_reads}

-- ---- one layer of the pieces

pub cond_layer : (a : Conj) (more : List Conj)
    → cond_pieces (roll-Cond (record { conjs = a ∷ more })) ≡ conj_pieces a ++
    (concat (map (λ c. keyword k.Or ∷ conj_pieces c) more) ++ [])
unfolding cond_pieces conj_pieces
cond_layer a more = fold-roll-Cond Pieces Pieces Pieces test_step cond_step conj_step (record { conjs = a ∷ more }) ∙ separated_is (keyword k.Or) conj_pieces a more []

pub conj_layer : (a : Test) (more : List Test)
    → conj_pieces (roll-Conj (record { tests = a ∷ more })) ≡ test_pieces a ++
    (concat (map (λ c. keyword k.And ∷ test_pieces c) more) ++ [])
unfolding conj_pieces test_pieces
conj_layer a more = fold-roll-Conj Pieces Pieces Pieces test_step cond_step conj_step (record { tests = a ∷ more }) ∙ separated_is (keyword k.And) test_pieces a more []

pub group_layer : (c : Cond) → test_pieces (t.Group c) ≡ squared (cond_pieces c)
unfolding test_pieces cond_pieces
group_layer c = ap test_pieces (sym (rolls-Group c)) ∙ fold-roll-Test Pieces Pieces Pieces test_step cond_step conj_step (layer.Group c)

pub not_layer : (c : Cond) → test_pieces (t.Not c) ≡ keyword k.Not ∷ squared (cond_pieces c)
unfolding test_pieces cond_pieces
not_layer c = ap test_pieces (sym (rolls-Not c)) ∙ fold-roll-Test Pieces Pieces Pieces test_step cond_step conj_step (layer.Not c)

pub occ_layer : (target : Target) (equal : Bool) (state : Answer) →
    test_pieces (t.Occ target equal state) ≡ keyword k.Scope ∷ sign s.Dot ∷ word (scope_bytes scope_word.Occ)
    ∷ sign s.LeftRound ∷ text (target_text target) ∷ sign s.RightRound ∷ sign (equality_sign equal) ∷ text (state_text state) ∷ []
unfolding test_pieces
occ_layer target equal state = ap test_pieces (sym (rolls-Occ target equal state)) ∙ fold-roll-Test Pieces Pieces Pieces test_step cond_step conj_step (layer.Occ target equal state)

pub compare_layer : (left : Expr) (r : Relation) (right : Expr)
    → test_pieces (t.Compare left r right) ≡ expr_pieces left ++ (sign (relation_sign r) ∷ expr_pieces right)
unfolding test_pieces
compare_layer left r right = ap test_pieces (sym (rolls-Compare left r right)) ∙ fold-roll-Test Pieces Pieces Pieces test_step cond_step conj_step (layer.Compare left r right)

-- ---- tokens

relation_token : (n : ℕ) → Token n n (λ r. sign (relation_sign r) ∷ []) a_relation
relation_token n = chosen_token relation.Equal (relation.Unequal ∷ relation.Less ∷ relation.AtMost ∷ relation.Greater ∷ relation.AtLeast ∷ []) n refl

equality_token : (n : ℕ) → Token n n (λ b. sign (equality_sign b) ∷ []) an_equality
equality_token n = chosen_token true (false ∷ []) n refl

target_token : (n : ℕ) → Token n n (λ a. text (target_text a) ∷ []) a_target
target_token n = chosen_token target.Noparent (target.Active ∷ []) n refl

state_token : (n : ℕ) → Token n n (λ a. text (state_text a) ∷ []) a_state
state_token n = chosen_token answer.Nothing (answer.Part ∷ answer.Full ∷ []) n refl

scope_token : (n : ℕ) → Token n n (λ a. word (scope_bytes a) ∷ []) a_scope_word
scope_token n = chosen_token scope_word.Occ (scope_word.Size axis.X ∷ scope_word.Size axis.Y ∷ scope_word.Size axis.Z ∷ []) n refl

-- ---- forms

abbrev occ_text : List Lexeme
occ_text =
    lexeme.Keyword k.Scope ∷ lexeme.Sign s.Dot ∷ lexeme.Name (codes "occ") ∷ lexeme.Sign s.LeftRound
    ∷ lexeme.Text (codes "active") ∷ lexeme.Sign s.RightRound ∷ lexeme.Sign s.Equal ∷ lexeme.Text (codes "none") ∷ []

test_some : Some_text (After [] test_pieces)
test_some c = (occ_text, t.Occ target.Active true answer.Nothing, c, (map (token Usual) occ_text, occ_layer target.Active true answer.Nothing, plain_written c occ_text))

conj_some : Some_text (After [] conj_pieces)
conj_some = some_as test_pieces conj_pieces (λ a. roll-Conj (record { tests = a ∷ [] })) (λ a. conj_layer a [] ∙ nil_right (test_pieces a)) test_some

pub cond_some : Some_text (After [] cond_pieces)
cond_some = some_as conj_pieces cond_pieces (λ a. roll-Cond (record { conjs = a ∷ [] })) (λ a. cond_layer a [] ∙ nil_right (conj_pieces a)) conj_some

abbrev pub IsInner : ℕ → Reader Cond → Type 0
IsInner n inner = (m : ℕ) → n ≡ suc m → Reads m m cond_pieces inner

abbrev pub square_pieces : Cond → Pieces
square_pieces c = squared (cond_pieces c)

square_rest : (m : ℕ) (p : Reader Cond) → Reads m m cond_pieces p
    → Goes m (suc m) (sign s.LeftSquare ∷ []) square_pieces (p >>= λ c. g.sign s.RightSquare >> pure c)
square_rest m p h = next h (λ c. next (close_square m) (λ _. done refl))

square_reads : (n : ℕ) (inner : Reader Cond) → IsInner n inner → Reads n n square_pieces (g.square n inner)
unfolding g.square
square_reads n inner h = bracketed n (opening s.LeftSquare refl refl) (λ i e. a_sign_is s.LeftSquare i tt e) (square_rest 0 refuse (refusing cond_some)).some (λ m e. square_rest m inner (h m e))

abbrev pub occ_pieces : Target × Bool × Answer → Pieces
occ_pieces p = sign s.LeftRound ∷ text (target_text p.0) ∷ sign s.RightRound ∷ sign (equality_sign p.1) ∷ text (state_text p.2) ∷ []

occ_rest : (m : ℕ)
    → Goes m (suc m) round occ_pieces
    (single a_target >>= λ target. g.sign s.RightRound >>
    (single an_equality >>= λ equal. single a_state >>= λ state. pure (target, equal, state)))
occ_rest m = next (one_token (target_token m)) (λ a. next (close m) (λ _. next (one_token (equality_token (suc m))) (λ b. next (one_token (state_token (suc m))) (λ c. done refl))))

occ_reads : (n : ℕ) (inner : Reader Cond) → Reads n n occ_pieces (g.occ_parts n inner)
unfolding g.occ_parts
occ_reads n inner = in_round n (occ_rest 0).some (λ m e. occ_rest m)

abbrev pub further_test_pieces : Test → Pieces
further_test_pieces a = keyword k.And ∷ test_pieces a

abbrev pub further_conj_pieces : Conj → Pieces
further_conj_pieces a = keyword k.Or ∷ conj_pieces a

module _ (n : ℕ) (inner : Reader Cond) (h : IsInner n inner) where
  compare_reads : (left : Expr) (ps : Pieces) → expr_pieces left ≡ ps
      → Goes n n ps test_pieces (g.compare_after n inner left)
  unfolding g.compare_after
  compare_reads left ps e = next (one_token (relation_token n))
      (λ r. next (expr_reads n) (λ right. done (compare_layer left r right
      ∙ ap (λ z. z ++ (sign (relation_sign r) ∷ expr_pieces right)) e ∙ sym (append_assoc ps (sign (relation_sign r) ∷ []) (expr_pieces right)))))

  abbrev pub scope_pieces : ScopeWord → Pieces
  scope_pieces w = keyword k.Scope ∷ sign s.Dot ∷ word (scope_bytes w) ∷ []

  pub sum_layer : (a : Axis) (fs : List Scaled) (ts : List Added)
      → expr_pieces (g.sum_of (g.size_factor a) fs ts) ≡
      (scope_pieces (scope_word.Size a) ++ concat (map scaled_pieces fs)) ++ concat (map added_pieces ts)
  sum_layer a fs ts =
      expr_layer _ ts ∙ ap (λ z. z ++ concat (map added_pieces ts)) (term_layer (g.size_factor a) fs ∙ ap (λ z. z ++ concat (map scaled_pieces fs)) (factor_layer false _ ∙ size_layer a))

  scope_reads : (w : ScopeWord) → Goes n n (scope_pieces w) test_pieces (g.scope_rest n inner w)
  scope_reads scope_word.Occ = next (occ_reads n inner) (λ p. done (occ_layer p.0 p.1 p.2))
  scope_reads (scope_word.Size a) =
      next (listed g.is_scaling scaled_long (scaled_reads n (g.inside_of n) (inside_reads n))) (λ fs.
      next (listed g.is_addition added_long (added_reads n (g.inside_of n) (inside_reads n))) (λ ts.
      compare_reads (g.sum_of (g.size_factor a) fs ts) _ (sum_layer a fs ts)))

  pub test_reads : Reads n n test_pieces (g.one_test n inner)
  unfolding g.one_test
  test_reads =
      either (is_sign s.LeftSquare) (next (square_reads n inner h) (λ c. done (group_layer c)))
      (either (is_keyword k.Not) (next (one_token (keyword_token k.Not n refl)) (λ _. next (square_reads n inner h) (λ c. done (not_layer c))))
      (either (is_keyword k.Scope) (next (one_token (keyword_token k.Scope n refl)) (λ _. next (dot n) (λ _. next (one_token (scope_token n)) scope_reads)))
      (next (expr_reads n) (λ left. compare_reads left _ refl))))

  pub further_test_long : Long further_test_pieces
  further_test_long c x a d w = long_of c Usual (lexeme.Keyword k.And) (test_pieces a) x d w

  pub further_test_reads : Reads n n further_test_pieces (g.further_test n inner)
  unfolding g.further_test
  further_test_reads = next (one_token (keyword_token k.And n refl)) (λ _. next test_reads (λ a. done refl))

  pub conj_reads : Reads n n conj_pieces (g.conj n inner)
  unfolding g.conj
  conj_reads = next test_reads (λ a. next (listed (is_keyword k.And) further_test_long further_test_reads)
      (λ more. done (conj_layer a more ∙ ap (λ z. test_pieces a ++ z) (nil_right (concat (map further_test_pieces more))))))

  pub further_conj_long : Long further_conj_pieces
  further_conj_long c x a d w = long_of c Usual (lexeme.Keyword k.Or) (conj_pieces a) x d w

  pub further_conj_reads : Reads n n further_conj_pieces (g.further_conj n inner)
  unfolding g.further_conj
  further_conj_reads = next (one_token (keyword_token k.Or n refl)) (λ _. next conj_reads (λ a. done refl))

  pub layer_reads : Reads n n cond_pieces (g.cond_layer n inner)
  unfolding g.cond_layer
  layer_reads = next conj_reads (λ a. next (listed (is_keyword k.Or) further_conj_long further_conj_reads)
      (λ more. done (cond_layer a more ∙ ap (λ z. conj_pieces a ++ z) (nil_right (concat (map further_conj_pieces more))))))

pub no_inner : IsInner 0 refuse
no_inner m e = absurd (omega arith)

pub one_inner : (n : ℕ) (p : Reader Cond) → Reads n n cond_pieces p → IsInner (suc n) p
one_inner n p r m e = let q : n ≡ m = omega arith in subst (λ i. Reads i i cond_pieces p) q r

pub cond_reads : (n : ℕ) → Reads n n cond_pieces (g.cond n)
unfolding g.cond
cond_reads zero = layer_reads zero refuse no_inner
cond_reads (suc n) = layer_reads (suc n) (g.cond n) (one_inner n (g.cond n) (cond_reads n))

pub inner_reads : (n : ℕ) → IsInner n (g.inner_of n)
inner_reads zero = no_inner
inner_reads (suc n) = one_inner n (g.cond n) (cond_reads n)
