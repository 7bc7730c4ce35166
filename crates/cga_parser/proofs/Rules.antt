-- Rules are read exactly.
use Rattle.std.proofs.Common.{◌≡◌, ℕ, suc, inl, inr, List, [], ◌∷◌, ◌++◌, map, append_assoc, refl, ap, ◌∙◌, subst, pos}
use Rattle.cga_fraction.specs.Rat.{Rat, of_int}
use Rattle.cga_lexer.specs.declared.sign.Sign.TheVariants as s
use Rattle.cga_syntax.specs.declared.lexeme.Lexeme.{Lexeme}
use Rattle.cga_syntax.specs.declared.lexeme.Lexeme.TheVariants as lexeme
use Rattle.cga_rule.specs.declared.item.Item.{Item}
use Rattle.cga_rule.specs.declared.rule.Rule.{Rule}
use Rattle.cga_syntax.specs.declared.print.space.Space.TheVariants.{Usual, NoneBefore}
use Rattle.cga_syntax.specs.Pieces.{token, plain, sign, named, whole, Pieces, concat, probability, Writes, nonempty, arguments, condition_pieces, alternative_pieces, rule_pieces}
use Rattle.cga_form.specs.Reader.{◌>>=◌, ◌>>◌, pure, single, many_from}
use Rattle.cga_form.specs.Tokens.{is_sign, a_name}
use Rattle.cga_parser.specs.Grammar as g
use Rattle.cga_form.proofs.Door.{Long, as_token, done, either, end_of, head_of, limited, listed, long_of, name_pieces}
use Rattle.cga_form.proofs.Door.{name_token, next, number_token, one_token, piece_written, pure_runs, sign_token}
use Rattle.cga_form.proofs.Door.{translated, whole_token}
use Rattle.cga_form.specs.Laws.{After, Goes, Reads}
use Rattle.std.proofs.Common.{append-nil as nil_right}
use Rattle.cga_parser.proofs.Exprs.{comma, close, round, in_round}
use Rattle.cga_parser.proofs.Conds.{cond_reads}
use Rattle.cga_parser.proofs.ItemLayers.{list_pieces}
use Rattle.cga_parser.proofs.ItemParts.{arguments_is}
use Rattle.cga_parser.proofs.Items.{body_reads, item_reads}

-- ---- parameters

abbrev pub further_name_pieces : List ℕ → Pieces
further_name_pieces a = sign s.Comma ∷ name_pieces a

pub further_name_long : Long further_name_pieces
further_name_long c x a d w = long_of c Usual (lexeme.Sign s.Comma) (name_pieces a) x d w

pub further_name_reads : (m : ℕ) → Reads m m further_name_pieces g.further_name
unfolding g.further_name
further_name_reads m = next (comma m) (λ _. next (one_token (name_token m)) (λ a. done refl))

abbrev pub parameters_pieces : List (List ℕ) → Pieces
parameters_pieces ps = arguments (map name_pieces ps)

parameters_rest : (m : ℕ)
    → Goes m (suc m) round parameters_pieces
    (single a_name >>= λ x. many_from (is_sign s.Comma) g.further_name 3 [] >>= λ more. g.sign s.RightRound >> pure
    (x ∷ more))
parameters_rest m = next (one_token (name_token m)) (λ x. next (limited (is_sign s.Comma) 3 (further_name_reads m)) (λ more. next (close m) (λ _. done (arguments_is name_pieces x more))))

some_parameters_reads : (n : ℕ) → Reads n n parameters_pieces (g.some_parameters n)
unfolding g.some_parameters
some_parameters_reads n = in_round n (parameters_rest 0).some (λ m e. parameters_rest m)

pub parameters_reads : (n : ℕ) → Reads n n parameters_pieces (g.parameters n)
unfolding g.parameters
parameters_reads n = either (is_sign s.LeftRound) (some_parameters_reads n) (done refl)

-- ---- conditions and probabilities

colon : (n : ℕ) → Reads n n (as_token Usual (lexeme.Sign s.Colon)) (g.sign s.Colon)
colon n = one_token (sign_token Usual s.Colon n n refl refl)

pub condition_reads : (n : ℕ) → Reads n n condition_pieces (g.condition n)
unfolding g.condition
condition_reads n = either (is_sign s.Colon) (next (colon n) (λ _. next (cond_reads n) (λ c. done refl))) (done refl)

abbrev pub given_pieces : Rat → Pieces
given_pieces p = sign s.Colon ∷ plain (lexeme.Number p) ∷ []

given_reads : (n : ℕ) → Reads n n given_pieces g.given_probability
unfolding g.given_probability
given_reads n = next (colon n) (λ _. next (one_token (number_token n)) (λ p. done refl))

abbrev pub probability_pieces : Rat → Pieces
probability_pieces p = probability p ∷ []

as_probability : (c : ℕ) (x : List Lexeme) (p : Rat) (d : ℕ) → Writes c (given_pieces p) x d
    → Writes c (probability_pieces p) x d
as_probability c x p d w =
    let t = head_of c Usual (lexeme.Sign s.Colon) (plain (lexeme.Number p) ∷ []) x d w in
    let u = head_of c Usual (lexeme.Number p) [] t.0 d t.2 in
    let z = end_of c u.0 d u.2 in
    piece_written c (probability p) x d (inl (t.1 ∙ ap (λ y. lexeme.Sign s.Colon ∷ y) (u.1 ∙ ap (λ y. lexeme.Number p ∷ y) z.0)), z.1)

one_written : (c : ℕ) → After [] probability_pieces c [] (of_int (pos 1)) c
one_written c = (probability_pieces (of_int (pos 1)), refl, piece_written c (probability (of_int (pos 1))) [] c (inr (refl, refl), refl))

one_reads : (n : ℕ) → Reads n n probability_pieces (pure (of_int (pos 1)))
one_reads n = record { runs = pure_runs {L = After [] probability_pieces} n (of_int (pos 1)) one_written; some = λ c. ([], of_int (pos 1), c, one_written c) }

pub probability_reads : (n : ℕ) → Reads n n probability_pieces g.probability
unfolding g.probability
probability_reads n = either (is_sign s.Colon) (translated (λ p. p) as_probability (given_reads n)) (one_reads n)

-- ---- alternatives and rules

pub alternative_is : (is : List Item) (p : Rat)
    → alternative_pieces (record { items = is; prob = p }) ≡ sign s.Arrow ∷ (list_pieces is ++ (probability p ∷ []))
unfolding alternative_pieces
alternative_is is p = refl

pub alternative_reads : (n : ℕ) → Reads n n alternative_pieces (g.alternative n)
unfolding g.alternative
alternative_reads n = next (one_token (sign_token Usual s.Arrow n n refl refl))
    (λ _. next (body_reads n (g.item n) (item_reads n)) (λ is. next (probability_reads n) (λ p. done (alternative_is is p))))

pub alternative_long : Long alternative_pieces
alternative_long c x a d w = long_of c Usual (lexeme.Sign s.Arrow) (list_pieces a.items ++ (probability a.prob ∷ [])) x d (subst (λ ps. Writes c ps x d) (alternative_is a.items a.prob) w)

-- the pieces of a rule, one after the other
pub rule_is : (r : Rule)
    → rule_pieces r ≡ whole 1 999999 r.id ∷ token NoneBefore (lexeme.Sign s.Colon) ∷ named r.symbol ∷
    (parameters_pieces r.params ++ (condition_pieces r.cond ++ nonempty (map alternative_pieces r.alternatives) []))
unfolding rule_pieces
rule_is r = refl

-- a rule is read exactly
pub rule_reads : (n : ℕ) → Reads n n rule_pieces (g.rule n)
unfolding g.rule
rule_reads n =
    next (one_token (whole_token 1 999999 n refl)) (λ id. next (one_token (sign_token NoneBefore s.Colon n n refl refl)) (λ _. next (one_token (name_token n)) (λ name.
    next (parameters_reads n) (λ ps. next (condition_reads n) (λ c. next (alternative_reads n) (λ a. next (listed (is_sign s.Arrow) alternative_long (alternative_reads n)) (λ more.
    done (rule_is _ ∙ ap (λ z. whole 1 999999 id ∷ token NoneBefore (lexeme.Sign s.Colon) ∷ named name
    ∷ (parameters_pieces ps ++ (condition_pieces c ++ (alternative_pieces a ++ z))))
    (nil_right (concat (map alternative_pieces more))) ∙ simp append_assoc))))))))
