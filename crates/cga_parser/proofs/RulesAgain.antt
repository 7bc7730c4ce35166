-- A rule is read as it is written.
use Rattle.std.proofs.Common.{◌≡◌, ℕ, ◌||◌, inl, inr, List, [], ◌∷◌, ◌++◌, append_assoc, Bool, false, Option, Some, None, refl, ap, sym, ◌∙◌, subst, pos}
use Rattle.cga_fraction.specs.Rat.{Rat, of_int}
use Rattle.cga_lexer.specs.declared.sign.Sign.TheVariants as s
use Rattle.cga_syntax.specs.declared.lexeme.Lexeme.{Lexeme}
use Rattle.cga_syntax.specs.declared.lexeme.Lexeme.TheVariants as lexeme
use Rattle.cga_rule.specs.declared.cond.Cond.{Cond}
use Rattle.cga_rule.specs.declared.item.Item.{Item}
use Rattle.cga_rule.specs.declared.rule.Alternative.{Alternative}
use Rattle.cga_syntax.specs.declared.print.space.Space.TheVariants.{NoneBefore}
use Rattle.cga_syntax.specs.Pieces.{token, never, sign, named, whole, Pieces, probability, IsProbability, Writes, condition_pieces, alternative_pieces, rule_pieces}
use Rattle.cga_form.specs.Reader.{at, begins}
use Rattle.cga_form.specs.Tokens.{a_sign, is_sign, a_name, a_whole, a_number}
use Rattle.cga_parser.specs.Grammar as g
use Rattle.cga_form.proofs.Door.{Begun, Misses, Starts, after, all_of, begun_append, begun_as, begun_nothing}
use Rattle.cga_form.proofs.Door.{begun_token, by_name, cut, ends, entered, few_of, missed, misses_each, misses_end}
use Rattle.cga_form.proofs.Door.{misses_nothing, name_pieces, never_written, peek_no, peek_yes, piece_of}
use Rattle.cga_form.proofs.Door.{plainly, starts_as, starts_token, took, turned as unrolled}
use Rattle.cga_form.proofs.Door.{whole_leads, written_as}
use Rattle.cga_form.specs.Laws.{Again, Agrees, Leads, nothing}
use Rattle.cga_parser.proofs.ExprsAgain.{neither}
use Rattle.cga_parser.proofs.CondsAgain.{with_or, cond_again}
use Rattle.cga_parser.proofs.ItemParts.{at_most_is}
use Rattle.cga_parser.proofs.Items.{item_reads}
use Rattle.cga_parser.proofs.ItemFronts.{with_bracket, with_item}
use Rattle.cga_parser.proofs.ItemsAgain.{body_again, item_again}
use Rattle.cga_parser.proofs.Rules.{further_name_pieces, parameters_pieces, given_pieces, probability_pieces, alternative_is, alternative_long, alternative_reads, rule_is}
use Rattle.cga_form.proofs.Door.{name_read}
use Rattle.cga_form.proofs.Door.{written_plainly}
use Rattle.cga_form.proofs.Door.{begins_weaker}

-- ---- parameters

further_name_at : (a : List ℕ) → Leads nothing (further_name_pieces a) g.further_name a
unfolding g.further_name
further_name_at a = took (a_sign s.Comma) tt refl (by_name a (λ e. took a_name a (name_read a e) ends))

further_name_again : Again further_name_pieces nothing g.further_name
further_name_again = record { all = further_name_at }

some_parameters_at : (n : ℕ) (x : List ℕ) (more : List (List ℕ))
    → Leads with_bracket (parameters_pieces (x ∷ more)) (g.some_parameters n) (x ∷ more)
unfolding g.some_parameters
some_parameters_at n x more =
    written_as (ap (λ z. sign s.LeftRound ∷ (name_pieces x ++ (z ++ (sign s.RightRound ∷ [])))) (at_most_is 3 (sign s.Comma) name_pieces more))
    (entered (a_sign s.LeftRound) n refl (λ m e. by_name x (λ q. took a_name x (name_read x q)
    (few_of further_name_pieces (sign s.RightRound ∷ []) _ (is_sign s.Comma) 3 more (record { again = further_name_again; starting = λ z. starts_token refl; apart = λ z. begun_nothing })
    (record { no_more = misses_nothing; no_member = missed (begun_token refl); leads = took (a_sign s.RightRound) tt refl ends })))))

parameters_at : (n : ℕ) (ps : List (List ℕ)) → Leads with_bracket (parameters_pieces ps) (g.parameters n) ps
unfolding g.parameters
parameters_at n [] = peek_no _ (misses_end (λ l e. e)) ends
parameters_at n (x ∷ more) = peek_yes _ (starts_token refl) (some_parameters_at n x more)

parameters_again : (n : ℕ) → Again parameters_pieces with_bracket (g.parameters n)
parameters_again n = record { all = parameters_at n }

-- ---- conditions and probabilities

abbrev with_colon : Lexeme → Bool
with_colon l = with_or l || is_sign s.Colon l

condition_at : (n : ℕ) (c : Option Cond) → Leads with_colon (condition_pieces c) (g.condition n) c
unfolding g.condition
condition_at n None = peek_no _ (misses_end (λ l e. (neither (with_or l) (is_sign s.Colon l) e).1)) ends
condition_at n (Some c) = peek_yes _ (starts_token refl) (took (a_sign s.Colon) tt refl (plainly (after _ c (cond_again n) (misses_end (λ l e. (neither (with_or l) (is_sign s.Colon l) e).0)) ends)))

condition_again : (n : ℕ) → Again condition_pieces with_colon (g.condition n)
condition_again n = record { all = condition_at n }

abbrev a_colon : Lexeme → Bool
a_colon l = is_sign s.Colon l

given_at : (p : Rat) → Leads a_colon (given_pieces p) g.given_probability p
unfolding g.given_probability
given_at p = took (a_sign s.Colon) tt refl (took a_number p refl ends)

given_by : (p : Rat) → Leads a_colon (given_pieces p) g.probability p
unfolding g.probability
given_by p = peek_yes _ (starts_token refl) (plainly (after {v = given_pieces} _ p (record { all = given_at }) (misses_end (λ l e. e)) ends))

one_by : Leads a_colon [] g.probability (of_int (pos 1))
unfolding g.probability
one_by = peek_no _ (misses_end (λ l e. e)) ends

probability_by : (p : Rat) (c : ℕ) (x : List Lexeme) (d : ℕ) (r : List Lexeme) → IsProbability p x → c ≡ d
    → begins a_colon r ≡ false → Agrees (g.probability (at (x ++ r) c)) p (at r d)
probability_by p c x d r (inl h) q e = (given_by p).leads c x d r (written_plainly c x d (lexeme.Sign s.Colon ∷ lexeme.Number p ∷ []) h q) e
probability_by p c x d r (inr h) q e = subst (λ z. Agrees (g.probability (at (x ++ r) c)) z (at r d)) (sym h.0) (one_by.leads c x d r (written_plainly c x d [] h.1 q) e)

probability_again : Again probability_pieces a_colon g.probability
probability_again = record { all = λ p. record { leads = λ c x d r w e. let t = piece_of c (probability p) x d w in probability_by p c x d r t.0 t.1 e } }

-- ---- alternatives

-- the tokens that go on with an alternative
abbrev with_more : Lexeme → Bool
with_more l = with_item l || a_colon l

starts_probability : (test : Lexeme → Bool) (p : Rat) (x r : List Lexeme) → test (lexeme.Sign s.Colon) ≡ false
    → ((l : Lexeme) → with_more l ≡ false → test l ≡ false) → IsProbability p x → begins with_more r ≡ false
    → begins test (x ++ r) ≡ false
starts_probability test p x r h g' (inl q) e = ap (λ z. begins test (z ++ r)) q ∙ h
starts_probability test p x r h g' (inr q) e = ap (λ z. begins test (z ++ r)) q.1 ∙ begins_weaker g' r e

probability_misses : (p : Rat) → Misses with_item (probability p ∷ []) with_more
probability_misses p = record { misses = λ c x d r w e. let t = piece_of c (probability p) x d w in starts_probability with_item p x r refl (λ l q. (neither (with_item l) (a_colon l) q).0) t.0 e }

alternative_at : (n : ℕ) (is : List Item) (p : Rat)
    → Leads with_more (alternative_pieces (record { items = is; prob = p })) (g.alternative n)
    (record { items = is; prob = p })
unfolding g.alternative
alternative_at n is p =
    written_as (alternative_is is p) (took (a_sign s.Arrow) tt refl (after _ is (body_again n (g.item n) (item_again n) (item_reads n)) (probability_misses p)
    (plainly (after {v = probability_pieces} _ p probability_again (misses_end (λ l q. (neither (with_item l) (a_colon l) q).1)) ends))))

alternative_again : (n : ℕ) → Again alternative_pieces with_more (g.alternative n)
alternative_again n = record { all = λ a. alternative_at n a.items a.prob }

alternative_starts : (a : Alternative) → Starts (is_sign s.Arrow) (alternative_pieces a)
alternative_starts a = starts_as (alternative_is a.items a.prob) (starts_token refl)

alternative_begun : {test : Lexeme → Bool} → test (lexeme.Sign s.Arrow) ≡ false → (a : Alternative)
    → Begun test (alternative_pieces a)
alternative_begun h a = begun_as (alternative_is a.items a.prob) (begun_token h)

-- ---- rules

-- the tokens that go on with a rule
abbrev pub with_rule : Lexeme → Bool
with_rule l = with_more l || is_sign s.Arrow l

condition_begun : {test out : Lexeme → Bool} → test (lexeme.Sign s.Colon) ≡ false → test (lexeme.Sign s.Arrow) ≡ false
    → (c : Option Cond) (a : Alternative) (qs : Pieces)
    → Misses test (condition_pieces c ++ (alternative_pieces a ++ qs)) out
condition_begun h g' None a qs = missed (begun_append qs (alternative_begun g' a))
condition_begun h g' (Some c) a qs = missed (begun_token h)

-- a rule with alternatives
rule_of : (n id : ℕ) (name : List ℕ) (ps : List (List ℕ)) (c : Option Cond) (a : Alternative) (more : List Alternative)
    →
    Leads with_rule (rule_pieces (record {
      id = id;
      symbol = name;
      params = ps;
      cond = c;
      alternatives = a
          ∷ more;
    })) (g.rule n) (record { id = id; symbol = name; params = ps; cond = c; alternatives = a ∷ more })
unfolding g.rule
rule_of n id name ps c a more =
    let stop : (l : Lexeme) → with_rule l ≡ false → with_more l ≡ false = λ l e. (neither (with_more l) (is_sign s.Arrow l) e).0 in
    written_as (rule_is _)
    (whole_leads 1 999999 id (λ e. took (a_whole 1 999999) id e (took (a_sign s.Colon) tt refl (by_name name (λ q. took a_name name (name_read name q)
    (after {v = parameters_pieces} _ ps (parameters_again n) (condition_begun refl refl c a _)
    (after {v = condition_pieces} _ c (condition_again n) (missed (begun_append _ (alternative_begun refl a)))
    (after _ a (alternative_again n) (misses_each more (alternative_begun refl) (misses_end stop))
    (all_of _ (is_sign s.Arrow) more (record { again = alternative_again n; starting = alternative_starts; apart = alternative_begun refl })
    (unrolled alternative_pieces n (is_sign s.Arrow) (g.alternative n) alternative_long (alternative_reads n))
    (record { no_more = misses_end stop; no_member = misses_end (λ l e. (neither (with_more l) (is_sign s.Arrow l) e).1); leads = ends }))))))))))

-- a rule without one isn't written
rule_none : (id : ℕ) (name : List ℕ) (ps : List (List ℕ)) (c : Option Cond) (n : ℕ) (x : List Lexeme) (d : ℕ)
    → Writes n (rule_pieces (record { id = id; symbol = name; params = ps; cond = c; alternatives = [] })) x d → ⊥
rule_none id name ps c n x d w =
    let front : Pieces = whole 1 999999 id ∷ token NoneBefore (lexeme.Sign s.Colon) ∷ named name ∷ (parameters_pieces ps ++ condition_pieces c) in
    let e : rule_pieces (record { id = id; symbol = name; params = ps; cond = c; alternatives = [] }) ≡ front ++ (never ∷ []) =
    rule_is _ ∙ ap (λ z. whole 1 999999 id ∷ token NoneBefore (lexeme.Sign s.Colon) ∷ named name ∷ z) (sym (append_assoc (parameters_pieces ps) (condition_pieces c) (never ∷ []))) in
    let t = cut front (never ∷ []) x n d (subst (λ ps. Writes n ps x d) e w) in
    never_written t.2 [] t.1 d t.5

rule_at : (n id : ℕ) (name : List ℕ) (ps : List (List ℕ)) (c : Option Cond) (as' : List Alternative) →
    Leads with_rule (rule_pieces (record { id = id; symbol = name; params = ps; cond = c; alternatives = as' }))
    (g.rule n) (record { id = id; symbol = name; params = ps; cond = c; alternatives = as' })
rule_at n id name ps c [] = record { leads = λ k x d r w e. absurd (rule_none id name ps c k x d w) }
rule_at n id name ps c (a ∷ more) = rule_of n id name ps c a more

-- a rule is read again as it is written
pub rule_again : (n : ℕ) → Again rule_pieces with_rule (g.rule n)
rule_again n = record { all = λ r. rule_at n r.id r.symbol r.params r.cond r.alternatives }
