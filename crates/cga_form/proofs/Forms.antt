-- Each form's reader takes what is written so, and stops at the first token with which nothing is.
use Rattle.std.proofs.Common.{◌≡◌, ℕ, zero, suc, ◌+◌, ◌-◌, List, [], ◌∷◌, ◌++◌, map, length, ◌≤◌, ◌<◌, append_assoc}
use Rattle.std.proofs.Common.{Bool, true, false, Option, Some, refl, ap, sym, ◌∙◌, subst, arith, nat_le, Ok}
use Rattle.std.proofs.Common.{if◌then◌else◌}
use Rattle.cga_syntax.specs.declared.lexeme.Lexeme.{Lexeme}
use Rattle.cga_syntax.specs.declared.lexeme.Lexeme.TheVariants as lexeme
use Rattle.cga_syntax.specs.declared.keyword.Keyword.TheVariants as k
use Rattle.cga_syntax.specs.declared.print.space.Space.{Space}
use Rattle.cga_syntax.specs.declared.print.space.Space.TheVariants.{Usual}
use Rattle.cga_syntax.specs.Pieces.{token, never, drawn, Pieces, concat, Writes}
use Rattle.cga_syntax.specs.Brackets.{counted, bracket_of, opens}
use Rattle.cga_form.specs.Reader.{Reader, ◌>>=◌, pure, refuse, single, enter, drawn_word, peeked, begins, many_from, many_after, many, Input}
use Rattle.std.proofs.lemmas.Bool.Decides.{nat_tests}
pub use Rattle.cga_form.specs.Laws.{After, Goes, Reads}
use Rattle.cga_form.proofs.Taking.{Seq, weaker, pure_runs, refuse_runs, bind_runs}
use Rattle.cga_form.proofs.Runs.{Language, Some_text, Each, Grown}
use Rattle.cga_form.proofs.Taking.{drawn_runs, closed_runs}
use Rattle.cga_form.proofs.Runs.{peeked_runs, many_runs, Limited}
use Rattle.cga_form.proofs.Taking.{single_runs, enter_runs}
use Rattle.cga_form.proofs.Runs.{limited_runs, unroll, shortens}
use Rattle.cga_form.proofs.Written.{nothing, token_first, join, one, Of, each_writes}
use Rattle.std.proofs.Common.{append-nil as nil_right}
use Rattle.cga_fraction.proofs.Door.{append-nil_back as append_nil}

of_after : {A : Type 0} (w : A → Pieces) (c : ℕ) (x : List Lexeme) (a : A) (d : ℕ) → After [] w c x a d → Of w c x a d
of_after w c x a d h = subst (λ qs. Writes c qs x d) (sym h.1) h.2

module _ {A B : Type 0} (v : A → Pieces) (w : B → Pieces) (ps : Pieces) where
  seq_after : (c : ℕ) (x : List Lexeme) (b : B) (d : ℕ) → Seq (After [] v) (λ a. After (ps ++ v a) w) c x b d
      → After ps w c x b d
  seq_after c x b d h =
      (v h.2 ++ h.6.0, h.6.1 ∙ append_assoc ps (v h.2) h.6.0, subst (λ z. Writes c (v h.2 ++ h.6.0) z d) (sym h.4) (join (v h.2) h.6.0 h.0 h.1 c h.3 d (of_after v c h.0 h.2 h.3 h.5) h.6.2))

-- where a reader takes the next part, and those behind it all that follows, one after the other they take both
pub next : {A B : Type 0} {v : A → Pieces} {w : B → Pieces} {n m l : ℕ} {ps : Pieces} {p : Reader A} {f : A → Reader B}
    →
    Reads n m v p → ((a : A) → Goes m l (ps ++ v a) w (f a)) → Goes n l ps w (p >>= f)
next {v = v} {w = w} {n = n} {m = m} {l = l} {ps = ps} {p = p} {f = f} g h = record {
  runs = weaker {L = Seq (After [] v) (λ a. After (ps ++ v a) w)} {M = After ps w} n l (seq_after v w ps)
      (bind_runs (After [] v) (λ a. After (ps ++ v a) w) n m l p f (λ a. (h a).some) (λ a. (h a).runs) g.runs);
  some = λ c. let s = g.some c in let t = (h s.1).some s.2 in
      (s.0 ++ t.0, t.1, t.2, seq_after v w ps c (s.0 ++ t.0) t.1 t.2 (s.0, t.0, s.1, s.2, refl, s.3, t.3));
}

-- where all pieces of a value stand already, a reader that reads nothing and gives it is right
pub done : {B : Type 0} {w : B → Pieces} {n : ℕ} {ps : Pieces} {b : B} → w b ≡ ps → Goes n n ps w (pure b)
done {w = w} {n = n} {ps = ps} {b = b} e = record {
  runs = pure_runs {L = After ps w} n b (λ c. ([], e ∙ append_nil ps, nothing c));
  some = λ c. ([], b, c, ([], e ∙ append_nil ps, nothing c));
}

-- nothing, as a given value
abbrev Same : {B : Type 0} → B → Language B
Same b c x a d = (a ≡ b) × (x ≡ []) × (c ≡ d)

-- ---- one token

-- what a token stands for is written as that token
pub record Token {A : Type 0} (n m : ℕ) (w : A → Pieces) (decode : Lexeme → Option A) : Type 0 where
  pub means : (l : Lexeme) (a : A) → decode l ≡ Some a → (s : Space) × (w a ≡ token s l ∷ [])
  pub counts : (l : Lexeme) (a : A) → decode l ≡ Some a → counted (bracket_of l) n ≡ Some m
  pub some : (l : Lexeme) × (a : A) × (decode l ≡ Some a)

one_after : {A : Type 0} (w : A → Pieces) (s : Space) (l : Lexeme) (a : A) → w a ≡ token s l ∷ [] → (c : ℕ)
    → After [] w c (l ∷ []) a c
one_after w s l a e c = (token s l ∷ [], e, token_first c s l [] [] c (nothing c))

-- where what a token stands for is written as that token, the reader of one token takes it
pub one_token : {A : Type 0} {n m : ℕ} {w : A → Pieces} {decode : Lexeme → Option A} → Token n m w decode
    → Reads n m w (single decode)
one_token {n = n} {m = m} {w = w} {decode = decode} t =
    let some : Some_text (After [] w) = λ c. let o = t.some in (o.0 ∷ [], o.1, c, one_after w (t.means o.0 o.1 o.2).0 o.0 o.1 (t.means o.0 o.1 o.2).1 c) in
    record {
      runs = single_runs (After [] w) n m decode some (λ l a e. (λ c. one_after w (t.means l a e).0 l a (t.means l a e).1 c, t.counts l a e));
      some = some;
    }

-- an opening bracket
pub record Opening (w : Unit {0} → Pieces) (decode : Lexeme → Option (Unit {0})) : Type 0 where
  pub means : (l : Lexeme) → decode l ≡ Some tt → (s : Space) × (w tt ≡ token s l ∷ [])
  pub is : (l : Lexeme) → decode l ≡ Some tt → bracket_of l ≡ opens
  pub some : (l : Lexeme) × (decode l ≡ Some tt)

pub one_bracket : {w : Unit {0} → Pieces} {decode : Lexeme → Option (Unit {0})} → Opening w decode → (n : ℕ)
    → Reads n (n - 1) w (enter decode n)
one_bracket {w = w} {decode = decode} t n =
    let some : Some_text (After [] w) = λ c. let o = t.some in (o.0 ∷ [], tt, c, one_after w (t.means o.0 o.1).0 o.0 tt (t.means o.0 o.1).1 c) in
    record {
      runs = enter_runs (After [] w) decode some (λ l e. (λ c. one_after w (t.means l e).0 l tt (t.means l e).1 c, t.is l e)) n;
      some = some;
    }

shifted : {w : Unit {0} → Pieces} {p : Reader (Unit {0})} (m : ℕ) → Reads (suc m) (suc m - 1) w p → Reads (suc m) m w p
shifted {w = w} {p = p} m g = let e : suc m - 1 ≡ m = omega arith in subst (λ i. Reads (suc m) i w p) e g

one_some : {A : Type 0} (w : A → Pieces) (s : Space) (l : Lexeme) → Some_text (After (token s l ∷ []) w) → (c : ℕ)
    → (x : List Lexeme) × (a : A) × (d : ℕ) × After [] w c (l ∷ x) a d
one_some w s l some c = let t = some c in (t.0, t.1, t.2, (token s l ∷ t.3.0, t.3.1, token_first c s l t.3.0 t.0 t.2 t.3.2))

-- a form that begins with a bracket, where so many brackets may be opened
pub bracketed : {A : Type 0} {w : A → Pieces} {decode : Lexeme → Option (Unit {0})} {q : Reader A} {l : Lexeme} (n : ℕ)
    → Opening (λ _. token Usual l ∷ []) decode → ((i : Lexeme) → decode i ≡ Some tt → i ≡ l) →
    Some_text (After (token Usual l ∷ []) w) → ((m : ℕ) → n ≡ suc m → Goes m (suc m) (token Usual l ∷ []) w q) → Reads n n w (enter decode n >>= λ _. q)
bracketed {w = w} {decode = decode} {q = q} {l = l} zero o is some h =
    let all : Some_text (After [] w) = λ c. let t = one_some w Usual l some c in (l ∷ t.0, t.1, t.2, t.3) in
    record {
      runs = closed_runs (After [] w) 0 decode q all (λ i e. (λ c. subst (λ z. (x : List Lexeme) × (a : _) × (d : ℕ) × After [] w c (z ∷ x) a d) (sym (is i e)) (one_some w Usual l some c), o.is i e));
      some = all;
    }
bracketed {w = w} {decode = decode} {q = q} {l = l} (suc m) o is some h = next (shifted m (one_bracket o (suc m))) (λ _. h m refl)

-- the word of a rand and its number
abbrev pub rand_piece : ℕ → Pieces
rand_piece j = drawn j ∷ []

drawn_after : (c : ℕ) → After [] rand_piece c (lexeme.Keyword k.Rand ∷ []) (c + 1) (c + 1)
drawn_after c = (rand_piece (c + 1), refl, one c (drawn (c + 1)) [] (lexeme.Keyword k.Rand ∷ []) [] (c + 1) (c + 1) (refl, refl, refl) (nothing (c + 1)))

-- where a token is taken only as the word of a rand, its reader takes that with its number
pub one_rand : {decode : Lexeme → Option (Unit {0})} → ((l : Lexeme) → decode l ≡ Some tt → l ≡ lexeme.Keyword k.Rand)
    → (n : ℕ) → Reads n n rand_piece (drawn_word decode)
one_rand {decode = decode} is n = record {
  runs = drawn_runs (After [] rand_piece) n decode (λ c. (lexeme.Keyword k.Rand ∷ [], c + 1, c + 1, drawn_after c))
      (λ l e. (λ c. subst (λ z. After [] rand_piece c (z ∷ []) (c + 1) (c + 1)) (sym (is l e)) (drawn_after c), ap (λ z. counted (bracket_of z) n) (is l e)));
  some = λ c. (lexeme.Keyword k.Rand ∷ [], c + 1, c + 1, drawn_after c);
}

-- a choice by the next token
pub either : {A : Type 0} {n m : ℕ} {ps : Pieces} {w : A → Pieces} {p q : Reader A} (test : Lexeme → Bool)
    → Goes n m ps w p → Goes n m ps w q → Goes n m ps w (peeked test p q)
either {n = n} {m = m} {ps = ps} {w = w} {p = p} {q = q} test g h = record { runs = peeked_runs (After ps w) n m test p q g.runs h.runs; some = g.some }

-- where some text goes on after the pieces, a reader that refuses the next token is right there
pub refusing : {A : Type 0} {n m : ℕ} {ps : Pieces} {w : A → Pieces} → Some_text (After ps w) → Goes n m ps w refuse
refusing {n = n} {m = m} {ps = ps} {w = w} s = record { runs = refuse_runs {L = After ps w} n m s; some = s }

-- what is read by other pieces and written the same
pub translated : {A B : Type 0} {v : A → Pieces} {w : B → Pieces} {n m : ℕ} {p : Reader A} (f : A → B)
    → ((c : ℕ) (x : List Lexeme) (a : A) (d : ℕ) → Writes c (v a) x d → Writes c (w (f a)) x d) →
    Reads n m v p → Reads n m w (p >>= λ a. pure (f a))
translated {A} {B} {v = v} {w = w} {n = n} {m = m} {p = p} f h g = record {
  runs = weaker {L = Seq (After [] v) (λ a. Same (f a))} {M = After [] w} n m
      (λ c x b d s.
      let t = subst (λ z. Writes c (v s.2) z d) (sym (s.4 ∙ ap (λ z. s.0 ++ z) s.6.1 ∙ nil_right s.0)) (subst (λ e. Writes c (v s.2) s.0 e) s.6.2 (of_after v c s.0 s.2 s.3 s.5)) in
      (w b, refl, subst (λ z. Writes c (w z) x d) (sym s.6.0) (h c x s.2 d t)))
      (bind_runs (After [] v) (λ a. Same (f a)) n m m p (λ a. pure (f a)) (λ a c. ([], f a, c, (refl, refl, refl))) (λ a. pure_runs {L = Same (f a)} m (f a) (λ c. (refl, refl, refl))) g.runs);
  some = λ c. let t = g.some c in (t.0, f t.1, t.2, (w (f t.1), refl, h c t.0 t.1 t.2 (of_after v c t.0 t.1 t.2 t.3)));
}

abbrev pub all_pieces : {A : Type 0} → (A → Pieces) → List A → Pieces
all_pieces w xs = concat (map w xs)

each_of : {A : Type 0} (w : A → Pieces) (c : ℕ) (x : List Lexeme) (xs : List A) (d : ℕ) → Each (After [] w) c x xs d
    → Each (Of w) c x xs d
each_of w c x [] d h = h
each_of w c x (a ∷ xs) d h = (h.0, h.1, h.2, h.3, of_after w c h.0 a h.2 h.4, each_of w h.2 h.1 xs d h.5)

-- no value is written as nothing
abbrev pub Long : {A : Type 0} → (A → Pieces) → Type 0
Long {A} w = (c : ℕ) (x : List Lexeme) (a : A) (d : ℕ) → Writes c (w a) x d → 1 ≤ length x

-- where no value is written as nothing and a reader takes each, reading while a test passes takes lists of them
pub listed : {A : Type 0} {w : A → Pieces} {n : ℕ} {p : Reader A} (test : Lexeme → Bool) → Long w → Reads n n w p
    → Reads n n (all_pieces w) (many test p)
listed {w = w} {n = n} {p = p} test long g = record {
  runs = weaker {L = Grown (After [] w) []} {M = After [] (all_pieces w)} n n
      (λ c x xs d h. (all_pieces w xs, refl, each_writes w c x xs d (each_of w c x xs d (subst (λ ys. Each (After [] w) c x ys d) (sym h.1) h.2))))
      (many_runs (After [] w) n test p g.runs (λ c x a d h. long c x a d (of_after w c x a d h)));
  some = λ c. ([], [], c, ([], refl, nothing c));
}

-- a turn of a list and the turns after it
pub turned : {A : Type 0} (w : A → Pieces) (n : ℕ) (test : Lexeme → Bool) (p : Reader A) → Long w → Reads n n w p
    → (so_far : List A) (i : Input) →
    many_after test p so_far i ≡ (if begins test i.left then (p >>= λ y. many_after test p (so_far ++ y ∷ [])) i else Ok (so_far, i))
turned w n test p long g = unroll (After [] w) n test p g.runs (λ c x a d h. long c x a d (of_after w c x a d h))

-- a list of at most so many
abbrev pub few_pieces : {A : Type 0} → ℕ → (A → Pieces) → List A → Pieces
few_pieces most w xs = if nat_le (length xs) most then concat (map w xs) else never ∷ []

few_is : {A : Type 0} (most : ℕ) (w : A → Pieces) (xs : List A) → length xs ≤ most
    → few_pieces most w xs ≡ concat (map w xs)
few_is most w xs h = let e : nat_le (length xs) most ≡ true = grind (arith, nat_tests) in ap (λ b. if b then concat (map w xs) else never ∷ []) e

-- where a reader takes each value, reading at most so many while a test passes takes lists of at most so many
pub limited : {A : Type 0} {w : A → Pieces} {n : ℕ} {p : Reader A} (test : Lexeme → Bool) (most : ℕ) → Reads n n w p
    → Reads n n (few_pieces most w) (many_from test p most [])
limited {w = w} {n = n} {p = p} test most g = record {
  runs = weaker {L = Limited (After [] w) n test p g.runs most []} {M = After [] (few_pieces most w)} n n
      (λ c x xs d h.
      let e : xs ≡ h.0 = h.1 in (
        few_pieces most w xs,
        refl,
        subst (λ z. Writes c z x d)
            (sym (few_is most w xs (subst (λ ys. length ys ≤ most) (sym e) h.3)))
            (each_writes w c x xs d (each_of w c x xs d (subst (λ ys. Each (After [] w) c x ys d) (sym e) h.2))),
      ))
      (limited_runs (After [] w) n test p g.runs most []);
  some = λ c. ([], [], c, (few_pieces most w [], refl, subst (λ z. Writes c z [] c) (sym (few_is most w [] (omega arith))) (nothing c)));
}

-- where no value is written as nothing and a reader takes each, fewer tokens are left behind one
pub shorter : {A : Type 0} (w : A → Pieces) (n : ℕ) (p : Reader A) → Long w → Reads n n w p
    → (i : Input) (x : A) (j : Input) → p i ≡ Ok (x, j) → length j.left < length i.left
shorter w n p long g = shortens (After [] w) n (λ _. false) p g.runs (λ c x a d h. long c x a d (of_after w c x a d h))
