-- What is written so is read so, or nests too deep.
use Rattle.std.proofs.Common.{◌≡◌, ℕ, zero, suc, ◌+◌, ◌≤◌, List, [], ◌∷◌, ◌++◌, length, map, append_assoc, Bool, true}
use Rattle.std.proofs.Common.{false, Option, Some, Ok, Err, refl, ap, sym, ◌∙◌, subst, if◌then◌else◌, cond, nat_le}
use Rattle.std.proofs.Common.{◌&&◌, arith}
use Rattle.cga_form.specs.declared.fault.Fault.TheVariants.{Unexpected, TooNested}
use Rattle.cga_syntax.specs.declared.lexeme.Lexeme.{Lexeme}
use Rattle.cga_syntax.specs.declared.lexeme.Lexeme.TheVariants as lexeme
use Rattle.cga_syntax.specs.declared.keyword.Keyword.TheVariants as k
use Rattle.cga_syntax.specs.Lexemes.{is_reserved}
use Rattle.cga_syntax.specs.declared.print.space.Space.{Space}
use Rattle.cga_syntax.specs.declared.print.space.Space.TheVariants.{Usual}
use Rattle.cga_syntax.specs.Pieces.{token, drawn, never, plain, number, whole, named, word, Pieces, concat, Writes}
use Rattle.cga_form.specs.Tokens.{a_whole, when}
use Rattle.cga_form.specs.Reader.{Input, ReadResult, Reader, at, and_then, ◌>>=◌, pure, taking, single, entering, enter, drawing, drawn_word, peeked, begins, many_from, many_after, many}
use Rattle.std.proofs.lemmas.Bool.Decides.{nat_tests}
pub use Rattle.cga_form.specs.Laws.{Agrees, Leads, Again, nothing}
use Rattle.cga_form.proofs.Forms.{few_pieces}
use Rattle.cga_form.proofs.Written.{cut, head_of, end_of, nil_right}
use Rattle.cga_form.proofs.Beginnings.{then_agrees, Begun, Starts, Misses, starts_token, rand_of, never_written, starts_append, begins_weaker, misses_each}

-- ---- steps

-- no pieces are read by a reader that takes none
pub ends : {B : Type 0} {s : Lexeme → Bool} {b : B} → Leads s [] (pure b) b
ends {s = s} {b = b} = record { leads = λ c x d r w e. let t = end_of c x d w in (refl, ap (λ z. at (z ++ r) c) t.0 ∙ ap (λ n. at r n) t.1) }

-- a token is read as it is written, and then what is read behind it
pub took : {A B : Type 0} {s : Lexeme → Bool} {sp : Space} {l : Lexeme} {qs : Pieces} {f : A → Reader B} {b : B}
    (decode : Lexeme → Option A) (a : A)
    → decode l ≡ Some a → Leads s qs (f a) b → Leads s (token sp l ∷ qs) (single decode >>= f) b
took {s = s} {sp = sp} {l = l} {qs = qs} {f = f} {b = b} decode a e h = record {
  leads = λ c x d r w q.
      let t = head_of c sp l qs x d w in
      subst (λ z. Agrees (and_then (single decode (at (z ++ r) c)) f) b (at r d)) (sym t.1)
      (subst (λ o. Agrees (and_then (taking o (at (l ∷ (t.0 ++ r)) c)) f) b (at r d)) (sym e) (h.leads c t.0 d r t.2 q));
}

-- one token that is a whole value
pub took_last : {A : Type 0} {s : Lexeme → Bool} {sp : Space} {l : Lexeme} (decode : Lexeme → Option A) (a : A)
    → decode l ≡ Some a → Leads s (token sp l ∷ []) (single decode) a
took_last {s = s} {sp = sp} {l = l} decode a e = record {
  leads = λ c x d r w q.
      let t = head_of c sp l [] x d w in
      let u = end_of c t.0 d t.2 in
      subst (λ z. Agrees (single decode (at (z ++ r) c)) a (at r d)) (sym t.1)
      (subst (λ o. Agrees (taking o (at (l ∷ (t.0 ++ r)) c)) a (at r d)) (sym e) (refl, ap (λ z. at (z ++ r) c) u.0 ∙ ap (λ n. at r n) u.1));
}

named_leads : {B : Type 0} (s : Lexeme → Bool) (name : List ℕ) (qs : Pieces) (p : Reader B) (b : B) (t : Bool)
    → (t ≡ false → Leads s (word name ∷ qs) p b) → (c : ℕ) (x : List Lexeme) (d : ℕ) (r : List Lexeme) →
    Writes c ((if t then never else word name) ∷ qs) x d → begins s r ≡ false → Agrees (p (at (x ++ r) c)) b (at r d)
named_leads s name qs p b true h c x d r w q = absurd (never_written c qs x d w)
named_leads s name qs p b false h c x d r w q = (h refl).leads c x d r w q

-- what holds of a name that isn't reserved
pub by_name : {B : Type 0} {s : Lexeme → Bool} {qs : Pieces} {p : Reader B} {b : B} (name : List ℕ)
    → (is_reserved name ≡ false → Leads s (word name ∷ qs) p b) → Leads s (named name ∷ qs) p b
by_name {s = s} {qs = qs} {p = p} {b = b} name h = record { leads = λ c x d r w q. named_leads s name qs p b (is_reserved name) h c x d r w q }

whole_by : {B : Type 0} (s : Lexeme → Bool) (l : Lexeme) (qs : Pieces) (p : Reader B) (b : B) (t : Bool)
    → (t ≡ true → Leads s (token Usual l ∷ qs) p b) → (c : ℕ) (x : List Lexeme) (d : ℕ) (r : List Lexeme) →
    Writes c ((if t then token Usual l else never) ∷ qs) x d → begins s r ≡ false → Agrees (p (at (x ++ r) c)) b (at r d)
whole_by s l qs p b true h c x d r w q = (h refl).leads c x d r w q
whole_by s l qs p b false h c x d r w q = absurd (never_written c qs x d w)

-- what holds of a whole number within its bounds
pub whole_leads : {B : Type 0} {s : Lexeme → Bool} {qs : Pieces} {p : Reader B} {b : B} (low high n : ℕ)
    → (a_whole low high (number n) ≡ Some n → Leads s (plain (number n) ∷ qs) p b) → Leads s (whole low high n ∷ qs) p b
whole_leads {s = s} {qs = qs} {p = p} {b = b} low high n h = record { leads = λ c x d r w q. whole_by s (number n) qs p b (nat_le low n && nat_le n high) (λ e. h (ap (λ t. when t n) e)) c x d r w q }

-- nothing is written as what can't be written
pub never_leads : {B : Type 0} {s : Lexeme → Bool} {qs : Pieces} {p : Reader B} {b : B} → Leads s (never ∷ qs) p b
never_leads {qs = qs} = record { leads = λ c x d r w e. absurd (never_written c qs x d w) }

entered_at : {B : Type 0} (s : Lexeme → Bool) (l : Lexeme) (qs : Pieces) (f : Unit {0} → Reader B) (b : B) (n : ℕ)
    → ((m : ℕ) → n ≡ suc m → Leads s qs (f tt) b) → (c : ℕ) (y : List Lexeme) (d : ℕ) (r : List Lexeme)
    → Writes c qs y d → begins s r ≡ false →
    Agrees (and_then (entering n (Some tt) (at (l ∷ (y ++ r)) c)) f) b (at r d)
entered_at s l qs f b zero h c y d r w q = tt
entered_at s l qs f b (suc m) h c y d r w q = (h m refl).leads c y d r w q

-- a bracket is read as it is written, if the depth allows it, and then what is read behind it
pub entered : {B : Type 0} {s : Lexeme → Bool} {sp : Space} {l : Lexeme} {qs : Pieces} {f : Unit {0} → Reader B}
    {b : B} (decode : Lexeme → Option (Unit {0})) (n : ℕ)
    → decode l ≡ Some tt → ((m : ℕ) → n ≡ suc m → Leads s qs (f tt) b) →
    Leads s (token sp l ∷ qs) (enter decode n >>= f) b
entered {s = s} {sp = sp} {l = l} {qs = qs} {f = f} {b = b} decode n e h = record {
  leads = λ c x d r w q.
      let t = head_of c sp l qs x d w in
      subst (λ z. Agrees (and_then (enter decode n (at (z ++ r) c)) f) b (at r d)) (sym t.1)
      (subst (λ o. Agrees (and_then (entering n o (at (l ∷ (t.0 ++ r)) c)) f) b (at r d)) (sym e) (entered_at s l qs f b n h c t.0 d r t.2 q));
}

-- a drawn word is read as it is written, and then what is read behind it
pub drew : {B : Type 0} {s : Lexeme → Bool} {qs : Pieces} {f : ℕ → Reader B} {b : B}
    (decode : Lexeme → Option (Unit {0})) (j : ℕ)
    → decode (lexeme.Keyword k.Rand) ≡ Some tt → Leads s qs (f j) b → Leads s (drawn j ∷ qs) (drawn_word decode >>= f) b
drew {s = s} {qs = qs} {f = f} {b = b} decode j e h = record {
  leads = λ c x d r w q.
      let t = rand_of c j qs x d w in
      subst (λ z. Agrees (and_then (drawn_word decode (at (z ++ r) c)) f) b (at r d)) (sym t.1)
      (subst (λ o. Agrees (and_then (drawing o (at (lexeme.Keyword k.Rand ∷ (t.0 ++ r)) c)) f) b (at r d)) (sym e)
      (subst (λ i. Agrees (f i (at (t.0 ++ r) (c + 1))) b (at r d)) t.2 (h.leads (c + 1) t.0 d r t.3 q)));
}

-- where the next token passes the test, the first way is taken
pub peek_yes : {B : Type 0} {s : Lexeme → Bool} {ps : Pieces} {p q : Reader B} {b : B} (test : Lexeme → Bool)
    → Starts test ps → Leads s ps p b → Leads s ps (peeked test p q) b
peek_yes {p = p} {q = q} {b = b} test h g = record {
  leads = λ c x d r w e.
      subst (λ t. Agrees (cond t (p (at (x ++ r) c)) (q (at (x ++ r) c))) b (at r d)) (sym (h.starts c x d r w)) (g.leads c x d r w e);
}

-- where the next token doesn't pass the test, the other way is taken
pub peek_no : {B : Type 0} {s : Lexeme → Bool} {ps : Pieces} {p q : Reader B} {b : B} (test : Lexeme → Bool)
    → Misses test ps s → Leads s ps q b → Leads s ps (peeked test p q) b
peek_no {p = p} {q = q} {b = b} test h g = record {
  leads = λ c x d r w e.
      subst (λ t. Agrees (cond t (p (at (x ++ r) c)) (q (at (x ++ r) c))) b (at r d)) (sym (h.misses c x d r w e)) (g.leads c x d r w e);
}

-- the next of several forms
pub after : {A B : Type 0} {v : A → Pieces} {t s : Lexeme → Bool} {qs : Pieces} {p : Reader A} {b : B}
    (f : A → Reader B) (a : A)
    → Again v t p → Misses t qs s → Leads s qs (f a) b → Leads s (v a ++ qs) (p >>= f) b
after {v = v} {qs = qs} {p = p} {b = b} f a again m h = record {
  leads = λ c x d r w e.
      let t = cut (v a) qs x c d w in
      let q : x ++ r ≡ t.0 ++ (t.1 ++ r) = ap (λ z. z ++ r) t.3 ∙ append_assoc t.0 t.1 r in
      subst (λ z. Agrees (and_then (p (at z c)) f) b (at r d)) (sym q)
      (then_agrees f (p (at (t.0 ++ (t.1 ++ r)) c)) a (at (t.1 ++ r) t.2) b (at r d)
      ((again.all a).leads c t.0 t.2 (t.1 ++ r) t.4 (m.misses t.2 t.1 d r t.5 e))
      (h.leads t.2 t.1 d r t.5 e));
}

-- pieces with nothing behind them are read as the pieces
pub plainly : {B : Type 0} {s : Lexeme → Bool} {ps : Pieces} {p : Reader B} {b : B} → Leads s (ps ++ []) p b
    → Leads s ps p b
plainly {s = s} {ps = ps} {p = p} {b = b} h = subst (λ z. Leads s z p b) (nil_right ps) h

-- the same pieces
pub written_as : {B : Type 0} {s : Lexeme → Bool} {ps qs : Pieces} {p : Reader B} {b : B} → ps ≡ qs → Leads s qs p b
    → Leads s ps p b
written_as {s = s} {p = p} {b = b} e h = subst (λ z. Leads s z p b) (sym e) h

-- fewer tokens go on with it
pub going_on : {B : Type 0} {s t : Lexeme → Bool} {ps : Pieces} {p : Reader B} {b : B}
    → ((l : Lexeme) → s l ≡ false → t l ≡ false) → Leads t ps p b → Leads s ps p b
going_on h g = record { leads = λ c x d r w e. g.leads c x d r w (begins_weaker h r e) }

then_twice : {A B C : Type 0} (g : A → Reader B) (f : B → Reader C) (o : ReadResult A) (a : A) (i : Input) (b : C)
    (j : Input)
    → Agrees o a i → Agrees (and_then (g a i) f) b j → Agrees (and_then (and_then o g) f) b j
then_twice g f (Ok q) a i b j h k' = subst (λ x. Agrees (and_then (g x q.1) f) b j) (sym h.0) (subst (λ x. Agrees (and_then (g a x) f) b j) (sym h.1) k')
then_twice g f (Err (Unexpected n)) a i b j h k' = absurd h
then_twice g f (Err (TooNested n)) a i b j h k' = tt

-- ---- lists

-- the members of a list: each is read again, begins as the test tells, and not as a member may go on
pub record AreMembers {A : Type 0} (w : A → Pieces) (t test : Lexeme → Bool) (p : Reader A) : Type 0 where
  pub again : Again w t p
  pub starting : (a : A) → Starts test (w a)
  pub apart : (a : A) → Begun t (w a)

-- what stands behind a list: it is neither more of the last member nor another one, and is read on
pub record StandsBehind {B : Type 0} (t test s : Lexeme → Bool) (qs : Pieces) (p : Reader B) (b : B) : Type 0 where
  pub no_more : Misses t qs s
  pub no_member : Misses test qs s
  pub leads : Leads s qs p b

module _ {A : Type 0} (w : A → Pieces) (t test : Lexeme → Bool) (p : Reader A) (again : Again w t p) (starting : (a : A) → Starts test (w a)) (apart : (a : A) → Begun t (w a))
    (unroll : (so_far : List A) (i : Input) → many_after test p so_far i ≡ (if begins test i.left then (p >>= λ y. many_after test p (so_far ++ y ∷ [])) i else Ok (so_far, i))) where
  module _ {B : Type 0} (s : Lexeme → Bool) (qs : Pieces) (f : List A → Reader B) (b : B) (out : Misses t qs s) (stop : Misses test qs s) where
    many_on : (xs so_far : List A) → Leads s qs (f (so_far ++ xs)) b
        → (c : ℕ) (x : List Lexeme) (d : ℕ) (r : List Lexeme) → Writes c (concat (map w xs) ++ qs) x d
        → begins s r ≡ false →
        Agrees (and_then (many_after test p so_far (at (x ++ r) c)) f) b (at r d)
    many_on [] so_far h c x d r v e =
        subst (λ o. Agrees (and_then o f) b (at r d))
        (sym (unroll so_far (at (x ++ r) c) ∙ ap (λ z. if z then (p >>= λ y. many_after test p (so_far ++ y ∷ [])) (at (x ++ r) c) else Ok (so_far, at (x ++ r) c)) (stop.misses c x d r v e)))
        ((subst (λ xs. Leads s qs (f xs) b) (nil_right so_far) h).leads c x d r v e)
    many_on (a ∷ xs) so_far h c x d r v e =
        let v' = subst (λ z. Writes c z x d) (append_assoc (w a) (concat (map w xs)) qs) v in
        let u = cut (w a) (concat (map w xs) ++ qs) x c d v' in
        let q : x ++ r ≡ u.0 ++ (u.1 ++ r) = ap (λ z. z ++ r) u.3 ∙ append_assoc u.0 u.1 r in
        let y : begins test (x ++ r) ≡ true = (starts_append (concat (map w xs) ++ qs) (starting a)).starts c x d r v' in
        subst (λ o. Agrees (and_then o f) b (at r d))
        (sym (unroll so_far (at (x ++ r) c) ∙ ap (λ z. if z then (p >>= λ y. many_after test p (so_far ++ y ∷ [])) (at (x ++ r) c) else Ok (so_far, at (x ++ r) c)) y))
        (subst (λ z. Agrees (and_then (and_then (p (at z c)) (λ y. many_after test p (so_far ++ y ∷ []))) f) b (at r d)) (sym q)
        (then_twice (λ y. many_after test p (so_far ++ y ∷ [])) f (p (at (u.0 ++ (u.1 ++ r)) c)) a (at (u.1 ++ r) u.2) b (at r d)
        ((again.all a).leads c u.0 u.2 (u.1 ++ r) u.4 ((misses_each xs apart out).misses u.2 u.1 d r u.5 e))
        (many_on xs (so_far ++ a ∷ []) (subst (λ z. Leads s qs (f z) b) (sym (append_assoc so_far (a ∷ []) xs)) h) u.2 u.1 d r u.5 e)))

-- each of a list, and then what follows it
pub all_of : {A B : Type 0} {w : A → Pieces} {t s : Lexeme → Bool} {qs : Pieces} {p : Reader A} {b : B}
    (f : List A → Reader B) (test : Lexeme → Bool) (xs : List A) → AreMembers w t test p
    → ((so_far : List A) (i : Input) → many_after test p so_far i ≡ (if begins test i.left then (p >>= λ y. many_after test p (so_far ++ y ∷ [])) i else Ok (so_far, i)))
    → StandsBehind t test s qs (f xs) b
    → Leads s (concat (map w xs) ++ qs) (many test p >>= f) b
unfolding many
all_of {w = w} {t = t} {s = s} {qs = qs} {p = p} {b = b} f test xs are unroll behind =
    record { leads = λ c x d r v e. many_on w t test p are.again are.starting are.apart unroll s qs f b behind.no_more behind.no_member xs [] behind.leads c x d r v e }

-- ---- lists of at most so many

few_by : {B : Type 0} (s : Lexeme → Bool) (ps qs : Pieces) (p : Reader B) (b : B) (t : Bool)
    → (t ≡ true → Leads s (ps ++ qs) p b) → (c : ℕ) (x : List Lexeme) (d : ℕ) (r : List Lexeme) →
    Writes c ((if t then ps else never ∷ []) ++ qs) x d → begins s r ≡ false → Agrees (p (at (x ++ r) c)) b (at r d)
few_by s ps qs p b true h c x d r w e = (h refl).leads c x d r w e
few_by s ps qs p b false h c x d r w e = absurd (never_written c qs x d w)

pub few_leads : {A B : Type 0} {s : Lexeme → Bool} {p : Reader B} {b : B} (w : A → Pieces) (qs : Pieces) (most : ℕ)
    (xs : List A)
    → (nat_le (length xs) most ≡ true → Leads s (concat (map w xs) ++ qs) p b)
    → Leads s (few_pieces most w xs ++ qs) p b
few_leads {s = s} {p = p} {b = b} w qs most xs h = record { leads = λ c x d r v e. few_by s (concat (map w xs)) qs p b (nat_le (length xs) most) h c x d r v e }

few_misses_by : (test s : Lexeme → Bool) (ps qs : Pieces) (t : Bool) → (t ≡ true → Misses test (ps ++ qs) s)
    → (c : ℕ) (x : List Lexeme) (d : ℕ) (r : List Lexeme) → Writes c ((if t then ps else never ∷ []) ++ qs) x d
    → begins s r ≡ false → begins test (x ++ r) ≡ false
few_misses_by test s ps qs true h c x d r w e = (h refl).misses c x d r w e
few_misses_by test s ps qs false h c x d r w e = absurd (never_written c qs x d w)

-- a list of at most so many members misses a test as a list of any number does
pub few_misses : {A : Type 0} {test s : Lexeme → Bool} (w : A → Pieces) (qs : Pieces) (most : ℕ) (xs : List A)
    → Misses test (concat (map w xs) ++ qs) s → Misses test (few_pieces most w xs ++ qs) s
few_misses {test = test} {s = s} w qs most xs h = record { misses = λ c x d r v e. few_misses_by test s (concat (map w xs)) qs (nat_le (length xs) most) (λ q. h) c x d r v e }

module _ {A : Type 0} (w : A → Pieces) (t test : Lexeme → Bool) (p : Reader A) (again : Again w t p) (starting : (a : A) → Starts test (w a)) (apart : (a : A) → Begun t (w a)) where
  module _ {B : Type 0} (s : Lexeme → Bool) (qs : Pieces) (f : List A → Reader B) (b : B) (out : Misses t qs s) (stop : Misses test qs s) where
    few_on : (xs : List A) (turns : ℕ) (so_far : List A) → length xs ≤ turns → Leads s qs (f (so_far ++ xs)) b
        → (c : ℕ) (x : List Lexeme) (d : ℕ) (r : List Lexeme) → Writes c (concat (map w xs) ++ qs) x d
        → begins s r ≡ false →
        Agrees (and_then (many_from test p turns so_far (at (x ++ r) c)) f) b (at r d)
    unfolding many_from
    few_on [] zero so_far le h c x d r v e = (subst (λ xs. Leads s qs (f xs) b) (nil_right so_far) h).leads c x d r v e
    few_on [] (suc turns) so_far le h c x d r v e =
        subst (λ o. Agrees (and_then o f) b (at r d))
        (sym (ap (λ z. if z then (p >>= λ y. many_from test p turns (so_far ++ y ∷ [])) (at (x ++ r) c) else Ok (so_far, at (x ++ r) c)) (stop.misses c x d r v e)))
        ((subst (λ xs. Leads s qs (f xs) b) (nil_right so_far) h).leads c x d r v e)
    few_on (a ∷ xs) zero so_far le h c x d r v e = absurd (omega arith)
    few_on (a ∷ xs) (suc turns) so_far le h c x d r v e =
        let v' = subst (λ z. Writes c z x d) (append_assoc (w a) (concat (map w xs)) qs) v in
        let u = cut (w a) (concat (map w xs) ++ qs) x c d v' in
        let q : x ++ r ≡ u.0 ++ (u.1 ++ r) = ap (λ z. z ++ r) u.3 ∙ append_assoc u.0 u.1 r in
        let y : begins test (x ++ r) ≡ true = (starts_append (concat (map w xs) ++ qs) (starting a)).starts c x d r v' in
        subst (λ o. Agrees (and_then o f) b (at r d))
        (sym (ap (λ z. if z then (p >>= λ y. many_from test p turns (so_far ++ y ∷ [])) (at (x ++ r) c) else Ok (so_far, at (x ++ r) c)) y))
        (subst (λ z. Agrees (and_then (and_then (p (at z c)) (λ y. many_from test p turns (so_far ++ y ∷ []))) f) b (at r d)) (sym q)
        (then_twice (λ y. many_from test p turns (so_far ++ y ∷ [])) f (p (at (u.0 ++ (u.1 ++ r)) c)) a (at (u.1 ++ r) u.2) b (at r d)
        ((again.all a).leads c u.0 u.2 (u.1 ++ r) u.4 ((misses_each xs apart out).misses u.2 u.1 d r u.5 e))
        (few_on xs turns (so_far ++ a ∷ []) (omega arith) (subst (λ z. Leads s qs (f z) b) (sym (append_assoc so_far (a ∷ []) xs)) h) u.2 u.1 d r u.5 e)))

-- each of a list of at most so many, and then what follows it
pub few_of : {A B : Type 0} {t s : Lexeme → Bool} {p : Reader A} {b : B} (w : A → Pieces) (qs : Pieces)
    (f : List A → Reader B) (test : Lexeme → Bool) (most : ℕ) (xs : List A) → AreMembers w t test p
    → StandsBehind t test s qs (f xs) b
    → Leads s (few_pieces most w xs ++ qs) (many_from test p most [] >>= f) b
few_of {t = t} {s = s} {p = p} {b = b} w qs f test most xs are behind =
    few_leads w qs most xs (λ q. record {
      leads = λ c x d r v e. few_on w t test p are.again are.starting are.apart
          s qs f b behind.no_more behind.no_member xs most [] (let l : length xs ≤ most = grind (arith, nat_tests) in l) behind.leads c x d r v e;
    })

starts_named_by : (test : Lexeme → Bool) (name : List ℕ) (qs : Pieces) (t : Bool)
    → (t ≡ false → test (lexeme.Name name) ≡ true) → (c : ℕ) (x : List Lexeme) (d : ℕ) (r : List Lexeme)
    → Writes c ((if t then never else word name) ∷ qs) x d → begins test (x ++ r) ≡ true
starts_named_by test name qs true h c x d r w = absurd (never_written c qs x d w)
starts_named_by test name qs false h c x d r w = (starts_token (h refl)).starts c x d r w

-- a name first is a token that the test passes, if it passes the name where that isn't reserved
pub starts_named : {test : Lexeme → Bool} {qs : Pieces} (name : List ℕ)
    → (is_reserved name ≡ false → test (lexeme.Name name) ≡ true) → Starts test (named name ∷ qs)
starts_named {test = test} {qs = qs} name h = record { starts = λ c x d r w. starts_named_by test name qs (is_reserved name) h c x d r w }
