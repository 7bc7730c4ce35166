-- What a reader does on a text: it takes a front of it, and gives the same however the text goes on after the next token.
use Rattle.std.proofs.Common.{◌≡◌, ℕ, zero, suc, Bool, true, false, List, [], ◌∷◌, ◌++◌, length}
use Rattle.std.proofs.Common.{append_assoc, ◌≤◌, ◌<◌, length-append, refl, sym, ap, ◌∙◌, Ok, Err}
use Rattle.std.proofs.Common.{if◌then◌else◌, cond, arith}
use Rattle.cga_syntax.specs.declared.lexeme.Lexeme.{Lexeme}
use Rattle.cga_form.specs.declared.fault.Fault.TheVariants.{Unexpected, TooNested}
use Rattle.cga_form.specs.Reader.{Input, at, ReadResult, Reader, and_then, ◌>>=◌, first}
use Rattle.cga_form.specs.Reader.{peeked, begins, many_from}
use Rattle.cga_form.specs.Reader.{many_after, many}
pub use Rattle.cga_form.specs.Laws.{Language, Verdict, found, unexpected, nested, told, Means, Run, Exact, Some_text}
use Rattle.cga_syntax.specs.Brackets.{walk}
use Rattle.cga_fraction.proofs.Door.{append-nil_back as append_nil}
use Rattle.cga_form.proofs.Taking.{first_same, weaker_means, pure_runs, Seq, bind_run, bind_runs}

-- ---- lists

abbrev pub Each : {A : Type 0} → Language A → Language (List A)
Each L c x [] d = (x ≡ []) × (c ≡ d)
Each {A} L c x (a ∷ more_of) d = (here : List Lexeme) × (more : List Lexeme) × (e : ℕ) × (x ≡ here ++ more) × L c here a e × Each L e more more_of d

abbrev pub Grown : {A : Type 0} → Language A → List A → Language (List A)
Grown {A} L so_far c x out d = (new : List A) × (out ≡ so_far ++ new) × Each L c x new d

same_begins : (test : Lexeme → Bool) (b r : List Lexeme) → first b ≡ first r → begins test b ≡ begins test r
same_begins test [] [] e = refl
same_begins test [] (k ∷ r) e = absurd (cc)
same_begins test (j ∷ b) [] e = absurd (cc)
same_begins test (j ∷ b) (k ∷ r) e = let p : j ≡ k = cc in ap test p

weaker_run : {A : Type 0} {L M : Language A} {p : Reader A} (n m : ℕ)
    → ((c : ℕ) (x : List Lexeme) (a : A) (d : ℕ) → L c x a d → M c x a d) → (c : ℕ) (text : List Lexeme)
    → Run n m L p c text → Run n m M p c text
weaker_run n m h c text r = record { front = r.front; rest = r.rest; verdict = r.verdict; split = r.split; same = r.same; means = weaker_means n m h c r.front r.rest r.verdict r.means }

-- the same reader by another name
renamed : {A : Type 0} {L : Language A} {p q : Reader A} (n m c : ℕ) (text : List Lexeme) → ((i : Input) → q i ≡ p i)
    → Run n m L p c text → Run n m L q c text
renamed n m c text e r = record { front = r.front; rest = r.rest; verdict = r.verdict; split = r.split; same = λ b h. e (at (r.front ++ b) c) ∙ r.same b h; means = r.means }

ok_input : {A : Type 0} {a b : A} {i o : Input} → ◌≡◌ {A = ReadResult A} (Ok (a, i)) (Ok (b, o)) → i ≡ o
ok_input {A} {a} {b} {i} {o} e = let q : ◌≡◌ {A = A × Input} (a, i) (b, o) = cc in ap (λ (z : A × Input). z.1) q

module _ {A : Type 0} (L : Language A) (n : ℕ) (test : Lexeme → Bool) (p : Reader A) (p_runs : Exact n n L p) where
  -- one turn
  abbrev turn : (List A → Reader (List A)) → List A → Reader (List A)
  turn go so_far = λ i. if begins test i.left then (p >>= λ x. go (so_far ++ x ∷ [])) i else Ok (so_far, i)

  grown_more : (so_far : List A) (c : ℕ) (x : List Lexeme) (out : List A) (d : ℕ)
      → Seq L (λ a. Grown L (so_far ++ a ∷ [])) c x out d → Grown L so_far c x out d
  grown_more so_far c x out d w = (w.2 ∷ w.6.0, w.6.1 ∙ append_assoc so_far (w.2 ∷ []) w.6.0, (w.0, w.1, w.3, w.4, w.5, w.6.2))

  stopping : (go : List A → Reader (List A)) (so_far : List A) (c : ℕ) (text : List Lexeme) → begins test text ≡ false
      → Run n n (Grown L so_far) (turn go so_far) c text
  unfolding walk
  stopping go so_far c text e = record {
    front = [];
    rest = text;
    verdict = found so_far c;
    split = refl;
    same = λ b h.
        let g : begins test b ≡ false = same_begins test b text h ∙ e in
        ap (λ z. cond z ((p >>= λ x. go (so_far ++ x ∷ [])) (at b c)) (Ok (so_far, at b c))) g;
    means = (([], append_nil so_far, (refl, refl)), refl);
  }

  looked : (go : List A → Reader (List A)) (so_far : List A) (c : ℕ) (text : List Lexeme)
      → Run n n (Grown L so_far) (p >>= λ x. go (so_far ++ x ∷ [])) c text → (b : Bool) → begins test text ≡ b
      → Run n n (Grown L so_far) (turn go so_far) c text
  unfolding walk
  looked go so_far c text t true e =
      record {
        front = t.front;
        rest = t.rest;
        verdict = t.verdict;
        split = t.split;
        same = λ b h.
            let g : begins test (t.front ++ b) ≡ true = same_begins test (t.front ++ b) text (first_same t.front t.rest b h ∙ ap first (sym t.split)) ∙ e in
            ap (λ z. cond z ((p >>= λ x. go (so_far ++ x ∷ [])) (at (t.front ++ b) c)) (Ok (so_far, at (t.front ++ b) c))) g ∙ t.same b h;
        means = t.means;
      }
  looked go so_far c text t false e = stopping go so_far c text e

  grown_text : (so_far : List A) → Some_text (Grown L so_far)
  grown_text so_far c = ([], so_far, c, ([], append_nil so_far, (refl, refl)))

  -- at most so many
  pub many_from_runs : (turns : ℕ) (so_far : List A) → Exact n n (Grown L so_far) (many_from test p turns so_far)
  unfolding many_from
  many_from_runs zero so_far c text = pure_runs {L = Grown L so_far} n so_far (λ d. ([], append_nil so_far, (refl, refl))) c text
  many_from_runs (suc turns) so_far c text =
      looked (many_from test p turns) so_far c text
      (weaker_run {L = Seq L (λ a. Grown L (so_far ++ a ∷ []))} {M = Grown L so_far} n n (grown_more so_far) c text
      (bind_runs L (λ a. Grown L (so_far ++ a ∷ [])) n n n p (λ x. many_from test p turns (so_far ++ x ∷ [])) (λ a. grown_text (so_far ++ a ∷ []))
      (λ a. many_from_runs turns (so_far ++ a ∷ [])) p_runs c text))
      (begins test text) refl

  -- at most so many more
  abbrev pub Limited : ℕ → List A → Language (List A)
  Limited most so_far c x out d = (new : List A) × (out ≡ so_far ++ new) × Each L c x new d × (length new ≤ most)

  limited_more : (most : ℕ) (so_far : List A) (c : ℕ) (x : List Lexeme) (out : List A) (d : ℕ)
      → Seq L (λ a. Limited most (so_far ++ a ∷ [])) c x out d → Limited (suc most) so_far c x out d
  limited_more most so_far c x out d w = (w.2 ∷ w.6.0, w.6.1 ∙ append_assoc so_far (w.2 ∷ []) w.6.0, (w.0, w.1, w.3, w.4, w.5, w.6.2), let h = w.6.3 in omega arith)

  limited_none : (most : ℕ) (so_far : List A) (c : ℕ) → Limited most so_far c [] so_far c
  limited_none most so_far c = ([], append_nil so_far, (refl, refl), omega arith)

  limited_stop : (most : ℕ) (go : List A → Reader (List A)) (so_far : List A) (c : ℕ) (text : List Lexeme)
      → begins test text ≡ false → Run n n (Limited most so_far) (turn go so_far) c text
  unfolding walk
  limited_stop most go so_far c text e = record {
    front = [];
    rest = text;
    verdict = found so_far c;
    split = refl;
    same = λ b h.
        let g : begins test b ≡ false = same_begins test b text h ∙ e in
        ap (λ z. cond z ((p >>= λ x. go (so_far ++ x ∷ [])) (at b c)) (Ok (so_far, at b c))) g;
    means = (limited_none most so_far c, refl);
  }

  limited_turn : (most : ℕ) (go : List A → Reader (List A)) (so_far : List A) (c : ℕ) (text : List Lexeme)
      → Run n n (Limited most so_far) (p >>= λ x. go (so_far ++ x ∷ [])) c text → (b : Bool) → begins test text ≡ b
      → Run n n (Limited most so_far) (turn go so_far) c text
  limited_turn most go so_far c text t true e =
      record {
        front = t.front;
        rest = t.rest;
        verdict = t.verdict;
        split = t.split;
        same = λ b h.
            let g : begins test (t.front ++ b) ≡ true = same_begins test (t.front ++ b) text (first_same t.front t.rest b h ∙ ap first (sym t.split)) ∙ e in
            ap (λ z. cond z ((p >>= λ x. go (so_far ++ x ∷ [])) (at (t.front ++ b) c)) (Ok (so_far, at (t.front ++ b) c))) g ∙ t.same b h;
        means = t.means;
      }
  limited_turn most go so_far c text t false e = limited_stop most go so_far c text e

  limited_text : (most : ℕ) (so_far : List A) → Some_text (Limited most so_far)
  limited_text most so_far c = ([], so_far, c, limited_none most so_far c)

  pub limited_runs : (turns : ℕ) (so_far : List A) → Exact n n (Limited turns so_far) (many_from test p turns so_far)
  unfolding many_from
  limited_runs zero so_far c text = pure_runs {L = Limited 0 so_far} n so_far (λ d. limited_none 0 so_far d) c text
  limited_runs (suc turns) so_far c text =
      limited_turn (suc turns) (many_from test p turns) so_far c text
      (weaker_run {L = Seq L (λ a. Limited turns (so_far ++ a ∷ []))} {M = Limited (suc turns) so_far} n n (limited_more turns so_far) c text
      (bind_runs L (λ a. Limited turns (so_far ++ a ∷ [])) n n n p (λ x. many_from test p turns (so_far ++ x ∷ [])) (λ a. limited_text turns (so_far ++ a ∷ []))
      (λ a. limited_runs turns (so_far ++ a ∷ [])) p_runs c text))
      (begins test text) refl

  module _ (long : (c : ℕ) (x : List Lexeme) (a : A) (d : ℕ) → L c x a d → 1 ≤ length x) where
    is_found : (c : ℕ) (x r : List Lexeme) (v : Verdict A) (a : A) (o : Input) → Means n n L c x r v
        → told v r ≡ Ok (a, o) → (1 ≤ length x) × (o.left ≡ r)
    is_found c x r (found b d) a o w e = (long c x b d w.0, let q : at r d ≡ o = ok_input e in sym (ap (λ (z : Input). z.left) q))
    is_found c x r unexpected a o w e = absurd (let q : Err (Unexpected (length r)) ≡ Ok (a, o) = e in cc)
    is_found c x r nested a o w e = absurd (let q : Err (TooNested (length r)) ≡ Ok (a, o) = e in cc)

    pub shortens : (i : Input) (a : A) (o : Input) → p i ≡ Ok (a, o) → length o.left < length i.left
    shortens i a o e =
        let t = p_runs i.count i.left in
        let g = is_found i.count t.front t.rest t.verdict a o t.means (sym (t.same t.rest refl) ∙ ap (λ z. p (at z i.count)) (sym t.split) ∙ e) in
        omega (arith, g.0, ap length g.1, ap length t.split, length-append t.front t.rest)

    over : (j : ℕ) (so_far : List A) (i : Input) → begins test i.left ≡ false
        → many_from test p j so_far i ≡ Ok (so_far, i)
    unfolding many_from
    over zero so_far i e = refl
    over (suc j) so_far i e = ap (λ z. cond z ((p >>= λ x. many_from test p j (so_far ++ x ∷ [])) i) (Ok (so_far, i))) e

    empty_begins : (ks : List Lexeme) → length ks ≤ 0 → begins test ks ≡ false
    empty_begins [] h = refl
    empty_begins (k ∷ ks) h = absurd (omega arith)

    enough_then : (j l : ℕ) (so_far : List A) (i : Input) → length i.left ≤ suc j → length i.left ≤ suc l →
        ((q : List A) (o : Input) → length o.left ≤ j → length o.left ≤ l → many_from test p j q o ≡ many_from test p l q o)
        →
        (o : ReadResult A) → p i ≡ o
        → and_then o (λ x. many_from test p j (so_far ++ x ∷ [])) ≡ and_then o (λ x. many_from test p l (so_far ++ x ∷ []))
    enough_then j l so_far i a b h (Ok q) e = h (so_far ++ q.0 ∷ []) q.1 (omega (arith, shortens i q.0 q.1 e)) (omega (arith, shortens i q.0 q.1 e))
    enough_then j l so_far i a b h (Err f) e = refl

    enough_turn : (j l : ℕ) (so_far : List A) (i : Input)
        → (p >>= λ x. many_from test p j (so_far ++ x ∷ [])) i ≡ (p >>= λ x. many_from test p l (so_far ++ x ∷ [])) i
        → many_from test p (suc j) so_far i ≡ many_from test p (suc l) so_far i
    unfolding many_from
    enough_turn j l so_far i e = ap (λ z. cond (begins test i.left) z (Ok (so_far, i))) e

    enough : (j l : ℕ) (so_far : List A) (i : Input) → length i.left ≤ j → length i.left ≤ l
        → many_from test p j so_far i ≡ many_from test p l so_far i
    enough zero l so_far i a b = over zero so_far i (empty_begins i.left a) ∙ sym (over l so_far i (empty_begins i.left a))
    enough (suc j) zero so_far i a b = over (suc j) so_far i (empty_begins i.left b) ∙ sym (over zero so_far i (empty_begins i.left b))
    enough (suc j) (suc l) so_far i a b = enough_turn j l so_far i (enough_then j l so_far i a b (λ q o x y. enough j l q o x y) (p i) refl)

    unroll_once : (j : ℕ) (so_far : List A) (i : Input)
        → many_from test p (suc j) so_far i ≡ turn (many_from test p j) so_far i
    unfolding many_from
    unroll_once j so_far i = refl

    unroll_then : (so_far : List A) (i : Input) (o : ReadResult A) → p i ≡ o
        → and_then o (λ x. many_from test p (length i.left) (so_far ++ x ∷ [])) ≡ and_then o
        (λ x. many_after test p (so_far ++ x ∷ []))
    unroll_then so_far i (Ok q) e = enough (length i.left) (length q.1.left) (so_far ++ q.0 ∷ []) q.1 (omega (arith, shortens i q.0 q.1 e)) (omega arith)
    unroll_then so_far i (Err f) e = refl

    -- a turn and the turns after it
    pub unroll : (so_far : List A) (i : Input) → many_after test p so_far i ≡ turn (many_after test p) so_far i
    unroll so_far i =
        enough (length i.left) (suc (length i.left)) so_far i (omega arith) (omega arith)
        ∙ unroll_once (length i.left) so_far i
        ∙ ap (λ z. cond (begins test i.left) z (Ok (so_far, i))) (unroll_then so_far i (p i) refl)

    many_after_runs : (size : ℕ) (so_far : List A) (c : ℕ) (text : List Lexeme) → length text ≤ size
        → Run n n (Grown L so_far) (many_after test p so_far) c text
    many_after_runs zero so_far c text h = renamed n n c text (unroll so_far) (stopping (many_after test p) so_far c text (empty_begins text h))
    many_after_runs (suc size) so_far c text h =
        renamed n n c text (unroll so_far)
        (looked (many_after test p) so_far c text
        (weaker_run {L = Seq L (λ a. Grown L (so_far ++ a ∷ []))} {M = Grown L so_far} n n (grown_more so_far) c text
        (let t = p_runs c text in
        bind_run L (λ a. Grown L (so_far ++ a ∷ [])) n n n p (λ x. many_after test p (so_far ++ x ∷ [])) (λ a. grown_text (so_far ++ a ∷ [])) c text t
        (λ a d w. many_after_runs size (so_far ++ a ∷ []) d t.rest (omega (arith, long c t.front a d w, ap length t.split, length-append t.front t.rest)))))
        (begins test text) refl)

    pub many_runs : Exact n n (Grown L []) (many test p)
    unfolding many
    many_runs c text = many_after_runs (length text) [] c text (omega arith)

-- ---- a choice by the next token
module _ {A : Type 0} (L : Language A) (n m : ℕ) (test : Lexeme → Bool) (p q : Reader A) where
  by_test : (c : ℕ) (text : List Lexeme) → Run n m L p c text → Run n m L q c text → (b : Bool) → begins test text ≡ b
      → Run n m L (peeked test p q) c text
  by_test c text t u true e = record {
    front = t.front;
    rest = t.rest;
    verdict = t.verdict;
    split = t.split;
    same = λ b h.
        let g : begins test (t.front ++ b) ≡ true = same_begins test (t.front ++ b) text (first_same t.front t.rest b h ∙ ap first (sym t.split)) ∙ e in
        ap (λ z. cond z (p (at (t.front ++ b) c)) (q (at (t.front ++ b) c))) g ∙ t.same b h;
    means = t.means;
  }
  by_test c text t u false e = record {
    front = u.front;
    rest = u.rest;
    verdict = u.verdict;
    split = u.split;
    same = λ b h.
        let g : begins test (u.front ++ b) ≡ false = same_begins test (u.front ++ b) text (first_same u.front u.rest b h ∙ ap first (sym u.split)) ∙ e in
        ap (λ z. cond z (p (at (u.front ++ b) c)) (q (at (u.front ++ b) c))) g ∙ u.same b h;
    means = u.means;
  }

  pub peeked_runs : Exact n m L p → Exact n m L q → Exact n m L (peeked test p q)
  peeked_runs g h c text = by_test c text (g c text) (h c text) (begins test text) refl
