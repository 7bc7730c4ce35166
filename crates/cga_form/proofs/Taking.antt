-- A reader takes one token, or reads one language and then another.
use Rattle.std.proofs.Common.{◌≡◌, ℕ, zero, suc, ◌+◌, ◌-◌, List, [], ◌∷◌, ◌++◌}
use Rattle.std.proofs.Common.{append_assoc, refl, sym, ap, ◌∙◌, Option, Some, None}
use Rattle.std.proofs.Common.{arith}
use Rattle.cga_syntax.specs.declared.lexeme.Lexeme.{Lexeme}
use Rattle.cga_form.specs.Reader.{at, Reader, and_then, ◌>>=◌, pure, refuse, first, decoded}
use Rattle.cga_form.specs.Reader.{taking, single, entering, enter, drawing, drawn_word}
pub use Rattle.cga_form.specs.Laws.{Language, Verdict, found, unexpected, nested, told, Means, Run, Exact, Some_text}
use Rattle.cga_syntax.specs.Brackets.{walk, counted, walk_on, bracket_of, opens}

pub first_same : (x r b : List Lexeme) → first b ≡ first r → first (x ++ b) ≡ first (x ++ r)
first_same [] r b e = e
first_same (k ∷ x) r b e = refl

pub weaker_means : {A : Type 0} {L M : Language A} (n m : ℕ)
    → ((c : ℕ) (x : List Lexeme) (a : A) (d : ℕ) → L c x a d → M c x a d) → (c : ℕ) (x r : List Lexeme) (v : Verdict A)
    → Means n m L c x r v → Means n m M c x r v
weaker_means n m h c x r (found a d) w = (h c x a d w.0, w.1)
weaker_means n m h c x r unexpected w = (w.0, w.1, w.2, w.3, h c _ _ _ w.4, w.5)
weaker_means n m h c x r nested w = (w.0, w.1, w.2, w.3, h c _ _ _ w.4, w.5, w.6, w.7)

pub weaker : {A : Type 0} {L M : Language A} {p : Reader A} (n m : ℕ)
    → ((c : ℕ) (x : List Lexeme) (a : A) (d : ℕ) → L c x a d → M c x a d) → Exact n m L p → Exact n m M p
weaker n m h e c text =
    let r = e c text in
    record { front = r.front; rest = r.rest; verdict = r.verdict; split = r.split; same = r.same; means = weaker_means n m h c r.front r.rest r.verdict r.means }

-- a reader that takes nothing reads a language of nothing exactly
pub pure_runs : {A : Type 0} {L : Language A} (n : ℕ) (a : A) → ((c : ℕ) → L c [] a c) → Exact n n L (pure a)
unfolding walk
pure_runs n a h c text = record { front = []; rest = text; verdict = found a c; split = refl; same = λ b e. refl; means = (h c, refl) }

pub refuse_runs : {A : Type 0} {L : Language A} (n m : ℕ) → Some_text L → Exact n m L refuse
unfolding walk
refuse_runs n m some c text = let s = some c in record { front = []; rest = text; verdict = unexpected; split = refl; same = λ b e. refl; means = (s.0, s.1, s.2, n, s.3, refl) }

-- ---- one after the other

abbrev pub Seq : {A B : Type 0} → Language A → (A → Language B) → Language B
Seq {A} L M c z b d = (x : List Lexeme) × (y : List Lexeme) × (a : A) × (e : ℕ) × (z ≡ x ++ y) × L c x a e × M a e y b d

walk_step : (x y : List Lexeme) (m : ℕ) (o : Option ℕ) → ((j : ℕ) → walk j x ≡ Some m → walk j (x ++ y) ≡ walk m y)
    → walk_on (λ j. walk j x) o ≡ Some m → walk_on (λ j. walk j (x ++ y)) o ≡ walk m y
walk_step x y m None h e = cc
walk_step x y m (Some j) h e = h j e

pub walk_append : (n : ℕ) (x y : List Lexeme) (m : ℕ) → walk n x ≡ Some m → walk n (x ++ y) ≡ walk m y
unfolding walk
walk_append n [] y m e = ap (λ o. walk_on (λ j. walk j y) o) e
walk_append n (k ∷ x) y m e = walk_step x y m (counted (bracket_of k) n) (λ j h. walk_append j x y m h) e

module _ {A B : Type 0} (L : Language A) (M : A → Language B) (n m l : ℕ) (p : Reader A) (f : A → Reader B)
    (some : (a : A) → Some_text (M a)) where
  next_means : (c : ℕ) (x y r : List Lexeme) (a : A) (d : ℕ) → L c x a d → walk n x ≡ Some m → (v : Verdict B)
      → Means m l (M a) d y r v → Means n l (Seq L M) c (x ++ y) r v
  next_means c x y r a d h e (found b j) w = ((x, y, a, d, refl, h, w.0), walk_append n x y m e ∙ w.1)
  next_means c x y r a d h e unexpected w = (w.0, w.1, w.2, w.3, (x, y ++ w.0, a, d, append_assoc x y w.0, h, w.4), walk_append n x y m e ∙ w.5)
  next_means c x y r a d h e nested w = (w.0, w.1, w.2, w.3, (x, y ++ w.0 ∷ w.1, a, d, append_assoc x y (w.0 ∷ w.1), h, w.4), walk_append n x y m e ∙ w.5, w.6, w.7)

  pub after : (c : ℕ) (text x r : List Lexeme) (v : Verdict A) → text ≡ x ++ r
      → ((b : List Lexeme) → first b ≡ first r → p (at (x ++ b) c) ≡ told v b) → Means n m L c x r v
      → ((a : A) (d : ℕ) → L c x a d → Run m l (M a) (f a) d r) → Run n l (Seq L M) (p >>= f) c text
  after c text x r (found a d) s same w second =
      let t = second a d w.0 in
      record {
        front = x ++ t.front;
        rest = t.rest;
        verdict = t.verdict;
        split = s ∙ ap (λ z. x ++ z) t.split ∙ sym (append_assoc x t.front t.rest);
        same = λ b e. ap (λ z. and_then (p (at z c)) f) (append_assoc x t.front b)
            ∙ ap (λ o. and_then o f) (same (t.front ++ b) (first_same t.front t.rest b e ∙ ap first (sym t.split)))
            ∙ t.same b e;
        means = next_means c x t.front t.rest a d w.0 w.1 t.verdict t.means;
      }
  after c text x r unexpected s same w second =
      let t = some w.1 w.2 in
      record {
        front = x;
        rest = r;
        verdict = unexpected;
        split = s;
        same = λ b e. ap (λ o. and_then o f) (same b e);
        means = (w.0 ++ t.0, t.1, t.2, w.3, (x ++ w.0, t.0, w.1, w.2, sym (append_assoc x w.0 t.0), w.4, t.3), w.5);
      }
  after c text x r nested s same w second =
      let t = some w.2 w.3 in
      record {
        front = x;
        rest = r;
        verdict = nested;
        split = s;
        same = λ b e. ap (λ o. and_then o f) (same b e);
        means = (w.0, w.1 ++ t.0, t.1, t.2, (x ++ w.0 ∷ w.1, t.0, w.2, w.3, sym (append_assoc x (w.0 ∷ w.1) t.0), w.4, t.3), w.5, w.6, w.7);
      }

  pub bind_run : (c : ℕ) (text : List Lexeme) → (t : Run n m L p c text)
      → ((a : A) (d : ℕ) → L c t.front a d → Run m l (M a) (f a) d t.rest) → Run n l (Seq L M) (p >>= f) c text
  bind_run c text r second = after c text r.front r.rest r.verdict r.split r.same r.means second

  pub bind_runs : ((a : A) → Exact m l (M a) (f a)) → Exact n m L p → Exact n l (Seq L M) (p >>= f)
  bind_runs second e c text = let r = e c text in bind_run c text r (λ a d h. second a d r.rest)

-- ---- one token

module _ {A : Type 0} (L : Language A) (n m : ℕ) (decode : Lexeme → Option A) (some : Some_text L) where
  none_runs : (c : ℕ) (text : List Lexeme) → decoded decode (first text) ≡ None → Run n m L (single decode) c text
  unfolding walk
  none_runs c text e = let t = some c in record {
    front = [];
    rest = text;
    verdict = unexpected;
    split = refl;
    same = λ b h. ap (λ o. taking (decoded decode o) (at b c)) h ∙ ap (λ o. taking o (at b c)) e;
    means = (t.0, t.1, t.2, n, t.3, refl);
  }

  module _ (fine : (l : Lexeme) (a : A) → decode l ≡ Some a → ((c : ℕ) → L c (l ∷ []) a c) × (counted (bracket_of l) n ≡ Some m)) where
    one_runs : (c : ℕ) (l : Lexeme) (ls : List Lexeme) (o : Option A) → decode l ≡ o
        → Run n m L (single decode) c (l ∷ ls)
    unfolding walk
    one_runs c l ls None e = none_runs c (l ∷ ls) e
    one_runs c l ls (Some a) e = record {
      front = l ∷ [];
      rest = ls;
      verdict = found a c;
      split = refl;
      same = λ b h. ap (λ o. taking o (at (l ∷ b) c)) e;
      means = ((fine l a e).0 c, ap (λ o. walk_on (λ i. walk i []) o) (fine l a e).1);
    }

    pub single_runs : Exact n m L (single decode)
    single_runs c [] = none_runs c [] refl
    single_runs c (l ∷ ls) = one_runs c l ls (decode l) refl

-- an opening bracket
module _ (L : Language (Unit {0})) (decode : Lexeme → Option (Unit {0})) (some : Some_text L) where
  shut_runs : (n m c : ℕ) (text : List Lexeme) → decoded decode (first text) ≡ None → Run n m L (enter decode n) c text
  unfolding walk
  shut_runs n m c text e = let t = some c in record {
    front = [];
    rest = text;
    verdict = unexpected;
    split = refl;
    same = λ b h. ap (λ o. entering n (decoded decode o) (at b c)) h ∙ ap (λ o. entering n o (at b c)) e;
    means = (t.0, t.1, t.2, n, t.3, refl);
  }

  module _ (fine : (l : Lexeme) → decode l ≡ Some tt → ((c : ℕ) → L c (l ∷ []) tt c) × (bracket_of l ≡ opens)) where
    open_runs : (n c : ℕ) (l : Lexeme) (ls : List Lexeme) (o : Option (Unit {0})) → decode l ≡ o
        → Run n (n - 1) L (enter decode n) c (l ∷ ls)
    unfolding walk
    open_runs n c l ls None e = shut_runs n (n - 1) c (l ∷ ls) e
    open_runs zero c l ls (Some u) e = record {
      front = [];
      rest = l ∷ ls;
      verdict = nested;
      split = refl;
      same = λ b h. ap (λ o. entering 0 (decoded decode o) (at b c)) h ∙ ap (λ o. entering 0 o (at b c)) e;
      means = (l, [], tt, c, (fine l e).0 c, refl, refl, (fine l e).1);
    }
    open_runs (suc n) c l ls (Some u) e = record {
      front = l ∷ [];
      rest = ls;
      verdict = found tt c;
      split = refl;
      same = λ b h. ap (λ o. entering (suc n) o (at (l ∷ b) c)) e;
      means = ((fine l e).0 c, ap (λ k. walk_on (λ i. walk i []) (counted k (suc n))) (fine l e).1 ∙ ap Some (let e : n ≡ suc n - 1 = omega arith in e));
    }

    pub enter_runs : (n : ℕ) → Exact n (n - 1) L (enter decode n)
    enter_runs n c [] = shut_runs n (n - 1) c [] refl
    enter_runs n c (l ∷ ls) = open_runs n c l ls (decode l) refl

-- where no bracket may be opened, what follows one is never read
module _ {A : Type 0} (L : Language A) (m : ℕ) (decode : Lexeme → Option (Unit {0})) (q : Reader A) (some : Some_text L)
    (fine : (l : Lexeme) → decode l ≡ Some tt → ((c : ℕ) → (x : List Lexeme) × (a : A) × (d : ℕ) × L c (l ∷ x) a d) × (bracket_of l ≡ opens)) where
  unopened_runs : (c : ℕ) (text : List Lexeme) → decoded decode (first text) ≡ None
      → Run 0 m L (enter decode 0 >>= λ _. q) c text
  unfolding walk
  unopened_runs c text e = let t = some c in record {
    front = [];
    rest = text;
    verdict = unexpected;
    split = refl;
    same = λ b h. ap (λ o. and_then (entering 0 (decoded decode o) (at b c)) (λ _. q)) h ∙ ap (λ o. and_then (entering 0 o (at b c)) (λ _. q)) e;
    means = (t.0, t.1, t.2, 0, t.3, refl);
  }

  full_runs : (c : ℕ) (l : Lexeme) (ls : List Lexeme) (o : Option (Unit {0})) → decode l ≡ o
      → Run 0 m L (enter decode 0 >>= λ _. q) c (l ∷ ls)
  unfolding walk
  full_runs c l ls None e = unopened_runs c (l ∷ ls) e
  full_runs c l ls (Some u) e = let t = (fine l e).0 c in record {
    front = [];
    rest = l ∷ ls;
    verdict = nested;
    split = refl;
    same = λ b h. ap (λ o. and_then (entering 0 (decoded decode o) (at b c)) (λ _. q)) h ∙ ap (λ o. and_then (entering 0 o (at b c)) (λ _. q)) e;
    means = (l, t.0, t.1, t.2, t.3, refl, refl, (fine l e).1);
  }

  pub closed_runs : Exact 0 m L (enter decode 0 >>= λ _. q)
  closed_runs c [] = unopened_runs c [] refl
  closed_runs c (l ∷ ls) = full_runs c l ls (decode l) refl

-- the word of a rand
module _ (L : Language ℕ) (n : ℕ) (decode : Lexeme → Option (Unit {0})) (some : Some_text L)
    (fine : (l : Lexeme) → decode l ≡ Some tt → ((c : ℕ) → L c (l ∷ []) (c + 1) (c + 1)) × (counted (bracket_of l) n ≡ Some n)) where
  undrawn_runs : (c : ℕ) (text : List Lexeme) → decoded decode (first text) ≡ None
      → Run n n L (drawn_word decode) c text
  unfolding walk
  undrawn_runs c text e = let t = some c in record {
    front = [];
    rest = text;
    verdict = unexpected;
    split = refl;
    same = λ b h. ap (λ o. drawing (decoded decode o) (at b c)) h ∙ ap (λ o. drawing o (at b c)) e;
    means = (t.0, t.1, t.2, n, t.3, refl);
  }

  draw_runs : (c : ℕ) (l : Lexeme) (ls : List Lexeme) (o : Option (Unit {0})) → decode l ≡ o
      → Run n n L (drawn_word decode) c (l ∷ ls)
  unfolding walk
  draw_runs c l ls None e = undrawn_runs c (l ∷ ls) e
  draw_runs c l ls (Some u) e = record {
    front = l ∷ [];
    rest = ls;
    verdict = found (c + 1) (c + 1);
    split = refl;
    same = λ b h. ap (λ o. drawing o (at (l ∷ b) c)) e;
    means = ((fine l e).0 c, ap (λ o. walk_on (λ i. walk i []) o) (fine l e).1);
  }

  pub drawn_runs : Exact n n L (drawn_word decode)
  drawn_runs c [] = undrawn_runs c [] refl
  drawn_runs c (l ∷ ls) = draw_runs c l ls (decode l) refl
