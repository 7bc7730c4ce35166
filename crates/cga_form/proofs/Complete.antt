-- What a line of a form tells.
use Rattle.std.proofs.Common.{◌≡◌, ℕ, zero, suc, ◌+◌, ◌≤◌, List, [], ◌∷◌, ◌++◌, length, append_assoc, Bool, false, Some, None, Ok, Err, refl, ap, sym, ◌∙◌, subst, arith, length-append}
use Rattle.cga_form.specs.declared.fault.Fault.TheVariants.{Unexpected, TooNested}
use Rattle.cga_syntax.specs.declared.lexeme.Lexeme.{Lexeme}
use Rattle.cga_syntax.specs.Pieces.{Pieces, Writes}
use Rattle.cga_form.specs.Reader.{Input, ReadResult, Reader, at, begins, first}
use Rattle.cga_syntax.specs.Spelling.{Spelled, Stops}
use Rattle.cga_form.specs.Tells.{Tells}
use Rattle.cga_syntax.specs.Brackets.{walk, counted, walk_on, bracket_of, Bracket, opens, closes, other}
use Rattle.cga_form.proofs.Runs.{Verdict, found, unexpected, nested, told, Means}
use Rattle.cga_form.proofs.Forms.{After, Reads}
use Rattle.cga_form.proofs.Again.{Again, Agrees}

-- what a reader gives, whatever it leaves
abbrev pub Judges : {A : Type 0} → (A → Pieces) → ℕ → List Lexeme → ReadResult A → Type 0
Judges w n text (Ok q) = Tells w n text (Ok q.0)
Judges w n text (Err f) = Tells w n text (Err f)

spelled_of : {A : Type 0} (w : A → Pieces) (x : List Lexeme) (a : A) (d : ℕ) → After [] w 0 x a d → Spelled w x a
spelled_of w x a d h = (d, subst (λ qs. Writes 0 qs x d) (sym h.1) h.2)

agreed : {A : Type 0} (o : ReadResult A) (a : A) (i : Input) (l : ℕ) → o ≡ Err (Unexpected l) → Agrees o a i → ⊥
agreed o a i l e h = let P : ReadResult _ → Type 0 = λ q. Agrees q a i in subst P e h

module _ {A : Type 0} (w : A → Pieces) (s : Lexeme → Bool) (n : ℕ) (p : Reader A) (reads : Reads n n w p) (again : Again w s p)
    (ends : (text : List Lexeme) (a : A) (o : Input) → p (at text 0) ≡ Ok (a, o) → o.left ≡ []) where
  plain_nil : (xs : List Lexeme) → xs ++ [] ≡ xs
  plain_nil [] = refl
  plain_nil (x ∷ xs) = ap (λ z. x ∷ z) (plain_nil xs)

  stops_at : (x r : List Lexeme)
      → ((b : List Lexeme) → first b ≡ first r → p (at (x ++ b) 0) ≡ Err (Unexpected (length b))) → Stops w x r
  stops_at x [] same = λ a h.
      agreed (p (at (x ++ []) 0)) a (at [] h.0) 0 (same [] refl) ((again.all a).leads 0 x h.0 [] h.1 refl)
  stops_at x (j ∷ r) same = λ h.
      let e : (x ++ j ∷ []) ++ h.0 ≡ x ++ (j ∷ h.0) = append_assoc x (j ∷ []) h.0 in
      let g = subst (λ z. Writes 0 (w h.1) z h.2.0) e h.2.1 in
      agreed (p (at ((x ++ (j ∷ h.0)) ++ []) 0)) h.1 (at [] h.2.0) (length (j ∷ h.0))
      (ap (λ z. p (at z 0)) (plain_nil (x ++ (j ∷ h.0))) ∙ same (j ∷ h.0) refl)
      ((again.all h.1).leads 0 (x ++ (j ∷ h.0)) h.2.0 [] g refl)

  headed : (r : List Lexeme) (j : Lexeme) → first r ≡ Some j → (t : List Lexeme) × (r ≡ j ∷ t)
  headed [] j e = absurd (let q : None ≡ Some j = e in cc)
  headed (i ∷ r) j e = let q : i ≡ j = cc in (r, ap (λ z. z ∷ r) q)

  judged_by : (text x r : List Lexeme) (v : Verdict A) → text ≡ x ++ r
      → ((b : List Lexeme) → first b ≡ first r → p (at (x ++ b) 0) ≡ told v b) → Means n n (After [] w) 0 x r v
      → Judges w n text (told v r)
  judged_by text x r (found a d) e same h =
      let none = ends (x ++ r) a (at r d) (same r refl) in
      let whole : text ≡ x = e ∙ ap (λ z. x ++ z) none ∙ plain_nil x in
      (spelled_of w text a d (subst (λ z. After [] w 0 z a d) (sym whole) h.0), ap (λ z. walk n z) whole ∙ h.1)
  judged_by text x r unexpected e same h = (x, r, h.3, e, refl, (h.0, h.1, spelled_of w (x ++ h.0) h.1 h.2 h.4), stops_at x r same, h.5)
  judged_by text x r nested e same h =
      let t = headed r h.0 h.6 in (
        x,
        h.0,
        t.0,
        e ∙ ap (λ z. x ++ z) t.1,
        sym (ap length t.1),
        (h.1, h.2, spelled_of w ((x ++ h.0 ∷ []) ++ h.1) h.2 h.3 (subst (λ z. After [] w 0 z h.2 h.3) (sym (append_assoc x (h.0 ∷ []) h.1)) h.4)),
        h.5,
        h.7,
      )

  -- the reader's told is the right one
  pub judged : (text : List Lexeme) → Judges w n text (p (at text 0))
  judged text =
      let t = reads.runs 0 text in
      subst (λ o. Judges w n text o) (sym (ap (λ z. p (at z 0)) t.split ∙ t.same t.rest refl)) (judged_by text t.front t.rest t.verdict t.split t.same t.means)

  -- a text that is spelled is read as its value, or nests too deep
  pub complete : (text : List Lexeme) (a : A) (d : ℕ) → Writes 0 (w a) text d → begins s [] ≡ false
      → Agrees (p (at text 0)) a (at [] d)
  complete text a d h e = subst (λ z. Agrees (p (at z 0)) a (at [] d)) (plain_nil text) ((again.all a).leads 0 text d [] h refl)

opened_step : (n m : ℕ) (x : List Lexeme) → walk_on (λ i. walk i x) (counted opens n) ≡ Some m
    → ((i : ℕ) → walk i x ≡ Some m → i ≤ m + length x) → n ≤ suc (m + length x)
opened_step zero m x e f = omega arith
opened_step (suc n) m x e f = omega (arith, f n e)

stepped : (j : Bracket) (n m : ℕ) (x : List Lexeme) → walk_on (λ i. walk i x) (counted j n) ≡ Some m
    → ((i : ℕ) → walk i x ≡ Some m → i ≤ m + length x) → n ≤ suc (m + length x)
stepped opens n m x e f = opened_step n m x e f
stepped closes n m x e f = omega (arith, f (suc n) e)
stepped other n m x e f = omega (arith, f n e)

walk_length : (n m : ℕ) (x : List Lexeme) → walk n x ≡ Some m → n ≤ m + length x
unfolding walk
walk_length n m [] e = let q : n ≡ m = cc in omega arith
walk_length n m (j ∷ x) e = omega (arith, stepped (bracket_of j) n m x e (λ i h. walk_length i m x h))

-- no text is spelled by two values, where each number of brackets has its reader
module _ {A : Type 0} (w : A → Pieces) (s : Lexeme → Bool) (p : ℕ → Reader A) (reads : (n : ℕ) → Reads n n w (p n)) (again : (n : ℕ) → Again w s (p n))
    (ends : (n : ℕ) (text : List Lexeme) (a : A) (o : Input) → p n (at text 0) ≡ Ok (a, o) → o.left ≡ []) (last : begins s [] ≡ false) where
  same_value : (text : List Lexeme) (o : ReadResult A) → Judges w (length text) text o → (a b : A) (d e : ℕ)
      → Agrees o a (at [] d) → Agrees o b (at [] e) → a ≡ b
  same_value text (Ok q) h a b d e f g = sym f.0 ∙ g.0
  same_value text (Err (Unexpected l)) h a b d e f g = absurd f
  same_value text (Err (TooNested l)) h a b d e f g = absurd (omega (arith, walk_length (length text) 0 h.0 h.6, ap length h.3, length-append h.0 (h.1 ∷ h.2)))

  pub unique : (text : List Lexeme) (a b : A) → Spelled w text a → Spelled w text b → a ≡ b
  unique text a b f g =
      let n = length text in
      same_value text (p n (at text 0)) (judged w s n (p n) (reads n) (again n) (ends n) text) a b f.0 g.0
      (complete w s n (p n) (reads n) (again n) (ends n) text a f.0 f.1 last) (complete w s n (p n) (reads n) (again n) (ends n) text b g.0 g.1 last)
