-- Values are read exactly, and again as they are written.
use Rattle.std.proofs.Common.{◌≡◌, ℕ, zero, suc, ◌<◌, List, [], ◌∷◌, ◌++◌, Bool, true, false, Option, Some, None, inl, inr, ◌⊎◌, refl, ap, sym, ◌∙◌, subst, pos, arith}
use Rattle.cga_fraction.specs.Rat.{Rat, of_int}
use Rattle.cga_fraction.specs.Arithmetic.{divided}
use Rattle.cga_lexer.specs.declared.sign.Sign.TheVariants as s
use Rattle.cga_syntax.specs.declared.lexeme.Lexeme.{Lexeme}
use Rattle.cga_syntax.specs.declared.lexeme.Lexeme.TheVariants as lexeme
use Rattle.cga_syntax.specs.Brackets.{counted, bracket_of}
use Rattle.cga_syntax.specs.declared.print.space.Space.TheVariants.{Usual}
use Rattle.cga_syntax.specs.Pieces.{Pieces, token, plain, number, valued, IsMagnitude, IsValue, Writes}
use Rattle.cga_form.specs.Reader.{◌>>=◌, pure, single}
use Rattle.cga_form.specs.Tokens.{a_sign, is_sign, a_number, whole_of}
use Rattle.cga_form.specs.Parts as b
use Rattle.cga_form.proofs.Taking.{Seq, weaker, pure_runs, bind_runs}
use Rattle.cga_form.proofs.Runs.{Language, Exact, Some_text, peeked_runs}
use Rattle.cga_form.proofs.Taking.{single_runs}
use Rattle.cga_form.proofs.Written.{head_of, end_of, nil_right, piece_written}
use Rattle.cga_form.proofs.Forms.{After, Reads, one_token}
use Rattle.cga_form.proofs.Singles.{sign_token, number_token, as_token, whole_value}

-- ---- the number after a slash

abbrev Divisor : Language ℕ
Divisor c x a d = (x ≡ number a ∷ []) × (0 < a) × (c ≡ d)

above_zero_is : (o : Option ℕ) (a : ℕ) → b.above_zero o ≡ Some a → (o ≡ Some a) × (0 < a)
above_zero_is None a e = absurd (cc)
above_zero_is (Some zero) a e = absurd (cc)
above_zero_is (Some (suc n)) a e = let q : suc n ≡ a = cc in (ap Some q, omega (arith, q))

divisor_fine : (n : ℕ) (l : Lexeme) (a : ℕ) → b.a_divisor l ≡ Some a
    → ((c : ℕ) → Divisor c (l ∷ []) a c) × (counted (bracket_of l) n ≡ Some n)
divisor_fine n (lexeme.Number v) a e =
    let t = above_zero_is (whole_of v) a e in
    (λ c. (ap (λ z. lexeme.Number z ∷ []) (whole_value v.num v.above a t.0), t.1, refl), refl)
divisor_fine n _ a e = absurd (cc)

one_divisor : Some_text Divisor
one_divisor c = (number 1 ∷ [], 1, c, (refl, omega arith, refl))

-- a slash and a number that isn't 0
abbrev Divided : Language ℕ
Divided c x a d = (x ≡ lexeme.Sign s.Slash ∷ number a ∷ []) × (0 < a) × (c ≡ d)

-- nothing more, with a value
abbrev Same : {B : Type 0} → B → Language B
Same v c x a d = (a ≡ v) × (x ≡ []) × (c ≡ d)

one_of : {A : Type 0} (w : A → Pieces) (l : Lexeme) (c : ℕ) (x : List Lexeme) (a : A) (d : ℕ) → w a ≡ token Usual l ∷ []
    → After [] w c x a d → (x ≡ l ∷ []) × (c ≡ d)
one_of w l c x a d e h =
    let t = head_of c Usual l [] x d (subst (λ ps. Writes c ps x d) (sym h.1 ∙ e) h.2) in
    let u = end_of c t.0 d t.2 in
    (t.1 ∙ ap (λ z. l ∷ z) u.0, u.1)

slash : (n : ℕ) → Reads n n (as_token Usual (lexeme.Sign s.Slash)) (single (a_sign s.Slash))
slash n = one_token (sign_token Usual s.Slash n n refl refl)

exact_divisor : (n : ℕ) → Exact n n (Seq Divisor (λ a. Same a)) (single b.a_divisor >>= λ d. pure d)
exact_divisor n =
    bind_runs Divisor (λ a. Same a) n n n (single b.a_divisor) (λ d. pure d) (λ a c. ([], a, c, (refl, refl, refl))) (λ a. pure_runs {L = Same a} n a (λ c. (refl, refl, refl)))
    (single_runs Divisor n n b.a_divisor one_divisor (divisor_fine n))

divisor_text : Some_text (Seq Divisor (λ a. Same a))
divisor_text c = (number 1 ∷ [], 1, c, (number 1 ∷ [], [], 1, c, refl, (refl, omega arith, refl), (refl, refl, refl)))

as_after : (c : ℕ) (x : List Lexeme) (a d : ℕ)
    → Seq (After [] (as_token Usual (lexeme.Sign s.Slash))) (λ _. Seq Divisor (λ k. Same k)) c x a d → Divided c x a d
as_after c x a d h =
    let t = one_of (as_token Usual (lexeme.Sign s.Slash)) (lexeme.Sign s.Slash) c h.0 h.2 h.3 refl h.5 in
    let g = h.6 in
    let e : a ≡ g.2 = g.6.0 in (
      h.4 ∙ ap (λ z. z ++ h.1) t.0 ∙ ap (λ z. lexeme.Sign s.Slash ∷ z) (g.4 ∙ ap (λ z. g.0 ++ z) g.6.1
          ∙ nil_right g.0 ∙ g.5.0 ∙ ap (λ z. number z ∷ []) (sym e)),
      subst (λ z. 0 < z) (sym e) g.5.1,
      t.1 ∙ g.5.2 ∙ g.6.2,
    )

divisor_runs : (n : ℕ) → Exact n n Divided b.divisor
unfolding b.divisor
divisor_runs n =
    weaker n n as_after
    (bind_runs (After [] (as_token Usual (lexeme.Sign s.Slash))) (λ _. Seq Divisor (λ k. Same k)) n n n
    (single (a_sign s.Slash)) (λ _. single b.a_divisor >>= λ d. pure d) (λ _. divisor_text) (λ _. exact_divisor n) (slash n).runs)

after_text : Some_text Divided
after_text c = (lexeme.Sign s.Slash ∷ number 1 ∷ [], 1, c, (refl, omega arith, refl))

-- ---- magnitudes

abbrev pub ratio : ℕ → ℕ → Rat
ratio n d = divided (of_int (pos n)) (of_int (pos d))

-- what may stand after a number, which is whole or isn't
abbrev Rest : Bool → Rat → Option ℕ → Language Rat
Rest minus v None c x a d = Same (b.with_minus minus v) c x a d
Rest minus v (Some n) c x a d = Same (b.with_minus minus v) c x a d ⊎ Seq Divided (λ k. Same (b.with_minus minus (ratio n k))) c x a d

rest_text : (minus : Bool) (v : Rat) (o : Option ℕ) → Some_text (Rest minus v o)
rest_text minus v None c = ([], b.with_minus minus v, c, (refl, refl, refl))
rest_text minus v (Some n) c = ([], b.with_minus minus v, c, inl (refl, refl, refl))

rest_runs : (minus : Bool) (v : Rat) (o : Option ℕ) (n : ℕ) → Exact n n (Rest minus v o) (b.magnitude_rest minus v o)
rest_runs minus v None n = pure_runs {L = Rest minus v None} n (b.with_minus minus v) (λ c. (refl, refl, refl))
rest_runs minus v (Some k) n =
    peeked_runs (Rest minus v (Some k)) n n (is_sign s.Slash) (b.divisor >>= λ d. pure (b.with_minus minus (ratio k d))) (pure (b.with_minus minus v))
    (weaker {L = Seq Divided (λ j. Same (b.with_minus minus (ratio k j)))} {M = Rest minus v (Some k)} n n (λ c x a d h. inr h)
    (bind_runs Divided (λ j. Same (b.with_minus minus (ratio k j))) n n n b.divisor (λ d. pure (b.with_minus minus (ratio k d))) (λ j c. ([], b.with_minus minus (ratio k j), c, (refl, refl, refl)))
    (λ j. pure_runs {L = Same (b.with_minus minus (ratio k j))} n (b.with_minus minus (ratio k j)) (λ c. (refl, refl, refl))) (divisor_runs n)))
    (pure_runs {L = Rest minus v (Some k)} n (b.with_minus minus v) (λ c. inl (refl, refl, refl)))

-- a magnitude, with a minus before it or none
abbrev Magnitude : Bool → Language Rat
Magnitude minus c x a d = (m : Rat) × IsMagnitude m x × (a ≡ b.with_minus minus m) × (c ≡ d)

abbrev number_pieces : Rat → Pieces
number_pieces v = plain (lexeme.Number v) ∷ []

rest_is : (minus : Bool) (v : Rat) (o : Option ℕ) (c : ℕ) (x y : List Lexeme) (a : Rat) (d : ℕ) → whole_of v ≡ o
    → x ≡ lexeme.Number v ∷ y → Rest minus v o c y a d → Magnitude minus c x a d
rest_is minus v None c x y a d q e h = (v, inl (e ∙ ap (λ z. lexeme.Number v ∷ z) h.1), h.0, h.2)
rest_is minus v (Some n) c x y a d q e (inl h) = (v, inl (e ∙ ap (λ z. lexeme.Number v ∷ z) h.1), h.0, h.2)
rest_is minus v (Some n) c x y a d q e (inr h) =
    let w = whole_value v.num v.above n q in
    let t : y ≡ lexeme.Sign s.Slash ∷ number h.2 ∷ [] = h.4 ∙ ap (λ z. h.0 ++ z) h.6.1 ∙ nil_right h.0 ∙ h.5.0 in
    (ratio n h.2, inr (n, h.2, e ∙ ap (λ z. lexeme.Number z ∷ y) w ∙ ap (λ z. number n ∷ z) t, h.5.1, refl), h.6.0, h.5.2 ∙ h.6.2)

as_magnitude : (minus : Bool) (c : ℕ) (x : List Lexeme) (a : Rat) (d : ℕ)
    → Seq (After [] number_pieces) (λ v. Rest minus v (whole_of v)) c x a d → Magnitude minus c x a d
as_magnitude minus c x a d h =
    let t = one_of number_pieces (lexeme.Number h.2) c h.0 h.2 h.3 refl h.5 in
    rest_is minus h.2 (whole_of h.2) c x h.1 a d refl (h.4 ∙ ap (λ z. z ++ h.1) t.0) (subst (λ e. Rest minus h.2 (whole_of h.2) e h.1 a d) (sym t.1) h.6)

magnitude_runs : (minus : Bool) (n : ℕ) → Exact n n (Magnitude minus) (b.magnitude minus)
unfolding b.magnitude
magnitude_runs minus n =
    weaker n n (as_magnitude minus)
    (bind_runs (After [] number_pieces) (λ v. Rest minus v (whole_of v)) n n n (single a_number)
    (λ v. b.magnitude_rest minus v (whole_of v)) (λ v. rest_text minus v (whole_of v)) (λ v. rest_runs minus v (whole_of v) n)
    (one_token (number_token n)).runs)

magnitude_text : (minus : Bool) → Some_text (Magnitude minus)
magnitude_text minus c = (number 1 ∷ [], b.with_minus minus (of_int (pos 1)), c, (of_int (pos 1), inl refl, refl, refl))

-- ---- values

-- the one piece of a value
abbrev pub value_pieces : Rat → Pieces
value_pieces v = valued v ∷ []

written : (c : ℕ) (x : List Lexeme) (a : Rat) (d : ℕ) → IsValue a x → c ≡ d → After [] value_pieces c x a d
written c x a d h e = (value_pieces a, refl, piece_written c (valued a) x d (h, e))

positive : (c : ℕ) (x : List Lexeme) (a : Rat) (d : ℕ) → Magnitude false c x a d → After [] value_pieces c x a d
positive c x a d h = written c x a d (inl (subst (λ z. IsMagnitude z x) (sym h.2) h.1)) h.3

negative : (c : ℕ) (x : List Lexeme) (a : Rat) (d : ℕ)
    → Seq (After [] (as_token Usual (lexeme.Sign s.Minus))) (λ _. Magnitude true) c x a d
    → After [] value_pieces c x a d
negative c x a d h =
    let t = one_of (as_token Usual (lexeme.Sign s.Minus)) (lexeme.Sign s.Minus) c h.0 h.2 h.3 refl h.5 in
    written c x a d (inr (h.6.0, h.1, h.4 ∙ ap (λ z. z ++ h.1) t.0, h.6.1, h.6.2)) (t.1 ∙ h.6.3)

-- the reader of values takes exactly what is written as a value
pub value_reads : (n : ℕ) → Reads n n value_pieces b.value
unfolding b.value
value_reads n = record {
  runs = peeked_runs (After [] value_pieces) n n (is_sign s.Minus) (single (a_sign s.Minus) >>= λ _. b.magnitude true) (b.magnitude false)
      (weaker n n negative
      (bind_runs (After [] (as_token Usual (lexeme.Sign s.Minus))) (λ _. Magnitude true) n n n (single (a_sign s.Minus)) (λ _. b.magnitude true) (λ _. magnitude_text true) (λ _. magnitude_runs true n)
      (one_token (sign_token Usual s.Minus n n refl refl)).runs))
      (weaker n n positive (magnitude_runs false n));
  some = λ c. (number 1 ∷ [], of_int (pos 1), c, written c (number 1 ∷ []) (of_int (pos 1)) c (inl (inl refl)) refl);
}
