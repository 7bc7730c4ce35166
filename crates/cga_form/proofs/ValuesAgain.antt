-- A value is read as it is written.
use Rattle.std.proofs.Common.{◌≡◌, ℕ, zero, suc, ◌<◌, List, [], ◌∷◌, ◌++◌, map, if◌then◌else◌, append_assoc, ◌∙◌, Bool, true, false, Option, Some, None, inl, inr, refl, ap, sym, subst, pos, arith}
use Rattle.cga_fraction.specs.Rat.{Rat, of_int}
use Rattle.cga_lexer.specs.declared.sign.Sign.TheVariants as s
use Rattle.cga_syntax.specs.declared.lexeme.Lexeme.{Lexeme}
use Rattle.cga_syntax.specs.declared.lexeme.Lexeme.TheVariants as lexeme
use Rattle.cga_syntax.specs.declared.print.space.Space.TheVariants.{Usual}
use Rattle.cga_syntax.specs.Pieces.{Pieces, token, sign, plain, number, valued, IsMagnitude, IsValue, never, Writes}
use Rattle.cga_form.specs.Reader.{at, begins, ◌>>=◌, single}
use Rattle.cga_form.specs.Tokens.{a_sign, is_sign, a_number, whole_of}
use Rattle.cga_form.specs.Parts as b
use Rattle.cga_form.proofs.Written.{piece_of, plain_written, cut}
use Rattle.cga_form.proofs.Beginnings.{Begun, starts_token, misses_end, misses_nothing}
use Rattle.cga_form.proofs.Again.{Agrees, Leads, Again, nothing, never_leads, ends, took, peek_yes, peek_no, after, plainly}
use Rattle.cga_form.proofs.Values.{value_pieces, ratio}

-- the token that goes on with a value
abbrev pub a_slash : Lexeme → Bool
a_slash l = is_sign s.Slash l

-- a number by itself, or two of which the second isn't 0
abbrev single_text : Rat → List Lexeme
single_text m = lexeme.Number m ∷ []

abbrev double_text : ℕ → ℕ → List Lexeme
double_text n d = number n ∷ lexeme.Sign s.Slash ∷ number d ∷ []

rest_single : (minus : Bool) (m : Rat) (o : Option ℕ)
    → Leads a_slash [] (b.magnitude_rest minus m o) (b.with_minus minus m)
rest_single minus m None = ends
rest_single minus m (Some n) = peek_no _ (misses_end (λ l e. e)) ends

read_single : (minus : Bool) (m : Rat)
    → Leads a_slash (map (token Usual) (single_text m)) (b.magnitude minus) (b.with_minus minus m)
unfolding b.magnitude
read_single minus m = took a_number m refl (rest_single minus m (whole_of m))

-- a number that isn't 0 after a slash
abbrev divisor_pieces : ℕ → Pieces
divisor_pieces zero = sign s.Slash ∷ never ∷ []
divisor_pieces (suc d) = sign s.Slash ∷ plain (number (suc d)) ∷ []

divisor_at : (d : ℕ) → Leads nothing (divisor_pieces d) b.divisor d
unfolding b.divisor
divisor_at zero = took (a_sign s.Slash) tt refl never_leads
divisor_at (suc d) = took (a_sign s.Slash) tt refl (took b.a_divisor (suc d) refl ends)

divisor_again : Again divisor_pieces nothing b.divisor
divisor_again = record { all = divisor_at }

read_divisor : (minus : Bool) (n d : ℕ) → 0 < d
    → Leads a_slash (sign s.Slash ∷ plain (number d) ∷ []) (b.magnitude_rest minus (of_int (pos n)) (Some n))
    (b.with_minus minus (ratio n d))
read_divisor minus n zero h = absurd (omega arith)
read_divisor minus n (suc d) h = peek_yes _ (starts_token refl) (plainly (after {v = divisor_pieces} _ (suc d) divisor_again misses_nothing ends))

read_double : (minus : Bool) (n d : ℕ) → 0 < d
    → Leads a_slash (map (token Usual) (double_text n d)) (b.magnitude minus) (b.with_minus minus (ratio n d))
unfolding b.magnitude
read_double minus n d h = took a_number (of_int (pos n)) refl (read_divisor minus n d h)

-- ---- magnitudes and values

-- a list of lexemes is written plainly as itself
pub written_plainly : (c : ℕ) (x : List Lexeme) (d : ℕ) (ls : List Lexeme) → x ≡ ls → c ≡ d
    → Writes c (map (token Usual) ls) x d
written_plainly c x d ls e q = subst (λ z. Writes c (map (token Usual) ls) z d) (sym e) (subst (λ m. Writes c (map (token Usual) ls) ls m) q (plain_written c ls))

magnitude_at : (minus : Bool) (m : Rat) (c : ℕ) (x : List Lexeme) (d : ℕ) (r : List Lexeme) → IsMagnitude m x → c ≡ d
    → begins a_slash r ≡ false → Agrees (b.magnitude minus (at (x ++ r) c)) (b.with_minus minus m) (at r d)
magnitude_at minus m c x d r (inl h) q e = (read_single minus m).leads c x d r (written_plainly c x d (single_text m) h q) e
magnitude_at minus m c x d r (inr h) q e =
    subst (λ z. Agrees (b.magnitude minus (at (x ++ r) c)) (b.with_minus minus z) (at r d)) (sym h.4)
    ((read_double minus h.0 h.1 h.3).leads c x d r (written_plainly c x d (double_text h.0 h.1) h.2 q) e)

-- a text that begins with no minus
magnitude_first : (m : Rat) (x r : List Lexeme) → IsMagnitude m x → begins (is_sign s.Minus) (x ++ r) ≡ false
magnitude_first m x r (inl h) = ap (λ z. begins (is_sign s.Minus) (z ++ r)) h
magnitude_first m x r (inr h) = ap (λ z. begins (is_sign s.Minus) (z ++ r)) h.2

plain_at : (v : Rat) (c : ℕ) (x : List Lexeme) (d : ℕ) (r : List Lexeme) → begins (is_sign s.Minus) (x ++ r) ≡ false
    → Agrees (b.magnitude false (at (x ++ r) c)) v (at r d) → Agrees (b.value (at (x ++ r) c)) v (at r d)
unfolding b.value
plain_at v c x d r e h = subst (λ t. Agrees (if t then (single (a_sign s.Minus) >>= λ _. b.magnitude true) (at (x ++ r) c) else (b.magnitude false (at (x ++ r) c))) v (at r d)) (sym e) h

minus_at : (v : Rat) (c : ℕ) (x : List Lexeme) (d : ℕ) (r : List Lexeme)
    → Agrees (b.magnitude true (at (x ++ r) c)) v (at r d)
    → Agrees (b.value (at (lexeme.Sign s.Minus ∷ (x ++ r)) c)) v (at r d)
unfolding b.value
minus_at v c x d r h = h

value_at : (v : Rat) (c : ℕ) (x : List Lexeme) (d : ℕ) (r : List Lexeme) → IsValue v x → c ≡ d
    → begins a_slash r ≡ false → Agrees (b.value (at (x ++ r) c)) v (at r d)
value_at v c x d r (inl h) q e = plain_at v c x d r (magnitude_first v x r h) (magnitude_at false v c x d r h q e)
value_at v c x d r (inr h) q e =
    subst (λ z. Agrees (b.value (at (z ++ r) c)) v (at r d)) (sym h.2)
    (minus_at v c h.1 d r (subst (λ z. Agrees (b.magnitude true (at (h.1 ++ r) c)) z (at r d)) (sym h.4) (magnitude_at true h.0 c h.1 d r h.3 q e)))

-- a value is read again as it is written
pub value_again : Again value_pieces a_slash b.value
value_again = record { all = λ v. record { leads = λ c x d r w e. let t = piece_of c (valued v) x d w in value_at v c x d r t.0 t.1 e } }

-- ---- what a value begins with

magnitude_begun : (m : Rat) (x r : List Lexeme) → IsMagnitude m x → begins a_slash (x ++ r) ≡ false
magnitude_begun m x r (inl h) = ap (λ z. begins a_slash (z ++ r)) h
magnitude_begun m x r (inr h) = ap (λ z. begins a_slash (z ++ r)) h.2

value_begun : (v : Rat) (x r : List Lexeme) → IsValue v x → begins a_slash (x ++ r) ≡ false
value_begun v x r (inl h) = magnitude_begun v x r h
value_begun v x r (inr h) = ap (λ z. begins a_slash (z ++ r)) h.2

-- no value begins with a slash
pub begun_valued : {qs : Pieces} (v : Rat) → Begun a_slash (valued v ∷ qs)
begun_valued {qs = qs} v = record {
  begun = λ c x d r w.
      let t = cut (value_pieces v) qs x c d w in
      let u = piece_of c (valued v) t.0 t.2 t.4 in
      ap (begins a_slash) (ap (λ z. z ++ r) t.3 ∙ append_assoc t.0 t.1 r) ∙ value_begun v t.0 (t.1 ++ r) u.0;
}
