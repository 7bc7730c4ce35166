-- What pieces are written as, joined and cut.
use Rattle.std.proofs.Common.{◌≡◌, ℕ, List, [], ◌∷◌, ◌++◌, map, length, ◌≤◌, arith, append_assoc, refl, ap, sym, ◌∙◌, subst}
use Rattle.cga_syntax.specs.declared.lexeme.Lexeme.{Lexeme}
use Rattle.cga_syntax.specs.declared.print.space.Space.{Space}
use Rattle.cga_syntax.specs.declared.print.space.Space.TheVariants.{Usual}
use Rattle.cga_syntax.specs.Pieces.{Piece, token, Pieces, concat, IsWritten, Writes}
use Rattle.cga_form.proofs.Runs.{Language, Each}
pub use Rattle.std.proofs.Common.{append-nil as nil_right}

-- no pieces are written as no tokens, and the count of rands stays
pub nothing : (c : ℕ) → Writes c [] [] c
unfolding Writes
nothing c = (refl, refl)

pub one : (c : ℕ) (p : Piece) (ps : Pieces) (x y : List Lexeme) (e d : ℕ) → IsWritten c p x e → Writes e ps y d
    → Writes c (p ∷ ps) (x ++ y) d
unfolding Writes
one c p ps x y e d w h = (x, y, e, refl, w, h)

-- where pieces are written as a text, a token's piece before them is written as the token before it
pub token_first : (c : ℕ) (s : Space) (k : Lexeme) (ps : Pieces) (y : List Lexeme) (d : ℕ) → Writes c ps y d
    → Writes c (token s k ∷ ps) (k ∷ y) d
token_first c s k ps y d h = one c (token s k) ps (k ∷ []) y c d (refl, refl) h

pub join : (ps qs : Pieces) (x y : List Lexeme) (c e d : ℕ) → Writes c ps x e → Writes e qs y d
    → Writes c (ps ++ qs) (x ++ y) d
unfolding Writes
join [] qs x y c e d w h =
    let empty : x ++ y ≡ y = ap (λ z. z ++ y) w.0 in
    subst (λ z. Writes c qs z d) (sym empty) (subst (λ i. Writes i qs y d) (sym w.1) h)
join (p ∷ ps) qs x y c e d w h =
    (w.0, w.1 ++ y, w.2, ap (λ z. z ++ y) w.3 ∙ append_assoc w.0 w.1 y, w.4, join ps qs w.1 y w.2 e d w.5 h)

-- where joined pieces are written as a text, it is cut into what the first and what the second are written as
pub cut : (ps qs : Pieces) (z : List Lexeme) (c d : ℕ) → Writes c (ps ++ qs) z d
    → (x : List Lexeme) × (y : List Lexeme) × (e : ℕ) × (z ≡ x ++ y) × Writes c ps x e × Writes e qs y d
unfolding Writes
cut [] qs z c d w = ([], z, c, refl, (refl, refl), w)
cut (p ∷ ps) qs z c d w =
    let r = cut ps qs w.1 w.2 d w.5 in
    (w.0 ++ r.0, r.1, r.2, w.3 ∙ ap (λ v. w.0 ++ v) r.3 ∙ sym (append_assoc w.0 r.0 r.1), (w.0, r.0, w.2, refl, w.4, r.4), r.5)

-- what is written as a value's pieces
abbrev pub Of : {A : Type 0} → (A → Pieces) → Language A
Of w c x a d = Writes c (w a) x d

pub each_writes : {A : Type 0} (w : A → Pieces) (c : ℕ) (x : List Lexeme) (xs : List A) (d : ℕ) → Each (Of w) c x xs d
    → Writes c (concat (map w xs)) x d
unfolding Writes
each_writes w c x [] d h = h
each_writes w c x (a ∷ xs) d h =
    subst (λ z. Writes c (w a ++ concat (map w xs)) z d) (sym h.3) (join (w a) (concat (map w xs)) h.0 h.1 c h.2 d h.4 (each_writes w h.2 h.1 xs d h.5))

-- what begins with a token's piece begins with the token
pub head_of : (c : ℕ) (s : Space) (k : Lexeme) (ps : Pieces) (x : List Lexeme) (d : ℕ) → Writes c (token s k ∷ ps) x d
    → (y : List Lexeme) × (x ≡ k ∷ y) × Writes c ps y d
unfolding Writes
head_of c s k ps x d w = (w.1, w.3 ∙ ap (λ z. z ++ w.1) w.4.0, subst (λ n. Writes n ps w.1 d) (sym w.4.1) w.5)

-- where no pieces are written as a text, it is empty, and the count of rands stays
pub end_of : (c : ℕ) (x : List Lexeme) (d : ℕ) → Writes c [] x d → (x ≡ []) × (c ≡ d)
unfolding Writes
end_of c x d w = w

-- one piece by itself
pub piece_of : (c : ℕ) (p : Piece) (x : List Lexeme) (d : ℕ) → Writes c (p ∷ []) x d → IsWritten c p x d
unfolding Writes
piece_of c p x d w =
    let e : w.0 ≡ x = sym (w.3 ∙ ap (λ z. w.0 ++ z) w.5.0 ∙ nil_right w.0) in
    subst (λ z. IsWritten c p z d) e (subst (λ n. IsWritten c p w.0 n) w.5.1 w.4)

-- where a piece is written as a text, so is the list of it alone
pub piece_written : (c : ℕ) (p : Piece) (x : List Lexeme) (d : ℕ) → IsWritten c p x d → Writes c (p ∷ []) x d
piece_written c p x d w = subst (λ z. Writes c (p ∷ []) z d) (nil_right x) (one c p [] x [] d d w (nothing d))

-- what begins with a token's piece is written as at least one token
pub long_of : (c : ℕ) (s : Space) (k : Lexeme) (ps : Pieces) (x : List Lexeme) (d : ℕ) → Writes c (token s k ∷ ps) x d
    → 1 ≤ length x
long_of c s k ps x d w = let t = head_of c s k ps x d w in omega (arith, ap length t.1)

-- tokens are written as themselves
pub plain_written : (c : ℕ) (ls : List Lexeme) → Writes c (map (token Usual) ls) ls c
plain_written c [] = nothing c
plain_written c (l ∷ ls) = token_first c Usual l (map (token Usual) ls) ls c (plain_written c ls)
