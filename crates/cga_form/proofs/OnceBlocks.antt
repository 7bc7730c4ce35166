-- The lines of a block tell one thing.
use Rattle.std.proofs.Common.{◌≡◌, ℕ, suc, ◌+◌, Bool, true, false, List, [], ◌∷◌, ◌++◌, length, Option, inl, inr, Result, Ok, Err, refl, ap, sym, ◌∙◌, subst}
use Rattle.cga_lexer.specs.Line.{tokens_of}
use Rattle.cga_lexer.specs.declared.token.Token.{Token}
use Rattle.cga_lexer.specs.declared.fault.LexFault.{LexFault}
use Rattle.cga_syntax.specs.declared.lexeme.Lexeme.{Lexeme}
use Rattle.cga_syntax.specs.Pieces.{Pieces}
use Rattle.cga_syntax.specs.Spelling.{Spelled}
use Rattle.cga_form.specs.declared.line_fault.LineFault.{LineFault}
use Rattle.cga_form.specs.declared.block_fault.BlockFault.{BlockFault}
use Rattle.cga_form.specs.Lines.{Line, is_long}
use Rattle.cga_form.specs.BlockTells.{Found, as_line, unless_blank, unless_long, BlockTells, Say, line_number, IsFaulty, AllTells}
use Rattle.cga_form.proofs.Written.{nil_right}
use Rattle.cga_form.proofs.Once.{compared}
use Rattle.cga_form.proofs.OnceLines.{once_tokens}

module _ {A : Type 0} (w : A → Pieces) (unique : (text : List Lexeme) (a b : A) → Spelled w text a → Spelled w text b → a ≡ b) where
  once_said : (end : ℕ) (o : Result (List Token) LexFault) (f g : Found A) → unless_blank w end o f
      → unless_blank w end o g → f ≡ g
  once_said end (Err e) f g h k = h ∙ sym k
  once_said end (Ok []) f g h k = h ∙ sym k
  once_said end (Ok (t ∷ ts)) f g h k = h.2 ∙ ap as_line (once_tokens w unique end (Ok (t ∷ ts)) h.0 k.0 h.1 k.1) ∙ sym k.2

  once_short : (bytes : List ℕ) (b : Bool) (f g : Found A) → unless_long w bytes b f → unless_long w bytes b g → f ≡ g
  once_short bytes true f g h k = h ∙ sym k
  once_short bytes false f g h k = once_said (length bytes + 1) (tokens_of bytes) f g h k

  -- where no text spells two members, a line of a block tells one thing
  pub once_block : (l : Line) (f g : Found A) → BlockTells w l f → BlockTells w l g → f ≡ g
  once_block l f g h k = once_short l.bytes (is_long l) f g h k

  same_ok : (a b : Option A) → ◌≡◌ {A = Found A} (Ok a) (Ok b) → a ≡ b
  same_ok a b e = cc

  same_err : (a b : LineFault) → ◌≡◌ {A = Found A} (Err a) (Err b) → a ≡ b
  same_err a b e = cc

  ok_err : (a : Option A) (b : LineFault) → ◌≡◌ {A = Found A} (Ok a) (Err b) → ⊥
  ok_err a b e = cc

  once_say : (lines : List Line) (all more : List (Option A)) → Say w lines all → Say w lines more → all ≡ more
  unfolding Say
  once_say [] [] [] h k = refl
  once_say [] [] (x ∷ more) h k = absurd k
  once_say [] (x ∷ all) more h k = absurd h
  once_say (l ∷ lines) [] more h k = absurd h
  once_say (l ∷ lines) (x ∷ all) [] h k = absurd k
  once_say (l ∷ lines) (x ∷ all) (y ∷ more) h k =
      let p = same_ok x y (once_block l (Ok x) (Ok y) h.0 k.0) in
      ap (λ z. z ∷ all) p ∙ ap (λ z. y ∷ z) (once_say lines all more h.1 k.1)

  -- a faulty line says nothing
  says_none : (before : List Line) (l : Line) (after : List Line) (all : List (Option A)) (f : LineFault)
      → Say w (before ++ l ∷ after) all → BlockTells w l (Err f) → ⊥
  unfolding Say
  says_none [] l after [] f h k = h
  says_none [] l after (x ∷ all) f h k = ok_err x f (once_block l (Ok x) (Err f) h.0 k)
  says_none (b ∷ before) l after [] f h k = h
  says_none (b ∷ before) l after (x ∷ all) f h k = says_none before l after all f h.1 k

  -- before a faulty line no other one is faulty
  first_fault : (before : List Line) (l k : Line) (after rest z : List Line) (all : List (Option A)) (f g : LineFault)
      → BlockTells w l (Err f) → BlockTells w k (Err g) → Say w (before ++ z) all → l ∷ after ≡ z ++ (k ∷ rest)
      → (length before ≡ length (before ++ z)) × (f ≡ g)
  first_fault before l k after rest [] all f g h i s q =
      let p : l ≡ k = cc in
      (ap length (sym (nil_right before)), same_err f g (once_block k (Err f) (Err g) (subst (λ z. BlockTells w z (Err f)) p h) i))
  first_fault before l k after rest (x ∷ z) all f g h i s q =
      let p : l ≡ x = cc in
      absurd (says_none before l z all f (subst (λ t. Say w t all) (ap (λ t. before ++ t ∷ z) (sym p)) s) h)

  same_fault : (a b : BlockFault) → a.line ≡ b.line → a.fault ≡ b.fault → a ≡ b
  same_fault a b e f = ap (λ z. record { line = z; fault = a.fault }) e ∙ ap (λ z. record { line = b.line; fault = z }) f

  both_faulty : (lines : List Line) (a b : BlockFault) → IsFaulty w lines a → IsFaulty w lines b
      → (a.line ≡ b.line) × (a.fault ≡ b.fault)
  both_faulty lines a b h k =
      elim (compared h.0 k.0 (h.1 ∷ h.2) (k.1 ∷ k.2) (sym h.4 ∙ k.4)) [
        | inl s ↦
            let t = first_fault h.0 h.1 k.1 h.2 k.2 s.0 k.3 a.fault b.fault h.6 k.6 (subst (λ z. Say w z k.3) s.1 k.5) s.2 in
            (h.7 ∙ ap (λ z. line_number (suc z)) (t.0 ∙ ap length (sym s.1)) ∙ sym k.7, t.1)
        | inr s ↦
            let t = first_fault k.0 k.1 h.1 k.2 h.2 s.0 h.3 b.fault a.fault k.6 h.6 (subst (λ z. Say w z h.3) s.1 h.5) s.2 in
            (h.7 ∙ ap (λ z. line_number (suc z)) (ap length s.1 ∙ sym t.0) ∙ sym k.7, sym t.1)
      ]

  pub good_or_faulty : (lines : List Line) (all : List (Option A)) (f : BlockFault) → Say w lines all
      → IsFaulty w lines f → ⊥
  good_or_faulty lines all f h k = says_none k.0 k.1 k.2 all f.fault (subst (λ z. Say w z all) k.4 h) k.6

  -- where no text spells two members, the lines of a block tell one thing
  pub once_lines : {B : Type 0} (says : List (Option A) → B) (lines : List Line) (f g : Result B BlockFault)
      → AllTells w says lines f → AllTells w says lines g → f ≡ g
  once_lines says lines (Ok a) (Ok b) h k = ap Ok (h.2 ∙ ap says (once_say lines h.0 k.0 h.1 k.1) ∙ sym k.2)
  once_lines says lines (Ok a) (Err b) h k = absurd (good_or_faulty lines h.0 b h.1 k)
  once_lines says lines (Err a) (Ok b) h k = absurd (good_or_faulty lines k.0 a k.1 h)
  once_lines says lines (Err a) (Err b) h k = let t = both_faulty lines a b h k in ap Err (same_fault a b t.0 t.1)
