-- What a reader keeps after one more line.
use Rattle.std.proofs.Common.{◌≡◌, ℕ, ◌+◌, ◌==◌, List, [], ◌∷◌, ◌++◌, length, length-append, append_assoc, map, true}
use Rattle.std.proofs.Common.{false, Option, Some, None, is_some, Result, Ok, Err, refl, ap, sym, ◌∙◌, min, OnOk}
use Rattle.std.proofs.Common.{arith}
use Rattle.cga_lexer.specs.declared.token.Token.{Token}
use Rattle.cga_syntax.specs.declared.lexeme.Lexeme.{Lexeme}
use Rattle.cga_syntax.specs.Pieces.{Pieces}
use Rattle.cga_syntax.specs.Spelling.{Spelled}
use Rattle.cga_form.specs.declared.fault.Fault.{Fault}
use Rattle.cga_form.specs.declared.block_fault.BlockFault.{BlockFault}
use Rattle.cga_form.specs.declared.block_reader.BlockReader.{BlockReader}
use Rattle.cga_form.specs.Tells.{Tells}
use Rattle.cga_form.specs.Cursor.{seen}
use Rattle.cga_form.specs.LineTells.{with_place}
use Rattle.cga_form.specs.Lines.{Line}
use Rattle.cga_form.specs.BlockTells.{as_line, unless_blank, BlockTells, Say, line_number, IsFaulty, Keeps, StandsFor}
use Rattle.cga_form.proofs.OnceBlocks.{good_or_faulty}
use Rattle.cga_fraction.proofs.Door.{OnOk-map}

counted : (lines : List Line) (l : Line) (n m : ℕ) → n ≡ line_number (length lines) → m ≡ min (n + 1) 4294967295
    → m ≡ line_number (length (lines ++ l ∷ []))
counted lines l n m e f = let q = length-append lines (l ∷ []) in grind arith

module _ {A : Type 0} (w : A → Pieces) where
  -- a line with tokens
  pub not_blank : (end : ℕ) (ts : List Token) (found : Result A Fault) → (length ts == 0) ≡ false
      → Tells w 32 (map seen ts) found → unless_blank w end (Ok ts) (as_line (with_place end ts found))
  not_blank end [] found e h = absurd (let q : true ≡ false = e in cc)
  not_blank end (t ∷ ts) found e h = (with_place end (t ∷ ts) found, (found, h, refl), refl)

  say_more : (lines : List Line) (all : List (Option A)) (l : Line) (said : Option A) → Say w lines all
      → BlockTells w l (Ok said) → Say w (lines ++ l ∷ []) (all ++ said ∷ [])
  unfolding Say
  say_more [] [] l said h a = (a, tt)
  say_more (x ∷ lines) (y ∷ all) l said h a = (h.0, say_more lines all l said h.1 a)
  say_more [] (y ∷ all) l said h a = absurd h
  say_more (x ∷ lines) [] l said h a = absurd h

  keeps_fault : (lines : List Line) (l : Line) (f : BlockFault) → IsFaulty w lines f → IsFaulty w (lines ++ l ∷ []) f
  keeps_fault lines l f h =
      (h.0, h.1, h.2 ++ l ∷ [], h.3, ap (λ z. z ++ l ∷ []) h.4 ∙ append_assoc h.0 (h.1 ∷ h.2) (l ∷ []), h.5, h.6, h.7)

  module _ {G : Type 0} (holds : G → List (Option A) → Type 0) (old : BlockReader G) (m : ℕ) (l : Line) (e : m ≡ min (old.lines + 1) 4294967295) where
    keeps_on : (lines : List Line) (o : Option BlockFault) → is_some o ≡ true → Keeps w holds old.gathered lines o
        → Keeps w holds old.gathered (lines ++ l ∷ []) o
    keeps_on lines None q h = absurd (let g : false ≡ true = q in cc)
    keeps_on lines (Some f) q h = keeps_fault lines l f h

    -- after a faulty line nothing changes but the number
    pub passed_over : is_some old.fault ≡ true → (lines : List Line) → StandsFor w holds old lines
        → StandsFor w holds (record { alloc = old.alloc; lines = m; gathered = old.gathered; fault = old.fault })
        (lines ++ l ∷ [])
    passed_over q lines h = (counted lines l old.lines m h.0 e, keeps_on lines old.fault q h.1)

    module _ (new : G) (said : Option A) (h : BlockTells w l (Ok said)) where
      keeps_more : {T E : Type 0} (r : Result T E)
          → ((all : List (Option A)) → holds old.gathered all → OnOk r (holds new (all ++ said ∷ [])))
          → (lines : List Line) (o : Option BlockFault) → is_some o ≡ false → Keeps w holds old.gathered lines o
          → OnOk r (Keeps w holds new (lines ++ l ∷ []) o)
      keeps_more r add lines (Some f) q k = absurd (let g : true ≡ false = q in cc)
      keeps_more r add lines None q k = OnOk-map r _ _ (λ n. (k.0 ++ said ∷ [], say_more lines k.0 l said k.1 h, n)) (add k.0 k.2)

      -- a line that says something, or is blank
      pub one_more : {T E : Type 0} (r : Result T E) → is_some old.fault ≡ false
          → ((all : List (Option A)) → holds old.gathered all → OnOk r (holds new (all ++ said ∷ [])))
          → (lines : List Line) → StandsFor w holds old lines →
          OnOk r (StandsFor w holds (record { alloc = old.alloc; lines = m; gathered = new; fault = old.fault }) (lines ++ l ∷ []))
      one_more r q add lines k = OnOk-map r _ _ (λ n. (counted lines l old.lines m k.0 e, n)) (keeps_more r add lines old.fault q k.1)

    -- the first faulty line
    keeps_first : (lines : List Line) (f : BlockFault) → f.line ≡ m → BlockTells w l (Err f.fault)
        → old.lines ≡ line_number (length lines) → (o : Option BlockFault) → is_some o ≡ false
        → Keeps w holds old.gathered lines o → IsFaulty w (lines ++ l ∷ []) f
    keeps_first lines f q h n (Some g) p k = absurd (let g : true ≡ false = p in cc)
    keeps_first lines f q h n None p k = (lines, l, [], k.0, refl, k.1, h, q ∙ counted lines l old.lines m n e ∙ ap line_number (length-append lines (l ∷ []) ∙ (omega arith)))

    pub first_faulty : (f : BlockFault) → f.line ≡ m → is_some old.fault ≡ false → BlockTells w l (Err f.fault)
        → (lines : List Line) → StandsFor w holds old lines →
        StandsFor w holds (record { alloc = old.alloc; lines = m; gathered = old.gathered; fault = Some f }) (lines ++ l ∷ [])
    first_faulty f q p h lines k = (counted lines l old.lines m k.0 e, keeps_first lines f q h k.0 old.fault p k.1)

  module _ (unique : (text : List Lexeme) (a b : A) → Spelled w text a → Spelled w text b → a ≡ b) {G : Type 0} (holds : G → List (Option A) → Type 0) where
    faulty_at : (g : G) (lines : List Line) (f : BlockFault) (o : Option BlockFault) → Keeps w holds g lines o
        → IsFaulty w lines f → is_some o ≡ true
    faulty_at g lines f None k h = absurd (good_or_faulty w unique lines k.0 f k.1 h)
    faulty_at g lines f (Some o) k h = refl

    pub never_good : (reader : BlockReader G) → is_some reader.fault ≡ false → (lines : List Line) (f : BlockFault)
        → StandsFor w holds reader lines → IsFaulty w lines f → ⊥
    never_good reader e lines f k h = let q : true ≡ false = sym (faulty_at reader.gathered lines f reader.fault k.1 h) ∙ e in cc
