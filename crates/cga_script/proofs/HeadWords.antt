-- The first words of commands are read as they are written.
use Rattle.std.proofs.Common.{◌≡◌, ℕ, false, List, Option, [], ◌∷◌, Some, is_some, refl, ap, codes}
use Rattle.cga_syntax.specs.declared.lexeme.Lexeme.{Lexeme}
use Rattle.cga_syntax.specs.declared.lexeme.Lexeme.TheVariants as lexeme
use Rattle.cga_syntax.specs.Pieces.{word}
use Rattle.cga_form.specs.Reader.{begins, decoded, first}
use Rattle.cga_form.specs.Tokens.{is_word}
use Rattle.cga_form.proofs.Door.{Token, chosen_token}
use Rattle.cga_script.specs.declared.heads.CommandHead.{CommandHead}
use Rattle.cga_script.specs.declared.heads.CommandHead.TheVariants as head
use Rattle.cga_script.specs.declared.heads.FurtherHead.{FurtherHead}
use Rattle.cga_script.specs.declared.heads.FurtherHead.TheVariants as further
use Rattle.cga_script.specs.Heads.{head_word, a_head, further_word, a_further, is_further}

-- ---- both versions

pub head_token : (n : ℕ) → Token n n (λ h. word (head_word h) ∷ []) a_head
head_token n = chosen_token head.Rules (head.Put ∷ head.Drop ∷ head.Attribute ∷ head.Priority ∷ head.Unlot ∷ head.Print ∷ head.Faults ∷ head.Grammar ∷ head.Stats ∷ head.Quiet ∷ []) n refl

-- the word is taken as it is written, and is none of version 2 alone, no lot and no order
pub record IsHead (h : CommandHead) : Type 0 where
  pub read : a_head (lexeme.Name (head_word h)) ≡ Some h
  pub no_lot : is_word (codes "lot") (lexeme.Name (head_word h)) ≡ false
  pub no_order : is_word (codes "order") (lexeme.Name (head_word h)) ≡ false
  pub no_further : is_further (lexeme.Name (head_word h)) ≡ false

pub head_is : (h : CommandHead) → IsHead h
head_is head.Rules = record { read = refl; no_lot = refl; no_order = refl; no_further = refl }
head_is head.Put = record { read = refl; no_lot = refl; no_order = refl; no_further = refl }
head_is head.Drop = record { read = refl; no_lot = refl; no_order = refl; no_further = refl }
head_is head.Attribute = record { read = refl; no_lot = refl; no_order = refl; no_further = refl }
head_is head.Priority = record { read = refl; no_lot = refl; no_order = refl; no_further = refl }
head_is head.Unlot = record { read = refl; no_lot = refl; no_order = refl; no_further = refl }
head_is head.Print = record { read = refl; no_lot = refl; no_order = refl; no_further = refl }
head_is head.Faults = record { read = refl; no_lot = refl; no_order = refl; no_further = refl }
head_is head.Grammar = record { read = refl; no_lot = refl; no_order = refl; no_further = refl }
head_is head.Stats = record { read = refl; no_lot = refl; no_order = refl; no_further = refl }
head_is head.Quiet = record { read = refl; no_lot = refl; no_order = refl; no_further = refl }

-- ---- version 2 alone

pub further_token : (n : ℕ) → Token n n (λ h. word (further_word h) ∷ []) a_further
further_token n =
    chosen_token further.City (further.Dump ∷ further.Asset ∷ further.Dress ∷ further.Undress ∷ further.Model ∷ further.Bill ∷ further.Undo ∷ further.Redo ∷ further.Trace ∷ further.Judge ∷ []) n refl

-- the word is taken as it is written, and is no order
pub record IsFurther (h : FurtherHead) : Type 0 where
  pub read : a_further (lexeme.Name (further_word h)) ≡ Some h
  pub no_order : is_word (codes "order") (lexeme.Name (further_word h)) ≡ false

pub further_is : (h : FurtherHead) → IsFurther h
further_is further.City = record { read = refl; no_order = refl }
further_is further.Dump = record { read = refl; no_order = refl }
further_is further.Asset = record { read = refl; no_order = refl }
further_is further.Dress = record { read = refl; no_order = refl }
further_is further.Undress = record { read = refl; no_order = refl }
further_is further.Model = record { read = refl; no_order = refl }
further_is further.Bill = record { read = refl; no_order = refl }
further_is further.Undo = record { read = refl; no_order = refl }
further_is further.Redo = record { read = refl; no_order = refl }
further_is further.Trace = record { read = refl; no_order = refl }
further_is further.Judge = record { read = refl; no_order = refl }

-- whether a further word comes next
pub further_next : (left : List Lexeme) (found : Option FurtherHead) → found ≡ decoded a_further (first left)
    → is_some found ≡ begins is_further left
further_next [] found e = ap is_some e
further_next (l ∷ ls) found e = ap is_some e
