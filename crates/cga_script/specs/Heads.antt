-- The first words of commands.
use Rattle.std.specs.Prelude.{ℕ, Bool, List, [], ◌∷◌, Option, is_some, codes}
use Rattle.cga_syntax.specs.declared.lexeme.Lexeme.{Lexeme}
use Rattle.cga_syntax.specs.declared.lexeme.Lexeme.TheVariants as lexeme
use Rattle.cga_form.specs.Tokens.{beside, chosen}
use Rattle.cga_script.specs.declared.heads.CommandHead.{CommandHead}
use Rattle.cga_script.specs.declared.heads.CommandHead.TheVariants as head
use Rattle.cga_script.specs.declared.heads.FurtherHead.{FurtherHead}
use Rattle.cga_script.specs.declared.heads.FurtherHead.TheVariants as further

-- ---- both versions

abbrev pub head_word : CommandHead → List ℕ
head_word head.Rules = codes "rules"
head_word head.Put = codes "put"
head_word head.Drop = codes "drop"
head_word head.Attribute = codes "attr"
head_word head.Priority = codes "priority"
head_word head.Unlot = codes "unlot"
head_word head.Print = codes "print"
head_word head.Faults = codes "faults"
head_word head.Grammar = codes "grammar"
head_word head.Stats = codes "stats"
head_word head.Quiet = codes "quiet"

-- which first word
abbrev pub a_head : Lexeme → Option CommandHead
a_head =
    chosen (beside (λ h. lexeme.Name (head_word h))
    (head.Rules ∷ head.Put ∷ head.Drop ∷ head.Attribute ∷ head.Priority ∷ head.Unlot ∷ head.Print ∷ head.Faults ∷ head.Grammar ∷ head.Stats ∷ head.Quiet ∷ []))

-- ---- version 2 alone

abbrev pub further_word : FurtherHead → List ℕ
further_word further.City = codes "city"
further_word further.Dump = codes "dump"
further_word further.Asset = codes "asset"
further_word further.Dress = codes "dress"
further_word further.Undress = codes "undress"
further_word further.Model = codes "model"
further_word further.Bill = codes "bill"
further_word further.Undo = codes "undo"
further_word further.Redo = codes "redo"
further_word further.Trace = codes "trace"
further_word further.Judge = codes "judge"

-- which first word
abbrev pub a_further : Lexeme → Option FurtherHead
a_further =
    chosen (beside (λ h. lexeme.Name (further_word h))
    (further.City ∷ further.Dump ∷ further.Asset ∷ further.Dress ∷ further.Undress ∷ further.Model ∷ further.Bill ∷ further.Undo ∷ further.Redo ∷ further.Trace ∷ further.Judge ∷ []))

-- one of them comes
abbrev pub is_further : Lexeme → Bool
is_further l = is_some (a_further l)
