-- The order of derivation is read as it is written.
use Rattle.std.proofs.Common.{◌≡◌, ℕ, [], ◌∷◌, Some, refl, codes}
use Rattle.cga_syntax.specs.declared.lexeme.Lexeme.TheVariants as lexeme
use Rattle.cga_syntax.specs.Pieces.{word}
use Rattle.cga_word.specs.declared.mode.Mode.{Mode}
use Rattle.cga_word.specs.declared.mode.Mode.TheVariants as mode
use Rattle.cga_form.specs.Laws.{IsForm, Leads, nothing}
use Rattle.cga_form.specs.Parts.{a_word}
use Rattle.cga_form.proofs.Door.{Token, chosen_token, done, ends, next, one_token, took, word_token}
use Rattle.cga_form.specs.Laws.{Reads}
use Rattle.cga_script.specs.Orders.{mode_word, a_mode, order_pieces, order}

mode_token : (n : ℕ) → Token n n (λ m. word (mode_word m) ∷ []) a_mode
mode_token n = chosen_token mode.Breadth (mode.Depth ∷ []) n refl

mode_read : (m : Mode) → a_mode (lexeme.Name (mode_word m)) ≡ Some m
mode_read mode.Breadth = refl
mode_read mode.Depth = refl

order_reads : (n : ℕ) → Reads n n order_pieces order
unfolding order
order_reads n = next (one_token (word_token (codes "order") n refl)) (λ u. next (one_token (mode_token n)) (λ m. done refl))

order_at : (m : Mode) → Leads nothing (order_pieces m) order m
unfolding order
order_at m = took (a_word (codes "order")) tt refl (took a_mode m (mode_read m) ends)

pub order_form : IsForm order_pieces (λ n. order)
order_form = record { follows = nothing; exact = order_reads; again = λ n. record { all = order_at } }
