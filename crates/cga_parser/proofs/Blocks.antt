-- The lines of a block are read exactly.
use Rattle.std.proofs.Common.{ℕ, refl, codes}
use Rattle.cga_lexer.specs.declared.sign.Sign.TheVariants as s
use Rattle.cga_syntax.specs.declared.print.space.Space.TheVariants.{Usual, NoneBefore}
use Rattle.cga_form.specs.Tokens.{is_word}
use Rattle.cga_parser.specs.Blocks as b
use Rattle.cga_form.proofs.Door.{done, either, name_token, next, one_token, sign_token, value_reads, whole_token, word_token}
use Rattle.cga_form.specs.Laws.{Reads}
use Rattle.cga_parser.proofs.Rules.{rule_reads}

pub attribute_reads : (n : ℕ) → Reads n n b.attribute_pieces b.attribute
unfolding b.attribute
attribute_reads n =
    next (one_token (word_token (codes "attr") n refl))
    (λ _. next (one_token (name_token n)) (λ x. next (one_token (sign_token Usual s.Assign n n refl refl)) (λ _. next (value_reads n) (λ v. done refl))))

pub priority_reads : (n : ℕ) → Reads n n b.priority_pieces b.priority
unfolding b.priority
priority_reads n =
    next (one_token (word_token (codes "PRIORITY") n refl)) (λ _. next (one_token (whole_token 0 65535 n refl)) (λ p. next (one_token (sign_token NoneBefore s.Colon n n refl refl)) (λ _. done refl)))

pub block_reads : (n : ℕ) → Reads n n b.block_pieces (b.block n)
unfolding b.block
block_reads n =
    either (is_word (codes "attr")) (next (attribute_reads n) (λ a. done refl))
    (either (is_word (codes "PRIORITY")) (next (priority_reads n) (λ p. done refl))
    (either (is_word (codes "end")) (next (one_token (word_token (codes "end") n refl)) (λ _. done refl)) (next (rule_reads n) (λ r. done refl))))
