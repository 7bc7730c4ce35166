-- The text of a printed rule tells the rule.
use Rattle.std.proofs.Common.{◌≡◌, ℕ, ◌+◌, List, length, map, Some, Ok, Err, refl, sym, ◌∙◌, subst}
use Rattle.cga_lexer.specs.Line.{tokens_of, Lexed}
use Rattle.cga_syntax.specs.declared.lexeme.Lexeme.{Lexeme}
use Rattle.cga_rule.specs.declared.rule.Rule.{Rule}
use Rattle.cga_syntax.specs.Brackets.{walk}
use Rattle.cga_syntax.specs.Pieces.{rule_pieces}
use Rattle.cga_syntax.specs.Printing.{printed, text_of}
use Rattle.cga_syntax.specs.Reading.{AreRead}
use Rattle.cga_syntax.specs.Spelling.{Spelled}
use Rattle.cga_form.proofs.Door.{form_told}
use Rattle.cga_syntax.proofs.Door.{again, have_texts, lexemes, line_tokens, text_read}
use Rattle.cga_form.specs.Tells.{Tells}
use Rattle.cga_parser.specs.PrintedRules.{few_brackets, SpellsRule, IsReadBack}
use Rattle.cga_form.specs.Cursor.{seen}
use Rattle.cga_parser.specs.Grammar.{rule}
use Rattle.cga_form.specs.LineTells.{by_tokens, by_length}
use Rattle.cga_parser.proofs.AreForms.{rule_form}
use Rattle.cga_fraction.proofs.Door.{within_4096}

-- a text that spells a rule, with few enough brackets, tells the rule
rule_told : (x : List Lexeme) (r : Rule) (m : ℕ) → Spelled rule_pieces x r → walk 32 x ≡ Some m
    → Tells rule_pieces 32 x (Ok r)
rule_told = form_told rule_pieces rule rule_form

module _ (r : Rule) where
  by_read : (o : Lexed) (ls : List Lexeme) (end : ℕ) → AreRead o ls → Tells rule_pieces 32 ls (Ok r)
      → by_tokens rule_pieces end o (Ok r)
  by_read (Ok ts) ls end e a = (Ok r, subst (λ z. Tells rule_pieces 32 z (Ok r)) (sym e) a, refl)
  by_read (Err f) ls end e a = absurd e

  read_back : (line : List ℕ) (o : Lexed) → tokens_of line ≡ o → few_brackets o r → IsReadBack r
  read_back line (Ok ts) e h =
      let text : List ℕ = text_of (printed (rule_pieces r)) in
      let g = again 0 (rule_pieces r) (map seen ts) h.0.0 (line_tokens line ts e) h.0.1 in
      let a = rule_told (lexemes (printed (rule_pieces r))) r h.1.0 (h.0.0, g.written) (g.brackets 32 ∙ h.1.1) in (
        have_texts (printed (rule_pieces r)) g.tokens,
        λ few.
            subst (λ t. by_length rule_pieces text t (Ok r)) (sym (within_4096 text few))
            (by_read (tokens_of text) (lexemes (printed (rule_pieces r))) (length text + 1) (text_read (printed (rule_pieces r)) g.tokens) a),
      )
  read_back line (Err f) e h = absurd h

pub rule_back : (line : List ℕ) (r : Rule) → SpellsRule line r → IsReadBack r
rule_back line r h = read_back r line (tokens_of line) refl h
