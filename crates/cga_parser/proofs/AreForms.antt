-- The forms of the language.
use Rattle.std.proofs.Common.{◌≡◌, List}
use Rattle.cga_syntax.specs.declared.lexeme.Lexeme.{Lexeme}
use Rattle.cga_rule.specs.declared.rule.Rule.{Rule}
use Rattle.cga_syntax.specs.Pieces.{rule_pieces}
use Rattle.cga_syntax.specs.Spelling.{Spelled}
use Rattle.cga_form.specs.Laws.{IsForm}
use Rattle.cga_form.proofs.Door.{form_unique}
use Rattle.cga_parser.specs.declared.block_line.BlockLine.{BlockLine}
use Rattle.cga_parser.specs.Blocks.{block_pieces, block}
use Rattle.cga_parser.specs.Grammar.{rule}
use Rattle.cga_parser.proofs.Rules.{rule_reads}
use Rattle.cga_parser.proofs.RulesAgain.{with_rule, rule_again}
use Rattle.cga_parser.proofs.Blocks.{block_reads}
use Rattle.cga_parser.proofs.BlocksAgain.{with_line, block_again}

pub rule_form : IsForm rule_pieces rule
rule_form = record { follows = with_rule; exact = rule_reads; again = rule_again }

-- the lines of a block are a form
pub block_form : IsForm block_pieces block
block_form = record { follows = with_line; exact = block_reads; again = block_again }

pub rule_unique : (text : List Lexeme) (a b : Rule) → Spelled rule_pieces text a → Spelled rule_pieces text b → a ≡ b
rule_unique = form_unique rule_pieces rule rule_form

pub block_unique : (text : List Lexeme) (a b : BlockLine) → Spelled block_pieces text a → Spelled block_pieces text b
    → a ≡ b
block_unique = form_unique block_pieces block block_form
