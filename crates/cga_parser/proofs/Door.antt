-- What other crates may cite of cga_parser. All other pages of its proofs are its own.

-- The forms of the language
pub use Rattle.cga_parser.proofs.AreForms.{block_form}
-- The text of a grammar that some lines say is read back
pub use Rattle.cga_parser.proofs.GrammarBack.{grammar_back, spelled}
-- What was read may be printed
pub use Rattle.cga_parser.proofs.Printable.{grammar_prints}
-- Rules are read exactly
pub use Rattle.cga_parser.proofs.Rules.{rule_is, rule_reads}
-- A rule is read as it is written
pub use Rattle.cga_parser.proofs.RulesAgain.{rule_again}
-- Rules are told apart from other lines by how they begin
pub use Rattle.cga_parser.proofs.BlocksAgain.{rule_begun}
