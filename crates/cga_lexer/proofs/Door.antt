-- What other crates may cite of cga_lexer. All other pages of its proofs are its own.

-- A turn of the lexer's loop
pub use Rattle.cga_lexer.proofs.Lexing.{ended, lex_head, lex_skip, lex_turn, lex_nil}
-- The bytes of a word are a name, where they are few enough
pub use Rattle.cga_lexer.proofs.Names.{all_run, begun, word_begun, begins-continues}
-- A run, one byte further
pub use Rattle.cga_lexer.proofs.Running.{run_within}
