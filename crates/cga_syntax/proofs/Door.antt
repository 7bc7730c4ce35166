-- What other crates may cite of cga_syntax. All other pages of its proofs are its own.

-- What is printed is written as the same pieces as the tokens of some line
pub use Rattle.cga_syntax.proofs.Again.{again, have_texts, lexemes, walk_join, tokens_front, tokens_rest}
-- The text of printed tokens is lexed as these tokens
pub use Rattle.cga_syntax.proofs.Apart.{primary_apart}
pub use Rattle.cga_syntax.proofs.Back.{space_read, text_read, token_read}
-- The value of an attribute, as it is printed
pub use Rattle.cga_syntax.proofs.Exact.{whole_small}
-- What stands at the front of a text that begins with the bytes of a number, a word or a quoted name
pub use Rattle.cga_syntax.proofs.Fronts.{named_of}
-- The lines of attributes and priorities are lexed as their tokens
pub use Rattle.cga_syntax.proofs.LineTexts.{attribute_read, attribute_short, attribute_tokens, below, below_more}
pub use Rattle.cga_syntax.proofs.LineTexts.{first_whole, priority_read, priority_short, priority_tokens, whole_text}
pub use Rattle.cga_syntax.proofs.LineTexts.{signed_short, whole_apart, whole_short}
-- What stands at the front of a text that begins with the bytes of a token
pub use Rattle.cga_syntax.proofs.Signs.{Ends, second}
-- The tokens of a line: its numbers are read from a text, and its words are names
pub use Rattle.cga_syntax.proofs.Tokens.{line_tokens}
-- No byte of a printed line is a control byte
pub use Rattle.cga_syntax.proofs.Visible.{attribute_visible, priority_visible, text_visible}
