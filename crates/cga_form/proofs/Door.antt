-- What other crates may cite of cga_form. All other pages of its proofs are its own.

-- What is written so is read so, or nests too deep
pub use Rattle.cga_form.proofs.Beginnings.{Begun, Misses, Starts, begun_append, begun_as, begun_drawn}
pub use Rattle.cga_form.proofs.Again.{after, all_of}
pub use Rattle.cga_form.proofs.Beginnings.{begun_named, begun_nothing, begun_token}
pub use Rattle.cga_form.proofs.Again.{by_name, drew, ends, entered}
pub use Rattle.cga_form.proofs.Beginnings.{missed, misses_each, misses_end, misses_nothing}
pub use Rattle.cga_form.proofs.Again.{few_misses, few_of}
pub use Rattle.cga_form.proofs.Beginnings.{never_written, starts_as, starts_drawn}
pub use Rattle.cga_form.proofs.Again.{never_leads, peek_no, peek_yes, plainly}
pub use Rattle.cga_form.proofs.Beginnings.{starts_token, begins_weaker}
pub use Rattle.cga_form.proofs.Again.{starts_named, took, whole_leads, written_as}
-- Each form's reader takes what is written so, and stops at the first token with which nothing is
pub use Rattle.cga_form.proofs.Forms.{Long, Token, bracketed, done, either, few_pieces, limited, listed, next, one_rand, one_token, refusing, shorter, translated, turned}
-- A line that is a member of a form
pub use Rattle.cga_form.proofs.Lines.{form_found, form_refused, form_unique}
-- Forms made of forms
pub use Rattle.cga_form.proofs.Made.{both, made, name_part, value_part, whole_part, word_part}
-- The lines of a block tell one thing
pub use Rattle.cga_form.proofs.OnceBlocks.{once_block, once_lines}
-- A line tells one thing
pub use Rattle.cga_form.proofs.OnceLines.{once_line, once_tokens}
-- What a reader does on a text: it takes a front of it, and gives the same however the text goes on after the next token
pub use Rattle.cga_form.proofs.Taking.{pure_runs}
-- What is chosen of a list of tokens is written as its token
pub use Rattle.cga_form.proofs.Listed.{chosen_has, chosen_token}
-- What single tokens stand for, and how they are written
pub use Rattle.cga_form.proofs.Singles.{a_keyword_is, a_sign_is, as_token, by_token, keyword_token, name_pieces}
pub use Rattle.cga_form.proofs.Singles.{name_read, name_token, named_is, no_more, number_token, opening, pick}
pub use Rattle.cga_form.proofs.Singles.{sign_token, whole_token, word_is, word_token}
-- A text that spells a member of a form, with few enough brackets, is told by it
pub use Rattle.cga_form.proofs.Told.{form_told}
-- Values are read exactly, and again as they are written
pub use Rattle.cga_form.proofs.Values.{value_pieces, value_reads}
-- A value is read as it is written
pub use Rattle.cga_form.proofs.ValuesAgain.{a_slash, begun_valued, value_again, written_plainly}
-- What pieces are written as, joined and cut
pub use Rattle.cga_form.proofs.Written.{cut, end_of, head_of, long_of, nothing, piece_of, piece_written, plain_written, token_first}
