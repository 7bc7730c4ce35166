-- What other crates may cite of cga_words. All other pages of its proofs are its own.

-- What plain words say
pub use Rattle.cga_words.proofs.Says.{plain_says, plain_townless, townless_says}
-- How a program ends: its exit status 0, and what holds of its words
pub use Rattle.cga_words.proofs.Endings.{memory_not_used, of_words, zero_is_done}
-- What holds of a value gives more of it
pub use Rattle.cga_words.proofs.Bare.{if_ok}
