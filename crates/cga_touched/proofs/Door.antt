-- What other crates may cite of cga_touched. All other pages of its proofs are its own.

-- Touched shapes are counted: they are listed, each once, and no other list of them is longer or shorter
pub use Rattle.cga_touched.proofs.Law.{touched_is_counted}
