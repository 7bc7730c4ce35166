-- What other crates may cite of cga_trace. All other pages of its proofs are its own.

-- Where lines differ from the text of a run
pub use Rattle.cga_trace.proofs.Judging.{wrong_there}
