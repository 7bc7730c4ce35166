-- What other crates may cite of cga_judge. All other pages of its proofs are its own.

-- How the run grows with the turns, and where it ends
pub use Rattle.cga_judge.proofs.Runs.{run_is, run_short, within_more}
