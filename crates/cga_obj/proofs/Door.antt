-- What other crates may cite of cga_obj. All other pages of its proofs are its own.

-- What is drawn of the first lot stands first, and is followed by what is drawn of the others
pub use Rattle.cga_obj.proofs.Runs.{FirstRun, drop_first, no_lot, one_lot, run_at}
