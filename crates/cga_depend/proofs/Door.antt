-- What other crates may cite of cga_depend. All other pages of its proofs are its own.

-- Lists from a place on, as a loop reads them
pub use Rattle.cga_depend.proofs.Places.{drop_at, drop_end}
