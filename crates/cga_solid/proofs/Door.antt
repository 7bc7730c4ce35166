-- What other crates may cite of cga_solid. All other pages of its proofs are its own.

-- Where the corners of a solid are placed
pub use Rattle.cga_solid.proofs.Boxed.{placed_is}
-- Numbers that are in range
pub use Rattle.cga_solid.proofs.Halves.{within_is}
