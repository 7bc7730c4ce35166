-- What other crates may cite of cga_update. All other pages of its proofs are its own.

-- A new forest stands for sources without lots
pub use Rattle.cga_update.proofs.Fresh.{fresh_stands, no_nodes}
-- A forest that stands for sources has the members of their derivation
pub use Rattle.cga_update.proofs.Standing.{standing_is_derived}
