-- What other crates may cite of cga_check. All other pages of its proofs are its own.

-- The rules of a symbol against its first
pub use Rattle.cga_check.proofs.Agreement.{found_passes}
-- A list of faults that is empty
pub use Rattle.cga_check.proofs.Clean.{first_none, if_none, none_left, none_right}
-- One layer of the uses of a tree
pub use Rattle.cga_check.proofs.Layers.{item_Child, item_Resize, primary_Named}
-- What was read of symbols stays right as more is read
pub use Rattle.cga_check.proofs.Reading.{still_right}
-- So does what is kept of the latest names
pub use Rattle.cga_check.proofs.Remembered.{still_kept}
-- What a valid grammar has
pub use Rattle.cga_check.proofs.Valid.{by_id_all, probabilities_add_up, symbols_agree, takes}
-- A rule put among rules by rising id
pub use Rattle.cga_check.proofs.Rising.{Rising, least_first, placed_cons, placed_nil, rising_placed}
