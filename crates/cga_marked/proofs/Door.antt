-- What other crates may cite of cga_marked. All other pages of its proofs are its own.

-- What of a slot follows from what its entry is
pub use Rattle.cga_marked.proofs.Slots.{get_kept, get_last}
-- Names, and what stands under them
pub use Rattle.cga_marked.proofs.Names.{apart_moved, apart_out, at_contains, contains_at, contains_under, none_among, none_later, out_left, out_still, place_once, under_contains}
-- Two places of a list exchanged
pub use Rattle.cga_marked.proofs.Swaps.{swap_kept}
