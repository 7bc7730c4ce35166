-- What other crates may cite of cga_queue. All other pages of its proofs are its own.

-- Small cases
pub use Rattle.cga_queue.proofs.Cases.{not_false}
-- What holds where a call found memory
pub use Rattle.cga_queue.proofs.Later.{on_ok, on_ok_both}
-- Which nodes are on the agenda, and what putting one on it and taking one off it does
pub use Rattle.cga_queue.proofs.OnIt.{due_from, grows_by, grows_not, grows_on, on_from, on_to}
-- Nodes that are put on it for one thing after the other
pub use Rattle.cga_queue.proofs.OneByOne.{HasFirst, OfOne, all_kept, among_from, first_all, first_more, one_grows}
-- What the first elements of a list have
pub use Rattle.cga_queue.proofs.Bounding.{FirstHave, first_each, first_next}
