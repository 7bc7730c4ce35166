-- What other crates may cite of cga_index. All other pages of its proofs are its own.

-- Members of lists, and lists from a place on
pub use Rattle.cga_index.proofs.Members.{drop_all, drop_at, in_at, in_flat, in_left, in_right, in_some, in_split}
-- The walk over a tree of hulls
pub use Rattle.cga_index.proofs.Levels.{below_more, root_in}
-- The tree's nodes are those that are there
pub use Rattle.cga_index.proofs.Local.{in_present, present_in}
-- A tree in which only those nodes ask that last has the same nodes, and keeps the laws
pub use Rattle.cga_index.proofs.LastingTree.{in_lasting, in_whole, lasting_laws}
-- A walk comes to each node once; who asks, each once, and what is filtered
pub use Rattle.cga_index.proofs.Askers.{all_once, apart_flat, apart_join, caller_in}
-- Members of a list by their places
pub use Rattle.cga_index.proofs.NearAskers.{member_at}
-- Who meets what lies inside a box meets the box
pub use Rattle.cga_index.proofs.Widening.{wide_meets}
-- Answers of lists that are joined
pub use Rattle.cga_index.proofs.Over.{graded_or}
