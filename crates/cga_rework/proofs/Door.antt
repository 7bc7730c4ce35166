-- What other crates may cite of cga_rework. All other pages of its proofs are its own.

-- Removing and adding roots begins the work
pub use Rattle.cga_rework.proofs.Begun.{rerooted_is_city, roots_begin}
-- The record of a turn, and of the roots that went
pub use Rattle.cga_rework.proofs.Changes.{lists_are_changes}
-- Lists of shapes, and instances of lists without the priorities of their paths
pub use Rattle.cga_rework.proofs.Lists.{Among-map, count-map, map-Among}
-- What the loop over the agenda ends with, over the two derivations
pub use Rattle.cga_rework.proofs.Loop.{loop_done}
-- The budget over ranked shapes, derivations from no lots, and children that keep their priorities
pub use Rattle.cga_rework.proofs.More.{none_over, over_none, unchanged}
-- The list of a view, by its nodes
pub use Rattle.cga_rework.proofs.NodeLists.{keeps-node}
-- Where the nodes of a kept tree stand
pub use Rattle.cga_rework.proofs.Place.{child_is, child_rank, keeps, parent_of, rank, same_node}
-- Where no node is on the agenda, nothing is queued
pub use Rattle.cga_rework.proofs.Queue.{empty_is_none}
-- A derivation is that of a run over ranked shapes
pub use Rattle.cga_rework.proofs.Runs.{Has-unranked, unranked-Has}
-- What an edit starts from stands for the old derivation
pub use Rattle.cga_rework.proofs.Stands.{start_stands}
-- From one edit to the next
pub use Rattle.cga_rework.proofs.StandsAgain.{stands_again}
-- The list of a view, and what a walk of it tells
pub use Rattle.cga_rework.proofs.Views.{lists_are_views}
-- A turn of a kept tree is a turn of the work of an edit
pub use Rattle.cga_rework.proofs.Whole.{node_turns, quiet_turns}
-- Rules make worlds and edits over ranked shapes
pub use Rattle.cga_rework.proofs.Worlds.{is_world, make}
