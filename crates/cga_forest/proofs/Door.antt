-- What other crates may cite of cga_forest. All other pages of its proofs are its own.

-- A node is above another one exactly where it stands on that one's path
pub use Rattle.cga_forest.proofs.Above.{above_path, path_above}
-- No two nodes of a forest have one lot and one path
pub use Rattle.cga_forest.proofs.Apart.{stand_apart}
-- When an old child stays, as a fact
pub use Rattle.cga_forest.proofs.Equal.{fits_sound, fits_whole}
-- A forest keeps the laws of a tree of boxes; also one in which only those nodes ask that were there at the mark
pub use Rattle.cga_forest.proofs.Laws.{inside, keeps_laws, lasting_laws, local, there}
-- The list of roots, under each change
pub use Rattle.cga_forest.proofs.Tops.{under_parent}
-- What is below a node, and flags
pub use Rattle.cga_forest.proofs.Under.{under_step}
-- What is below a node of a tree holds the parents of its members, and their children
pub use Rattle.cga_forest.proofs.Walk.{under_along, under_cases, under_child, under_none, under_self}
