-- What other crates may cite of cga_kept_hulls. All other pages of its proofs are its own.

-- Hulls by the tests that hold of two together where they hold of each
pub use Rattle.cga_kept_hulls.proofs.Alike.{Asking, Every, Nobody, Probe, alike_itself, alike_probed, alike_turned, all_held, grown_alike, opt_holds, over_all, over_child, over_own, probed}
-- and what they tell where one child's lie within those of all, and of a node with some of its children
pub use Rattle.cga_kept_hulls.proofs.Alike.{held_through, inside_held, part_own, part_with}
