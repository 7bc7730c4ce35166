-- What other crates may cite of cga_order. All other pages of its proofs are its own.

-- The ranks on a chain, and those on the chain of a child
pub use Rattle.cga_order.proofs.Chains.{birth-child, birth-stamp, rank-before, root-before, snoc-same, stamp-child, stamps-place}
-- The head of a child's chain
pub use Rattle.cga_order.proofs.ChildHeads.{child_is_head}
-- Each step leaves one more member that is expanded
pub use Rattle.cga_order.proofs.Counts.{length-taken}
-- What a derivation gives is a consistent list: what a shape sees at its stamp was made before it
pub use Rattle.cga_order.proofs.Derived.{consistent-reached, same_answers, saw_answers}
-- The maxima of a list grow with it
pub use Rattle.cga_order.proofs.Maxima.{less_not, not_both, not_self, split}
-- Members of lists, and what a step makes of them
pub use Rattle.cga_order.proofs.Members.{Among-index, Among-shapes_where, Has-append, Has-from_shapes_where, Has-index}
pub use Rattle.cga_order.proofs.Members.{Has-left, Has-right, Has-start, place_dec, waits, Among-All, Among-key}
pub use Rattle.cga_order.proofs.Members.{Among-left, Among-map, Among-right, map-Among, slice_get-Has}
-- Lists in which each element stands once
pub use Rattle.cga_order.proofs.Once.{Among-append, Once-append, Once-index, count-once, length-once}
-- Keys of one mode compare as their stamps
pub use Rattle.cga_order.proofs.KeyAgrees.{agrees}
-- In which order members stand in a configuration that was reached
pub use Rattle.cga_order.proofs.Places.{created_from, slice_get-append, slice_get-map, slice_get-within, stands-reached}
-- Prefixes of two paths, compared by where the paths part
pub use Rattle.cga_order.proofs.Prefixes.{nat_cmp-less}
-- Configurations that are reached are in order: their waiting members come after all that was done
pub use Rattle.cga_order.proofs.Steps.{Changes-step, IsOrdered, child_birth, child_of, in_order, law, rises, taken_done}
-- What a step makes of a configuration
pub use Rattle.cga_order.proofs.Stepped.{Changes, IsExpanded, SamePlace, children_of, expanded_after, expanded_kind}
pub use Rattle.cga_order.proofs.Stepped.{kind_after, not_waiting, told-is}
-- A turn of an agenda keeps what is off it right, and a list that is right is consistent
pub use Rattle.cga_order.proofs.Turns.{Has-Keeps, Keeps-Has, SameAt, asks_same, right_consistent, still_right}
-- A list that is consistent, as far as a limit, has the members of the derivation that far
pub use Rattle.cga_order.proofs.Unique.{has_made, has_members, same_members, all_before}
