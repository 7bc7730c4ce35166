-- What other crates may cite of cga_city. All other pages of its proofs are its own.

-- The changes of an edit account for what is reported before and after it
pub use Rattle.cga_city.proofs.Accounts.{accounted, come_few, gone_reported, reported_few}
-- The sources of a city go through whole, whatever sources they take the place of
pub use Rattle.cga_city.proofs.Again.{applied_sound, whole_applied}
-- What a derivation within a budget comes to, and when it is refused
pub use Rattle.cga_city.proofs.Deriving.{empty_derived, few_members}
-- At a place of lots there is one
pub use Rattle.cga_city.proofs.Hulls.{lot_within}
-- What a city keeps: its forest has the members of its derivation, before and after an edit
pub use Rattle.cga_city.proofs.Kept.{empty_sound}
-- The names of lots: they stay apart as lots come and go
pub use Rattle.cga_city.proofs.Names.{names_differ}
-- The nodes of a lot in the order of their paths, and a list of members that has them
pub use Rattle.cga_city.proofs.LotNodes.{before_strict}
pub use Rattle.cga_city.proofs.Nodes.{among_has, filter_from, filter_to, has_among, is_of, lot_differs}
-- Lists that rise by an order: a list of the same elements in order is that list
pub use Rattle.cga_city.proofs.Sorting.{sorted_from, sorted_is, sorted_rises, sorted_to}
-- What is drawn of one lot alone
pub use Rattle.cga_city.proofs.Reporting.{one_drawn}
-- What is drawn stands by the order of the lots
pub use Rattle.cga_city.proofs.Standing.{own_drawn, stands}
-- The sources of a city are valid
pub use Rattle.cga_city.proofs.Valid.{sound_valid}
