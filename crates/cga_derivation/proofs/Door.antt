-- What other crates may cite of cga_derivation. All other pages of its proofs are its own.

-- The run over sites goes along with the derivation
pub use Rattle.cga_derivation.proofs.Along.{Has-erase, erase-sites, first_of-Has, first_of-passes, list_all-at, map-map, next-along, option_of, reached-sites}
-- No two members of a configuration stand at one place
pub use Rattle.cga_derivation.proofs.Apart.{apart-reached}
-- How many members there are after so many steps
pub use Rattle.cga_derivation.proofs.Budget.{derive-some, derived-reached, reached-longer, settled-reached}
-- How many members are expanded
pub use Rattle.cga_derivation.proofs.Counts.{expanded-settled}
-- `derive` in the words of its definition
pub use Rattle.cga_derivation.proofs.Derive.{says}
-- What a derivation ends with is a consistent list
pub use Rattle.cga_derivation.proofs.Derived.{derived_consistent}
-- How a run begins, and how it ends
pub use Rattle.cga_derivation.proofs.Ends.{apart-left, ends-full, ends-over, start-all, start-push}
-- What holds of the roots, and of the children of what it holds of, holds of each member that is no instance
pub use Rattle.cga_derivation.proofs.Inherited.{kept, Has-set}
-- A map from the stamps of the waiting members: its least key is that of the next member
pub use Rattle.cga_derivation.proofs.Keys.{become-set, key-next, key-push, key-skip, same_place-is}
-- The waiting member of least stamp is the next one
pub use Rattle.cga_derivation.proofs.Least.{Has-erased, waiting_kind}
-- Equal options and results have equal contents
pub use Rattle.cga_derivation.proofs.Lists.{err_ok}
-- A derivation ends in one configuration
pub use Rattle.cga_derivation.proofs.One.{Says, one, within}
-- Over sites a derivation is that of a world
pub use Rattle.cga_derivation.proofs.Sites.{Among-rooted, fitted-same, length-fitted, world}
-- The stamps that are told from the list are those of the world
pub use Rattle.cga_derivation.proofs.Stamps.{chain-is, good-at, in_order, rises}
-- One turn: the member of the least key is the next, and what is written and appended is the next configuration
pub use Rattle.cga_derivation.proofs.Turn.{member, mode_is, turn-done, turn-fault}
-- A consistent list has the members of the derivation
pub use Rattle.cga_derivation.proofs.Unique.{rooted-Among}
-- A derivation is within each budget that a consistent list is within
pub use Rattle.cga_derivation.proofs.Within.{Has-places, ends_within, length-places, no_longer, places, places-Has, places_once}
