-- What other crates may cite of cga_top. All other pages of its proofs are its own.

-- What lines tell is what the definition of the output takes them for, and is such as lines write
pub use Rattle.cga_top.proofs.Asks.{asks_written, city_is, city_told, city_written, command_told, rules_told}
-- The number that is printed is the one that the engine counted
pub use Rattle.cga_top.proofs.Numbers.{distinct}
-- The bill goes with the changes of an edit
pub use Rattle.cga_top.proofs.Bills.{nothing_drawn}
-- The headline, from what the statuses mean
pub use Rattle.cga_top.proofs.Complete.{of_left}
-- Lines one after another
pub use Rattle.cga_top.proofs.Effects.{all_append, all_more, all_none, followed_silent}
-- The end of a run
pub use Rattle.cga_top.proofs.Ends.{none_means}
-- The run that wants memory at once
pub use Rattle.cga_top.proofs.Given.{unbegun_run}
-- A fact of what the source tells
pub use Rattle.cga_top.proofs.Silent.{known_more}
-- What all lines of a script do
pub use Rattle.cga_top.proofs.WholeScript.{output_is}
