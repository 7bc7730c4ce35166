-- What other crates may cite of cga_bill. All other pages of its proofs are its own.

-- Lists that have each member as often have equal sums
pub use Rattle.cga_bill.proofs.Counts.{SameCounts, sum_same}
-- A list that has the instances of several lists, each as often, has the sum of their bills
pub use Rattle.cga_bill.proofs.Parts.{sum_of_bills}
