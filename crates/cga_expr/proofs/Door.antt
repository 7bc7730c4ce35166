-- What other crates may cite of cga_expr. All other pages of its proofs are its own.

-- One layer of what an expression and a condition mean
pub use Rattle.cga_expr.proofs.Layers.{primary_Named}
