-- What other crates may cite of cga_shape. All other pages of its proofs are its own.

-- `==` of shapes tells equality
pub use Rattle.cga_shape.proofs.Equal.{shape_equal}
-- lists in runs, as a walk over the runs reads them
pub use Rattle.cga_shape.proofs.Runs.{joined-drop, joined-take, run_at, run_next, runs_left, runs_read}
