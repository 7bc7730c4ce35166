-- What other crates may cite of cga_frame. All other pages of its proofs are its own.

-- Boxes by their bounds and by their points
pub use Rattle.cga_frame.proofs.Boxes.{corners_box, holds_itself, holds_points, holds_trans, is_hull, meets_touches, points_touch, touches_itself, touches_points, touches_up, box_of_boxed}
-- Tests that hold together
pub use Rattle.cga_frame.proofs.Flags.{all_three, tells, three, told}
