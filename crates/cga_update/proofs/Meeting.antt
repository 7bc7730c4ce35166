-- What a shape sees asks of it that it asks, and that its box meets the other's.
use Rattle.std.proofs.Common.{◌≡◌, Bool, true, false, not, ◌&&◌, ◌||◌, refl, ap, ◌∙◌}
use Rattle.cga_fraction.specs.Rat.{Rat}
use Rattle.cga_fraction.specs.Order.{rat_le, rat_lt}
use Rattle.cga_frame.specs.Box.{Box, along_meets, box_of, meets}
use Rattle.cga_shape.specs.declared.sources.Sources.{Sources}
use Rattle.cga_expand.specs.Asked.{on_path, sees}
use Rattle.cga_rework.specs.Turn.{SeesWhatMeets}
use Rattle.cga_update.specs.Edit.{asks_by, meets_box, rules_of}
use Rattle.cga_fraction.proofs.Door.{and_first as left, and_second as right}

flip : (a b : Bool) → (a && b) ≡ (b && a)
flip true true = refl
flip true false = refl
flip false true = refl
flip false false = refl

flip_all : (a b c d e f : Bool) → ((a && b) || ((c && d) && (e && f))) ≡ ((b && a) || ((d && c) && (f && e)))
flip_all a b c d e f = ap (λ x. x || ((c && d) && (e && f))) (flip a b) ∙ (ap (λ x. (b && a) || (x && (e && f))) (flip c d) ∙ ap (λ x. (b && a) || ((d && c) && x)) (flip e f))

along_back : (low high lower upper : Rat) → along_meets low high lower upper ≡ along_meets lower upper low high
along_back low high lower upper = flip_all (rat_lt low upper) (rat_lt lower high) (rat_le low lower) (rat_le lower low) (rat_le high upper) (rat_le upper high)

-- boxes meet both ways
pub meets_back : (a b : Box) → meets a b ≡ meets b a
unfolding meets
meets_back a b =
    ap (λ k. k && (along_meets a.low.y a.high.y b.low.y b.high.y && along_meets a.low.z a.high.z b.low.z b.high.z)) (along_back a.low.x a.high.x b.low.x b.high.x)
    ∙ (ap (λ k. along_meets b.low.x b.high.x a.low.x a.high.x && (k && along_meets a.low.z a.high.z b.low.z b.high.z)) (along_back a.low.y a.high.y b.low.y b.high.y)
    ∙ ap (λ k. along_meets b.low.x b.high.x a.low.x a.high.x && (along_meets b.low.y b.high.y a.low.y a.high.y && k)) (along_back a.low.z a.high.z b.low.z b.high.z))

pub sees_what_meets : (new : Sources) → SeesWhatMeets (rules_of new) (asks_by new.grammar) meets_box
unfolding sees
sees_what_meets new n m seen = (
  left (asks_by new.grammar n) (meets (box_of m.scope) (box_of n.scope) && not (on_path m n)) seen,
  meets_back (box_of n.scope) (box_of m.scope)
      ∙ left (meets (box_of m.scope) (box_of n.scope)) (not (on_path m n)) (right (asks_by new.grammar n) (meets (box_of m.scope) (box_of n.scope) && not (on_path m n)) seen),
)
