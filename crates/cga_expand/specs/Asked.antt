-- What a shape is answered at its step, of the shapes that are there.
use Rattle.std.specs.Prelude.{ℕ, List, Bool, false, not, ◌&&◌, ◌||◌, Option, Some, None, map, filter, nat_eq, if◌then◌else◌}
use Rattle.std.specs.List.{starts_with}
use lib.Pointwise.{pointwise}
use Rattle.cga_word.specs.declared.answer.Answer.{Answer}
use Rattle.cga_word.specs.declared.answers.Answers.{Answers}
use Rattle.cga_word.specs.declared.target.Target.{Target}
use Rattle.cga_word.specs.declared.target.Target.TheVariants.{Noparent, Active}
use Rattle.cga_frame.specs.Box.{Box, box_of, meets}
use Rattle.cga_index.specs.Occlusion.{answer_of}
use Rattle.cga_rule.specs.declared.grammar.Grammar.{Grammar}
use Rattle.cga_rule.specs.declared.grammar.Group.{Group}
use Rattle.cga_check.specs.Groups.{group, mentions_target}
use Rattle.cga_shape.specs.declared.shape.Shape.{Shape}

-- the first is the second, or an ancestor of it: it has the lot, and its path begins the other's
unfoldable pub on_path : Shape → Shape → Bool
on_path a s = pointwise nat_eq a.lot s.lot && starts_with nat_eq s.path a.path

-- the boxes of shapes, but for s and its ancestors
abbrev pub boxes_beside : Shape → List Shape → List Box
boxes_beside s others = map (λ m. box_of m.scope) (filter (λ m. not (on_path m s)) others)

abbrev pub group_asks : Option Group → Target → Bool
group_asks None target = false
group_asks (Some rules) target = mentions_target rules target

-- the group of the symbol mentions the target
unfoldable pub asks_for : Grammar → List ℕ → Target → Bool
asks_for grammar symbol target = group_asks (group grammar symbol) target

-- a target that is mentioned is answered over the boxes of these shapes
abbrev pub answer_if : Bool → Shape → List Shape → Option Answer
answer_if mentioned s others = if mentioned then Some (answer_of (box_of s.scope) (boxes_beside s others)) else None

-- noparent is asked of all shapes, active of those that wait
unfoldable pub answers_of : Grammar → Shape → List Shape → List Shape → Answers
answers_of grammar s existing waiting = record {
  noparent = answer_if (asks_for grammar s.symbol Noparent) s existing;
  active = answer_if (asks_for grammar s.symbol Active) s waiting;
}

-- s asks, and compares the box of m, which meets its own
unfoldable pub sees : Grammar → Shape → Shape → Bool
sees grammar s m =
    (asks_for grammar s.symbol Noparent || asks_for grammar s.symbol Active)
    && (meets (box_of m.scope) (box_of s.scope) && not (on_path m s))
