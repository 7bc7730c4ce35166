-- One scan of the members: which of them a target compares with a shape.
use Rattle.std.specs.Prelude.{List, Bool, true, not, ◌&&◌}
use Rattle.std.specs.List.{list_any}
use Rattle.cga_word.specs.declared.answer.Answer.{Answer}
use Rattle.cga_word.specs.declared.answers.Answers.{Answers}
use Rattle.cga_word.specs.declared.target.Target.{Target}
use Rattle.cga_word.specs.declared.target.Target.TheVariants.{Noparent, Active}
use Rattle.cga_frame.specs.Box.{box_of, meets, holds}
use Rattle.cga_check.specs.declared.said.Said.{Said}
use Rattle.cga_index.specs.Occlusion.{graded}
use Rattle.cga_order.specs.World.{is_waiting, shapes_where}
use Rattle.cga_shape.specs.declared.shape.Shape.{Shape}
use Rattle.cga_expand.specs.Asked.{on_path, answer_if}
use Rattle.cga_expand.specs.Children.{Member}

-- the target is about members of this kind
abbrev pub is_about : Target → Member → Bool
is_about Noparent m = true
is_about Active m = is_waiting m.kind

-- the target compares the member with s
abbrev pub counts : Target → Shape → Member → Bool
counts target s m = is_about target m && not (on_path m.shape s)

abbrev pub meets_own : Shape → Member → Bool
meets_own s m = meets (box_of m.shape.scope) (box_of s.scope)

abbrev pub holds_own : Shape → Member → Bool
holds_own s m = holds (box_of m.shape.scope) (box_of s.scope)

-- a member that the target compares meets the box
unfoldable pub some_meets : Target → Shape → List Member → Bool
some_meets target s list = list_any (λ m. counts target s m && meets_own s m) list

-- and holds it too
unfoldable pub some_fills : Target → Shape → List Member → Bool
some_fills target s list = list_any (λ m. counts target s m && (meets_own s m && holds_own s m)) list

-- what one member comes to
abbrev pub one_compared : Target → Shape → Member → Answer
one_compared target s m = graded (counts target s m && (meets_own s m && holds_own s m)) (counts target s m && meets_own s m)

abbrev pub compared : Target → Shape → List Member → Answer
compared target s list = graded (some_fills target s list) (some_meets target s list)

-- the shapes that a target compares a shape with
abbrev pub targeted : Target → List Member → List Shape
targeted Noparent list = shapes_where (λ n kind. true) list
targeted Active list = shapes_where (λ n kind. is_waiting kind) list

-- the answers of a shape of whose symbol this is said
abbrev pub answers_with : Said → List Member → Shape → Answers
answers_with said list s = record {
  noparent = answer_if said.noparent s (targeted Noparent list);
  active = answer_if said.active s (targeted Active list);
}
