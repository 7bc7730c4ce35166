-- How many shapes an edit touches, computed from the sources before and after it.
use Rattle.std.specs.Prelude.{ℕ, zero, suc, List, [], ◌∷◌, length, take, Bool, not, ◌&&◌, nat_eq, Option, Some, None}
use Rattle.std.specs.List.{list_any}
use Rattle.cga_word.specs.declared.answers.Answers.{Answers}
use Rattle.cga_order.specs.World.{is_instance, shapes_where}
use Rattle.cga_check.specs.Uses.{same_name}
use Rattle.cga_shape.specs.declared.shape.Shape.{Shape}
use Rattle.cga_shape.specs.declared.sources.Sources.{Sources}
use Rattle.cga_derivation.specs.Derivation.{asked, next_of, reached}
use Rattle.cga_expand.specs.Children.{Member}
use Rattle.cga_expand.specs.Derivation.{derivation_of, priority_of}
use Rattle.cga_touched.specs.Words.{same_mode, same_path, same_shape, same_answers}
use Rattle.cga_touched.specs.Settings.{same_setting}

-- ---- turns

-- a shape that a step took, and what it was answered
pub record AnsweredTurn : Type 0 where
  pub shape : Shape
  pub answers : Answers

abbrev pub with_turn : Sources → List Member → Option Member → List AnsweredTurn → List AnsweredTurn
with_turn sources list None turns = turns
with_turn sources list (Some m) turns =
    record { shape = m.shape; answers = asked (derivation_of sources) list m.shape } ∷ turns

-- those of so many steps, the last first
unfoldable pub turns_of : Sources → ℕ → List AnsweredTurn
turns_of sources zero = []
turns_of sources (suc n) =
    with_turn sources (reached (derivation_of sources) n) (next_of (derivation_of sources) (reached (derivation_of sources) n)) (turns_of sources n)

abbrev pub is_turn : Shape → Answers → AnsweredTurn → Bool
is_turn s answers turn = same_shape turn.shape s && same_answers turn.answers answers

-- both lists have a turn of the shape with the same answers
abbrev pub is_answered_alike : List AnsweredTurn → List AnsweredTurn → Shape → Bool
is_answered_alike before after s =
    list_any (λ turn. same_shape turn.shape s && list_any (is_turn s turn.answers) after) before

-- ---- members

-- the shape is a member that is no instance
abbrev pub is_there : List Member → Shape → Bool
is_there list s = list_any (λ m. not (is_instance m.kind) && same_shape m.shape s) list

-- the test passes at each number up to this one
abbrev pub passes_to : (ℕ → Bool) → ℕ → Bool
passes_to test zero = test zero
passes_to test (suc n) = test (suc n) && passes_to test n

module _ (old new : Sources) where
  abbrev pub has_same_priority : Shape → Bool
  has_same_priority s = nat_eq (priority_of old.grammar s.symbol) (priority_of new.grammar s.symbol)

  -- the first i steps of the path name the member, which is in the new list as well, with its priority
  abbrev pub keeps_at : List Member → Shape → ℕ → Member → Bool
  keeps_at after s i m =
      not (is_instance m.kind) && (same_name m.shape.lot s.lot && (same_path m.shape.path (take i s.path)
      && (is_there after m.shape && has_same_priority m.shape)))

  unfoldable pub is_kept : List Member → List Member → Shape → Bool
  is_kept before after s =
      same_mode old.mode new.mode && passes_to (λ i. list_any (keeps_at after s i) before) (length s.path)

  -- by the turns of so many steps
  unfoldable pub has_same_inputs : ℕ → Shape → Bool
  has_same_inputs steps s =
      same_setting old.grammar new.grammar s.symbol && is_answered_alike (turns_of old steps) (turns_of new steps) s

  abbrev pub is_touched : ℕ → List Member → List Member → Shape → Bool
  is_touched steps before after s = not (is_kept before after s && has_same_inputs steps s)

-- the shapes that an edit touches, in the order of the new list; neither derivation takes more than so many steps
unfoldable pub touched_shapes : ℕ → Sources → Sources → List Member → List Member → List Shape
touched_shapes steps old new before after =
    shapes_where (λ s kind. not (is_instance kind) && is_touched old new steps before after s) after

-- how many that are
unfoldable pub touched_count : ℕ → Sources → Sources → List Member → List Member → ℕ
touched_count steps old new before after = length (touched_shapes steps old new before after)
