-- What a change of the height touches, by computing.
use Rattle.std.specs.Prelude.{unwrap_or}
use Rattle.std.proofs.lemmas.Bool.{and_left, and_right}
use Rattle.std.proofs.Common.{◌≡◌, ℕ, suc, true, ◌&&◌, Some, nat_lt, if◌then◌else◌, List, [], ◌∷◌, length, false, refl, None, ap, ◌∙◌}
use Rattle.std.specs.Prelude.{pos}
use Rattle.rand_pcg.specs.Lcg.{state_after}
use Rattle.cga_fraction.specs.Arithmetic.{plus, minus, reduced, times}
use Rattle.cga_fraction.specs.Gcd.{gcd, gcd_within}
use Rattle.cga_fraction.specs.Order.{rat_le}
use Rattle.cga_fraction.specs.Refusals.{checked}
use Rattle.cga_fraction.specs.Rat.{Rat, of_int, zero_rat}
use Rattle.cga_word.specs.Seed.{word_of, child_seed_of}
use Rattle.cga_frame.specs.Axes.{base_frame}
use Rattle.cga_frame.specs.Scope.{Scope, scope_of, existing, world_point}
use Rattle.cga_order.specs.World.{shapes_where, is_waiting}
use Rattle.cga_order.specs.declared.placed.Kind.TheVariants.{Waiting, Done}
use Rattle.cga_shape.specs.declared.shape.Shape.{Shape}
use Rattle.cga_expand.specs.Children.{Member}
use Rattle.cga_check.specs.Groups as groups
use Rattle.cga_check.specs.Groups.{first_entry, group, rules_of, placed, by_id, mentions_target, mentions_attribute}
use Rattle.cga_check.specs.Uses.{Uses, only, rule_uses}
use Rattle.cga_check.specs.Uses as used
use Rattle.cga_check.proofs.Door as uses
use Rattle.cga_expr.specs.Names.{number_of, attribute_of}
use Rattle.cga_derivation.specs.Derivation.{reached, step, derive, next_of}
use Rattle.cga_word.specs.declared.answers.Answers.{Answers}
use Rattle.cga_word.specs.declared.target.Target.{Target}
use Rattle.cga_word.specs.declared.target.Target.TheVariants.{Noparent, Active}
use Rattle.cga_expand.specs.Asked.{answers_of, asks_for, answer_if}
use Rattle.cga_expand.specs.Derivation.{derivation_of, priority_of, children_of}
use Rattle.cga_expand.specs.Expand.{expand_of}
use Rattle.cga_expand.specs.Rules.{expansion}
use Rattle.cga_expand.specs.Settings.{setting_of}
use Rattle.cga_expand.proofs.Door.{item_Child, item_Resize}
use Rattle.cga_touched.specs.Words.{same_option, same_rat, same_shape, same_scope}
use Rattle.cga_touched.specs.Settings.{same_setting}
use Rattle.cga_touched.specs.Count.{AnsweredTurn, with_turn, is_answered_alike, turns_of, is_kept, has_same_inputs, touched_shapes, touched_count}
use Rattle.cga_touched.specs.Example.{a, b, c, d, one, members}
use Rattle.cga_touched.specs.Heights.{height, whole, high, yard_and_wall, of_height, farm, HeightIsTouched}
use Rattle.cga_touched.proofs.Named.{named_is, named_uses}

-- ---- the derivation of a farm

abbrev ground : Scope
ground = record {
  at = record { x = zero_rat; y = zero_rat; z = zero_rat };
  frame = base_frame;
  size = record { x = one; y = zero_rat; z = one };
}

abbrev root : Shape
root = record { lot = a; path = []; symbol = c; args = []; scope = ground; seed = 7 }

abbrev yard : Shape
yard = record { lot = a; path = 0 ∷ []; symbol = d; args = []; scope = ground; seed = child_seed_of 7 0 }

abbrev wall : Rat → Shape
wall h = record { lot = a; path = 1 ∷ []; symbol = b; args = []; scope = record ground { size = record { x = one; y = h; z = one } }; seed = child_seed_of 7 1 }

abbrev after_root : Rat → List Member
after_root h = record { shape = root; kind = Done } ∷ record { shape = yard; kind = Waiting } ∷ record { shape = wall h; kind = Waiting } ∷ []

abbrev after_yard : Rat → List Member
after_yard h = record { shape = root; kind = Done } ∷ record { shape = yard; kind = Done } ∷ record { shape = wall h; kind = Waiting } ∷ []

abbrev all_done : Rat → List Member
all_done h = record { shape = root; kind = Done } ∷ record { shape = yard; kind = Done } ∷ record { shape = wall h; kind = Done } ∷ []

abbrev two : Rat
two = of_int (pos 2)

first_is : (h : Rat) → reached (derivation_of (farm h)) 0 ≡ record { shape = root; kind = Waiting } ∷ []
unfolding reached plus minus reduced gcd gcd_within rat_le scope_of existing world_point
first_is h = refl

-- of these numbers alone: the range of a scope is computed
second_one : step (derivation_of (farm one)) (record { shape = root; kind = Waiting } ∷ []) ≡ after_root one
unfolding step plus minus reduced times gcd gcd_within rat_le checked scope_of existing world_point word_of
    state_after groups.priority_of first_entry priority_of rules_of placed by_id number_of children_of expand_of expansion
second_one = rw (item_Child d [], item_Resize whole high whole, named_is height, item_Child b []) refl

second_two : step (derivation_of (farm two)) (record { shape = root; kind = Waiting } ∷ []) ≡ after_root two
unfolding step plus minus reduced times gcd gcd_within rat_le checked scope_of existing world_point word_of
    state_after groups.priority_of first_entry priority_of rules_of placed by_id number_of children_of expand_of expansion
second_two = rw (item_Child d [], item_Resize whole high whole, named_is height, item_Child b []) refl

third_is : (h : Rat) → step (derivation_of (farm h)) (after_root h) ≡ after_yard h
unfolding step word_of state_after groups.priority_of first_entry priority_of rules_of placed by_id children_of expand_of expansion
third_is h = refl

fourth_is : (h : Rat) → step (derivation_of (farm h)) (after_yard h) ≡ all_done h
unfolding step word_of state_after groups.priority_of first_entry priority_of rules_of placed by_id children_of expand_of expansion
fourth_is h = refl

last_is : (h : Rat) → step (derivation_of (farm h)) (all_done h) ≡ all_done h
unfolding step
last_is h = refl

abbrev no_answers : Answers
no_answers = record { noparent = None; active = None }

abbrev turn_of : Shape → AnsweredTurn
turn_of s = record { shape = s; answers = no_answers }

-- the rule of the root asks for nothing
root_asks : (h : Rat) (target : Target) → asks_for (of_height h) c target ≡ false
unfolding used.only asks_for group first_entry rules_of placed by_id mentions_target rule_uses
root_asks h target = rw (uses.item_Child d [], uses.item_Child b [], uses.item_Resize whole high whole, named_uses height) refl

root_answers : (h : Rat) (existing waiting : List Shape) → answers_of (of_height h) root existing waiting ≡ no_answers
unfolding answers_of
root_answers h existing waiting = λ i. record { noparent = answer_if (root_asks h Noparent i) root existing; active = answer_if (root_asks h Active i) root waiting }

yard_answers : (h : Rat) (existing waiting : List Shape) → answers_of (of_height h) yard existing waiting ≡ no_answers
unfolding answers_of asks_for group first_entry rules_of placed by_id mentions_target rule_uses
yard_answers h existing waiting = refl

wall_answers : (h : Rat) (existing waiting : List Shape)
    → answers_of (of_height h) (wall h) existing waiting ≡ no_answers
unfolding answers_of asks_for group first_entry rules_of placed by_id mentions_target rule_uses
wall_answers h existing waiting = refl

module _ (h : Rat) (second : step (derivation_of (farm h)) (record { shape = root; kind = Waiting } ∷ []) ≡ after_root h) where
  reached_one : reached (derivation_of (farm h)) 1 ≡ after_root h
  unfolding reached
  reached_one = ap (step (derivation_of (farm h))) (first_is h) ∙ second

  reached_two : reached (derivation_of (farm h)) 2 ≡ after_yard h
  unfolding reached
  reached_two = ap (step (derivation_of (farm h))) reached_one ∙ third_is h

  reached_three : reached (derivation_of (farm h)) 3 ≡ all_done h
  unfolding reached
  reached_three = ap (step (derivation_of (farm h))) reached_two ∙ fourth_is h

  reached_four : reached (derivation_of (farm h)) 4 ≡ all_done h
  unfolding reached
  reached_four = ap (step (derivation_of (farm h))) reached_three ∙ last_is h

  members_are : members (farm h) ≡ all_done h
  unfolding derive
  members_are = ap (λ (l : List Member). unwrap_or (if nat_lt 4 (length l) then None else Some l) []) reached_four

  one_turn : (n : ℕ) (list : List Member) (m : Member) (turns : List AnsweredTurn)
      → reached (derivation_of (farm h)) n ≡ list
      → next_of (derivation_of (farm h)) list ≡ Some m
      → ((existing waiting : List Shape) → answers_of (of_height h) m.shape existing waiting ≡ no_answers)
      → turns_of (farm h) n ≡ turns → turns_of (farm h) (suc n) ≡ turn_of m.shape ∷ turns
  unfolding turns_of
  one_turn n list m turns at next answers before =
      ap (λ l. with_turn (farm h) l (next_of (derivation_of (farm h)) l) (turns_of (farm h) n)) at
      ∙ ap (λ o. with_turn (farm h) list o (turns_of (farm h) n)) next
      ∙ (λ i. record { shape = m.shape; answers = answers (shapes_where (λ x kind. true) list) (shapes_where (λ x kind. is_waiting kind) list) i } ∷ before i)

  turns_are : turns_of (farm h) 4 ≡ turn_of (wall h) ∷ turn_of yard ∷ turn_of root ∷ []
  unfolding turns_of groups.priority_of first_entry priority_of word_of state_after
  turns_are =
      let first = one_turn 0 (record { shape = root; kind = Waiting } ∷ []) (record { shape = root; kind = Waiting }) [] (first_is h) refl (root_answers h) refl in
      let next = one_turn 1 (after_root h) (record { shape = yard; kind = Waiting }) (turn_of root ∷ []) reached_one refl (yard_answers h) first in
      let last = one_turn 2 (after_yard h) (record { shape = wall h; kind = Waiting }) (turn_of yard ∷ turn_of root ∷ []) reached_two refl (wall_answers h) next in
      ap (λ l. with_turn (farm h) l (next_of (derivation_of (farm h)) l) (turns_of (farm h) 3)) reached_three ∙ last

-- ---- what the change comes to

height_mentioned : mentions_attribute (record { symbol = c; priority = 0; rules = yard_and_wall.rule ∷ [] }) height ≡ true
unfolding used.only mentions_attribute rule_uses
height_mentioned = rw (uses.item_Child d [], uses.item_Child b [], uses.item_Resize whole high whole, named_uses height) refl

height_is : (h : Rat) → (setting_of (of_height h) c).values height ≡ Some h
unfolding setting_of group first_entry rules_of placed by_id
height_is h = ap (λ t. if t then attribute_of (of_height h).attributes height else None) height_mentioned

heights_differ : same_option same_rat ((setting_of (of_height one) c).values height)
    ((setting_of (of_height two) c).values height) ≡ false
heights_differ = λ i. same_option same_rat (height_is one i) (height_is two i)

root_setting : same_setting (of_height one) (of_height two) c ≡ false
unfolding same_setting
root_setting = and_right _ _ (and_left _ _ heights_differ)

root_inputs : has_same_inputs (farm one) (farm two) 4 root ≡ false
unfolding has_same_inputs
root_inputs = and_left _ _ root_setting

yard_setting : same_setting (of_height one) (of_height two) d ≡ true
unfolding same_setting setting_of group first_entry rules_of placed by_id mentions_attribute rule_uses
yard_setting = refl

yard_alike : is_answered_alike (turns_of (farm one) 4) (turns_of (farm two) 4) yard ≡ true
unfolding same_shape same_scope word_of state_after
yard_alike = λ i. is_answered_alike (turns_are one second_one i) (turns_are two second_two i) yard

yard_inputs : has_same_inputs (farm one) (farm two) 4 yard ≡ true
unfolding has_same_inputs
yard_inputs = λ i. yard_setting i && yard_alike i

root_kept : is_kept (farm one) (farm two) (all_done one) (all_done two) root ≡ true
unfolding is_kept same_shape same_scope word_of state_after groups.priority_of first_entry priority_of
root_kept = refl

yard_kept : is_kept (farm one) (farm two) (all_done one) (all_done two) yard ≡ true
unfolding is_kept same_shape same_scope word_of state_after groups.priority_of first_entry priority_of
yard_kept = refl

wall_kept : is_kept (farm one) (farm two) (all_done one) (all_done two) (wall two) ≡ false
unfolding is_kept same_shape same_scope word_of state_after groups.priority_of first_entry priority_of
wall_kept = refl

pub height_is_touched : HeightIsTouched
unfolding touched_count touched_shapes
height_is_touched =
    (λ i. touched_count 4 (farm one) (farm two) (members_are one second_one i) (members_are two second_two i))
    ∙ rw (root_kept, root_inputs, yard_kept, yard_inputs, wall_kept) refl
