-- What edits of the town touch, by computing.
use Rattle.std.proofs.Common.{refl}
use Rattle.rand_pcg.specs.Lcg.{state_after}
use Rattle.cga_fraction.specs.Arithmetic.{plus, minus, reduced}
use Rattle.cga_fraction.specs.Gcd.{gcd, gcd_within}
use Rattle.cga_fraction.specs.Order.{rat_le}
use Rattle.cga_word.specs.Seed.{word_of}
use Rattle.cga_frame.specs.Scope.{scope_of, existing, world_point}
use Rattle.cga_check.specs.Groups as groups
use Rattle.cga_check.specs.Groups.{first_entry, group, rules_of, placed, by_id, mentions_target, mentions_attribute}
use Rattle.cga_check.specs.Uses.{rule_uses}
use Rattle.cga_derivation.specs.Derivation.{reached, step, derive}
use Rattle.cga_expand.specs.Asked.{answers_of, asks_for}
use Rattle.cga_expand.specs.Derivation.{priority_of, children_of}
use Rattle.cga_expand.specs.Expand.{expand_of}
use Rattle.cga_expand.specs.Rules.{expansion}
use Rattle.cga_expand.specs.Settings.{setting_of}
use Rattle.cga_touched.specs.Words.{same_shape, same_scope}
use Rattle.cga_touched.specs.Settings.{same_setting}
use Rattle.cga_touched.specs.Count.{turns_of, is_kept, has_same_inputs, touched_shapes, touched_count}
use Rattle.cga_touched.specs.Example.{TownIsTouched}

pub town_is_touched : TownIsTouched
unfolding plus minus reduced gcd gcd_within rat_le word_of state_after scope_of existing world_point
    groups.priority_of first_entry group rules_of placed by_id mentions_target mentions_attribute rule_uses reached
    step derive answers_of asks_for priority_of children_of expand_of expansion setting_of same_shape same_scope
    same_setting turns_of is_kept has_same_inputs touched_shapes touched_count
town_is_touched = record { nothing = refl; grown = refl; added = refl; removed = refl; another_rule = refl; priority = refl; mode = refl }
