-- `==` of rules, entries and groups tells equality.
use Rattle.std.proofs.Common.{Bool, IsTrue, sym, ◌∙◌, ◌≡◌, ◌↔◌, true, subst, eqb-true, nat_eq}
use Rattle.std.specs.Option.{option_eq}
use Rattle.std.specs.Cmp.{first_so, second_so}
use lib.Pointwise.{pointwise, bytes_decides}
use Rattle.cga_rule.specs.declared.grammar.Group.{Group}
use Rattle.cga_rule.specs.declared.rule.Alternative.{Alternative}
use Rattle.cga_rule.specs.declared.rule.Rule.{Rule}
use Rattle.cga_rule.specs.Equal.{same_cond, same_item, same_alternative, same_rule, same_group, EqualExactly}
use Rattle.cga_rule.specs.contracts.rule.RuleEq.TheImpl.Laws as rule
use Rattle.cga_rule.specs.contracts.grammar.GroupEq.TheImpl.Laws as group
use Rattle.cga_rule.proofs.Told.{Sound, option_sound, list_sound, fraction_sound}
use Rattle.cga_rule.proofs.Conds.{cond_equal}
use Rattle.cga_rule.proofs.Items.{item_equal}

alternative_equal : (a : Alternative) → Sound same_alternative a
alternative_equal a b h =
    let items = list_sound same_item item_equal a.items b.items (first_so (pointwise same_item a.items b.items) _ h) in
    let prob = fraction_sound a.prob b.prob (second_so (pointwise same_item a.items b.items) _ h) in
    λ i. record { items = items i; prob = prob i }

rule_sound : (a : Rule) → Sound same_rule a
rule_sound a b h =
    let u = second_so (nat_eq a.id b.id) _ h in
    let v = second_so (pointwise nat_eq a.symbol b.symbol) _ u in
    let w = second_so (pointwise (pointwise nat_eq) a.params b.params) _ v in
    let id = eqb-true a.id b.id (first_so (nat_eq a.id b.id) _ h) in
    let symbol = (bytes_decides a.symbol b.symbol).0 (first_so (pointwise nat_eq a.symbol b.symbol) _ u) in
    let params = list_sound (pointwise nat_eq) (λ n m e. (bytes_decides n m).0 e) a.params b.params (first_so (pointwise (pointwise nat_eq) a.params b.params) _ v) in
    let cond = option_sound same_cond cond_equal a.cond b.cond (first_so (option_eq same_cond a.cond b.cond) _ w) in
    let alternatives = list_sound same_alternative alternative_equal a.alternatives b.alternatives (second_so (option_eq same_cond a.cond b.cond) _ w) in
    λ i. record { id = id i; symbol = symbol i; params = params i; cond = cond i; alternatives = alternatives i }

group_sound : (a : Group) → Sound same_group a
group_sound a b h =
    let u = second_so (pointwise nat_eq a.symbol b.symbol) _ h in
    let symbol = (bytes_decides a.symbol b.symbol).0 (first_so (pointwise nat_eq a.symbol b.symbol) _ h) in
    let priority = eqb-true a.priority b.priority (first_so (nat_eq a.priority b.priority) _ u) in
    let rules = list_sound same_rule rule_sound a.rules b.rules (second_so (nat_eq a.priority b.priority) _ u) in
    λ i. record { symbol = symbol i; priority = priority i; rules = rules i }

-- the test of two rules is true just where they are equal
pub rule_equal : (a b : Rule) → (same_rule a b ≡ true) ↔ (a ≡ b)
rule_equal a b = (rule_sound a b, λ e. subst (λ c. same_rule a c ≡ true) e (rule.laws-law.refl a))

-- the test of two groups is true just where they are equal
pub group_equal : (a b : Group) → (same_group a b ≡ true) ↔ (a ≡ b)
group_equal a b = (group_sound a b, λ e. subst (λ c. same_group a c ≡ true) e (group.laws-law.refl a))

pub equal_exactly : EqualExactly
equal_exactly = record { rules = rule_equal; groups = group_equal }

-- what an answer of `==` tells
pub rule_told : (a b : Rule) (r : Bool) → r ≡ same_rule a b → IsTrue r ↔ (a ≡ b)
rule_told a b r is = (λ h. (rule_equal a b).0 (sym is ∙ h), λ e. is ∙ (rule_equal a b).1 e)
