-- Lists of rules and of attributes that pass `==` are equal.
use Rattle.std.proofs.Common.{◌≡◌, Bool, true, List, sym, ◌∙◌, eqb-true, nat_eq}
use Rattle.std.specs.Cmp.{first_so, second_so}
use lib.Pointwise.{pointwise, bytes_decides}
use Rattle.cga_rule.specs.declared.grammar.Attribute.{Attribute}
use Rattle.cga_rule.specs.declared.grammar.Entry.{Entry}
use Rattle.cga_rule.specs.declared.grammar.Grammar.{Grammar}
use Rattle.cga_rule.specs.contracts.grammar.AttributePartialEq.TheImpl as attribute
use Rattle.cga_rule.specs.contracts.grammar.EntryPartialEq.TheImpl as entry
use Rattle.cga_rule.proofs.Door.{Sound, fraction_sound, list_sound, rule_equal}

attribute_sound : (a : Attribute) → Sound (attribute.ghosts).eq a
attribute_sound a b h =
    let name = (bytes_decides a.name b.name).0 (first_so (pointwise nat_eq a.name b.name) _ h) in
    let value = fraction_sound a.value b.value (second_so (pointwise nat_eq a.name b.name) _ h) in
    λ i. record { name = name i; value = value i }

entry_sound : (a : Entry) → Sound (entry.ghosts).eq a
entry_sound a b h =
    let priority = eqb-true a.priority b.priority (first_so (nat_eq a.priority b.priority) _ h) in
    let rule = (rule_equal a.rule b.rule).0 (second_so (nat_eq a.priority b.priority) _ h) in
    λ i. record { priority = priority i; rule = rule i }

pub attributes_told : (a b : List Attribute) (r : Bool) → r ≡ pointwise (attribute.ghosts).eq a b → r ≡ true → a ≡ b
attributes_told a b r is told = list_sound (attribute.ghosts).eq attribute_sound a b (sym is ∙ told)

pub rules_told : (a b : List Entry) (r : Bool) → r ≡ pointwise (entry.ghosts).eq a b → r ≡ true → a ≡ b
rules_told a b r is told = list_sound (entry.ghosts).eq entry_sound a b (sym is ∙ told)

-- grammars of one list of rules are one where their attributes pass `==`
pub grammar_told : (a b : Grammar) (same_rules r : Bool) → (same_rules ≡ true → a.rules ≡ b.rules)
    → r ≡ pointwise (attribute.ghosts).eq a.attributes b.attributes → same_rules ≡ true → r ≡ true → a ≡ b
grammar_told a b same_rules r rules is said told =
    let attributes = attributes_told a.attributes b.attributes r is told in
    let same = rules said in
    λ i. record { attributes = attributes i; rules = same i }
