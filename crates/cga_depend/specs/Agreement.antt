-- Where two grammars agree about a symbol.
use Rattle.std.specs.Prelude.{◌≡◌, ℕ, List, map, filter, Bool, true, ◌&&◌, nat_eq, Option}
use Rattle.cga_rule.specs.declared.rule.Rule.{Rule}
use Rattle.cga_rule.specs.declared.grammar.Attribute.{Attribute}
use Rattle.cga_rule.specs.declared.grammar.Entry.{Entry}
use Rattle.cga_rule.specs.declared.grammar.Grammar.{Grammar}
use Rattle.cga_rule.specs.declared.grammar.Group.{Group}
use Rattle.cga_check.specs.Groups.{is_of, group, group_names}
use Rattle.cga_expr.specs.Names.{attribute_of}

-- the entry's rule is one of the symbol, with this id
abbrev pub is_one : List ℕ → ℕ → Entry → Bool
is_one symbol id e = is_of symbol e && nat_eq e.rule.id id

-- a symbol's rules with this id, in list order; in a valid grammar there is one at most
abbrev pub rules_with : List ℕ → ℕ → List Entry → List Rule
rules_with symbol id entries = map (λ (e : Entry). e.rule) (filter (is_one symbol id) entries)

-- both lists have the same rules of the symbol with the ids of these entries
abbrev pub AgreesAt : List ℕ → List Entry → List Entry → Entry → Type 0
AgreesAt symbol old new e = is_of symbol e ≡ true → rules_with symbol e.rule.id old ≡ rules_with symbol e.rule.id new

-- the name has the same value in both, if the group mentions it
abbrev pub SameValue : Option Group → Grammar → Grammar → List ℕ → Type 0
SameValue rules old new name = group_names rules name ≡ true → attribute_of old.attributes name ≡ attribute_of new.attributes name

-- both lists give each name that the group mentions the same value, or none
abbrev pub AgreeOn : Option Group → List Attribute → List Attribute → Type 0
AgreeOn rules old new = (name : List ℕ) → group_names rules name ≡ true → attribute_of old name ≡ attribute_of new name

-- two attributes of one name, with one value if the group mentions it
pub record IsAlike (rules : Option Group) (a b : Attribute) : Type 0 where
  pub name : a.name ≡ b.name
  pub value : group_names rules a.name ≡ true → a.value ≡ b.value

-- both have the same values of the attributes that the group mentions
abbrev pub SameValues : Option Group → Grammar → Grammar → Type 0
SameValues rules old new = (name : List ℕ) → SameValue rules old new name

-- the group of the symbol and the values of the attributes that it mentions are the same
pub record IsSameSetting (old new : Grammar) (symbol : List ℕ) : Type 0 where
  pub rules : group old symbol ≡ group new symbol
  pub values : SameValues (group new symbol) old new
