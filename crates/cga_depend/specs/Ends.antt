-- What two lists share at both ends.
use Rattle.std.specs.Prelude.{◌≡◌, List, ◌++◌}
use Rattle.cga_rule.specs.declared.grammar.Attribute.{Attribute}

-- the second two are what the first two have between what they share
pub record AreApart (old new from to : List Attribute) : Type 0 where
  pub front : List Attribute
  pub back : List Attribute
  pub old_is : old ≡ front ++ (from ++ back)
  pub new_is : new ≡ front ++ (to ++ back)
