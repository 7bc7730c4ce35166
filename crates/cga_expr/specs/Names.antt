-- What names and scopes' sizes stand for in an expression.
use Rattle.std.specs.Prelude.{ℕ, List, Bool, nat_eq, Option, Some, None, find, position, slice_get, unwrap_or}
use Rattle.std.specs.Option.{option_map}
use lib.Pointwise.{pointwise}
use Rattle.cga_fraction.specs.Rat.{Rat, zero_rat}
use Rattle.cga_frame.specs.declared.point.Point.{Point}
use Rattle.cga_rule.specs.declared.grammar.Attribute.{Attribute}
use Rattle.cga_expr.specs.declared.names.Names.{Names}

-- what an expression reads beside itself
pub record Known : Type 0 where
  pub params : List (List ℕ)
  pub args : List Rat
  pub attributes : List Attribute
  pub size : Point
  pub seed : ℕ

-- what `Names` refer to
abbrev pub seen : Names → Known
seen n = record { params = n.params.now; args = n.args.now; attributes = n.attributes.now; size = n.size; seed = n.seed }

abbrev pub same_name : List ℕ → List ℕ → Bool
same_name = pointwise nat_eq

-- the value of the first attribute of this name
abbrev pub attribute_of : List Attribute → List ℕ → Option Rat
attribute_of attributes name = option_map (λ a. a.value) (find (λ a. same_name a.name name) attributes)

-- the argument at a parameter's place, or else the value of the attribute of the name
abbrev pub value_at : Known → List ℕ → Option ℕ → Option Rat
value_at k name (Some place) = slice_get k.args place
value_at k name None = attribute_of k.attributes name

-- the number that a name stands for: a parameter hides an attribute, and what has no value stands for 0
unfoldable pub number_of : Known → List ℕ → Rat
number_of k name = unwrap_or (value_at k name (position (λ param. same_name param name) k.params)) zero_rat
