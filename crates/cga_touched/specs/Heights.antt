-- A lot of which a rule makes a yard and, as high as an attribute says, a wall. The height changes.
use Rattle.std.specs.Prelude.{◌≡◌, ℕ, List, [], ◌∷◌, false, None, pos}
use Rattle.cga_fraction.specs.Rat.{Rat, of_int}
use Rattle.cga_word.specs.declared.mode.Mode.TheVariants.{Breadth}
use Rattle.cga_rule.specs.declared.expr.Expr.{Expr, roll-Expr}
use Rattle.cga_rule.specs.declared.expr.Factor.{roll-Factor}
use Rattle.cga_rule.specs.declared.expr.Primary.TheVariants.{Named}
use Rattle.cga_rule.specs.declared.expr.Term.{roll-Term}
use Rattle.cga_rule.specs.declared.grammar.Entry.{Entry}
use Rattle.cga_rule.specs.declared.grammar.Grammar.{Grammar}
use Rattle.cga_rule.specs.declared.item.Item.TheVariants.{Resize, Child}
use Rattle.cga_rule.specs.declared.item.Size.{Size}
use Rattle.cga_rule.specs.declared.item.Size.TheVariants.{Relative, Absolute}
use Rattle.cga_shape.specs.declared.sources.Sources.{Sources}
use Rattle.cga_touched.specs.Example.{a, b, c, d, one, lot_of, nil_of, members}
use Rattle.cga_touched.specs.Count.{touched_count}

-- the name h
abbrev pub height : List ℕ
height = 104 ∷ []

-- the value of a name
abbrev pub named : List ℕ → Expr
named name =
    roll-Expr (record {
      first = roll-Term (record { first = roll-Factor (record { minus = false; primary = Named name }); rest = [] });
      rest = [];
    })

abbrev pub whole : Size
whole = Relative one

abbrev pub high : Size
high = Absolute (named height)

-- of each shape of c a yard d and a wall b of the height
abbrev pub yard_and_wall : Entry
yard_and_wall = record {
  priority = 0;
  rule = record {
    id = 1;
    symbol = c;
    params = [];
    cond = None;
    alternatives = record { items = Child d [] ∷ Resize whole high whole ∷ Child b [] ∷ []; prob = one } ∷ [];
  };
}

abbrev pub of_height : Rat → Grammar
of_height value = record {
  attributes = record { name = height; value = value } ∷ [];
  rules = yard_and_wall ∷ nil_of 0 2 d ∷ nil_of 0 3 b ∷ [];
}

abbrev pub farm : Rat → Sources
farm value = record { grammar = of_height value; lots = lot_of a c one ∷ []; mode = Breadth }

-- of the three shapes the yard is untouched: the root has another attribute, and the wall another scope
abbrev pub HeightIsTouched : Type 0
HeightIsTouched =
    touched_count 4 (farm one) (farm (of_int (pos 2))) (members (farm one)) (members (farm (of_int (pos 2)))) ≡ 2
