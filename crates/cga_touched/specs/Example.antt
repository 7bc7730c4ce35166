-- Two lots of two symbols, whose rules make nothing of them, and what edits of them touch.
use Rattle.std.specs.Prelude.{◌≡◌, ℕ, List, [], ◌∷◌, ◌++◌, None, pos, unwrap_or}
use Rattle.cga_fraction.specs.Rat.{Rat, of_int, zero_rat}
use Rattle.cga_word.specs.declared.mode.Mode.TheVariants.{Breadth, Depth}
use Rattle.cga_rule.specs.declared.grammar.Entry.{Entry}
use Rattle.cga_rule.specs.declared.grammar.Grammar.{Grammar}
use Rattle.cga_shape.specs.declared.lot.Lot.{Lot}
use Rattle.cga_shape.specs.declared.sources.Sources.{Sources}
use Rattle.cga_derivation.specs.Derivation.{derive}
use Rattle.cga_expand.specs.Children.{Member}
use Rattle.cga_expand.specs.Derivation.{derivation_of}
use Rattle.cga_touched.specs.Count.{touched_count}

-- the names a, b, c and d, by their bytes
abbrev pub a : List ℕ
a = 97 ∷ []

abbrev pub b : List ℕ
b = 98 ∷ []

abbrev pub c : List ℕ
c = 99 ∷ []

abbrev pub d : List ℕ
d = 100 ∷ []

abbrev pub one : Rat
one = of_int (pos 1)

-- a lot of this name, symbol and depth
abbrev pub lot_of : List ℕ → List ℕ → Rat → Lot
lot_of name symbol depth = record { name = name; seed = 7; x = zero_rat; z = zero_rat; width = one; depth = depth; symbol = symbol }

-- a rule that makes nothing of each shape of the symbol
abbrev pub nil_of : ℕ → ℕ → List ℕ → Entry
nil_of priority id symbol = record {
  priority = priority;
  rule = record { id = id; symbol = symbol; params = []; cond = None; alternatives = record { items = []; prob = one } ∷ [] };
}

abbrev pub with_rules : Entry → Entry → Grammar
with_rules first second = record { attributes = []; rules = first ∷ second ∷ [] }

-- the lot a of symbol c, and the lot b of symbol d
abbrev pub town : Sources
town = record {
  grammar = with_rules (nil_of 0 1 c) (nil_of 0 2 d);
  lots = lot_of a c one ∷ lot_of b d one ∷ [];
  mode = Breadth;
}

abbrev pub members : Sources → List Member
members sources = unwrap_or (derive (derivation_of sources) 4) []

-- how many shapes are touched on the way from the town to these
abbrev pub touched_by : Sources → ℕ
touched_by sources = touched_count 4 town sources (members town) (members sources)

pub record TownIsTouched : Type 0 where
  pub nothing : touched_by town ≡ 0
  -- the lot a has another root
  pub grown : touched_by (record town { lots = lot_of a c (of_int (pos 2)) ∷ lot_of b d one ∷ [] }) ≡ 1
  -- only the new root
  pub added : touched_by (record town { lots = town.lots ++ lot_of c d one ∷ [] }) ≡ 1
  pub removed : touched_by (record town { lots = lot_of b d one ∷ [] }) ≡ 0
  -- the root of b is kept, and its symbol has other rules
  pub another_rule : touched_by (record town { grammar = with_rules (nil_of 0 1 c) (nil_of 0 3 d) }) ≡ 1
  -- the root of a is not kept
  pub priority : touched_by (record town { grammar = with_rules (nil_of 5 1 c) (nil_of 0 2 d) }) ≡ 1
  -- nothing is kept
  pub mode : touched_by (record town { mode = Depth }) ≡ 2
