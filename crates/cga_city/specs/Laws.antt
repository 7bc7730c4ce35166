-- What is proved of edits.
use Rattle.std.specs.Prelude.{◌≡◌, ℕ, List, Ok, IsTrue, IsPermutation}
use Rattle.cga_rule.specs.declared.grammar.Entry.{Entry}
use Rattle.cga_shape.specs.declared.edit.Edit.TheVariants.{Whole}
use Rattle.cga_shape.specs.declared.sources.Sources.{Sources}
use Rattle.cga_city.specs.Apply.{apply}
use Rattle.cga_city.specs.Derived.{is_within}
use Rattle.cga_city.specs.Inside.{AreSound}

-- the sources with these rules
abbrev pub with_entries : Sources → List Entry → Sources
with_entries s rules = record { grammar = record { attributes = s.grammar.attributes; rules = rules }; lots = s.lots; mode = s.mode }

-- Sources that a city may have are accepted whole, whatever the order of their rules, in every city of the same budget,
-- and the city then has just these sources, the rules by rising id.
abbrev pub WholeSetsThem : Type 0
WholeSetsThem =
    (old s : Sources) (rules : List Entry) (budget : ℕ) → AreSound s → IsTrue (is_within budget s) → IsPermutation s.grammar.rules rules
    → apply old (Whole (with_entries s rules)) budget ≡ Ok s
