-- A dump, read as the lines of a city and set as a whole.
use Rattle.std.specs.Prelude.{◌≡◌, ◌++◌, ℕ, List, map, All, IsTrue, codes, Result, Ok, Err}
use Rattle.cga_syntax.specs.GrammarText.{line as ended}
use Rattle.cga_shape.specs.declared.edit.Edit.TheVariants.{Whole}
use Rattle.cga_shape.specs.declared.edit_refused.EditRefused.{EditRefused}
use Rattle.cga_shape.specs.declared.edit_refused.EditRefused.TheVariants.{NoMemory}
use Rattle.cga_shape.specs.declared.sources.Sources.{Sources}
use Rattle.cga_script.specs.CityLines.{CityTells}
use Rattle.cga_script.specs.DumpLines.{city_said, city_texts, given, in_order, IsInside, IsSpelledCity}
use Rattle.cga_script.specs.Dumps.{dump_of}
use Rattle.cga_city.specs.City.{CityState, EditGives, HasDistinctLots}
use Rattle.cga_city.specs.Derived.{is_within}
use Rattle.cga_city.specs.Inside.{AreSound}
use Rattle.cga_script.specs.Lines.{Line}
use Rattle.cga_top.specs.Replies.{budget_of}
use Rattle.cga_laws.specs.Undos.{state_after}

-- the city has these sources, or memory was wanting
abbrev pub Sets : Sources → Result (Unit {0}) EditRefused → CityState → Type 0
Sets s (Ok u) new = new.sources ≡ s
Sets s (Err refused) new = refused ≡ NoMemory

-- The text is these lines, between which none is `end`. They tell one thing, the sources with the rules in the order of
-- the text; set as a whole, that gives the sources back, in every city of the budget.
pub record IsSetBack (s : Sources) (budget : ℕ) (text : List ℕ) : Type 0 where
  pub lines : text ≡ ended (codes "version 2") ++
      (ended (codes "city") ++ (city_texts (city_said s) ++ ended (codes "end")))
  pub inside : All IsInside (city_said s)
  pub told : CityTells (map given (city_said s)) (Ok (in_order s))
  pub only : (t : Sources) → CityTells (map given (city_said s)) (Ok t) → t ≡ in_order s
  pub distinct : HasDistinctLots (Whole (in_order s))
  pub set : (old new : CityState) (result : Result (Unit {0}) EditRefused) (before after : ℕ) → old.budget ≡ budget
      → EditGives old (Whole (in_order s)) result new before after → Sets s result new

-- of a dump of what a city has, where lines say each attribute, rule and lot
abbrev pub DumpsAreSetBack : Type 0
DumpsAreSetBack =
    (s : Sources) (budget : ℕ) (text : List ℕ) → IsSpelledCity s → AreSound s → IsTrue (is_within budget s)
    → dump_of s ≡ Ok text
    → IsSetBack s budget text

-- whatever lines came, by `put`, by blocks or by undos, lines say each attribute, rule and lot of the sources
abbrev pub StatesAreSpelled : Type 0
StatesAreSpelled = (decimals : ℕ) (lines : List Line) → IsSpelledCity (state_after decimals lines).sources

-- so each dump of a script is set back, in every city of its budget
abbrev pub ScriptsAreSetBack : Type 0
ScriptsAreSetBack =
    (decimals : ℕ) (lines : List Line) (text : List ℕ)
    → let s = state_after decimals lines in dump_of s.sources ≡ Ok text → IsSetBack s.sources (budget_of s.version) text
