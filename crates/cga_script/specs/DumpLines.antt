-- The lines of a dump, and what they say.
use Rattle.std.specs.Prelude.{◌≡◌, ◌≤◌, ℕ, false, List, [], ◌∷◌, ◌++◌, map, Some, Ok, IsPermutation, codes}
use Rattle.std.specs.List.{All}
use Rattle.cga_syntax.specs.GrammarText.{line as ended}
use Rattle.cga_syntax.specs.Lexemes.{is}
use Rattle.cga_form.specs.BlockTells.{BlockTells}
use Rattle.cga_form.specs.Lines.{Line}
use Rattle.cga_parser.specs.BlockTells.{EndsBlock}
use Rattle.cga_parser.specs.GrammarLines as rules
use Rattle.cga_parser.specs.GrammarLines.{said_of, by_rank}
use Rattle.cga_shape.specs.declared.lot.Lot.{Lot}
use Rattle.cga_shape.specs.declared.sources.Sources.{Sources}
use Rattle.cga_script.specs.declared.city_line.CityLine.{CityLine}
use Rattle.cga_script.specs.declared.city_line.CityLine.TheVariants as line
use Rattle.cga_script.specs.CityLines.{city_pieces, CityTells}
use Rattle.cga_script.specs.Dumps.{order_text, lot_text, dump_text_of, dump_of}

-- what the lines between `city` and `end` say
abbrev pub city_said : Sources → List CityLine
city_said s = line.Order s.mode ∷ (map line.Block (said_of s.grammar) ++ map line.Lot s.lots)

-- the text of a line, without its end
abbrev pub city_text : CityLine → List ℕ
city_text (line.Block b) = rules.line_text b
city_text (line.Order m) = order_text m
city_text (line.Lot l) = lot_text l

-- the text of lines
abbrev pub city_texts : List CityLine → List ℕ
city_texts [] = []
city_texts (c ∷ cs) = ended (city_text c) ++ city_texts cs

-- a line as it is given to a reader
abbrev pub given : CityLine → Line
given c = record { bytes = city_text c; long = false }

-- ---- the dump is read back

-- some line says the lot
abbrev pub IsSaidLot : Lot → Type 0
IsSaidLot l = (x : Line) × BlockTells city_pieces x (Ok (Some (line.Lot l)))

-- no two lots have one name
unfoldable pub Differ : List Lot → Type 0
Differ [] = Unit {0}
Differ (l ∷ ls) = All (λ k. is l.name k.name ≡ false) ls × Differ ls

-- each attribute, each rule and each lot is one that some line says, and lot names differ
pub record IsSpelledCity (s : Sources) : Type 0 where
  pub grammar : rules.IsSpelled s.grammar
  pub lots : All IsSaidLot s.lots
  pub names : Differ s.lots

-- the text is one line, without a control byte, and doesn't end a block
abbrev pub IsInside : CityLine → Type 0
IsInside c = All (λ byte. 32 ≤ byte) (city_text c) × (EndsBlock (given c) → ⊥)

-- the sources with the entries in the order of the dump
abbrev pub in_order : Sources → Sources
in_order s = record { grammar = record { attributes = s.grammar.attributes; rules = by_rank s.grammar.rules }; lots = s.lots; mode = s.mode }

-- The text of the dump is these lines between the first two and `end`. Where there is a dump they tell the sources with
-- the entries in the order of the text, which are the same entries.
pub record IsReadBack (s : Sources) : Type 0 where
  pub text : dump_text_of s ≡ ended (codes "version 2") ++
      (ended (codes "city") ++ (city_texts (city_said s) ++ ended (codes "end")))
  pub inside : All IsInside (city_said s)
  pub told : (text : List ℕ) → dump_of s ≡ Ok text → CityTells (map given (city_said s)) (Ok (in_order s))
  pub same : IsPermutation s.grammar.rules (by_rank s.grammar.rules)
