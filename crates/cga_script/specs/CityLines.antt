-- The lines of a block of a whole city: what each is written as, how it is read, and what they tell together.
use Rattle.std.specs.Prelude.{◌≡◌, ℕ, List, [], ◌∷◌, ◌++◌, map, take, Option, Some, None, Result, codes, if◌then◌else◌}
use Rattle.cga_syntax.specs.Lexemes.{is}
use Rattle.cga_syntax.specs.Pieces.{Pieces}
use Rattle.cga_form.specs.declared.block_fault.BlockFault.{BlockFault}
use Rattle.cga_form.specs.BlockTells as form
use Rattle.cga_form.specs.Lines.{Line}
use Rattle.cga_form.specs.Reader.{Reader, ◌>>=◌, pure, peeked}
use Rattle.cga_form.specs.Tokens.{is_word}
use Rattle.cga_parser.specs.Blocks.{block_pieces, block}
use Rattle.cga_parser.specs.BlockTells.{grammar_of}
use Rattle.cga_parser.specs.BlockTells as rule_lines
use Rattle.cga_parser.specs.Kept.{kept}
use Rattle.cga_parser.specs.declared.block_line.BlockLine.{BlockLine}
use Rattle.cga_shape.specs.declared.lot.Lot.{Lot}
use Rattle.cga_shape.specs.declared.sources.Sources.{Sources}
use Rattle.cga_word.specs.declared.mode.Mode.{Mode}
use Rattle.cga_word.specs.declared.mode.Mode.TheVariants.{Breadth}
use Rattle.cga_script.specs.declared.city_line.CityLine.{CityLine}
use Rattle.cga_script.specs.declared.city_line.CityLine.TheVariants as line
use Rattle.cga_script.specs.declared.city_gathered.CityGathered.{CityGathered}
use Rattle.cga_script.specs.declared.named_lots.TheConstants.{KEPT_LOTS}
use Rattle.cga_script.specs.Lots.{lot_pieces, lot}
use Rattle.cga_script.specs.Orders.{order_pieces, order}

-- ---- one line

-- a line of a block of rules, an order, or a lot
abbrev pub city_pieces : CityLine → Pieces
city_pieces (line.Block b) = block_pieces b
city_pieces (line.Order m) = order_pieces m
city_pieces (line.Lot l) = lot_pieces l

-- where so many brackets may be opened
unfoldable pub city : ℕ → Reader CityLine
city n =
    peeked (is_word (codes "lot")) (lot >>= λ l. pure (line.Lot l))
    (peeked (is_word (codes "order")) (order >>= λ m. pure (line.Order m)) (block n >>= λ b. pure (line.Block b)))

-- ---- all lines

-- what a line says of rules and attributes
abbrev pub rules_part : Option CityLine → Option BlockLine
rules_part (Some (line.Block b)) = Some b
rules_part _ = None

-- a lot in the place of the one of its name, or behind all others
unfoldable pub with_lot : Lot → List Lot → List Lot
with_lot lot [] = lot ∷ []
with_lot lot (l ∷ ls) = if is l.name lot.name then lot ∷ ls else l ∷ with_lot lot ls

-- the lots after some lines, where these stood before
unfoldable pub lots_after : List Lot → List (Option CityLine) → List Lot
lots_after lots [] = lots
lots_after lots (Some (line.Lot l) ∷ all) = lots_after (with_lot l lots) all
lots_after lots (_ ∷ all) = lots_after lots all

-- the mode of the last order, or the one before
unfoldable pub mode_after : Mode → List (Option CityLine) → Mode
mode_after mode [] = mode
mode_after mode (Some (line.Order m) ∷ all) = mode_after m all
mode_after mode (_ ∷ all) = mode_after mode all

-- the grammar of the lines of rules, the lots in the order in which their names came, and the last order's mode
abbrev pub sources_of : List (Option CityLine) → Sources
sources_of all = record { grammar = grammar_of (map rules_part all); lots = lots_after [] all; mode = mode_after Breadth all }

-- the sources that the lines of a block say, or the first faulty line
abbrev pub CityTells : List Line → Result Sources BlockFault → Type 0
CityTells lines told = form.AllTells city_pieces sources_of lines told

-- ---- the reader

-- sources, cut behind the first rule, the first attribute and the first lot that are too many
abbrev pub kept_sources : Sources → Sources
kept_sources s = record { grammar = kept s.grammar; lots = take KEPT_LOTS s.lots; mode = s.mode }

-- as much of what lines say as a reader keeps
abbrev pub kept_of : List (Option CityLine) → Sources
kept_of all = kept_sources (sources_of all)

-- the sources that a reader gives of the lines of a block, or the first faulty line
abbrev pub CityKept : List Line → Result Sources BlockFault → Type 0
CityKept lines given = form.AllTells city_pieces kept_of lines given

-- what is kept of lines of which none is faulty
abbrev pub Holds : CityGathered → List (Option CityLine) → Type 0
Holds g all = rule_lines.Holds g.rules (map rules_part all) × (g.lots ≡ take KEPT_LOTS (lots_after [] all)) × (g.mode ≡ mode_after Breadth all)

-- the lots that are kept after one more line
abbrev pub kept_with : List Lot → Option CityLine → List Lot
kept_with lots (Some (line.Lot l)) = take KEPT_LOTS (with_lot l lots)
kept_with lots _ = lots

-- what a line adds
pub record Adds (old : CityGathered) (said : Option CityLine) (new : CityGathered) : Type 0 where
  pub rules : (all : List (Option BlockLine)) → rule_lines.Holds old.rules all
      → rule_lines.Holds new.rules (all ++ rules_part said ∷ [])
  pub lots : new.lots ≡ kept_with old.lots said
  pub mode : new.mode ≡ mode_after old.mode (said ∷ [])
