-- What a script has come to.
use Rattle.std.specs.Prelude.{ℕ, List, Bool, true, false, Option, None}
use Rattle.cga_asset.specs.Wardrobe.{WardrobeView, empty}
use Rattle.cga_form.specs.Lines.{Line}
use Rattle.cga_shape.specs.declared.sources.Sources.{Sources}
use Rattle.cga_city.specs.City.{empty_sources}
use Rattle.cga_script.specs.declared.version.Version.{Version}
use Rattle.cga_script.specs.declared.version.Version.TheVariants.{One}
use Rattle.cga_undo.specs.History.{Kept, nothing}

-- a block that is open: its kind, and the lines that it has so far
pub data Block : Type 0 where
  of_rules : List Line → Block
  of_city : List Line → Block
  -- of this name
  of_asset : List ℕ → List Line → Block
  -- of a trace that is to be judged
  of_judge : List Line → Block

pub record State : Type 0 where
  -- the decimals of what is printed, which the words give and no line changes
  pub decimals : ℕ
  -- only blank lines came
  pub fresh : Bool
  pub version : Version
  pub sources : Sources
  pub block : Option Block
  -- `quiet` was given
  pub quiet : Bool
  -- assets, and the symbols that they dress
  pub wardrobe : WardrobeView
  -- the past and the future
  pub kept : Kept
  -- how many shapes the last accepted edit touched
  pub number : ℕ

-- before the first line
abbrev pub start : ℕ → State
start decimals = record {
  decimals = decimals;
  fresh = true;
  version = One;
  sources = empty_sources;
  block = None;
  quiet = false;
  wardrobe = empty;
  kept = nothing;
  number = 0;
}
