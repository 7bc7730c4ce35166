-- Which lines of a block were read.
use Rattle.std.specs.Prelude.{List}
use Rattle.cga_asset.specs.Reader as asset
use Rattle.cga_asset.specs.declared.reader.AssetReader.{AssetReader}
use Rattle.cga_form.specs.BlockTells.{StandsFor}
use Rattle.cga_form.specs.Lines.{Line}
use Rattle.cga_form.specs.declared.block_reader.BlockReader.{BlockReader}
use Rattle.cga_parser.specs.Blocks.{block_pieces}
use Rattle.cga_parser.specs.BlockTells.{Holds}
use Rattle.cga_parser.specs.declared.gathered.Gathered.{Gathered}
use Rattle.cga_trace.specs.JudgeLines as trace
use Rattle.cga_trace.specs.declared.judge_reader.JudgeReader.{JudgeReader}
use Rattle.cga_script.specs.CityLines as city
use Rattle.cga_script.specs.declared.city_gathered.CityGathered.{CityGathered}

abbrev pub RulesRead : BlockReader Gathered → List Line → Type 0
RulesRead reader lines = StandsFor block_pieces Holds reader lines

abbrev pub SourcesRead : BlockReader CityGathered → List Line → Type 0
SourcesRead reader lines = StandsFor city.city_pieces city.Holds reader lines

abbrev pub AssetRead : AssetReader → List Line → Type 0
AssetRead reader lines = asset.StandsFor reader lines

abbrev pub TraceRead : JudgeReader → List Line → Type 0
TraceRead reader lines = trace.IsRead reader lines
