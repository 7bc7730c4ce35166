-- Sources, edits and commands that lines write.
use Rattle.std.specs.Prelude.{bytes_eq}
use Rattle.cga_shape.specs.declared.edit.Edit.{Edit}
use Rattle.cga_shape.specs.declared.edit.Edit.TheVariants.{Rules, Put, Drop, SetAttribute, SetPriority, SetLot, Unlot, SetOrder, Whole}
use Rattle.cga_shape.specs.declared.sources.Sources.{Sources}
use Rattle.cga_syntax.specs.GrammarText.{ArePrintable}
use Rattle.cga_syntax.specs.Pieces.{rule_pieces}
use Rattle.cga_syntax.specs.Printing.{printed, HaveTexts}
use Rattle.std.specs.List.{IsDistinct}
use Rattle.cga_city.specs.Lots.{names_of}
use Rattle.cga_script.specs.declared.script_command.ScriptCommand.{ScriptCommand}
use Rattle.cga_script.specs.declared.script_command.ScriptCommand.TheVariants.{Change}

-- the rules can be printed, and lot names differ
pub record AreWritten (s : Sources) : Type 0 where
  pub printable : ArePrintable s.grammar.rules
  pub names : IsDistinct bytes_eq (names_of s.lots)

-- what an edit brings can be printed
abbrev pub IsWritten : Edit → Type 0
IsWritten (Rules grammar) = ArePrintable grammar.rules
IsWritten (Put priority rule) = HaveTexts (printed (rule_pieces rule))
IsWritten (Drop id) = Unit {0}
IsWritten (SetAttribute name value) = Unit {0}
IsWritten (SetPriority symbol priority) = Unit {0}
IsWritten (SetLot lot) = Unit {0}
IsWritten (Unlot name) = Unit {0}
IsWritten (SetOrder mode) = Unit {0}
IsWritten (Whole sources) = AreWritten sources

-- the edit that a command asks for is such
abbrev pub AsksWritten : ScriptCommand → Type 0
AsksWritten (Change edit) = IsWritten edit
AsksWritten _ = Unit {0}
