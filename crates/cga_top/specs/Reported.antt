-- What is shown of lots, by the word that asks for it.
use Rattle.std.specs.Prelude.{ℕ, List, [], ◌∷◌, Option, Some, None, is_some, if◌then◌else◌}
use Rattle.cga_city.specs.Lots.{lot_place, names_of}
use Rattle.cga_script.specs.declared.refused.Refused.TheVariants as refused
use Rattle.cga_script.specs.declared.script_command.ScriptCommand.{ScriptCommand}
use Rattle.cga_script.specs.declared.script_command.ScriptCommand.TheVariants as command
use Rattle.cga_shape.specs.declared.edit_refused.EditRefused.TheVariants as cause
use Rattle.cga_top.specs.Effect.{Effect, says}
use Rattle.cga_top.specs.Replies.{model_of, modelled, refuses, text_of}
use Rattle.cga_top.specs.State.{State}
use Rattle.cga_top.specs.declared.report.Report.{Report}
use Rattle.cga_top.specs.declared.report.Report.TheVariants.{Print, Model}

-- the command that asks for it
abbrev pub asks_for : Report → Option (List ℕ) → ScriptCommand
asks_for Print name = command.Print name
asks_for Model name = command.Model name

-- of lots
abbrev pub reported_of : State → Report → List (List ℕ) → Effect
reported_of s Print lots = says s (text_of s lots)
reported_of s Model lots = modelled s (model_of s lots)

-- of the city, or of one lot
abbrev pub reported : State → Report → Option (List ℕ) → Effect
reported s report None = reported_of s report (names_of s.sources.lots)
reported s report (Some name) =
    if is_some (lot_place name s.sources.lots) then reported_of s report (name ∷ [])
    else refuses s (refused.Edit (cause.NoLot name))
