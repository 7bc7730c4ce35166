-- What holds of all states that lines come to: the sources, and those that are kept, go through whole.
use Rattle.std.proofs.Common.{◌≡◌, ℕ, List, true, Option, Some, None, Ok, ap}
use Rattle.std.specs.Prelude.{is_some}
use Rattle.cga_city.proofs.Door.{applied_sound, empty_derived, empty_sound, whole_applied}
use Rattle.cga_city.specs.Apply.{apply}
use Rattle.cga_city.specs.City.{HasDistinctLots, empty_sources}
use Rattle.cga_city.specs.Derived.{is_within}
use Rattle.cga_city.specs.Inside.{AreSound}
use Rattle.cga_script.specs.Commands.{CommandTells}
use Rattle.cga_script.specs.Lines.{Line}
use Rattle.cga_script.specs.declared.script_command.ScriptCommand.TheVariants.{Change}
use Rattle.cga_script.specs.declared.version.Version.{Version}
use Rattle.cga_shape.specs.declared.edit.Edit.{Edit}
use Rattle.cga_shape.specs.declared.sources.Sources.{Sources}
use Rattle.cga_top.proofs.Door.{asks_written, city_written, distinct}
use Rattle.cga_top.specs.Replies.{budget_of}
use Rattle.cga_top.specs.State.{State}
use Rattle.cga_undo.specs.History.{Step, undone, redone}
use Rattle.cga_laws.specs.Undos.{state_after, GoesThrough, StatesAreWithin, UndosGoThrough, RedosGoThrough}
use Rattle.cga_laws.proofs.Kept.{AreKept, IsSettled, states_settled, TakesSuch, undone_such, redone_such}

-- sources that go through
pub record CanBeSet (budget : ℕ) (s : Sources) : Type 0 where
  pub sound : AreSound s
  pub fits : is_within budget s ≡ true

empty_can : (budget : ℕ) → CanBeSet budget empty_sources
empty_can budget = record { sound = empty_sound; fits = ap is_some (empty_derived budget) }

done_can : (budget : ℕ) (s new : Sources) (e : Edit) → CanBeSet budget s → HasDistinctLots e → apply s e budget ≡ Ok new
    → CanBeSet budget new
done_can budget s new e can apart made =
    let (sound, fits) = applied_sound s new e budget can.sound apart made in record { sound = sound; fits = fits }

asked_apart : (version : Version) (line : Line) (e : Edit) → CommandTells version line (Ok (Change e))
    → HasDistinctLots e
asked_apart version line e tells = distinct e (asks_written version line (Change e) tells)

pub can_be_kept : AreKept CanBeSet HasDistinctLots
can_be_kept = record {
  nothing = empty_can;
  done = done_can;
  again = λ budget s can. can.sound.names;
  command = asked_apart;
  rules = λ lines g tells. tt;
  city = λ lines s tells. (city_written lines s tells).names;
}

pub settled : (decimals : ℕ) (lines : List Line)
    → IsSettled CanBeSet HasDistinctLots can_be_kept (state_after decimals lines)
settled = states_settled CanBeSet HasDistinctLots can_be_kept

passes : (s : State) (o : Option Step) → TakesSuch (CanBeSet (budget_of s.version)) o → GoesThrough s o
passes s None h = tt
passes s (Some step) h = whole_applied s.sources step.taken (budget_of s.version) h.sound h.fits

pub states_are_within : StatesAreWithin
states_are_within decimals lines = let is = settled decimals lines in (is.now.sound, is.now.fits)

pub undos_go_through : UndosGoThrough
undos_go_through decimals lines =
    let s = state_after decimals lines in
    passes s (undone s.kept s.sources) (undone_such CanBeSet HasDistinctLots can_be_kept s (settled decimals lines))

pub redos_go_through : RedosGoThrough
redos_go_through decimals lines =
    let s = state_after decimals lines in
    passes s (redone s.kept s.sources) (redone_such CanBeSet HasDistinctLots can_be_kept s (settled decimals lines))
