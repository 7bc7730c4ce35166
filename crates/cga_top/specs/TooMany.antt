-- What a block with too many rules, attributes or lots is replied to, of which one too many is kept.
use Rattle.std.specs.Prelude.{◌≡◌, ℕ, Result}
use Rattle.cga_check.specs.Faults.{check_fault}
use Rattle.cga_city.specs.Apply.{apply}
use Rattle.cga_form.specs.declared.block_fault.BlockFault.{BlockFault}
use Rattle.cga_parser.specs.Kept.{kept}
use Rattle.cga_rule.specs.declared.grammar.Grammar.{Grammar}
use Rattle.cga_script.specs.CityLines.{kept_sources}
use Rattle.cga_shape.specs.declared.edit.Edit.{Edit}
use Rattle.cga_shape.specs.declared.edit.Edit.TheVariants.{Rules, Whole}
use Rattle.cga_shape.specs.declared.sources.Sources.{Sources}
use Rattle.cga_top.specs.Replies.{closed}
use Rattle.cga_top.specs.State.{State}

-- what is kept of a grammar has the fault of the whole
abbrev pub FaultIsSame : Grammar → Type 0
FaultIsSame g = check_fault (kept g) ≡ check_fault g

-- set as rules, what is kept of a grammar gives what the whole gives
abbrev pub RulesGiveSame : Sources → ℕ → Grammar → Type 0
RulesGiveSame s budget g = apply s (Rules (kept g)) budget ≡ apply s (Rules g) budget

-- likewise of a city
abbrev pub CityGivesSame : Sources → ℕ → Sources → Type 0
CityGivesSame s budget other = apply s (Whole (kept_sources other)) budget ≡ apply s (Whole other) budget

-- in each state the edit that was made of a block does what the one that its lines tell does
abbrev pub DoesAs : Result Edit BlockFault → Result Edit BlockFault → Type 0
DoesAs told made = (s : State) → closed s made ≡ closed s told
