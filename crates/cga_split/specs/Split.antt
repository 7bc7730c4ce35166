-- Splits of a scope along an axis.
use Rattle.std.specs.Prelude.{List, Result}
use Rattle.cga_fraction.specs.Rat.{Rat}
use Rattle.cga_word.specs.declared.axis.Axis.{Axis}
use Rattle.cga_frame.specs.Points.{coordinate}
use Rattle.cga_frame.specs.Scope.{Scope, existing, part_of}
use Rattle.cga_fraction.specs.Results.{or_err}
use Rattle.cga_split.specs.Subdiv.{subdivided}
use Rattle.cga_split.specs.Repeat.{repeated}
use Rattle.cga_split.specs.declared.part_size.PartSize.{PartSize}
use Rattle.cga_split.specs.declared.split_fault.SplitFault.{SplitFault}
use Rattle.cga_split.specs.declared.split_fault.SplitFault.TheVariants.{Overflow}

-- the part from a place on, where it exists
abbrev pub part_at : Scope → Axis → Rat → Rat → Result Scope SplitFault
part_at s axis from length = or_err Overflow (existing (part_of s axis from length))

-- the parts of Subdiv, or the first fault
abbrev pub subdiv_of : Scope → Axis → List PartSize → Result (List Scope) SplitFault
subdiv_of s axis sizes = subdivided (part_at s axis) (coordinate s.size axis) sizes

-- the parts of Repeat, or the first fault
abbrev pub repeat_of : Scope → Axis → Rat → Result (List Scope) SplitFault
repeat_of s axis length = repeated (part_at s axis) (coordinate s.size axis) length
