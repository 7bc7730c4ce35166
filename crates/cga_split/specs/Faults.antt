-- Steps that a split is refused at.
use Rattle.std.specs.Prelude.{Result}
use Rattle.cga_fraction.specs.Rat.{Rat}
use Rattle.cga_fraction.specs.Refusals.{checked}
use Rattle.cga_fraction.specs.Results.{or_err}
use Rattle.cga_split.specs.declared.split_fault.SplitFault.{SplitFault}
use Rattle.cga_split.specs.declared.split_fault.SplitFault.TheVariants.{Overflow}

-- a number, where it is in range
abbrev pub within : Rat → Result Rat SplitFault
within a = or_err Overflow (checked a)
