-- Steps that a solid is refused at.
use Rattle.std.specs.Prelude.{Result}
use Rattle.cga_fraction.specs.Rat.{Rat}
use Rattle.cga_fraction.specs.Refusals.{checked}
use Rattle.cga_fraction.specs.Results.{or_err}
use Rattle.cga_solid.specs.declared.solid_fault.SolidFault.{SolidFault}
use Rattle.cga_solid.specs.declared.solid_fault.SolidFault.TheVariants.{Overflow}

-- a number, where it is in range
abbrev pub within : Rat → Result Rat SolidFault
within a = or_err Overflow (checked a)
