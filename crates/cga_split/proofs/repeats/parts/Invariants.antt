use Rattle.std.proofs.Common.{◌≡◌, ◌-◌}
use Rattle.cga_fraction.specs.Results.{onto}
use Rattle.cga_split.specs.Repeat.{repeats_from}
use Rattle.cga_split.specs.Split.{part_at}
use Rattle.cga_split.proofs.repeats.parts.Given as goal

abbrev pub invariant-loop-number : goal.invariant-loop-number
invariant-loop-number l = onto l.made (repeats_from (part_at l.scope l.axis) l.step l.number (l.count - l.number)) ≡ repeats_from (part_at l.scope l.axis) l.step 0 l.count
