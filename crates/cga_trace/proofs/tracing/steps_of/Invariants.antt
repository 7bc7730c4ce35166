use Rattle.std.proofs.Common.{take}
use Rattle.std.specs.List.{AllZip}
use Rattle.cga_trace.specs.Order.{IsStepOf}
use Rattle.cga_trace.specs.Text.{AreSteps}
use Rattle.cga_trace.proofs.tracing.steps_of.Given as goal

abbrev pub invariant-loop-turn : goal.invariant-loop-turn
invariant-loop-turn l = record {
  steps : AllZip (IsStepOf l.forest) (take l.turn-index l.turns) l.steps.items;
  fields : AreSteps l.steps.items;
}
