use Rattle.std.proofs.Common.{◌≡◌, ◌++◌, take}
use Rattle.std.specs.Prelude.{codes, flat_map}
use Rattle.cga_trace.specs.Text.{step_text}
use Rattle.cga_trace.proofs.text.push_lines.Given as goal

abbrev pub invariant-loop-step : goal.invariant-loop-step
invariant-loop-step l = l.text ≡ l.fn.text ++ flat_map (λ step. step_text step ++ codes "\n") (take l.step-index l.steps)
