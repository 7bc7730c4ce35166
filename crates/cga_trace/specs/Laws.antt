-- What is proved of texts.
use Rattle.std.specs.Prelude.{◌≡◌}
use Rattle.cga_shape.specs.declared.trace_step.TraceStep.{TraceStep}
use Rattle.cga_trace.specs.Text.{IsStep, step_text}

-- no two steps have one text
abbrev pub TextTellsStep : Type 0
TextTellsStep = (s t : TraceStep) → IsStep s → IsStep t → step_text s ≡ step_text t → s ≡ t
