use Rattle.std.proofs.Common.{ap, ◌∙◌}
use Rattle.std.proofs.lemmas.Result.{IfOk-weaker}
use Rattle.cga_trace.specs.Text.{trace_text_of}
use Rattle.cga_top.proofs.traces.trace.Goals as goal

pub returns : goal.returns
returns c = λ s at.
    IfOk-weaker c.trace_text.result _ _ (λ text is. is ∙ ap trace_text_of (c.as_slice.ensures ∙ c.in_ok-run.ensures.value s at)) c.trace_text.ensures
