use Rattle.std.proofs.Common.{◌++◌, length, refl, ap, ◌∙◌}
use Rattle.cga_trace.specs.Text.{header}
use Rattle.cga_trace.proofs.TraceLines.{whole}
use Rattle.cga_trace.proofs.text.trace_text.Goals as goal

pub returns : goal.returns
returns c =
    let steps = c.args.steps.now in
    c.into_list.ensures ∙ whole steps (length steps) _ _ _ refl (c.in_ok-push_header.ensures ∙ ap (λ t. t ++ header (length steps)) c.new-text.ensures) c.in_ok-push_byte.ensures c.in_ok-push_lines.ensures
