use Rattle.std.proofs.Common.{◌++◌, ap, ◌∙◌}
use Rattle.std.specs.Prelude.{bytes_eq}
use Rattle.cga_trace.specs.Text.{header}
use Rattle.cga_trace.proofs.Judging.{head_told}
use Rattle.cga_trace.proofs.judge_reader.JudgeReader.is_headed.Goals as goal

pub returns : goal.returns
returns c = λ lines read.
    let text = c.as_slice-2.ensures ∙ (c.into_list.ensures ∙ (c.in_ok-push_header.ensures ∙ ap (λ t. t ++ header c.args.steps) c.new-text.ensures)) in
    c.eq.ensures ∙ (ap (λ t. bytes_eq t c.as_slice-3.result.now) text ∙ (ap (bytes_eq (header c.args.steps)) c.as_slice-3.ensures ∙ head_told c.args.self.now c.args.steps lines read c.in-Some.first c.in-Some.is))
