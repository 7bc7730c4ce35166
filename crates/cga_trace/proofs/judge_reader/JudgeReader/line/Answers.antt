use Rattle.std.proofs.Common.{◌≡◌, ◌++◌, ◌∷◌, [], refl, sym, ◌∙◌, subst, inl, inr, false}
use Rattle.std.specs.Prelude.{IfSome, IsSome}
use Rattle.cga_form.specs.Lines.{Line}
use Rattle.cga_shape.specs.declared.trace_step.TraceStep.{TraceStep}
use Rattle.cga_trace.specs.Text.{IsStep, step_text}
use Rattle.cga_trace.specs.JudgeLines.{AreRead}
use Rattle.cga_trace.proofs.Judging.{further, read_none_more, read_over_more, read_step_more, some_first}
use Rattle.cga_trace.proofs.judge_reader.JudgeReader.line.Goals as goal

pub returns-then-self : goal.returns-then-self
returns-then-self c = λ lines read.
    let reader = c.args.self.now in
    let line : Line = record { bytes = c.args.line.now; long = c.args.long } in
    let first = some_first reader.first c.if-is_none.ensures in
    further reader _ line lines read first.0 first.1 refl (λ ls are.
    subst (λ b. AreRead reader.steps b (ls ++ line ∷ [])) (sym c.if-self.true)
    (read_over_more reader.steps ls line (subst (λ b. AreRead reader.steps b ls) c.if-self.true are)))

pub returns-in_ok-push-in-Some : goal.returns-in_ok-push-in-Some
returns-in_ok-push-in-Some c = λ lines read.
    let reader = c.args.self.now in
    let line : Line = record { bytes = c.args.line.now; long = c.args.long } in
    let first = some_first reader.first c.if-is_none.ensures in
    let found = subst (λ o. IfSome o (λ (s : TraceStep). (c.is_long-long.result ≡ false) × (c.args.line.now ≡ step_text s) × IsStep s)) c.in-Some.is c.in_ok-step.ensures.found in
    let few = c.in_ok-step.ensures.few (subst IsSome (sym c.in-Some.is) refl) in
    further reader _ line lines read first.0 first.1 refl (λ ls are.
    subst (λ b. AreRead c.push.new.self b (ls ++ line ∷ [])) (sym c.if-self.false)
    (subst (λ steps. AreRead steps false (ls ++ line ∷ [])) (sym c.in_ok-push-in-Some.ensures.ok)
    (read_step_more reader.steps ls line c.in-Some.step (subst (λ b. AreRead reader.steps b ls) c.if-self.false are) few (record { short = sym c.is_long-long.ensures ∙ found.0; text = found.1; known = found.2 }))))

pub returns-in-None : goal.returns-in-None
returns-in-None c = λ lines read.
    let reader = c.args.self.now in
    let line : Line = record { bytes = c.args.line.now; long = c.args.long } in
    let first = some_first reader.first c.if-is_none.ensures in
    further reader _ line lines read first.0 first.1 refl (λ ls are.
    read_none_more reader.steps ls line (subst (λ b. AreRead reader.steps b ls) c.if-self.false are)
    (elim (c.in_ok-step.ensures.none c.in-None.is) [
      | inl none ↦ inl (λ step is. none step (c.is_long-long.ensures ∙ is.short) is.text is.known)
      | inr enough ↦ inr enough
    ]))
