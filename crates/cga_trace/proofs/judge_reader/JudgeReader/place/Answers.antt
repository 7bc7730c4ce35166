use Rattle.std.proofs.Common.{◌≡◌, ◌+◌, length, cond, Some, None, sym, ap, ◌∙◌, subst, arith}
use Rattle.cga_trace.specs.JudgeLines.{AgreeBefore}
use Rattle.cga_trace.proofs.Judging.{all_there, wrong_there}
use Rattle.cga_trace.proofs.judge_reader.JudgeReader.place.Goals as goal

pub returns-in-Some : goal.returns-in-Some
returns-in-Some c = λ lines read run fields few headed agree.
    let there = wrong_there c.args.self.now lines read run fields few headed c.in-Some.place (subst (AgreeBefore run c.args.self.now.steps) c.in-Some.is agree) in
    let is : c.saturating_add.result ≡ c.in-Some.place + 1 = omega (arith, c.saturating_add.ensures, there.0) in
    ap Some is ∙ sym there.1

pub returns-in-None : goal.returns-in-None
returns-in-None c = λ lines read run fields few headed agree.
    let there = all_there c.args.self.now lines read run fields few headed (subst (AgreeBefore run c.args.self.now.steps) c.in-None.is agree) in
    let is : c.min.result + 2 ≡ length c.args.self.now.steps + 2 = omega (arith, c.min.ensures, c.len.ensures, there.0) in
    ap Some is ∙ sym (there.1 ∙ ap (λ b. cond b (Some (length c.args.self.now.steps + 2)) None) c.if-self.true)

pub returns-in-None-2 : goal.returns-in-None-2
returns-in-None-2 c = λ lines read run fields few headed agree.
    let there = all_there c.args.self.now lines read run fields few headed (subst (AgreeBefore run c.args.self.now.steps) c.in-None-2.is agree) in
    sym (there.1 ∙ ap (λ b. cond b (Some (length c.args.self.now.steps + 2)) None) c.if-self.false)
