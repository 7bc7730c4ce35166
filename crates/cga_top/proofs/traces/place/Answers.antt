use Rattle.std.proofs.Common.{◌≡◌, ◌+◌, ◌≤◌, true, length, Some, sym, ap, ◌∙◌, subst, arith}
use Rattle.cga_city.specs.Derived.{derived}
use Rattle.cga_city.proofs.Door.{sound_valid}
use Rattle.cga_trace.proofs.Door.{wrong_there}
use Rattle.cga_judge.specs.Judged.{IsJudged}
use Rattle.cga_judge.specs.declared.limits.TheConstants.{MOST_SHAPES}
use Rattle.cga_trace.specs.Judged.{is_headed}
use Rattle.cga_trace.specs.JudgeLines.{AgreeBefore}
use Rattle.cga_trace.specs.Text.{AreSteps}
use Rattle.cga_top.specs.Replies.{run_of}
use Rattle.cga_top.proofs.CityRuns.{read_few, spent_accepted, spent_there, state_few, state_run_of, most_fit}
use Rattle.cga_top.proofs.traces.place.Goals as goal

pub judge-requires : goal.judge-requires
unfolding derived
judge-requires g c =
    let x = c.sources-sources.result.now in
    let valid = sound_valid x c.sources-sources.ensures.sound in record {
      names = valid.names;
      roots = valid.roots;
      within = most_fit x c.args.session.now.city.budget MOST_SHAPES c.sources-sources.ensures.sound c.sources-sources.ensures.within c.requires.few;
    }

pub returns-in-Accepted : goal.returns-in-Accepted
returns-in-Accepted g c = λ s lines at read.
    let reader = c.args.reader.now in
    let session = c.args.session.now in
    let x = c.sources-sources.result.now in
    let is_run = c.in_ok-run.ensures.value s at in
    let judged_run = subst (IsJudged x c.steps.result.now) c.in-Accepted.is c.in_ok-judge.ensures.value in
    let told : c.steps.result.now ≡ run_of s = state_run_of s session at x c.sources-sources.ensures.value c.sources-sources.ensures.sound c.sources-sources.ensures.within c.steps.result.now judged_run in
    let same : reader.steps ≡ run_of s = sym c.steps.ensures ∙ told in
    let fields = subst AreSteps is_run c.in_ok-run.ensures.fields in
    let few = state_few s session at x c.sources-sources.ensures.value c.sources-sources.ensures.sound c.sources-sources.ensures.within c.requires.few in
    let long : c.len.result ≡ length (run_of s) = c.len.ensures ∙ ap length is_run in
    let headed = subst (λ n. is_headed n lines ≡ true) long (sym (c.in_ok-is_headed.ensures lines read) ∙ c.if-not-branch.false) in
    let there = c.place.ensures lines read (run_of s) fields (omega (arith, few)) headed (sym same) in
    let spent = c.in_ok-judge.ensures.accepted c.in-Accepted.is in
    let spent_is : c.judge.new.expansions ≡ c.args.expansions.now + length (run_of s) = spent ∙ ap (λ l. c.args.expansions.now + length l) told in
    let short : length (run_of s) ≤ length lines = subst (λ l. length l ≤ length lines) same (read_few reader lines read) in
    (there, spent_accepted c.place.result (length (run_of s)) (length lines) c.args.expansions.now c.judge.new.expansions spent_is short)

pub returns : goal.returns
returns g c = λ s lines at read.
    let reader = c.args.reader.now in
    let session = c.args.session.now in
    let x = c.sources-sources.result.now in
    let steps = c.steps.result.now in
    let wrong = c.in-Rejected.wrong in
    let is_run = c.in_ok-run.ensures.value s at in
    let found = subst (IsJudged x steps) c.in-Rejected.is c.in_ok-judge.ensures.value in
    let told : found.0 ≡ run_of s = state_run_of s session at x c.sources-sources.ensures.value c.sources-sources.ensures.sound c.sources-sources.ensures.within found.0 found.1 in
    let agree = subst (λ l. AgreeBefore (run_of s) l (Some wrong)) c.steps.ensures (subst (λ r. AgreeBefore r steps (Some wrong)) told found.2) in
    let fields = subst AreSteps is_run c.in_ok-run.ensures.fields in
    let few = state_few s session at x c.sources-sources.ensures.value c.sources-sources.ensures.sound c.sources-sources.ensures.within c.requires.few in
    let long : c.len.result ≡ length (run_of s) = c.len.ensures ∙ ap length is_run in
    let headed = subst (λ n. is_headed n lines ≡ true) long (sym (c.in_ok-is_headed.ensures lines read) ∙ c.if-not-branch.false) in
    let there = c.place-in-Rejected.ensures lines read (run_of s) fields (omega (arith, few)) headed agree in
    let some = wrong_there reader lines read (run_of s) fields (omega (arith, few)) headed wrong agree in
    let short : length steps ≤ length lines = subst (λ l. length l ≤ length lines) (sym c.steps.ensures) (read_few reader lines read) in
    let most : c.judge.new.expansions ≤ c.args.expansions.now + length lines = omega (arith, short, c.in_ok-judge.ensures.most) in
    (there, spent_there c.place-in-Rejected.result (wrong + 1) (length (run_of s)) (length lines) c.args.expansions.now c.judge.new.expansions (there ∙ some.1) c.in_ok-judge.ensures.counted most)
