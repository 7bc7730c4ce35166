use Rattle.std.proofs.Common.{◌∙◌, ◌+◌, ◌<◌, ◌≤◌, length, refl, sym, subst, arith}
use Rattle.cga_agenda.specs.Loop.{HasCalled}
use Rattle.cga_update.specs.Reworked.{HasEnded}
use Rattle.cga_update.specs.Updates.{IsExact}
use Rattle.cga_update.proofs.Reworking as proof
use Rattle.cga_update.proofs.Results.{done, given_up_within, refused}
use Rattle.cga_agenda.specs.declared.ended.Ended.TheVariants.{OverBudget, Within}
use Rattle.cga_update.proofs.rework.rework.Goals as goal

pub returns-then-len-renewal : goal.returns-then-len-renewal
returns-then-len-renewal g c =
    let more : c.args.renewal.budget < length c.args.renewal.new.now.lots = omega (arith, c.if-len-renewal.true, c.len.ensures) in
    refused c.args.renewal c.args.kept.now c.args.kept.now c.args.changes.now c.args.changes.now c.args.expansions.now c.args.expansions.now (omega arith) (omega arith)
    (proof.lots_over c.args.renewal.new.now c.args.renewal.names c.args.renewal.roots c.args.renewal.budget more) (record { stands = c.requires.stands; nodes = λ k. refl }) refl refl

pub done-requires-clause-logged : goal.done-requires-clause-logged
done-requires-clause-logged g c =
    (c.in-Ok-Within.ensures.ended c.args.renewal.old.now c.args.renewal.new.now c.args.kept.now.forest c.in_ok-under_way.ensures.sources c.in_ok-under_way.ensures.begun).1.logged

pub done-requires-clause-listed : goal.done-requires-clause-listed
done-requires-clause-listed g c =
    let e = c.in-Ok-Within.ensures.ended c.args.renewal.old.now c.args.renewal.new.now c.args.kept.now.forest c.in_ok-under_way.ensures.sources c.in_ok-under_way.ensures.begun in
    proof.listed c.args.renewal.old.now c.args.renewal.new.now c.requires.mode c.args.renewal.old_names c.args.renewal.names c.args.kept.now c.requires.stands
    c.in_ok-under_way.under_way c.work_off.new.under_way c.in_ok-under_way.under_way.renewal.budget c.args.expansions.now c.work_off.new.expansions c.in_ok-under_way.ensures.sources c.work_off.ensures.bounds c.in_ok-under_way.ensures.mark _ e
    c.begin_work.new.kept.dependents c.begin_work.ensures.dependents

pub returns-in-Err : goal.returns-in-Err
returns-in-Err g c =
    let most = subst (λ b. c.work_off.new.expansions ≤ c.args.expansions.now + (b + 1)) c.in_ok-under_way.ensures.budget c.work_off.ensures.most in
    given_up_within c.args.renewal c.args.kept.now c.begin_work.new.kept c.args.changes.now c.args.changes.now c.args.expansions.now c.work_off.new.expansions c.work_off.ensures.counted most _ refl

pub returns-in_err-done-in-Ok-Within : goal.returns-in_err-done-in-Ok-Within
returns-in_err-done-in-Ok-Within g c =
    let most = subst (λ b. c.work_off.new.expansions ≤ c.args.expansions.now + (b + 1)) c.in_ok-under_way.ensures.budget c.work_off.ensures.most in
    given_up_within c.args.renewal c.args.kept.now c.done.new.kept c.args.changes.now c.done.new.changes c.args.expansions.now c.work_off.new.expansions c.work_off.ensures.counted most _ c.from_residual-in_err-done-in-Ok-Within.ensures.1

pub returns-in_ok-done-in-Ok-Within : goal.returns-in_ok-done-in-Ok-Within
returns-in_ok-done-in-Ok-Within g c =
    let most = subst (λ b. c.work_off.new.expansions ≤ c.args.expansions.now + (b + 1)) c.in_ok-under_way.ensures.budget c.work_off.ensures.most in
    let e = c.in-Ok-Within.ensures.ended c.args.renewal.old.now c.args.renewal.new.now c.args.kept.now.forest c.in_ok-under_way.ensures.sources c.in_ok-under_way.ensures.begun in
    let own = subst (λ x. HasEnded c.args.renewal.old.now c.args.renewal.new.now c.args.kept.now.forest c.work_off.new.under_way c.in_ok-under_way.under_way.renewal.budget c.args.expansions.now c.work_off.new.expansions x) c.in-Ok-Within.field-0-is e in
    let ended = subst (λ b. HasEnded c.args.renewal.old.now c.args.renewal.new.now c.args.kept.now.forest c.work_off.new.under_way b c.args.expansions.now c.work_off.new.expansions (Within c.in-Ok-Within.touched)) c.in_ok-under_way.ensures.budget own in
    let called = subst (λ x. HasCalled c.args.expansions.now c.work_off.new.expansions x) c.in-Ok-Within.field-0-is c.in-Ok-Within.ensures.called in
    done c.args.renewal c.args.kept.now c.done.new.kept c.args.changes.now c.done.new.changes c.args.expansions.now c.work_off.new.expansions c.work_off.ensures.counted most _
    (proof.settled c.args.renewal.old.now c.args.renewal.new.now c.requires.mode c.args.renewal.old_names c.args.renewal.names c.args.kept.now c.requires.stands
    c.in_ok-under_way.under_way c.work_off.new.under_way c.args.renewal.budget c.args.expansions.now c.work_off.new.expansions c.in_ok-under_way.ensures.sources c.work_off.ensures.bounds c.in_ok-under_way.ensures.mark c.in-Ok-Within.touched ended
    c.done.new.kept.forest c.done.new.kept.dependents c.in_ok-done-in-Ok-Within.ensures.nodes c.in_ok-done-in-Ok-Within.ensures.unmarked c.in_ok-done-in-Ok-Within.ensures.mode c.in_ok-done-in-Ok-Within.ensures.listed)
    (subst (λ n. IsExact c.args.renewal.old.now c.args.renewal.new.now c.args.renewal.budget n c.done.new.changes) (sym c.from.ensures)
    (proof.exact c.args.renewal.old.now c.args.renewal.new.now c.requires.mode c.args.renewal.old_names c.args.renewal.names c.args.kept.now c.requires.stands
    c.in_ok-under_way.under_way c.work_off.new.under_way c.args.renewal.budget c.args.expansions.now c.work_off.new.expansions c.in_ok-under_way.ensures.sources c.work_off.ensures.bounds c.in_ok-under_way.ensures.mark c.in-Ok-Within.touched ended
    c.in_ok-under_way.ensures.begun called c.done.new.changes c.in_ok-done-in-Ok-Within.ensures.changes))
    (omega (arith, called, c.from.ensures))

pub returns-in-Ok-OverBudget : goal.returns-in-Ok-OverBudget
returns-in-Ok-OverBudget g c =
    let most = subst (λ b. c.work_off.new.expansions ≤ c.args.expansions.now + (b + 1)) c.in_ok-under_way.ensures.budget c.work_off.ensures.most in
    let e = c.in-Ok-OverBudget.ensures.ended c.args.renewal.old.now c.args.renewal.new.now c.args.kept.now.forest c.in_ok-under_way.ensures.sources c.in_ok-under_way.ensures.begun in
    let own = subst (λ x. HasEnded c.args.renewal.old.now c.args.renewal.new.now c.args.kept.now.forest c.work_off.new.under_way c.in_ok-under_way.under_way.renewal.budget c.args.expansions.now c.work_off.new.expansions x) c.in-Ok-OverBudget.field-0-is e in
    let ended = subst (λ b. HasEnded c.args.renewal.old.now c.args.renewal.new.now c.args.kept.now.forest c.work_off.new.under_way b c.args.expansions.now c.work_off.new.expansions OverBudget) c.in_ok-under_way.ensures.budget own in
    refused c.args.renewal c.args.kept.now c.put_back.new.kept c.args.changes.now c.args.changes.now c.args.expansions.now c.work_off.new.expansions c.work_off.ensures.counted most
    (proof.over c.args.renewal.old.now c.args.renewal.new.now c.requires.mode c.args.renewal.old_names c.args.renewal.names c.args.kept.now c.requires.stands
    c.in_ok-under_way.under_way c.work_off.new.under_way c.args.renewal.budget c.args.expansions.now c.work_off.new.expansions c.in_ok-under_way.ensures.sources c.work_off.ensures.bounds c.in_ok-under_way.ensures.mark ended)
    (proof.put_back c.args.renewal.old.now c.args.renewal.new.now c.requires.mode c.args.renewal.old_names c.args.renewal.names c.args.kept.now c.requires.stands
    c.in_ok-under_way.under_way c.work_off.new.under_way c.args.renewal.budget c.args.expansions.now c.work_off.new.expansions c.in_ok-under_way.ensures.sources c.work_off.ensures.bounds c.in_ok-under_way.ensures.mark OverBudget ended
    c.put_back.new.kept.forest c.put_back.new.kept.dependents (c.put_back.ensures.dependents ∙ c.begin_work.ensures.dependents) c.put_back.ensures.nodes c.put_back.ensures.unmarked c.put_back.ensures.mode)
    (c.put_back.ensures.dependents ∙ c.begin_work.ensures.dependents) refl
