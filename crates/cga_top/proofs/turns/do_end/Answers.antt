use Rattle.std.proofs.Common.{subst}
use Rattle.std.specs.Prelude.{IfOk}
use Rattle.cga_top.specs.Effect.{Effect}
use Rattle.cga_top.specs.Session.{IsOpenAs, Did}
use Rattle.cga_top.proofs.Closing.{rules_ended, city_ended}
use Rattle.cga_top.proofs.turns.do_end.Goals as goal

pub returns-in_ok-rules_edit-in-Rules-clause-did : goal.returns-in_ok-rules_edit-in-Rules-clause-did
returns-in_ok-rules_edit-in-Rules-clause-did g c = λ s b at as_read.
    subst (λ (e : Effect). IfOk c.close.result (λ reply. Did e c.args.session.now.city.changes c.close.new.session reply c.args.expansions.now c.close.new.expansions))
    (rules_ended s b c.in-Rules.reader c.in_ok-rules_edit-in-Rules.field-0 (subst (IsOpenAs b) c.in-Rules.is as_read) c.in_ok-rules_edit-in-Rules.ensures.told)
    (c.close.ensures.did s at)

pub returns-in_ok-city_edit-in-City-clause-did : goal.returns-in_ok-city_edit-in-City-clause-did
returns-in_ok-city_edit-in-City-clause-did g c = λ s b at as_read.
    subst (λ (e : Effect). IfOk c.close-in-City.result (λ reply. Did e c.args.session.now.city.changes c.close-in-City.new.session reply c.args.expansions.now c.close-in-City.new.expansions))
    (city_ended s b c.in-City.reader c.in_ok-city_edit-in-City.field-0 (subst (IsOpenAs b) c.in-City.is as_read) c.in_ok-city_edit-in-City.ensures.told)
    (c.close-in-City.ensures.did s at)
