use Rattle.std.proofs.Common.{◌+◌, get_or, sym, ◌∙◌, refl}
use Rattle.cga_rule.proofs.Door.{rule_told}
use Rattle.cga_depend.specs.Agreement.{rules_with}
use Rattle.cga_depend.proofs.Lists.{behind}
use Rattle.cga_depend.proofs.ById.{with_none, with_first, with_some, firsts_same, firsts_differ}
use Rattle.cga_depend.proofs.group.+agree.Goals as goal

pub returns-in-None-None : goal.returns-in-None-None
returns-in-None-None t c =
    (λ h. with_none c.args.symbol c.args.id c.args.old.now c.place.result c.place.ensures c.in-None-None.is-0 ∙ sym (with_none c.args.symbol c.args.id c.args.new.now c.place-2.result c.place-2.ensures c.in-None-None.is-1), λ e. refl)

pub returns-then-eq : goal.returns-then-eq
returns-then-eq t c =
    let s = c.args.symbol in
    let n = c.args.id in
    let i = c.in-Some-Some.i in
    let j = c.in-Some-Some.j in
    firsts_same (rules_with s n c.args.old.now) (rules_with s n c.args.new.now) (rules_with s n (behind (i + 1) c.args.old.now)) (rules_with s n (behind (j + 1) c.args.new.now)) (get_or c.args.old.now i c.index-old-i.result).rule (get_or c.args.new.now j c.index-new-j.result).rule c.agree.result
    (with_first s n c.args.old.now c.place.result i c.index-old-i.result c.place.ensures c.in-Some-Some.is-0 c.index-old-i.is)
    (with_first s n c.args.new.now c.place-2.result j c.index-new-j.result c.place-2.ensures c.in-Some-Some.is-1 c.index-new-j.is)
    ((rule_told (get_or c.args.old.now i c.index-old-i.result).rule (get_or c.args.new.now j c.index-new-j.result).rule c.eq.result c.eq.ensures).0 c.if-eq.true) c.agree.ensures

pub returns-else-eq : goal.returns-else-eq
returns-else-eq t c =
    let s = c.args.symbol in
    let n = c.args.id in
    let i = c.in-Some-Some.i in
    let j = c.in-Some-Some.j in
    firsts_differ (rules_with s n c.args.old.now) (rules_with s n c.args.new.now) (rules_with s n (behind (i + 1) c.args.old.now)) (rules_with s n (behind (j + 1) c.args.new.now)) (get_or c.args.old.now i c.index-old-i.result).rule (get_or c.args.new.now j c.index-new-j.result).rule c.eq.result
    (with_first s n c.args.old.now c.place.result i c.index-old-i.result c.place.ensures c.in-Some-Some.is-0 c.index-old-i.is)
    (with_first s n c.args.new.now c.place-2.result j c.index-new-j.result c.place-2.ensures c.in-Some-Some.is-1 c.index-new-j.is)
    (rule_told (get_or c.args.old.now i c.index-old-i.result).rule (get_or c.args.new.now j c.index-new-j.result).rule c.eq.result c.eq.ensures) c.if-eq.false

pub returns-in_default : goal.returns-in_default
returns-in_default t c =
    (λ h. absurd (cc), λ e. absurd (with_some c.args.symbol c.args.id c.args.new.now c.place-2.result c.in_default.field-0-1 c.place-2.ensures c.in_default.is-1 (sym e ∙ with_none c.args.symbol c.args.id c.args.old.now c.place.result c.place.ensures c.in_default.is-0)))

pub returns-in_default-2 : goal.returns-in_default-2
returns-in_default-2 t c =
    (λ h. absurd (cc), λ e. absurd (with_some c.args.symbol c.args.id c.args.old.now c.place.result c.in_default.field-0-0 c.place.ensures c.in_default.is-0 (e ∙ with_none c.args.symbol c.args.id c.args.new.now c.place-2.result c.place-2.ensures c.in_default.is-1)))
