use Rattle.std.proofs.Common.{List, Ok, ap, arith, refl, subst, sym}
use Rattle.cga_shape.specs.declared.drawn.Drawn.{Drawn}
use Rattle.cga_update.specs.declared.kept.Kept.{Kept}
use Rattle.cga_shape.specs.declared.sources.Sources.{Sources}
use Rattle.cga_update.specs.Updates.{IsExact, IsUpdate}
use Rattle.cga_update.proofs.Modes.{changes_mode, names_of_none}
use Rattle.cga_update.proofs.Results.{done, given_up, refused_anew}
use Rattle.cga_update.proofs.updating.exchange.Goals as goal

pub invariant_of-from_nothing : goal.invariant_of-from_nothing
invariant_of-from_nothing g c = record {
  old_names = names_of_none c.args.renewal.new.now c.args.anew.now.nothing c.requires.anew.nothing;
  names = c.args.renewal.names;
  roots = c.args.renewal.roots;
  told = tt;
}

pub returns-in_err-touched : goal.returns-in_err-touched
returns-in_err-touched g c =
    refused_anew c.args.renewal _ (record { to = refl; within = refl; mode = ap (λ (s : Sources). s.mode) c.requires.anew.nothing })
    c.args.kept.now c.requires.stands c.args.changes.now c.args.expansions.now c.rework.new.expansions c.in_err-touched.field-0.0
    (record { before = _; after = _; was = _; now = _; update = c.in_err-touched.ensures }) c.from_residual.result c.from_residual.ensures.1

pub returns-in_err-empty : goal.returns-in_err-empty
returns-in_err-empty g c =
    let more = c.in_ok-touched.ensures.bounded_within (ap (λ (s : Sources). s.mode) c.requires.anew.nothing) in
    let few = c.empty.ensures.bounded in
    let least = c.empty.ensures.counted in
    given_up c.args.renewal c.args.kept.now c.empty.new.kept c.args.changes.now c.empty.new.changes c.args.expansions.now c.empty.new.expansions
    (omega (arith, c.in_ok-touched.ensures.counted, least)) _ c.from_residual-in_err-empty.ensures.1 (omega (arith, more, few)) (λ same. absurd (c.requires.mode same))

pub returns : goal.returns
returns g c =
    let from = subst (λ (x : Sources). IsExact x c.args.renewal.new.now c.args.renewal.budget c.in_ok-touched.touched c.rework.new.changes) c.requires.anew.nothing c.in_ok-touched.ensures.exact in
    let more = c.in_ok-touched.ensures.bounded_within (ap (λ (s : Sources). s.mode) c.requires.anew.nothing) in
    let none = c.in_ok-empty.ensures.spent in
    let told = done c.args.renewal c.args.kept.now c.rework.new.kept c.args.changes.now (record c.empty.new.changes { come = c.rework.new.changes.come }) c.args.expansions.now c.empty.new.expansions
    (omega (arith, c.in_ok-touched.ensures.counted, none)) (omega (arith, more, none)) c.in_ok-touched.touched c.in_ok-touched.ensures.stands
    (changes_mode c.args.renewal.old.now c.args.renewal.new.now c.requires.mode c.args.renewal.budget c.in_ok-touched.touched c.rework.new.changes c.empty.new.changes _
    from c.in_ok-empty.ensures.exact refl refl)
    (omega (arith, c.in_ok-touched.ensures.spent, none)) in
    subst (λ (k : Kept). IsUpdate c.args.renewal c.args.kept.now k c.args.changes.now (record c.empty.new.changes { come = c.swap-2.new.x }) c.args.expansions.now c.empty.new.expansions (Ok c.in_ok-touched.touched)) (sym c.swap.ensures.x_after)
    (subst (λ (d : List Drawn). IsUpdate c.args.renewal c.args.kept.now c.rework.new.kept c.args.changes.now (record c.empty.new.changes { come = d }) c.args.expansions.now c.empty.new.expansions (Ok c.in_ok-touched.touched)) (sym c.swap-2.ensures.x_after) told)
