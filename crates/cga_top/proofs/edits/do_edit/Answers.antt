use Rattle.std.proofs.Common.{refl}
use Rattle.cga_top.proofs.Bills.{balances, can_apply}
use Rattle.cga_top.proofs.Numbers.{can_be_left}
use Rattle.cga_top.proofs.edits.do_edit.Goals as goal

pub apply-requires : goal.apply-requires
apply-requires g c =
    let can = can_be_left c.args.session.now.city c.sources-before.result.now c.args.edit c.sources-before.ensures.value c.sources-before.ensures.sound c.sources-before.ensures.within c.requires.lots in
    let done = (c.in-Ok.ensures {u = tt}).1 in
    can_apply c.args.session.now.city c.args.edit c.hand_out.new.self _ _ can done c.requires.ready.few _ c.requires.ready.bill c.changes.result.now c.changes.ensures

pub returns-in_ok-apply-in-Ok : goal.returns-in_ok-apply-in-Ok
returns-in_ok-apply-in-Ok g c =
    let can = can_be_left c.args.session.now.city c.sources-before.result.now c.args.edit c.sources-before.ensures.value c.sources-before.ensures.sound c.sources-before.ensures.within c.requires.lots in
    let told = c.in-Ok.ensures {u = tt} in
    record {
      before_is = told.0;
      sound = can.sound;
      fits = can.fits;
      done = told.1;
      bill = c.in_ok-apply-in-Ok.ensures.ok _ _ c.requires.ready.bill (balances c.args.session.now.city c.args.edit c.hand_out.new.self _ _ can told.1 c.changes.result.now c.changes.ensures);
      others = refl;
    }
