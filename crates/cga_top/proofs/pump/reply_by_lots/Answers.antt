use Rattle.std.proofs.Common.{false, sym, subst}
use Rattle.cga_top.specs.Effect.{Effect}
use Rattle.cga_top.specs.Replies.{begun}
use Rattle.cga_top.specs.Reported.{reported}
use Rattle.cga_top.specs.Session.{Did}
use Rattle.cga_top.proofs.Lived.{begun_reply}
use Rattle.cga_top.proofs.Reporting.{begun_at, report_did}
use Rattle.cga_top.proofs.pump.reply_by_lots.Goals as goal

pub returns-in-Ok-clause-ok : goal.returns-in-Ok-clause-ok
returns-in-Ok-clause-ok g c = λ s line n at asks.
    let old = c.args.session.now in
    record {
      reply = (reported (begun s) c.args.report c.args.name).reply;
      did = subst (λ (e : Effect). Did e old.city.changes (record old { fresh = false }) (reported (begun s) c.args.report c.args.name).reply n n) (sym asks) (report_did s old c.args.report c.args.name n at);
      written = c.in-Ok.ensures.ok (begun s) (begun_at s old at);
    }

pub returns-in-Err-clause-err : goal.returns-in-Err-clause-err
returns-in-Err-clause-err g c = λ s line told here asks.
    let old = c.args.session.now in
    let did = subst (λ (e : Effect). Did e old.city.changes (record old { fresh = false }) (reported (begun s) c.args.report c.args.name).reply 0 0) (sym asks) (report_did s old c.args.report c.args.name 0 here.at) in
    begun_reply told s line old (record old { fresh = false }) (reported (begun s) c.args.report c.args.name).reply 0 0 here.forgot did _ _ (c.in-Err.ensures.err (begun s) (begun_at s old here.at))
