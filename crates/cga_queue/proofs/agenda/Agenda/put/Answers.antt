use Rattle.std.proofs.Common.{subst}
use Rattle.std.specs.Prelude.{OnOk}
use Rattle.cga_order.specs.Seen.{chain_of}
use Rattle.cga_queue.specs.Agenda.{IsPut}
use Rattle.cga_queue.proofs.Stamped.{put_lines, put_viewed, viewed}
use Rattle.cga_queue.proofs.agenda.Agenda.put.Goals as goal

pub invariant_of-self : goal.invariant_of-self
invariant_of-self c = put_lines c.self.inside.mode c.self.inside.entries.entries c.self.inside.late.items c.put_in.new.map.entries c.put_in.new.late.items c.self.invariant c.in_ok-key.key c.args.id c.in_ok-key.ensures.mode c.put_in.result c.put_in.ensures.put c.put_in.ensures.map c.put_in.ensures.late

pub returns : goal.returns
returns c =
    let put = put_viewed c.self.inside.mode c.self.inside.entries.entries c.self.inside.late.items c.put_in.new.map.entries c.put_in.new.late.items c.self.invariant c.in_ok-key.key c.args.id c.in_ok-key.ensures.mode c.put_in.result (chain_of c.args.chain.now) c.in_ok-key.ensures.chain c.put_in.ensures.put in
    record { put = subst (λ old. OnOk c.put_in.result (IsPut old (viewed c.self.inside.mode c.put_in.new.map.entries c.put_in.new.late.items) (chain_of c.args.chain.now) c.args.id)) c.self.view_is put }
