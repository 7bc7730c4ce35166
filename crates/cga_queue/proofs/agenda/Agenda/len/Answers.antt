use Rattle.std.proofs.Common.{◌∙◌, ap, arith, sym}
use Rattle.cga_order.specs.Key.{key_cmp}
use Rattle.cga_queue.specs.Agenda.{AgendaView}
use Rattle.cga_queue.proofs.NoEntry.{counted_none, none_counted}
use Rattle.cga_queue.proofs.agenda.Agenda.len.Goals as goal

pub returns : goal.returns
returns c =
    let sum = c.saturating_add.ensures in
    let many = c.len.ensures.len in
    let late = c.len-2.ensures in
    let view = ap (λ (v : AgendaView). v.entries) c.self.view_is in
    record {
      none = (
        λ zero. sym view ∙ none_counted key_cmp c.self.inside.entries.entries c.self.inside.late.items (omega (arith, zero, sum, many)) (omega (arith, zero, sum, late)),
        λ none. let w = counted_none key_cmp c.self.inside.entries.entries c.self.inside.late.items (view ∙ none) in omega (arith, w.0, w.1, sum, many, late),
      );
    }
