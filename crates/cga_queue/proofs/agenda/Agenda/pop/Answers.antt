use Rattle.std.proofs.Common.{◌≡◌, subst, suc, length}
use Rattle.std.specs.Prelude.{IfSome, IfNone}
use Rattle.cga_order.specs.Key.{chain_of_key}
use Rattle.cga_queue.specs.Agenda.{IsPopped, NamesNone}
use Rattle.cga_queue.proofs.Stamped.{pop_lines, pop_none, pop_same, pop_shorter, pop_viewed, viewed}
use Rattle.cga_queue.proofs.agenda.Agenda.pop.Goals as goal

pub invariant_of-self : goal.invariant_of-self
invariant_of-self c = pop_lines c.self.inside.mode c.self.inside.entries.entries c.self.inside.late.items c.take_out.new.map.entries c.take_out.new.late.items c.self.invariant c.take_out.result c.take_out.ensures.taken c.take_out.ensures.map c.take_out.ensures.late

pub returns-clause-popped : goal.returns-clause-popped
returns-clause-popped c = subst (λ old. IfSome c.take_out.result (λ p. IsPopped old (viewed c.self.inside.mode c.take_out.new.map.entries c.take_out.new.late.items) (chain_of_key p.0) p.1)) c.self.view_is (pop_viewed c.self.inside.mode c.self.inside.entries.entries c.self.inside.late.items c.take_out.new.map.entries c.take_out.new.late.items c.self.invariant c.take_out.result c.take_out.ensures.taken)

pub returns-clause-shorter : goal.returns-clause-shorter
returns-clause-shorter c = subst (λ old. IfSome c.take_out.result (λ p. length old.entries ≡ suc (length (viewed c.self.inside.mode c.take_out.new.map.entries c.take_out.new.late.items).entries))) c.self.view_is (pop_shorter c.self.inside.mode c.self.inside.entries.entries c.self.inside.late.items c.take_out.new.map.entries c.take_out.new.late.items c.self.invariant c.take_out.result c.take_out.ensures.taken)

pub returns-clause-none : goal.returns-clause-none
returns-clause-none c = subst (λ old. IfNone c.take_out.result (NamesNone old)) c.self.view_is (pop_none c.self.inside.mode c.self.inside.entries.entries c.self.inside.late.items c.take_out.new.map.entries c.take_out.new.late.items c.self.invariant c.take_out.result c.take_out.ensures.none)

pub returns-clause-same : goal.returns-clause-same
returns-clause-same c = subst (λ old. IfNone c.take_out.result (viewed c.self.inside.mode c.take_out.new.map.entries c.take_out.new.late.items ≡ old)) c.self.view_is (pop_same c.self.inside.mode c.self.inside.entries.entries c.self.inside.late.items c.take_out.new.map.entries c.take_out.new.late.items c.self.invariant c.take_out.result c.take_out.ensures.map c.take_out.ensures.late)
