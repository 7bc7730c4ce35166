use Rattle.std.proofs.Common.{inl, refl}
use Rattle.cga_queue.proofs.lines.put_in.Goals as goal

pub returns-in_ok-push_back-clause-put : goal.returns-in_ok-push_back-clause-put
returns-in_ok-push_back-clause-put c = inl (refl, c.in_ok-push_back.ensures.items, c.is_behind_map.ensures c.if-is_behind_map.true, c.is_behind_late.ensures c.if-is_behind_late.true)
