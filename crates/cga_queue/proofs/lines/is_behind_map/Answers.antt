use Rattle.cga_order.specs.Key.{key_cmp}
use Rattle.cga_order.specs.KeyLaws.{key_total}
use Rattle.cga_queue.proofs.LinesTold.{lt_is, up_to_before}
use Rattle.cga_queue.proofs.lines.is_behind_map.Goals as goal

pub returns-in-Some : goal.returns-in-Some
returns-in-Some c told = up_to_before key_cmp key_total c.args.map.now.entries c.in-Some.last.now c.args.key.now c.in-Some.ensures.all_up_to (lt_is _ _ _ c.cmp.ensures c.is_lt.ensures told)
