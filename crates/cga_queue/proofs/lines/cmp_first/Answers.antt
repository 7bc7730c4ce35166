use Rattle.std.proofs.Common.{ℕ}
use Rattle.cga_order.specs.declared.stamp_key.StampKey.{StampKey}
use Rattle.cga_order.specs.Key.{key_cmp}
use Rattle.cga_order.specs.KeyLaws.{key_total}
use Rattle.cga_queue.proofs.LinesTold.{compared, opened_at}
use Rattle.cga_queue.proofs.lines.cmp_first.Goals as goal

pub returns-in-Some : goal.returns-in-Some
returns-in-Some c =
    let e : StampKey × ℕ = (c.in-Some.first.now, c.in-Some.field-0-1.now) in
    let z = opened_at c.args.map.now.entries e c.in-Some.ensures.first in
    compared key_cmp key_total c.args.map.now.entries z.0 e c.args.key.now c.cmp.result z.1 c.in-Some.ensures.all_from c.cmp.ensures
