use Rattle.std.proofs.Common.{refl}
use Rattle.cga_order.specs.Key.{key_cmp}
use Rattle.cga_order.specs.KeyLaws.{key_total}
use Rattle.cga_queue.proofs.LinesTold.{last_at, lt_is}
use Rattle.cga_queue.proofs.TwoLines.{all_before}
use Rattle.cga_queue.proofs.lines.is_behind_late.Goals as goal

pub returns-in-Some : goal.returns-in-Some
returns-in-Some c told =
    let items = c.args.late.now.items in
    let z = last_at items c.in-Some.last.now c.args.late.now.len c.args.late.now.ok.0 (c.in-Some.ensures.variant.0 refl) c.in-Some.ensures.lookup in
    all_before key_cmp key_total items z.0 c.in-Some.last.now c.args.key.now z.1 z.2 c.requires (lt_is _ _ _ c.cmp.ensures c.is_lt.ensures told)
