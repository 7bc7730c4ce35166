use Rattle.std.proofs.Common.{subst}
use Rattle.cga_order.specs.Key.{key_cmp}
use Rattle.cga_order.specs.KeyLaws.{key_total}
use Rattle.cga_queue.specs.Lines.{FirstsCompare}
use Rattle.cga_queue.proofs.LinesTold.{both_took, late_took, late_some, map_took, some_there}
use Rattle.cga_queue.proofs.lines.take_out.Goals as goal

pub returns-in-Less-clause-taken : goal.returns-in-Less-clause-taken
returns-in-Less-clause-taken c = map_took key_cmp key_total c.args.map.now.entries c.args.late.now.items c.pop_first.new.self.entries c.pop_first.result c.requires (subst (FirstsCompare key_cmp c.args.map.now.entries c.args.late.now.items) c.in-Less.is c.cmp_firsts.ensures) c.pop_first.ensures.removal c.pop_first.ensures.all_above

pub returns-in-Greater-clause-taken : goal.returns-in-Greater-clause-taken
returns-in-Greater-clause-taken c =
    let first = subst (FirstsCompare key_cmp c.args.map.now.entries c.args.late.now.items) c.in-Greater.is c.cmp_firsts.ensures in
    late_took key_cmp key_total c.args.map.now.entries c.args.late.now.items c.pop_front.new.self.items c.pop_front.result first c.pop_front.ensures.items
    (some_there c.args.late.now.items _ _ c.args.late.now.ok.0 (late_some key_cmp key_total c.args.map.now.entries c.args.late.now.items _ first (λ e. cc)) c.pop_front.ensures.variant)

pub returns-in-Equal-clause-taken : goal.returns-in-Equal-clause-taken
returns-in-Equal-clause-taken c =
    let first = subst (FirstsCompare key_cmp c.args.map.now.entries c.args.late.now.items) c.in-Equal.is c.cmp_firsts.ensures in
    both_took key_cmp key_total c.args.map.now.entries c.args.late.now.items c.pop_first-in-Equal.new.self.entries c.pop_front-other.new.self.items c.pop_front-other.result c.pop_first-in-Equal.result first c.pop_front-other.ensures.items
    (some_there c.args.late.now.items _ _ c.args.late.now.ok.0 (late_some key_cmp key_total c.args.map.now.entries c.args.late.now.items _ first (λ e. cc)) c.pop_front-other.ensures.variant)
    c.pop_first-in-Equal.ensures.removal c.pop_first-in-Equal.ensures.all_above
