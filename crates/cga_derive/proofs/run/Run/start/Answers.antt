use Rattle.std.proofs.Common.{◌≡◌, ◌<◌, ◌≤◌, length, get_or, ap, ◌∙◌, subst}
use Rattle.cga_check.specs.declared.said.Said.{Said}
use Rattle.cga_expand.specs.Derivation.{priority_of}
use Rattle.cga_order.specs.ChildKeys.{IsRootKey}
use Rattle.cga_expand.proofs.Door.{said_priority}
use Rattle.cga_derive.proofs.Streaks.{boxed_created, boxed_lent}
use Rattle.cga_derive.proofs.Starting.{roots-more, keys-more, started}
use Rattle.cga_derive.proofs.run.Run.start.Goals as goal

pub loop-lot-preserved : goal.loop-lot-preserved
loop-lot-preserved c =
    let sources = c.args.sources.now in
    let lots = c.as_slice-lot-items.ensures.value ∙ c.in_ok-lots.ensures in
    let i = c.loop-lot.lot-index in
    let lot = c.lot-item.result in
    let within : i < length sources.lots = subst (λ l. i < length l) lots c.loop-lot-test.true in
    let item : lot ≡ get_or sources.lots i lot = c.lot-item.is ∙ ap (λ l. get_or l i lot) lots in
    let priority = ap (λ (s : Said). s.priority) c.in_ok-found.ensures.value ∙ (said_priority c.loop-lot.symbols lot.symbol ∙ ap (λ g. priority_of g lot.symbol) c.loop-lot.invariant.symbols) in record {
      list = c.in_ok-push.ensures.items ∙ roots-more sources c.requires.names i lot within item c.root_shape-shape.result c.root_shape-shape.ensures c.loop-lot.list.items c.loop-lot.invariant.list;
      keys = keys-more sources c.requires.names i lot within item c.root_shape-shape.result c.root_shape-shape.ensures c.loop-lot.waiting.entries c.insert.new.self.entries c.in_ok-key.key c.len-place.result c.loop-lot.list.items c.loop-lot.invariant.list c.loop-lot.invariant.keys (subst (λ n. IsRootKey sources.mode lot.name n c.in_ok-key.key) priority c.in_ok-key.ensures) (c.len-place.ensures ∙ c.loop-lot.list.ok.0) c.in_ok-insert.ensures.entries;
      symbols = c.of.ensures.grammar ∙ c.loop-lot.invariant.symbols;
      boxed = boxed_created c.loop-lot.list.items c.push.new.self.items c.loop-lot.streaks.items c.as_slice.result.now c.push-in-loop-lot.new.self.items _ c.world_box.result c.next_streak-streak.result c.loop-lot.invariant.boxed c.as_slice.ensures.value c.in_ok-push.ensures.items c.in_ok-push-2.ensures.items c.world_box.ensures.value c.next_streak-streak.ensures;
    }

pub next_streak-streak-requires : goal.next_streak-streak-requires
next_streak-streak-requires c =
    boxed_lent c.loop-lot.list.items c.loop-lot.streaks.items c.as_slice.result.now c.loop-lot.invariant.boxed c.as_slice.ensures.value

pub returns : goal.returns
returns c =
    let sources = c.args.sources.now in
    let end : length sources.lots ≤ c.loop-lot.lot-index = subst (λ l. length l ≤ c.loop-lot.lot-index) (c.as_slice-lot-items.ensures.value ∙ c.in_ok-lots.ensures) c.loop-lot-test.false in record {
      after = started sources c.requires.names c.loop-lot.lot-index c.loop-lot.list.items c.loop-lot.waiting.entries end c.loop-lot.invariant.list c.loop-lot.invariant.keys;
      symbols = c.loop-lot.invariant.symbols;
      boxed = c.loop-lot.invariant.boxed;
    }
