use Rattle.std.proofs.Common.{◌+◌, [], ◌∷◌, length, sym, ap, ◌∙◌, subst, length-append}
use Rattle.std.proofs.lemmas.Iterator.Consumers.{YieldsList-end}
use Rattle.std.proofs.lemmas.Iterator.Adapters.{YieldsList-from_vec}
use Rattle.cga_derive.specs.Run.{KeepsKeys, sited_children}
use Rattle.cga_derive.proofs.PlaceAll.{keys-more, list-more, map-id}
use Rattle.cga_derive.proofs.run.Run.place_all.Goals as goal

pub loop-child-preserved : goal.loop-child-preserved
loop-child-preserved c =
    let i = c.loop-child.invariant.index in
    let l = c.loop-child.invariant.list in record {
      index = ap (λ n. n + 1) i ∙ sym (length-append c.loop-child.yielded (c.in-Some.child ∷ []));
      list = list-more c.args.parent.now c.args.own c.loop-child.yielded c.in-Some.child c.args.self.now.list.items c.loop-child.self.list.items c.place.new.self.list.items c.loop-child.index i l c.in_ok-place.ensures.list;
      symbols = c.place.ensures.symbols ∙ c.loop-child.invariant.symbols;
      boxed = c.in_ok-place.ensures.boxed;
      keys = λ sources reads. keys-more sources c.args.parent.now c.args.own c.loop-child.yielded c.in-Some.child c.args.self.now.list.items c.loop-child.self.list.items c.args.self.now.waiting.entries c.loop-child.self.waiting.entries c.place.new.self.waiting.entries c.loop-child.index i l (c.loop-child.invariant.keys sources reads) (c.in_ok-place.ensures.keys sources (c.loop-child.invariant.symbols ∙ reads));
    }

pub returns-clause-keys : goal.returns-clause-keys
returns-clause-keys c = λ sources reads.
    let made = c.into_iter-child-iterator.ensures.into_iter_gives in
    let e = YieldsList-end (YieldsList-from_vec {s = c.into_iter-child-iterator.result} c.args.emitted (made.0 ∙ c.into_vec-child-items.ensures) (made.1 ∙ (c.into_vec-child-items.result.ok.0 ∙ ap length c.into_vec-child-items.ensures))) c.loop-child.yielded c.loop-child.child-iterator c.loop-child.yielded_by c.next.result c.next.new.self c.in-None.is c.next.ensures.steps in
    subst (λ es. KeepsKeys sources c.args.parent.now (sited_children c.args.parent.now c.args.own 0 es) c.args.self.now.list.items c.args.self.now.waiting.entries c.loop-child.self.waiting.entries) (sym (map-id c.loop-child.yielded) ∙ e.0) (c.loop-child.invariant.keys sources reads)
