use Rattle.std.proofs.Common.{◌≡◌, List, ◌∷◌, ◌+◌, drop, ap, sym, ◌∙◌, suc, add-one, drop-cons}
use Rattle.cga_fraction.specs.Results.{onto}
use Rattle.cga_split.specs.Split.{part_at}
use Rattle.cga_split.specs.Subdiv.{parts_from}
use Rattle.cga_split.specs.declared.part_size.PartSize.{PartSize}
use Rattle.cga_split.proofs.Parts.{one_more}
use Rattle.cga_split.proofs.Subdivs.{all_more, any_more}
use Rattle.cga_split.proofs.subdivide.parts.Goals as goal

pub loop-size-preserved : goal.loop-size-preserved
loop-size-preserved c =
    let inv = c.loop-size.invariant in
    let item = c.size-item.result in
    let next : drop c.loop-size.size-index c.args.sizes.now ≡ item ∷ drop (c.loop-size.size-index + 1) c.args.sizes.now =
    rw add-one (drop-cons c.args.sizes.now c.loop-size.size-index item c.loop-size-test.true ∙ ap (λ (s : PartSize). s ∷ drop (suc c.loop-size.size-index) c.args.sizes.now) (sym c.size-item.is)) in
    record {
      made = rw (c.in_ok-push.ensures {u = tt}).ok
          (one_more (part_at c.args.scope.now c.args.axis) c.args.rest c.args.total c.loop-size.from c.in_ok-length.length c.in_ok-from.from c.loop-size.made c.in_ok-one.one item _
          (record { long = (c.in_ok-length.ensures {u = tt}).value; made = c.in_ok-one.ensures {u = tt}; ends = c.in_ok-from.ensures {u = tt} })
          ∙ ap (λ (ss : List PartSize). onto c.loop-size.made (parts_from (part_at c.args.scope.now c.args.axis) c.args.rest c.args.total c.loop-size.from ss)) (sym next) ∙ inv.made);
      some = all_more _ _ item next inv.some;
      total = λ h. inv.total (any_more _ _ item next h);
    }
