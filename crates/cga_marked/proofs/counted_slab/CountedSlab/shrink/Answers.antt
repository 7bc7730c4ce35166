use Rattle.std.proofs.Common.{refl, sym, ◌∙◌}
use Rattle.cga_marked.specs.Sorts.{is_first, is_second}
use Rattle.cga_marked.proofs.Sorts.{sorted_same}
use Rattle.cga_marked.proofs.counted_slab.CountedSlab.shrink.Goals as goal

pub invariant_of-self : goal.invariant_of-self
invariant_of-self g c =
    let old = c.self.inside.entries.slots in
    let values = c.shrink_to_fit.ensures.values in
    record {
      first = c.self.invariant.first ∙ sym (sorted_same g.E.Marked.counts is_first refl old c.shrink_to_fit.new.self.slots values);
      second = c.self.invariant.second ∙ sym (sorted_same g.E.Marked.counts is_second refl old c.shrink_to_fit.new.self.slots values);
    }
