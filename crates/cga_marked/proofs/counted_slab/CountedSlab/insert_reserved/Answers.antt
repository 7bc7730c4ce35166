use Rattle.std.proofs.Common.{ap, sym}
use Rattle.cga_marked.specs.Sorts.{sort_of}
use Rattle.cga_marked.proofs.counted_slab.CountedSlab.insert_reserved.Goals as goal

pub recounted-self-inside-requires : goal.recounted-self-inside-requires
recounted-self-inside-requires g c = record { old = c.self.inside.entries.slots; counted = c.self.invariant; before = sym (ap (sort_of g.E.Marked.counts) c.insert_reserved-id.ensures.was_vacant); others = c.insert_reserved-id.ensures.updates.others }
