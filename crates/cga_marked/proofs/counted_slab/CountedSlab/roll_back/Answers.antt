use Rattle.cga_marked.proofs.counted_slab.CountedSlab.roll_back.Goals as goal

pub recounted-self-inside-requires : goal.recounted-self-inside-requires
recounted-self-inside-requires g c = record { old = c.self.inside.entries.slots; counted = c.self.invariant; before = c.sort_at-was.ensures; others = c.roll_back_entry.ensures.others }
