use Rattle.cga_city.proofs.Names.{names_differ}
use Rattle.cga_city.proofs.Valid.{sound_valid}
use Rattle.cga_city.proofs.Warming.{never_over, warmed_by}
use Rattle.cga_city.proofs.city.City.rewarm.Goals as goal

pub invariant_of-renewal-clause-names : goal.invariant_of-renewal-clause-names
invariant_of-renewal-clause-names g c = names_differ c.self.inside.sources.lots c.self.invariant.sound.names

pub invariant_of-renewal-clause-roots : goal.invariant_of-renewal-clause-roots
invariant_of-renewal-clause-roots g c = (sound_valid c.self.inside.sources c.self.invariant.sound).roots

pub update-told-requires : goal.update-told-requires
update-told-requires g c = record { stands = rw (c.empty_sources-empty.ensures, c.replace.ensures.after) c.no_shapes.ensures }

pub within_budget-requires : goal.within_budget-requires
within_budget-requires g c = record {
  within = never_over c.update-told.result c.self.inside.sources c.self.inside.budget c.self.invariant.within.0 c.self.invariant.within.1 c.update-told.ensures.over;
}

pub returns-clause-spent : goal.returns-clause-spent
returns-clause-spent g c = λ cold.
    rw (← c.self.view_is) (warmed_by c.update-told.result c.empty_sources-empty.result c.self.inside.sources c.self.inside.budget c.in_ok-within_budget.field-0 _ _ c.self.inside.expanded c.self.inside.warm
    c.self.inside.changes _ (record {
      sound = c.self.invariant.sound;
      none = c.empty_sources-empty.ensures;
      count = c.in_ok-within_budget.ensures.same;
      exact = c.update-told.ensures.exact;
      spent = c.update-told.ensures.spent;
    }))
