-- A warm city's forest tells the run of its sources.
use Rattle.std.proofs.Common.{◌≡◌, ℕ, Bool, true, List, Some, subst}
use Rattle.cga_derivation.specs.Derivation.{derive, NothingWaits}
use Rattle.cga_derivation.proofs.Door.{within}
use Rattle.cga_expand.proofs.Door.{sources_are_derivations}
use Rattle.cga_shape.specs.declared.sources.Sources.{Sources}
use Rattle.cga_expand.specs.Children.{Member}
use Rattle.cga_expand.specs.Derivation.{derivation_of}
use Rattle.cga_update.specs.declared.kept.Kept.{Kept}
use Rattle.cga_trace.specs.Order.{IsKnown}
use Rattle.cga_city.specs.Derived.{derived}
use Rattle.cga_city.specs.Kept.{IsCity}
use Rattle.cga_city.proofs.Names.{names_differ}

was_derived : (budget : ℕ) (s : Sources) (list : List Member) → derived budget s ≡ Some list
    → derive (derivation_of s) budget ≡ Some list
unfolding derived
was_derived budget s list h = h

pub known : (s : Sources) (budget : ℕ) (warm : Bool) (kept : Kept) → IsCity s budget warm kept → warm ≡ true
    → (n : ℕ) × IsKnown s n kept.forest
known s budget warm kept city on =
    let names = names_differ s.lots city.sound.names in
    let is = within (derivation_of s) (sources_are_derivations s names) budget city.within.0 (was_derived budget s city.within.0 city.within.1) in
    let stands = (city.stands on).forest in (
      is.0,
      record {
        names = names;
        quiet = subst (NothingWaits (derivation_of s)) is.1 is.2;
        mode = stands.mode;
        stands = stands.nodes;
      },
    )
