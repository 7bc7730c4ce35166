-- What is proved of the derivations of sources.
use Rattle.std.specs.Prelude.{ℕ}
use Rattle.cga_derivation.specs.Derivation.{reached, expanded}
use Rattle.cga_derivation.specs.Stamps.{RisesIn}
use Rattle.cga_shape.specs.declared.sources.Sources.{Sources}
use Rattle.cga_expand.specs.Derivation.{derivation_of, NamesDiffer}

abbrev pub ExpansionsRise : Type 0
ExpansionsRise =
    (sources : Sources) → NamesDiffer sources.lots → (n : ℕ)
    → RisesIn (derivation_of sources) (reached (derivation_of sources) n) (expanded (derivation_of sources) n)
