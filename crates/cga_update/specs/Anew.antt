-- What a change of the mode begins with.
use Rattle.std.specs.Prelude.{◌≡◌}
use Rattle.cga_shape.specs.declared.sources.Sources.{Sources}
use Rattle.cga_update.specs.declared.anew.Anew.{Anew}
use Rattle.cga_update.specs.Stands.{Stands}
use Rattle.cga_update.specs.Updates.{with_no_lots}

-- what is kept stands for the sources without their lots
pub record IsAnew (sources : Sources) (a : Anew) : Type 0 where
  pub nothing : a.nothing ≡ with_no_lots sources
  pub stands : Stands (with_no_lots sources) a.kept
