-- What is kept of a line that goes on.
use Rattle.std.specs.Prelude.{◌≡◌}
use Rattle.cga_script.specs.Lines.{IsOneLine}
use Rattle.cga_script.specs.Pending.{Pending, kept_of}
use Rattle.cga_script.specs.declared.ending.Ending.TheVariants.{Open}

-- a part of a line, as it is kept
pub record IsKeptPart (p : Pending) : Type 0 where
  pub open_line : p.ending ≡ Open
  pub one : IsOneLine p.kept
  pub short : kept_of p.kept ≡ p.kept
