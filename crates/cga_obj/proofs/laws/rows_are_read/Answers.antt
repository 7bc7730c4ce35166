use Rattle.std.proofs.Common.{refl}
use Rattle.cga_obj.specs.DeltaLaws.{RowsAreRead}
use Rattle.cga_obj.proofs.laws.rows_are_read.Goals as goal

rows : RowsAreRead
rows = record {
  none = refl;
  twice = refl;
  again = (refl, refl, refl);
}

pub returns : goal.returns
returns c = rows
