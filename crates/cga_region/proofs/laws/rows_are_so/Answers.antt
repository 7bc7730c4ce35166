use Rattle.cga_region.proofs.Rows.{each_row_is_so}
use Rattle.cga_region.proofs.laws.rows_are_so.Goals as goal

pub returns : goal.returns
returns c = each_row_is_so
