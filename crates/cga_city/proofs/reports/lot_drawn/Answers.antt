use Rattle.std.proofs.Common.{◌∙◌, sym}
use Rattle.cga_city.proofs.Reporting.{one_drawn}
use Rattle.cga_city.proofs.reports.lot_drawn.Goals as goal

pub returns : goal.returns
returns c = λ list has. let made = rw c.new-drawn.ensures at (c.in_ok-push_drawn_in.ensures list has) in made ∙ sym (one_drawn c.args.lot list)
