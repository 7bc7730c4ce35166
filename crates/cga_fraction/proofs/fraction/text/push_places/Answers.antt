use Rattle.std.proofs.Common.{◌∙◌, ◌++◌, ap}
use Rattle.cga_fraction.proofs.Texts.{point_before}
use Rattle.cga_fraction.proofs.fraction.text.push_places.Goals as goal

pub returns : goal.returns
returns c = c.in_ok-extend_from_slice.ensures.items
    ∙ ap (λ l. c.args.out.now.items ++ l) (point_before c.last_ten-digits.result c.args.places c.args.number c.requires c.last_ten-digits.ensures)
