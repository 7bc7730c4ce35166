use Rattle.std.proofs.Common.{◌∙◌, arith}
use Rattle.cga_fraction.proofs.Texts.{written_whole, written_parts}
use Rattle.cga_fraction.proofs.fraction.text.push_narrow.Goals as goal

pub returns-then-places-eq0 : goal.returns-then-places-eq0
returns-then-places-eq0 c = written_whole _ _ _ c.args.number c.args.places _ (omega arith) c.narrow_power_of_ten.ensures.value (c.as_bytes.ensures.value ∙ c.format.ensures.text) c.in_ok-extend_from_slice.ensures.items

pub returns : goal.returns
returns c = written_parts _ _ _ _ c.args.number c.args.places _ (omega arith) c.narrow_power_of_ten.ensures.value (c.as_bytes.ensures.value ∙ c.format.ensures.text) c.in_ok-extend_from_slice.ensures.items c.in_ok-push_places.ensures
