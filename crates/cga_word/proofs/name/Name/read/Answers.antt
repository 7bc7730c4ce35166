use Rattle.std.proofs.Common.{sym, ◌∙◌}
use Rattle.cga_word.proofs.Padding.{IsPadded-over_zeros}
use Rattle.cga_word.proofs.name.Name.read.Goals as goal

pub invariant_of-result : goal.invariant_of-result
invariant_of-result c = rw c.copy_from_slice.ensures.after (IsPadded-over_zeros c.args.bytes.now (sym c.is_name.ensures ∙ c.if-not-is_name.false))
