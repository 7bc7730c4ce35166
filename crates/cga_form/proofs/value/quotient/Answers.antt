use Rattle.std.proofs.Common.{w64, ℕ, ◌≡◌, ◌≤◌, ◌^◌, arith, pos, to_z}
use Rattle.std.proofs.lemmas.Int.{to_z_pos}
use Rattle.cga_form.proofs.Quotients.{never_refused, quotient_found}
use Rattle.cga_form.proofs.value.quotient.Goals as goal

signed : (n : ℕ) → n ≤ 2 ^ 62 → to_z w64 n ≡ pos n
signed n h = to_z_pos w64 n (omega arith)

pub unreachable-requires : goal.unreachable-requires
unreachable-requires c =
    never_refused c.args.n c.args.d (to_z w64 c.args.n) (to_z w64 c.args.d) c.requires.small c.requires.above_zero c.requires.few (signed c.args.n c.requires.small) (signed c.args.d c.requires.few) c.new.result c.new.ensures c.in-Err.field-0 c.in-Err.is

pub returns : goal.returns
returns c =
    quotient_found c.args.n c.args.d (to_z w64 c.args.n) (to_z w64 c.args.d) c.requires.small c.requires.above_zero c.requires.few (signed c.args.n c.requires.small) (signed c.args.d c.requires.few) c.new.result c.new.ensures c.in-Ok.value c.in-Ok.is
