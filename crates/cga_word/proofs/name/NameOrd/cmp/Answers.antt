use Rattle.std.proofs.Common.{◌≡◌, ◌∙◌, ap, sym}
use lib.Pointwise.{bytes_decides}
use Rattle.std.specs.Ordering.{nat_cmp}
use Rattle.std.specs.Cmp.Lexicographic.{slice_cmp}
use Rattle.std.proofs.lemmas.Cmp.{nat_list_cmp_total, tied_itself}
use Rattle.cga_word.proofs.name.NameOrd.cmp.Goals as goal

pub returns-then-eq : goal.returns-then-eq
returns-then-eq c =
    let same : c.args.self.now ≡ c.args.other.now = (bytes_decides c.args.self.now c.args.other.now).0 (sym c.eq.ensures ∙ c.if-eq.true) in
    sym (ap (slice_cmp nat_cmp c.args.self.now) (sym same) ∙ tied_itself nat_list_cmp_total c.args.self.now)
