use Rattle.std.proofs.Common.{arith, refl}
use Rattle.cga_fraction.proofs.Texts.{no_digits, two_more}
use Rattle.cga_fraction.proofs.fraction.text.last_ten.Goals as goal

pub returns : goal.returns
returns c =
    let n = c.args.number in
    rw (two_more 8 n _ _ refl c.last_two.ensures, two_more 6 n _ _ refl c.last_two-2.ensures, two_more 4 n _ _ refl c.last_two-3.ensures, two_more 2 n _ _ refl c.last_two-4.ensures, two_more 0 n _ _ (omega arith) c.last_two-5.ensures, no_digits n) refl
