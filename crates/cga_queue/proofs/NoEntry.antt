-- When no entry of two lines counts.
use Rattle.std.proofs.Common.{◌≡◌, arith, List, [], ◌∷◌, length, refl}
use Rattle.std.specs.declared.cmp.Ordering.{Ordering}
use Rattle.cga_queue.specs.Lines.{counted, spare}

-- no entry counts exactly where there is none in either line
pub none_counted : {K X : Type 0} (cmp : K → K → Ordering) (es ls : List (K × X)) → length es ≡ 0 → length ls ≡ 0
    → counted cmp es ls ≡ []
unfolding spare
none_counted cmp [] [] e f = refl
none_counted cmp [] (l ∷ ls) e f = absurd (omega (arith, f))
none_counted cmp (x ∷ es) ls e f = absurd (omega (arith, e))

pub counted_none : {K X : Type 0} (cmp : K → K → Ordering) (es ls : List (K × X)) → counted cmp es ls ≡ []
    → (length es ≡ 0) × (length ls ≡ 0)
unfolding spare
counted_none cmp [] [] e = (refl, refl)
counted_none cmp [] (l ∷ ls) e = absurd (cc)
counted_none cmp (x ∷ es) ls e = absurd (cc)
