-- A whole number divided by another that isn't 0 is never out of range.
use Rattle.std.proofs.Common.{◌≡◌, ℕ, zero, suc, ◌+◌, ◌*◌, ◌/◌, ◌<◌, ◌≤◌, ◌^◌, ap, sym, ◌∙◌, subst, arith, ℤ, pos, Result, Ok, Err}
use Rattle.std.specs.Prelude.{◌*ℤ◌, unsigned_abs}
use Rattle.std.proofs.Math.Nat.{div-le_self}
use Rattle.std.proofs.Math.IntN.{pos-*ℤ-pos}
use Rattle.cga_fraction.specs.Rat.{Rat, den, of_int}
use Rattle.cga_fraction.specs.Gcd.{gcd}
use Rattle.cga_fraction.specs.Arithmetic.{reduced, times, divided}
use Rattle.cga_fraction.specs.Refusals.{checked, quotient_of}
use Rattle.cga_fraction.specs.Results.{or_err}
use Rattle.cga_fraction.specs.declared.overflow.DivFault.TheVariants as fault
use Rattle.cga_fraction.specs.declared.overflow.DivFault.{DivFault}
use Rattle.cga_fraction.proofs.Door.{checked-in, den-reduced}

small_num : (m e : ℕ) → m ≤ 2 ^ 62 → unsigned_abs (reduced (pos m) e).num ≤ 2 ^ 62
unfolding reduced
small_num m e h = let k : m / gcd m e ≤ m = div-le_self m (gcd m e) in omega arith

small_den : (m e : ℕ) → 0 < e → e ≤ 2 ^ 62 → den (reduced (pos m) e) ≤ 2 ^ 62
small_den m e p h = let k : e / gcd m e ≤ e = div-le_self e (gcd m e) in let q : den (reduced (pos m) e) ≡ e / gcd m e = den-reduced (pos m) e p in omega arith

divided_is : (n k : ℕ) → divided (of_int (pos n)) (of_int (pos (suc k))) ≡ reduced (pos n) (suc k)
unfolding divided times
divided_is n k =
    let e : pos n *ℤ pos 1 ≡ pos n = pos-*ℤ-pos n 1 ∙ ap pos (let q : n * 1 ≡ n = omega arith in q) in
    let f : 1 * (k + 1) ≡ suc k = omega arith in
    ap (λ z. reduced z (1 * (k + 1))) e ∙ ap (λ z. reduced (pos n) z) f

in_range : (n k : ℕ) → n ≤ 2 ^ 62 → suc k ≤ 2 ^ 62
    → checked (divided (of_int (pos n)) (of_int (pos (suc k)))) ≡ Ok (divided (of_int (pos n)) (of_int (pos (suc k))))
in_range n k a b =
    let e = divided_is n k in
    subst (λ r. checked r ≡ Ok r) (sym e) (checked-in (reduced (pos n) (suc k)) (small_num n (suc k) a) (small_den n (suc k) (omega arith) b))

quotient_is : (n d : ℕ) → n ≤ 2 ^ 62 → 0 < d → d ≤ 2 ^ 62
    → quotient_of (of_int (pos n)) (of_int (pos d)) ≡ Ok (divided (of_int (pos n)) (of_int (pos d)))
unfolding quotient_of
quotient_is n zero a p b = absurd (omega arith)
quotient_is n (suc k) a p b = ap (or_err fault.Overflow) (in_range n k a b)

module _ (n d : ℕ) (x y : ℤ) (a : n ≤ 2 ^ 62) (p : 0 < d) (b : d ≤ 2 ^ 62) (e : x ≡ pos n) (f : y ≡ pos d) (r : Result Rat DivFault) (h : r ≡ quotient_of (of_int x) (of_int y)) where
  found : r ≡ Ok (divided (of_int (pos n)) (of_int (pos d)))
  found = h ∙ ap (λ z. quotient_of (of_int z) (of_int y)) e ∙ ap (λ z. quotient_of (of_int (pos n)) (of_int z)) f ∙ quotient_is n d a p b

  pub never_refused : (o : DivFault) → r ≡ Err o → ⊥
  never_refused o q = let g = found in cc

  pub quotient_found : (v : Rat) → r ≡ Ok v → v ≡ divided (of_int (pos n)) (of_int (pos d))
  quotient_found v q = let g = found in cc
