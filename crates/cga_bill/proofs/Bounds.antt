-- How large sums get.
use Rattle.std.proofs.Common.{◌≡◌, ℕ, ◌+◌, ◌*◌, ◌/◌, ◌^◌, ◌≤◌, List, [], ◌∷◌, length, refl, sym, arith, Bool, true, false, cond, subst, unsigned_abs}
use Rattle.std.specs.Prelude.{Result, Ok, Err, bytes_eq, nat_le, sum_by}
use Rattle.std.proofs.Math.Nat.{div-le_self}
use Rattle.std.proofs.lemmas.Grind.{common_steps}
use Rattle.std.proofs.lemmas.List.Sums.{count_by-le-length, length-filter, sum_by-cons}
use Rattle.cga_fraction.specs.Arithmetic.{times}
use Rattle.cga_fraction.specs.Rat.{Rat, den}
use Rattle.cga_fraction.specs.Refusals.{checked, in_range}
use Rattle.cga_fraction.specs.Results.{and_then}
use Rattle.cga_fraction.specs.Texts.{round_of}
use Rattle.cga_fraction.specs.declared.overflow.Overflow.{Overflow}
use Rattle.cga_frame.specs.Scope.{Scope}
use Rattle.cga_shape.specs.declared.drawn.Drawn.{Drawn}
use Rattle.cga_bill.specs.Measures.{measure_of, millionths_of}
use Rattle.cga_bill.specs.declared.measure.Measure.{Measure}
use Rattle.cga_bill.specs.Amounts.{HasRoom}
use Rattle.cga_bill.specs.Bill.{IsBill, front_in, front_of, is_unmeasured, of_symbol, sums_of, volume_in, volume_of}
use Rattle.cga_bill.specs.Lines.{sums_at}
use Rattle.cga_bill.specs.declared.sums.Sums.{Sums}
use Rattle.cga_bill.proofs.Steps.{at_symbol}
use Rattle.std.proofs.lemmas.Bool.{and_parts as both}
use Rattle.cga_fraction.proofs.Door.{abs-with_sign}

pub millionths_are : (a : Rat) → millionths_of a ≡ (2 * (unsigned_abs a.num * 10 ^ 6) + den a) / (2 * den a)
unfolding round_of
millionths_are a = abs-with_sign a.num ((2 * (unsigned_abs a.num * 10 ^ 6) + den a) / (2 * den a))

pub millionths_from : (a : Rat) (n d : ℕ) → n ≡ unsigned_abs a.num → d ≡ den a
    → (2 * (n * 1000000) + d) / (2 * d) ≡ millionths_of a
millionths_from a n d e f = rw (e, f) (sym (millionths_are a))

small : (a : Rat) → in_range a ≡ true → millionths_of a ≤ 2 ^ 84
small a e =
    let parts = both (nat_le (unsigned_abs a.num) (2 ^ 62)) (nat_le (den a) (2 ^ 62)) e in
    let n : unsigned_abs a.num ≤ 2 ^ 62 = grind (arith, common_steps, parts.0) in
    let d : den a ≤ 2 ^ 62 = grind (arith, common_steps, parts.1) in
    let q = div-le_self (2 * (unsigned_abs a.num * 10 ^ 6) + den a) (2 * den a) in
    let is = millionths_are a in
    omega (arith, n, d, q, is)

checked_small : (a r : Rat) → checked a ≡ Ok r → millionths_of r ≤ 2 ^ 84
unfolding checked
checked_small a r e =
    elim (in_range a) as (λ (b : Bool). in_range a ≡ b → ◌≡◌ {A = Result Rat Overflow} (cond b (Ok a) (Err (record {}))) (Ok r) → millionths_of r ≤ 2 ^ 84) [
      | true ↦ λ f g. let s : a ≡ r = cc in subst (λ (x : Rat). millionths_of x ≤ 2 ^ 84) s (small a f)
      | false ↦ λ f g. absurd (cc)
    ] refl e

-- neither the front nor the volume of an instance is larger
IsSmall : Result Measure Overflow → Type 0
IsSmall m = (front_in m ≤ 2 ^ 84) × (volume_in m ≤ 2 ^ 84)

measure_small : (s : Scope) → IsSmall (measure_of s)
unfolding measure_of IsSmall
measure_small s =
    elim (checked (times s.size.x s.size.y)) as (λ (o : Result Rat Overflow). checked (times s.size.x s.size.y) ≡ o
    → IsSmall (and_then o (λ area. and_then (checked (times area s.size.z)) (λ volume. Ok (record { front = millionths_of area; volume = millionths_of volume }))))) [
      | Ok area ↦ λ e.
          elim (checked (times area s.size.z)) as (λ (o : Result Rat Overflow). checked (times area s.size.z) ≡ o
          → IsSmall (and_then o (λ volume. Ok (record { front = millionths_of area; volume = millionths_of volume })))) [
            | Ok volume ↦ λ f. (checked_small _ area e, checked_small _ volume f)
            | Err x ↦ λ f. (omega arith, omega arith)
          ] refl
      | Err x ↦ λ e. (omega arith, omega arith)
    ] refl

front_small : (d : Drawn) → front_of d ≤ 2 ^ 84
unfolding IsSmall
front_small d = (measure_small d.scope).0

volume_small : (d : Drawn) → volume_of d ≤ 2 ^ 84
unfolding IsSmall
volume_small d = (measure_small d.scope).1

sum_small : (f : Drawn → ℕ) → ((d : Drawn) → f d ≤ 2 ^ 84) → (xs : List Drawn) → sum_by f xs ≤ length xs * 2 ^ 84
sum_small f h [] = omega arith
sum_small f h (x ∷ xs) =
    let a = sum_by-cons f x xs in
    let b = h x in
    let c = sum_small f h xs in
    omega (arith, a, b, c)

pub can_add : (lines : List (List ℕ × Sums)) (d : Drawn) (list : List Drawn) → IsBill lines list
    → length list + 1 ≤ 2 ^ 32 → HasRoom (sums_at lines d.symbol) (sums_of (d ∷ []))
can_add lines d list h few =
    let own : List Drawn = of_symbol d.symbol list in
    let n : length own ≤ length list = subst (λ (k : ℕ). k ≤ length list)
    (sym (length-filter (λ (x : Drawn). bytes_eq d.symbol x.symbol) list)) (count_by-le-length (λ (x : Drawn). bytes_eq d.symbol x.symbol) list) in
    let front = sum_small front_of front_small own in
    let volume = sum_small volume_of volume_small own in
    let one_front = sum_small front_of front_small (d ∷ []) in
    let one_volume = sum_small volume_of volume_small (d ∷ []) in
    let none = count_by-le-length is_unmeasured own in
    let one_none = count_by-le-length is_unmeasured (d ∷ []) in
    subst (λ (s : Sums). HasRoom s (sums_of (d ∷ []))) (sym (at_symbol lines list d.symbol h)) (record {
      number = omega (arith, n);
      front = omega (arith, n, front, one_front);
      volume = omega (arith, n, volume, one_volume);
      unmeasured = omega (arith, n, none, one_none);
    })
