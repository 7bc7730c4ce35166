-- The least number of places in which a number is exact.
use Rattle.std.proofs.Common.{◌≡◌, ℕ, zero, suc, ◌+◌, ◌-◌, ◌%◌, ◌^◌, ◌<◌, ◌≤◌, ◌==◌, refl, sym, ◌∙◌, arith, true, false, Bool}
use Rattle.std.proofs.lemmas.Bool.Decides.{eqb_tells}
use Rattle.cga_fraction.specs.Texts.{places_from}

is_zero_at : (n : ℕ) → n ≡ 0 → (n == 0) ≡ true
is_zero_at n e = grind (arith, eqb_tells n 0)

is_other_at : (n : ℕ) → (n ≡ 0 → ⊥) → (n == 0) ≡ false
is_other_at n e = grind (arith, eqb_tells n 0)

one_more : (more places d : ℕ) → (10 ^ places % d == 0) ≡ false
    → places_from (suc more) places d ≡ places_from more (places + 1) d
unfolding places_from
one_more more places d e = rw e refl

here : (more places d : ℕ) → (10 ^ places % d == 0) ≡ true → places_from (suc more) places d ≡ places
unfolding places_from
here more places d e = rw e refl

none_left : (places d : ℕ) → places_from 0 places d ≡ places
unfolding places_from
none_left places d = refl

-- the steps of the code
pub goes_on : (most places d rest : ℕ) → rest ≡ 10 ^ places % d → (rest ≡ 0 → ⊥) → places < most
    → places_from (most - (places + 1)) (places + 1) d ≡ places_from (most - places) places d
goes_on most places d rest e some h =
    let k : most - places ≡ suc (most - (places + 1)) = omega arith in
    rw k (sym (one_more (most - (places + 1)) places d (is_other_at (10 ^ places % d) (λ z. some (e ∙ z)))))

pub stops : (more places d rest : ℕ) → rest ≡ 10 ^ places % d → rest ≡ 0 → 0 < more → places_from more places d ≡ places
stops more places d rest e z h =
    let k : suc (more - 1) ≡ more = omega arith in
    rw (← k) (here (more - 1) places d (is_zero_at (10 ^ places % d) (sym e ∙ z)))

pub ends : (more places d : ℕ) → more ≡ 0 → places_from more places d ≡ places
ends more places d e = rw e (none_left places d)

-- where a number of places is exact, the least one is, and it isn't greater
exact_at : (more places d k : ℕ) → places ≤ k → k ≤ places + more → 10 ^ k % d ≡ 0 → (t : Bool)
    → (10 ^ places % d == 0) ≡ t → (places_from more places d ≤ k) × (10 ^ places_from more places d % d ≡ 0)
exact_at zero places d k h l e t s =
    let p : places ≡ k = omega arith in
    let q = none_left places d in (rw q h, rw (q, p) e)
exact_at (suc more) places d k h l e true s =
    let q = here more places d s in
    let z : 10 ^ places % d ≡ 0 = grind (arith, eqb_tells (10 ^ places % d) 0) in (rw q h, rw q z)
exact_at (suc more) places d k h l e false s =
    let z : 10 ^ places % d ≡ 0 → ⊥ = λ (w : 10 ^ places % d ≡ 0). grind (arith, eqb_tells (10 ^ places % d) 0) in
    let n : places ≡ k → ⊥ = λ (w : places ≡ k). z (rw w e) in
    let r = exact_at more (places + 1) d k (omega arith) (omega arith) e (10 ^ (places + 1) % d == 0) refl in
    let q = one_more more places d s in (rw q r.0, rw q r.1)

pub least_exact : (d k : ℕ) → k ≤ 17 → 10 ^ k % d ≡ 0 → (places_from 17 0 d ≤ k) × (10 ^ places_from 17 0 d % d ≡ 0)
least_exact d k h e = exact_at 17 0 d k (omega arith) (omega arith) e (10 ^ 0 % d == 0) refl
