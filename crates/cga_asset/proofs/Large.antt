-- Sums that pass a limit.
use Rattle.std.proofs.Common.{◌≡◌, ℕ, ◌+◌, ◌≤◌, ◌<◌, List, length, get_or, take, sym, ◌∙◌, ap, arith, Bool, true, false, Ok, Err}
use Rattle.std.specs.Prelude.{if◌then◌else◌, nat_lt, sum_by, ◌||◌}
use Rattle.std.proofs.lemmas.Grind.{common_steps}
use Rattle.std.proofs.lemmas.List.{take_all}
use Rattle.std.proofs.lemmas.List.Sums.{sum_by_more, sum_by-take-le}
use Rattle.cga_shape.specs.declared.drawn.Drawn.{Drawn}
use Rattle.cga_obj.specs.Lots.{Shown}
use Rattle.cga_asset.specs.Dressed.{entries_of, is_over, vertices_of, with_drawn, within_limit}
use Rattle.cga_asset.specs.declared.model_size.ModelSize.{ModelSize}

-- one of two numbers passes its limit
abbrev pub passes : ℕ → ℕ → Bool
passes a b = nat_lt 4000000 a || nat_lt 16000000 b

pub passes_more : (a b c d : ℕ) → a ≤ c → b ≤ d → passes a b ≡ true → passes c d ≡ true
passes_more a b c d h k e = grind (arith, common_steps, e, h, k)

pub passes_none : (a b : ℕ) → passes a b ≡ false → (a ≤ 4000000) × (b ≤ 16000000)
passes_none a b e = (grind (arith, common_steps, e), grind (arith, common_steps, e))

pub next_sum : {X : Type 0} (f : X → ℕ) (xs : List X) (i : ℕ) (d : X) (v n : ℕ) → i < length xs → get_or xs i d ≡ d
    → v ≡ sum_by f (take i xs) → n ≡ f d → v + n ≡ sum_by f (take (i + 1) xs)
next_sum f xs i d v n h at e k =
    let more = sum_by_more f xs i d h in
    let this : f (get_or xs i d) ≡ f d = ap f at in
    omega (arith, more, this, e, k)

-- one item more, behind a number
pub next_from : {X : Type 0} (f : X → ℕ) (xs : List X) (i s : ℕ) (d : X) (v n : ℕ) → i < length xs → get_or xs i d ≡ d
    → v ≡ s + sum_by f (take i xs) → n ≡ f d → v + n ≡ s + sum_by f (take (i + 1) xs)
next_from f xs i s d v n h at e k =
    let more = sum_by_more f xs i d h in
    let this : f (get_or xs i d) ≡ f d = ap f at in
    omega (arith, more, this, e, k)

-- the first so many pass already
pub passed : (f g : Drawn → ℕ) (xs : List Drawn) (i s t a b : ℕ) → a ≡ s + sum_by f (take i xs)
    → b ≡ t + sum_by g (take i xs) → passes a b ≡ true → passes (s + sum_by f xs) (t + sum_by g xs) ≡ true
passed f g xs i s t a b e k p =
    let h = sum_by-take-le f xs i in
    let l = sum_by-take-le g xs i in
    passes_more a b (s + sum_by f xs) (t + sum_by g xs) (omega (arith, e, h)) (omega (arith, k, l)) p

small_none : (a b : ℕ) → a ≤ 4000000 → b ≤ 16000000 → passes a b ≡ false
small_none a b h k = grind (arith, common_steps, h, k)

pub refused : (mesh : Shown) (xs : List Drawn) (size : ModelSize) (i a b : ℕ)
    → a ≡ size.vertices + sum_by (vertices_of mesh) (take i xs)
    → b ≡ size.entries + sum_by (entries_of mesh) (take i xs)
    → passes a b ≡ true → Err (record {}) ≡ within_limit (with_drawn mesh xs size)
refused mesh xs size i a b e k p =
    let over = passed (vertices_of mesh) (entries_of mesh) xs i size.vertices size.entries a b e k p in
    ap (λ (o : Bool). if o then Err (record {}) else Ok (with_drawn mesh xs size)) (sym over)

-- all of them don't
pub kept_small : (mesh : Shown) (xs : List Drawn) (size : ModelSize) (i a b : ℕ) → length xs ≤ i
    → a ≡ size.vertices + sum_by (vertices_of mesh) (take i xs)
    → b ≡ size.entries + sum_by (entries_of mesh) (take i xs)
    → a ≤ 4000000 → b ≤ 16000000
    → Ok (record { vertices = a; entries = b }) ≡ within_limit (with_drawn mesh xs size)
kept_small mesh xs size i a b h e k small few =
    let p : a ≡ size.vertices + sum_by (vertices_of mesh) xs = e ∙ ap (λ (l : List Drawn). size.vertices + sum_by (vertices_of mesh) l) (take_all i xs h) in
    let q : b ≡ size.entries + sum_by (entries_of mesh) xs = k ∙ ap (λ (l : List Drawn). size.entries + sum_by (entries_of mesh) l) (take_all i xs h) in
    let none : is_over (with_drawn mesh xs size) ≡ false = small_none (size.vertices + sum_by (vertices_of mesh) xs) (size.entries + sum_by (entries_of mesh) xs)
    (omega (arith, p, small)) (omega (arith, q, few)) in
    rw (p, q) (ap (λ (o : Bool). if o then Err (record {}) else Ok (with_drawn mesh xs size)) (sym none))
