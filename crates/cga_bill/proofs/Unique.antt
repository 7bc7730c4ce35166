-- Lines that stand by bytes are told by what is found in them.
use Rattle.std.proofs.Common.{◌≡◌, ℕ, List, [], ◌∷◌, refl, sym, ◌∙◌, ap, Bool, true, false, cond}
use Rattle.std.specs.Prelude.{Option, Some, None, bytes_eq, is_some, unwrap_or}
use Rattle.std.specs.List.Sorted.{IsStrictlySortedBy}
use Rattle.std.specs.Map.{keys_of, lookup}
use Rattle.std.specs.BTreeMap.{is_at}
use Rattle.std.specs.Ordering.{ordering_reverse}
use Rattle.std.specs.declared.cmp.Ordering.{Ordering}
use Rattle.std.specs.declared.cmp.Ordering.TheVariants.{Less, Equal, Greater}
use Rattle.std.proofs.lemmas.Cmp.{nat_list_cmp_total}
use Rattle.std.proofs.lemmas.Map.{lookup-none}
use Rattle.std.proofs.lemmas.Map.Entries.{none_below_head}
use Rattle.std.proofs.lemmas.Map.Keys.{sorted_tail}
use Rattle.std.proofs.lemmas.Map.Lookups.{exact_bytes}
use Rattle.std.proofs.lemmas.Map.Text.{is_eq-slice_cmp}
use Rattle.std.proofs.lemmas.Slice.Eq.{bytes_eq-Decides}
use Rattle.cga_bill.specs.Bill.{by_bytes}
use Rattle.cga_bill.specs.declared.sums.Sums.{Sums}

abbrev Line : Type 0
Line = List ℕ × Sums

abbrev find : List Line → List ℕ → Option Sums
find es q = lookup (is_at (by_bytes q)) es

some_is_none : (v : Sums) → Some v ≡ None → ⊥
some_is_none v e = let f : true ≡ false = ap (λ (o : Option Sums). is_some o) e in cc

at_head : (x : Line) (xs : List Line) → find (x ∷ xs) x.0 ≡ Some x.1
at_head x xs = ap (λ (b : Bool). cond b (Some x.1) (find xs x.0)) (is_eq-slice_cmp x.0 x.0 ∙ (bytes_eq-Decides x.0 x.0).1 refl)

below_head : (q : List ℕ) (y : Line) (ys : List Line) → IsStrictlySortedBy by_bytes (keys_of (y ∷ ys))
    → by_bytes q y.0 ≡ Less → find (y ∷ ys) q ≡ None
below_head q y ys s h = lookup-none (is_at (by_bytes q)) (y ∷ ys) (none_below_head nat_list_cmp_total q y ys s h)

-- the first key isn't among the others
past_head : (x : Line) (xs : List Line) → IsStrictlySortedBy by_bytes (keys_of (x ∷ xs)) → find xs x.0 ≡ None
unfolding IsStrictlySortedBy
past_head x [] s = refl
past_head x (y ∷ ys) s = below_head x.0 y ys s.1 (s.0.0)

module _ (x y : Line) (xs ys : List Line) (s : IsStrictlySortedBy by_bytes (keys_of (x ∷ xs)))
    (t : IsStrictlySortedBy by_bytes (keys_of (y ∷ ys))) (h : (q : List ℕ) → find (x ∷ xs) q ≡ find (y ∷ ys) q) where
  heads : x.0 ≡ y.0
  heads =
      elim (by_bytes x.0 y.0) as (λ (o : Ordering). by_bytes x.0 y.0 ≡ o → x.0 ≡ y.0) [
        | Less ↦ λ p. absurd (some_is_none x.1 (sym (at_head x xs) ∙ (h x.0 ∙ below_head x.0 y ys t p)))
        | Equal ↦ λ p. exact_bytes x.0 y.0 p
        | Greater ↦ λ p. absurd (some_is_none y.1 (sym (at_head y ys) ∙ (sym (h y.0) ∙ below_head y.0 x xs s (nat_list_cmp_total.antisymm y.0 x.0 ∙ ap ordering_reverse p))))
      ] refl

  values : x.1 ≡ y.1
  values = ap (λ (o : Option Sums). unwrap_or o x.1) (sym (at_head x xs) ∙ (h x.0 ∙ (ap (λ (k : List ℕ). find (y ∷ ys) k) heads ∙ at_head y ys)))

  tails : (q : List ℕ) → find xs q ≡ find ys q
  tails q =
      elim (bytes_eq q x.0) as (λ (b : Bool). bytes_eq q x.0 ≡ b → find xs q ≡ find ys q) [
        | true ↦ λ e.
            let k : q ≡ x.0 = (bytes_eq-Decides q x.0).0 e in
            ap (λ (k : List ℕ). find xs k) k ∙ (past_head x xs s ∙ sym (ap (λ (k : List ℕ). find ys k) (k ∙ heads) ∙ past_head y ys t))
        | false ↦ λ e.
            let left : find (x ∷ xs) q ≡ find xs q = ap (λ (b : Bool). cond b (Some x.1) (find xs q)) (is_eq-slice_cmp q x.0 ∙ e) in
            let right : find (y ∷ ys) q ≡ find ys q = ap (λ (b : Bool). cond b (Some y.1) (find ys q)) (is_eq-slice_cmp q y.0 ∙ (ap (bytes_eq q) (sym heads) ∙ e)) in
            sym left ∙ (h q ∙ right)
      ] refl

pub unique : (es fs : List Line) → IsStrictlySortedBy by_bytes (keys_of es) → IsStrictlySortedBy by_bytes (keys_of fs)
    → ((q : List ℕ) → find es q ≡ find fs q) → es ≡ fs
unique [] [] s t h = refl
unique [] (y ∷ ys) s t h = absurd (some_is_none y.1 (sym (h y.0 ∙ at_head y ys)))
unique (x ∷ xs) [] s t h = absurd (some_is_none x.1 (sym (at_head x xs) ∙ h x.0))
unique (x ∷ xs) (y ∷ ys) s t h =
    let r : xs ≡ ys = unique xs ys (sorted_tail by_bytes x.0 (keys_of xs) s) (sorted_tail by_bytes y.0 (keys_of ys) t) (tails x y xs ys s t h) in
    λ i. (heads x y xs ys s t h i, values x y xs ys s t h i) ∷ r i
