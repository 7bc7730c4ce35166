-- The bill of a list is a bill of it, and the only one.
use Rattle.std.proofs.Common.{◌≡◌, ℕ, List, [], ◌∷◌, ◌++◌, refl, sym, ◌∙◌, ap, Bool, true, false, cond, subst, append_assoc}
use Rattle.std.specs.Prelude.{Option, Some, None, bytes_eq, ◌||◌}
use Rattle.std.specs.List.{AllByRecursion, filter, fold, list_any}
use Rattle.std.specs.List.Sorted.{IsStrictlySortedBy}
use Rattle.std.specs.Map.{keys_of, lookup}
use Rattle.std.specs.BTreeMap.{insert_entry, is_at}
use Rattle.std.specs.Ordering.{is_eq, match_ordering}
use Rattle.std.specs.declared.cmp.Ordering.{Ordering}
use Rattle.std.specs.declared.cmp.Ordering.TheVariants.{Less, Equal, Greater}
use Rattle.std.proofs.lemmas.Cmp.{nat_list_cmp_total}
use Rattle.std.proofs.lemmas.List.{append-nil}
use Rattle.std.proofs.lemmas.Map.Lookups.{exact_bytes}
use Rattle.std.proofs.lemmas.Map.Text.{is_eq-slice_cmp}
use Rattle.std.proofs.lemmas.Slice.Eq.{bytes_eq-Decides}
use Rattle.cga_shape.specs.declared.drawn.Drawn.{Drawn}
use Rattle.cga_bill.specs.Bill.{IsBill, bill_of, by_bytes, of_symbol, sums_of, sums_or_none}
use Rattle.cga_bill.specs.declared.sums.Sums.{Sums}
use Rattle.cga_bill.proofs.Unique.{unique}
use Rattle.std.proofs.lemmas.Bool.{false_from_ne_true as not_true}

abbrev Lines : Type 0
Lines = List (List ℕ × Sums)

-- ---- names

-- a name that stands behind another isn't equal to it
differs : (k q e : List ℕ) → q ≡ e → by_bytes k e ≡ Greater → bytes_eq q k ≡ false
differs k q e s h =
    let no : bytes_eq k e ≡ false = sym (is_eq-slice_cmp k e) ∙ ap is_eq h in
    not_true (bytes_eq q k) (λ t. let same : k ≡ e = sym ((bytes_eq-Decides q k).0 t) ∙ s in
    let yes : bytes_eq k e ≡ true = (bytes_eq-Decides k e).1 same in let both : true ≡ false = sym yes ∙ no in cc)

-- ---- an entry is put in its place

module _ (k : List ℕ) (v : Sums) where
  put_below : (x : List ℕ) (es : Lines) → by_bytes x k ≡ Less → AllByRecursion (λ y. by_bytes x y ≡ Less) (keys_of es)
      → AllByRecursion (λ y. by_bytes x y ≡ Less) (keys_of (insert_entry by_bytes es k v))
  put_below x [] h a = (h, tt)
  put_below x (e ∷ es) h a =
      elim (by_bytes k e.0) as (λ (o : Ordering). AllByRecursion (λ y. by_bytes x y ≡ Less) (keys_of (match_ordering o ((k, v) ∷ e ∷ es) ((e.0, v) ∷ es) (e ∷ insert_entry by_bytes es k v)))) [
        | Less ↦ (h, a)
        | Equal ↦ a
        | Greater ↦ (a.0, put_below x es h a.1)
      ]

  below_all : (e : List ℕ) (ks : List (List ℕ)) → by_bytes k e ≡ Less → AllByRecursion (λ y. by_bytes e y ≡ Less) ks
      → AllByRecursion (λ y. by_bytes k y ≡ Less) ks
  below_all e [] h a = tt
  below_all e (x ∷ xs) h a = (nat_list_cmp_total.trans k e x h a.0, below_all e xs h a.1)

  turned : (e : List ℕ) → by_bytes k e ≡ Greater → by_bytes e k ≡ Less
  turned e h = nat_list_cmp_total.antisymm e k ∙ rw h refl

  put_sorted : (es : Lines) → IsStrictlySortedBy by_bytes (keys_of es)
      → IsStrictlySortedBy by_bytes (keys_of (insert_entry by_bytes es k v))
  unfolding IsStrictlySortedBy
  put_sorted [] s = (tt, tt)
  put_sorted (e ∷ es) s =
      elim (by_bytes k e.0) as (λ (o : Ordering). by_bytes k e.0 ≡ o → IsStrictlySortedBy by_bytes (keys_of (match_ordering o ((k, v) ∷ e ∷ es) ((e.0, v) ∷ es) (e ∷ insert_entry by_bytes es k v)))) [
        | Less ↦ λ h. ((h, below_all e.0 (keys_of es) h s.0), s)
        | Equal ↦ λ h. s
        | Greater ↦ λ h. (put_below e.0 es (turned e.0 h) s.0, put_sorted es s.1)
      ] refl

  put_found : (es : Lines) (q : List ℕ)
      → lookup (is_at (by_bytes q)) (insert_entry by_bytes es k v) ≡ cond (bytes_eq q k) (Some v)
      (lookup (is_at (by_bytes q)) es)
  put_found [] q = ap (λ (b : Bool). cond b (Some v) None) (is_eq-slice_cmp q k)
  put_found (e ∷ es) q =
      let below : Lines = insert_entry by_bytes es k v in
      let look : Lines → Option Sums = λ (l : Lines). lookup (is_at (by_bytes q)) l in
      elim (by_bytes k e.0) as (λ (o : Ordering). by_bytes k e.0 ≡ o → look (match_ordering o ((k, v) ∷ e ∷ es) ((e.0, v) ∷ es) (e ∷ below)) ≡ cond (bytes_eq q k) (Some v) (look (e ∷ es))) [
        | Less ↦ λ h. ap (λ (b : Bool). cond b (Some v) (look (e ∷ es))) (is_eq-slice_cmp q k)
        | Equal ↦ λ h.
            let s : k ≡ e.0 = exact_bytes k e.0 h in
            subst (λ (x : List ℕ). cond (is_at (by_bytes q) x) (Some v) (look es) ≡ cond (bytes_eq q k) (Some v) (cond (is_at (by_bytes q) x) (Some e.1) (look es))) s
            (elim (bytes_eq q k) as (λ (b : Bool). bytes_eq q k ≡ b → cond (is_at (by_bytes q) k) (Some v) (look es) ≡ cond b (Some v) (cond (is_at (by_bytes q) k) (Some e.1) (look es))) [
              | true ↦ λ b. rw (is_eq-slice_cmp q k ∙ b) refl
              | false ↦ λ b. rw (is_eq-slice_cmp q k ∙ b) refl
            ] refl)
        | Greater ↦ λ h.
            ap (λ (o : Option Sums). cond (is_at (by_bytes q) e.0) (Some e.1) o) (put_found es q)
            ∙ elim (bytes_eq q e.0) as (λ (b : Bool). bytes_eq q e.0 ≡ b → cond (is_at (by_bytes q) e.0) (Some e.1)
            (cond (bytes_eq q k) (Some v) (look es)) ≡ cond (bytes_eq q k) (Some v) (cond (is_at (by_bytes q) e.0) (Some e.1) (look es))) [
              | true ↦ λ b.
                  let s : q ≡ e.0 = (bytes_eq-Decides q e.0).0 b in
                  rw (is_eq-slice_cmp q e.0 ∙ b, differs k q e.0 s h) refl
              | false ↦ λ b. rw (is_eq-slice_cmp q e.0 ∙ b) refl
            ] refl
      ] refl

-- ---- the bill of a list

-- the symbols of these instances have their sums in the whole list, and no other symbol has any
record HasLines (lines : Lines) (some list : List Drawn) : Type 0 where
  ordered : IsStrictlySortedBy by_bytes (keys_of lines)
  sums : (s : List ℕ)
      → lookup (is_at (by_bytes s)) lines ≡ cond (list_any (λ (d : Drawn). bytes_eq s d.symbol) some)
      (Some (sums_of (of_symbol s list))) None

module _ (list : List Drawn) where
  abbrev with_line : Lines → Drawn → Lines
  with_line lines d = insert_entry by_bytes lines d.symbol (sums_of (of_symbol d.symbol list))

  any_more : (s : List ℕ) (done : List Drawn) (d : Drawn)
      → list_any (λ (x : Drawn). bytes_eq s x.symbol) (done ++ d ∷ []) ≡
      (bytes_eq s d.symbol || list_any (λ (x : Drawn). bytes_eq s x.symbol) done)
  any_more s [] d = refl
  any_more s (x ∷ xs) d =
      ap (λ (b : Bool). bytes_eq s x.symbol || b) (any_more s xs d)
      ∙ elim (bytes_eq s x.symbol) as (λ (b : Bool).
      (b || (bytes_eq s d.symbol || list_any (λ (x : Drawn). bytes_eq s x.symbol) xs)) ≡ (bytes_eq s d.symbol
      || (b || list_any (λ (x : Drawn). bytes_eq s x.symbol) xs))) [
        | true ↦ elim (bytes_eq s d.symbol) as (λ (b : Bool). true ≡ (b || true)) [ true ↦ refl | false ↦ refl ]
        | false ↦ refl
      ]

  one_line : (lines : Lines) (done : List Drawn) (d : Drawn) → HasLines lines done list
      → HasLines (with_line lines d) (done ++ d ∷ []) list
  one_line lines done d h = record {
    ordered = put_sorted d.symbol (sums_of (of_symbol d.symbol list)) lines h.ordered;
    sums = λ s. put_found d.symbol (sums_of (of_symbol d.symbol list)) lines s
        ∙ (ap (λ (o : Option Sums). cond (bytes_eq s d.symbol) (Some (sums_of (of_symbol d.symbol list))) o) (h.sums s)
        ∙ (at s (bytes_eq s d.symbol) refl ∙ ap (λ (b : Bool). cond b (Some (sums_of (of_symbol s list))) None) (sym (any_more s done d))));
  }
    where
      found : List ℕ → Bool
      found s = list_any (λ (x : Drawn). bytes_eq s x.symbol) done

      at : (s : List ℕ) (b : Bool) → bytes_eq s d.symbol ≡ b
          → cond (bytes_eq s d.symbol) (Some (sums_of (of_symbol d.symbol list)))
          (cond (list_any (λ (x : Drawn). bytes_eq s x.symbol) done) (Some (sums_of (of_symbol s list))) None)
          ≡ cond (bytes_eq s d.symbol || list_any (λ (x : Drawn). bytes_eq s x.symbol) done) (Some (sums_of (of_symbol s list))) None
      at s true e = rw e (ap (λ (k : List ℕ). Some (sums_of (of_symbol k list))) (sym ((bytes_eq-Decides s d.symbol).0 e)))
      at s false e = rw e refl

  all_lines : (rest done : List Drawn) (lines : Lines) → HasLines lines done list
      → HasLines (fold with_line lines rest) (done ++ rest) list
  all_lines [] done lines h = subst (λ (l : List Drawn). HasLines lines l list) (sym (append-nil done)) h
  all_lines (d ∷ ds) done lines h = subst (λ (l : List Drawn). HasLines (fold with_line (with_line lines d) ds) l
      list) (append_assoc done (d ∷ []) ds) (all_lines ds (done ++ d ∷ []) (with_line lines d) (one_line lines done d h))

  no_lines : HasLines [] [] list
  unfolding IsStrictlySortedBy
  no_lines = record { ordered = tt; sums = λ s. refl }

found_or_none : (p : Drawn → Bool) (xs : List Drawn)
    → cond (list_any p xs) (Some (sums_of (filter p xs))) None ≡ sums_or_none (filter p xs)
found_or_none p [] = refl
found_or_none p (x ∷ xs) =
    elim (p x) as (λ (b : Bool). cond (b || list_any p xs) (Some (sums_of (cond b (x ∷ filter p xs) (filter p xs)))) None ≡ sums_or_none (cond b (x ∷ filter p xs) (filter p xs))) [
      | true ↦ refl
      | false ↦ found_or_none p xs
    ]

pub is_bill : (list : List Drawn) → IsBill (bill_of list) list
unfolding bill_of
is_bill list =
    let h = all_lines list list [] [] (no_lines list) in
    record { ordered = h.ordered; sums = λ s. h.sums s ∙ found_or_none (λ (d : Drawn). bytes_eq s d.symbol) list }

pub only_bill : (lines : Lines) (list : List Drawn) → IsBill lines list → lines ≡ bill_of list
only_bill lines list h =
    let is : IsBill (bill_of list) list = is_bill list in
    unique lines (bill_of list) h.ordered is.ordered (λ q. h.sums q ∙ sym (is.sums q))
