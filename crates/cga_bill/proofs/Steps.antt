-- One instance more, and one fewer.
use Rattle.std.proofs.Common.{◌≡◌, ℕ, List, [], ◌∷◌, ◌++◌, refl, sym, ◌∙◌, ap, Bool, true, false, cond, subst}
use Rattle.std.specs.Prelude.{Option, Some, None, bytes_eq, nat_eq, unwrap_or}
use Rattle.std.specs.BTreeMap.{BTreeMap, IsOrdered, Updates, get}
use Rattle.std.proofs.lemmas.List.{append-nil}
use Rattle.std.proofs.lemmas.List.Elements.{filter-append}
use Rattle.std.proofs.lemmas.Map.Text.{is_eq-slice_cmp}
use Rattle.std.proofs.lemmas.Slice.Eq.{bytes_eq-Decides}
use Rattle.cga_shape.specs.declared.changes.Changes.{Changes}
use Rattle.cga_shape.specs.declared.drawn.Drawn.{Drawn}
use Rattle.cga_bill.specs.Amounts.{Holds, minus_sums, no_sums, plus_sums}
use Rattle.cga_bill.specs.Bill.{Balances, IsBill, by_bytes, of_symbol, sums_of, sums_or_none}
use Rattle.cga_bill.specs.Lines.{left, sums_at}
use Rattle.cga_bill.specs.declared.sums.Sums.{Sums}
use Rattle.cga_bill.proofs.Counts.{SameCounts, appended_same}
use Rattle.cga_bill.proofs.Summed.{found_or_nothing, holds_one, left_of, none_alike, same_sums, some_with_last, sums_append, taken_out}
use Rattle.cga_fraction.proofs.Door.{bytes_eq-false_back}

same_names : (a b : List ℕ) → bytes_eq a b ≡ true → a ≡ b
same_names a b e = (bytes_eq-Decides a b).0 e

eq_self : (a : List ℕ) → bytes_eq a a ≡ true
eq_self a = (bytes_eq-Decides a a).1 refl

test_of : List ℕ → Drawn → Bool
test_of s d = bytes_eq s d.symbol

-- an instance of the symbol, and one of another
own : (d : Drawn) (ds : List Drawn) → of_symbol d.symbol (d ∷ ds) ≡ d ∷ of_symbol d.symbol ds
own d ds = rw (eq_self d.symbol) refl

other : (s : List ℕ) (d : Drawn) (ds : List Drawn) → bytes_eq s d.symbol ≡ false → of_symbol s (d ∷ ds) ≡ of_symbol s ds
other s d ds e = rw e refl

joined : (s : List ℕ) (xs ys : List Drawn) → of_symbol s (xs ++ ys) ≡ of_symbol s xs ++ of_symbol s ys
joined s xs ys = filter-append (λ (d : Drawn). bytes_eq s d.symbol) xs ys

-- what a bill has at a symbol
pub at_symbol : (lines : List (List ℕ × Sums)) (list : List Drawn) (s : List ℕ) → IsBill lines list
    → sums_at lines s ≡ sums_of (of_symbol s list)
at_symbol lines list s h = ap (λ (o : Option Sums). unwrap_or o no_sums) (h.sums s) ∙ found_or_nothing (of_symbol s list)

module _ (before after : BTreeMap (List ℕ) Sums) where
  -- where one symbol's sums are set, and all others stay
  changed : (d : Drawn) (w : Option Sums) (old new : List Drawn) → IsBill before.entries old
      → Updates by_bytes before after d.symbol w → IsOrdered by_bytes after
      → w ≡ sums_or_none (of_symbol d.symbol new)
      → ((s : List ℕ) → bytes_eq s d.symbol ≡ false → of_symbol s old ≡ of_symbol s new)
      → IsBill after.entries new
  changed d w old new h u o here there = record {
    ordered = o;
    sums = λ s. at s (bytes_eq d.symbol s) refl (u.0 s ∙ ap (λ (b : Bool). cond b w (get by_bytes before s)) (is_eq-slice_cmp d.symbol s));
  }
    where
      at : (s : List ℕ) (b : Bool) → bytes_eq d.symbol s ≡ b
          → get by_bytes after s ≡ cond (bytes_eq d.symbol s) w (get by_bytes before s)
          → get by_bytes after s ≡ sums_or_none (of_symbol s new)
      at s true e g = (g ∙ ap (λ (b : Bool). cond b w (get by_bytes before s)) e) ∙ (here ∙ ap (λ (k : List ℕ). sums_or_none (of_symbol k new)) (same_names d.symbol s e))
      at s false e g = (g ∙ ap (λ (b : Bool). cond b w (get by_bytes before s)) e) ∙ (h.sums s ∙ ap sums_or_none (there s (bytes_eq-false_back d.symbol s e)))

  -- an instance was added
  pub added : (d : Drawn) (list : List Drawn) → IsBill before.entries list
      → Updates by_bytes before after d.symbol (Some (plus_sums (sums_at before.entries d.symbol) (sums_of (d ∷ []))))
      → IsOrdered by_bytes after
      → IsBill after.entries (list ++ d ∷ [])
  added d list h u o =
      let mine : List Drawn = of_symbol d.symbol list in
      let one : Sums = sums_of (d ∷ []) in
      let all : of_symbol d.symbol (list ++ d ∷ []) ≡ mine ++ d ∷ [] = joined d.symbol list (d ∷ []) ∙ ap (λ (t : List Drawn). mine ++ t) (own d []) in
      changed d (Some (plus_sums (sums_at before.entries d.symbol) one)) list (list ++ d ∷ []) h u o
      (ap (λ (a : Sums). Some (plus_sums a one)) (at_symbol before.entries list d.symbol h) ∙ (ap (λ (a : Sums). Some a) (sym (sums_append mine (d ∷ [])))
      ∙ (sym (some_with_last mine d) ∙ ap sums_or_none (sym all))))
      (λ s e. sym (joined s list (d ∷ []) ∙ (ap (λ (t : List Drawn). of_symbol s list ++ t) (other s d [] e) ∙ append-nil (of_symbol s list))))

  -- an instance was taken away
  pub taken : (d : Drawn) (xs ys : List Drawn) → IsBill before.entries (xs ++ d ∷ ys)
      → Updates by_bytes before after d.symbol (left (minus_sums (sums_at before.entries d.symbol) (sums_of (d ∷ []))))
      → IsOrdered by_bytes after
      → IsBill after.entries (xs ++ ys)
  taken d xs ys h u o =
      let first : List Drawn = of_symbol d.symbol xs in
      let last : List Drawn = of_symbol d.symbol ys in
      let one : Sums = sums_of (d ∷ []) in
      let all : of_symbol d.symbol (xs ++ d ∷ ys) ≡ first ++ d ∷ last = joined d.symbol xs (d ∷ ys) ∙ ap (λ (t : List Drawn). first ++ t) (own d ys) in
      let then : minus_sums (sums_at before.entries d.symbol) one ≡ sums_of (first ++ last) =
      ap (λ (a : Sums). minus_sums a one) (at_symbol before.entries (xs ++ d ∷ ys) d.symbol h ∙ ap sums_of all) ∙ taken_out first last d in
      changed d (left (minus_sums (sums_at before.entries d.symbol) one)) (xs ++ d ∷ ys) (xs ++ ys) h u o
      (ap left then ∙ (left_of (first ++ last) ∙ ap sums_or_none (sym (joined d.symbol xs ys))))
      (λ s e. joined s xs (d ∷ ys) ∙ (ap (λ (t : List Drawn). of_symbol s xs ++ t) (other s d ys e) ∙ sym (joined s xs ys)))

-- the line of a symbol went, after it was looked at, where no instance is left
pub emptied : (before read after : BTreeMap (List ℕ) Sums) (symbol : List ℕ) (rest : Sums) → rest.number ≡ 0
    → read.entries ≡ before.entries → Updates by_bytes read after symbol None
    → Updates by_bytes before after symbol (left rest)
emptied before read after symbol rest none same u = rw (ap (λ n. cond (nat_eq n 0) None (Some rest)) none) (rw same at u)

pub can_take : (lines : List (List ℕ × Sums)) (d : Drawn) (xs ys : List Drawn) → IsBill lines (xs ++ d ∷ ys)
    → Holds (sums_at lines d.symbol) (sums_of (d ∷ []))
can_take lines d xs ys h =
    let first : List Drawn = of_symbol d.symbol xs in
    let last : List Drawn = of_symbol d.symbol ys in
    let all : of_symbol d.symbol (xs ++ d ∷ ys) ≡ first ++ d ∷ last = joined d.symbol xs (d ∷ ys) ∙ ap (λ (t : List Drawn). first ++ t) (own d ys) in
    subst (λ (a : Sums). Holds a (sums_of (d ∷ []))) (sym (at_symbol lines (xs ++ d ∷ ys) d.symbol h ∙ ap sums_of all)) (holds_one first last d)

-- a bill of a list is one of each list that has each member as often
pub same_bill : (lines : List (List ℕ × Sums)) (xs ys : List Drawn) → SameCounts xs ys → IsBill lines xs
    → IsBill lines ys
same_bill lines xs ys same h = record {
  ordered = h.ordered;
  sums = λ s. h.sums s ∙ none_alike (of_symbol s xs) (of_symbol s ys) (same_sums (λ (d : Drawn). bytes_eq s d.symbol) xs ys same);
}

pub balanced : (lines : List (List ℕ × Sums)) (old new : List Drawn) (changes : Changes) → Balances old new changes
    → IsBill lines (old ++ changes.come) → IsBill lines (new ++ changes.gone)
balanced lines old new changes b h = same_bill lines (old ++ changes.come) (new ++ changes.gone) (appended_same old changes.come new changes.gone b) h
