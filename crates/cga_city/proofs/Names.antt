-- The names of lots: they stay apart as lots come and go.
use Rattle.std.proofs.Common.{◌≡◌, ℕ, suc, zero, List, [], ◌∷◌, ◌++◌, length, get_or, Bool, true, false, not, Some, None, slice_get, refl, sym, ap, ◌∙◌, arith, nat_lt, inl, inr}
use Rattle.std.specs.Prelude.{bytes_eq, remove, slice_set}
use Rattle.std.specs.List.{AllByRecursion, IsDistinct, prefix_len}
use Rattle.std.proofs.lemmas.List.Elements.{recursion_from_All}
use Rattle.std.proofs.lemmas.List.Quantifiers.{position-Some}
use Rattle.std.proofs.lemmas.List.Sums.{prefix_len-le-length, prefix_len_passes}
use Rattle.std.proofs.lemmas.Slice.Eq.{bytes_eq-Decides}
use Rattle.std.proofs.Math.Seq.{map-set_same}
use Rattle.std.proofs.lemmas.Bool.Decides.{nat_tests}
use Rattle.cga_check.specs.Uses.{same_name}
use Rattle.cga_shape.specs.declared.lot.Lot.{Lot}
use Rattle.cga_city.specs.Lots.{names_of, lot_place}
use Rattle.cga_city.proofs.Sorting.{decide}

abbrev pub AreApart : List Lot → Type 0
AreApart lots = IsDistinct bytes_eq (names_of lots)

-- ---- by indices

clash : (name : List ℕ) (lots : List Lot) → AllByRecursion (λ y. bytes_eq name y ≡ false) (names_of lots)
    → (j : ℕ) (b : Lot) → slice_get lots j ≡ Some b → name ≡ b.name → ⊥
clash name [] all j b at e = cc
clash name (m ∷ ms) all zero b at e =
    let same : m ≡ b = cc in
    let t : bytes_eq name m.name ≡ true = (bytes_eq-Decides name m.name).1 (e ∙ sym (ap (λ (l : Lot). l.name) same)) in
    let f : bytes_eq name m.name ≡ false = all.0 in cc
clash name (m ∷ ms) all (suc j) b at e = clash name ms all.1 j b at e

-- Where lots are apart, no two places have one name.
pub names_differ : (lots : List Lot) → AreApart lots → (i j : ℕ) (a b : Lot) → slice_get lots i ≡ Some a
    → slice_get lots j ≡ Some b → a.name ≡ b.name → i ≡ j
unfolding IsDistinct
names_differ [] d i j a b ha hb e = cc
names_differ (l ∷ ls) d zero zero a b ha hb e = refl
names_differ (l ∷ ls) d zero (suc j) a b ha hb e = let same : l ≡ a = cc in absurd (clash l.name ls d.0 j b hb (ap (λ (x : Lot). x.name) same ∙ e))
names_differ (l ∷ ls) d (suc i) zero a b ha hb e = let same : l ≡ b = cc in absurd (clash l.name ls d.0 i a ha (ap (λ (x : Lot). x.name) same ∙ sym e))
names_differ (l ∷ ls) d (suc i) (suc j) a b ha hb e = ap suc (names_differ ls d.1 i j a b ha hb e)

-- ---- one more

all_more : (P : List ℕ → Type 0) (lots : List Lot) (lot : Lot) → AllByRecursion P (names_of lots) → P lot.name
    → AllByRecursion P (names_of (lots ++ lot ∷ []))
all_more P [] lot h k = (k, tt)
all_more P (l ∷ ls) lot h k = (h.0, all_more P ls lot h.1 k)

apart_more : (lots : List Lot) (lot : Lot) → AreApart lots
    → AllByRecursion (λ (l : Lot). not (same_name l.name lot.name) ≡ true) lots → AreApart (lots ++ lot ∷ [])
unfolding IsDistinct
apart_more [] lot d h = (tt, tt)
apart_more (l ∷ ls) lot d h = (all_more _ ls lot d.0 (elim (decide (bytes_eq l.name lot.name)) [ inl t ↦ (let k = rw t at h.0 in cc) | inr f ↦ f ]), apart_more ls lot d.1 h.1)

-- ---- one less

all_less : (P : List ℕ → Type 0) (lots : List Lot) (i : ℕ) → AllByRecursion P (names_of lots)
    → AllByRecursion P (names_of (remove lots i))
all_less P [] zero h = tt
all_less P [] (suc i) h = tt
all_less P (l ∷ ls) zero h = h.1
all_less P (l ∷ ls) (suc i) h = (h.0, all_less P ls i h.1)

pub apart_less : (lots : List Lot) (i : ℕ) → AreApart lots → AreApart (remove lots i)
unfolding IsDistinct
apart_less [] zero d = tt
apart_less [] (suc i) d = tt
apart_less (l ∷ ls) zero d = d.1
apart_less (l ∷ ls) (suc i) d = (all_less _ ls i d.0, apart_less ls i d.1)

-- ---- one in the place of its name

pub apart_set : (lots : List Lot) (lot : Lot) (i : ℕ) → lot_place lot.name lots ≡ Some i → AreApart lots
    → AreApart (slice_set lots i lot)
apart_set lots lot i at d =
    let there = position-Some (λ (l : Lot). same_name l.name lot.name) lots i lot at in
    let named : lot.name ≡ (get_or lots i lot).name = sym ((bytes_eq-Decides (get_or lots i lot).name lot.name).0 there.1) in
    rw (map-set_same (λ (l : Lot). l.name) lots i lot lot named) d

-- no lot has the name
pub apart_new : (lots : List Lot) (lot : Lot) → lot_place lot.name lots ≡ None → AreApart lots
    → AreApart (lots ++ lot ∷ [])
apart_new lots lot none d =
    let test : Lot → Bool = λ l. not (same_name l.name lot.name) in
    let most = prefix_len-le-length test lots in
    elim (decide (nat_lt (prefix_len test lots) (length lots))) [
      | inl t ↦ (let k = rw t at none in cc)
      | inr f ↦ apart_more lots lot d (recursion_from_All (λ (l : Lot). test l ≡ true) lots (λ k x h. prefix_len_passes test lots k x (grind (arith, nat_tests))))
    ]
