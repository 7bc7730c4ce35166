-- The last of some nodes: which come no later, and when none is left.
use Rattle.std.proofs.Common.{◌≡◌, inl, inr, ℕ, ◌+◌, ◌<◌, ◌≤◌, List, length, refl, sym, ap, ◌∙◌, subst, arith, slice_get, Option, Some, None, Bool, true, false, not}
use Rattle.std.specs.declared.cmp.Ordering.TheVariants.{Less}
use Rattle.std.specs.Ordering.{is_lt}
use Rattle.std.proofs.lemmas.Bool.{cases_Bool as bool_cases}
use Rattle.std.proofs.lemmas.Cmp.{tied_itself}
use Rattle.std.proofs.lemmas.Option.{slice_get_within}
use Rattle.cga_fraction.proofs.Door.{Less_from_is_lt as lt_is, lt_or_eq_from_lt_suc as at_or_below}
use Rattle.cga_word.specs.declared.mode.Mode.{Mode}
use Rattle.cga_order.specs.Chain.{Chain}
use Rattle.cga_order.specs.Stamp.{stamp_cmp}
use Rattle.cga_order.specs.World.{Among}
use Rattle.cga_order.specs.Total.{stamp_total}
use Rattle.cga_order.proofs.Door.{Among-index as among_at, split}
use Rattle.cga_order.specs.Key.{chain_of_key}
use Rattle.cga_order.specs.declared.stamp_key.StampKey.{StampKey}
use Rattle.cga_queue.specs.Last.{IsPast, IsUpTo, is_after, is_next}
use Rattle.cga_queue.specs.declared.last.Last.TheVariants.{At}

-- ---- the later of two

module _ (mode : Mode) where
  -- what comes later than one that isn't before x is not before x
  pub is_past_last : (last x y : Chain) → is_lt (stamp_cmp mode x last) ≡ false → is_lt (stamp_cmp mode last y) ≡ false
      → stamp_cmp mode x y ≡ Less → ⊥
  is_past_last last x y past up less = elim (split (stamp_cmp mode) (stamp_total mode) last x) [
    | inl before ↦ lost ((stamp_total mode).trans last x y before less)
    | inr r ↦ elim r [
      | inl same ↦ lost ((stamp_total mode).congr last x y same ∙ less)
      | inr after ↦ (let z : true ≡ false = sym (ap is_lt after) ∙ past in absurd (cc))
    ]
  ]
    where
      lost : stamp_cmp mode last y ≡ Less → ⊥
      lost e = let z : true ≡ false = sym (ap is_lt e) ∙ up in absurd (cc)

  -- nobody who comes no later than the key comes later than x
  pub past_key : (key : StampKey) (before : Bool) (x : Chain) → before ≡ is_lt (stamp_cmp mode x (chain_of_key key))
      → not before ≡ true → IsPast mode (At key) x
  past_key key before x is none y up less = is_past_last (chain_of_key key) x y (sym is ∙ not_so before none) up less
    where
      not_so : (b : Bool) → not b ≡ true → b ≡ false
      not_so true e = let z : false ≡ true = e in absurd (cc)
      not_so false e = refl

  pub up_to_itself : (x : Chain) → IsUpTo mode (Some x) x
  up_to_itself x = ap is_lt (tied_itself (stamp_total mode) x)

  pub up_to_later : (last : Option Chain) (next x : Chain) → is_after mode last next ≡ true → IsUpTo mode last x
      → IsUpTo mode (Some next) x
  up_to_later None next x after up = let z : true ≡ false = up in absurd (cc)
  up_to_later (Some y) next x after up = elim (bool_cases (is_lt (stamp_cmp mode next x))) [
    | inl less ↦
        let on = (stamp_total mode).trans y next x (lt_is (stamp_cmp mode y next) after) (lt_is (stamp_cmp mode next x) less) in
        (let z : true ≡ false = sym (ap is_lt on) ∙ up in absurd (cc))
    | inr not ↦ not
  ]

  -- the later of the last one and of another one
  pub next_own : (p : Option Chain) (x : Chain) → p ≡ Some x → IsUpTo mode p x
  next_own p x is = subst (λ o. IsUpTo mode o x) (sym is) (up_to_itself x)

  pub next_kept : (last p : Option Chain) (x : Chain) → is_next mode last p ≡ true → IsUpTo mode last x
      → IsUpTo mode p x
  next_kept last None x next up = let z : false ≡ true = next in absurd (cc)
  next_kept last (Some y) x next up = up_to_later last y x next up

  pub next_not : (last p : Option Chain) (x : Chain) → is_next mode last p ≡ false → p ≡ Some x → IsUpTo mode last x
  next_not last p x not is = subst (λ o. is_next mode last o ≡ false) is not

-- ---- lists

-- of the elements of a list the first n have what P tells
abbrev pub FirstHave : {X : Type 0} → (X → Type 0) → List X → ℕ → Type 0
FirstHave {X = X} P xs n = (i : ℕ) (y : X) → i < n → slice_get xs i ≡ Some y → P y

pub first_next : {X : Type 0} (P Q : X → Type 0) (xs : List X) (n : ℕ) → ((y : X) → P y → Q y)
    → ((y : X) → slice_get xs n ≡ Some y → Q y) → FirstHave P xs n → FirstHave Q xs (n + 1)
first_next P Q xs n kept here first i y lt is = elim (at_or_below i n lt) [
  | inl lower ↦ kept y (first i y lower is)
  | inr same ↦ here y (ap (slice_get xs) (sym same) ∙ is)
]

pub first_each : {X : Type 0} (P : X → Type 0) (xs : List X) (n : ℕ) → length xs ≤ n → FirstHave P xs n → (i : ℕ)
    (y : X) → slice_get xs i ≡ Some y → P y
first_each P xs n le first i y is = let z = slice_get_within xs i y is in first i y (omega (arith, z, le)) is

pub first_whole : {X : Type 0} (P : X → Type 0) (xs : List X) (n : ℕ) → length xs ≤ n → FirstHave P xs n → (x : X)
    → Among x xs → P x
first_whole P xs n le first x h = let at = among_at xs x h in first_each P xs n le first at.0 x at.1
