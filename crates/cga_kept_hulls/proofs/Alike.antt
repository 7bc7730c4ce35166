-- Hulls by the tests that hold of two together where they hold of each.
use Rattle.std.proofs.Common.{◌≡◌, ◌≢◌, inl, inr, ℕ, zero, suc, ◌<◌, List, length, Bool, true, refl, ap, sym, ◌∙◌, arith}
use Rattle.std.specs.Prelude.{Option, Some, None, is_some, not, slice_get}
use Rattle.cga_frame.specs.Box.{Box, holds, hull}
use Rattle.cga_fraction.proofs.Door.{eq_or_ne as nat_cases, same_from_both_ways as bool_same}
use Rattle.cga_frame.proofs.Door.{holds_itself, holds_trans, is_hull}
use Rattle.std.proofs.lemmas.Bool.{and_from as pair, and_parts as both}
use Rattle.cga_kept_hulls.specs.declared.hulls.Hulls.{Hulls}
use Rattle.cga_kept_hulls.specs.Hull.{over, with_hulls, at_hulls, joined, opt_within, holds_hulls, alike}
pub use Rattle.cga_fraction.proofs.Door.{lt-length_from_slice_get_nat as within}

all_apart : (b : Box) (h k : Hulls) → holds b (with_hulls h (Some k)).all ≡ true
    → (holds b h.all ≡ true) × (holds b k.all ≡ true)
all_apart b h k t = let r = is_hull h.all k.all in (holds_trans b (hull h.all k.all) h.all t r.first, holds_trans b (hull h.all k.all) k.all t r.second)

all_both : (b : Box) (h k : Hulls) → holds b h.all ≡ true → holds b k.all ≡ true
    → holds b (with_hulls h (Some k)).all ≡ true
all_both b h k s t = (is_hull h.all k.all).least b s t

-- a box holds another that may lack
abbrev pub opt_holds : Box → Option Box → Bool
opt_holds b None = true
opt_holds b (Some a) = holds b a

opt_apart : (b : Box) (x y : Option Box) → opt_holds b (joined x y) ≡ true
    → (opt_holds b x ≡ true) × (opt_holds b y ≡ true)
opt_apart b None y t = (refl, t)
opt_apart b (Some x) None t = (t, refl)
opt_apart b (Some x) (Some y) t = let r = is_hull x y in (holds_trans b (hull x y) x t r.first, holds_trans b (hull x y) y t r.second)

opt_both : (b : Box) (x y : Option Box) → opt_holds b x ≡ true → opt_holds b y ≡ true → opt_holds b (joined x y) ≡ true
opt_both b None y s t = t
opt_both b (Some x) None s t = s
opt_both b (Some x) (Some y) s t = (is_hull x y).least b s t

opt_chain : (b : Box) (x y : Option Box) → opt_within x y ≡ true → opt_holds b x ≡ true → opt_holds b y ≡ true
opt_chain b x None w t = refl
opt_chain b None (Some y) w t = absurd (cc)
opt_chain b (Some x) (Some y) w t = holds_trans b x y t w

none_apart : (x y : Option Box) → not (is_some (joined x y)) ≡ true
    → (not (is_some x) ≡ true) × (not (is_some y) ≡ true)
none_apart None y t = (refl, t)
none_apart (Some x) None t = absurd (cc)
none_apart (Some x) (Some y) t = absurd (cc)

none_both : (x y : Option Box) → not (is_some x) ≡ true → not (is_some y) ≡ true → not (is_some (joined x y)) ≡ true
none_both None y s t = t
none_both (Some x) y s t = absurd (cc)

none_chain : (x y : Option Box) → opt_within x y ≡ true → not (is_some x) ≡ true → not (is_some y) ≡ true
none_chain x None w t = refl
none_chain None (Some y) w t = absurd (cc)
none_chain (Some x) (Some y) w t = absurd (cc)

-- ---- the three tests

-- the box holds the hull of all, it holds that of those that ask, or nobody asks
pub data Probe : Type 0 where
  Every : Box → Probe
  Asking : Box → Probe
  Nobody : Probe

-- what a probe answers of hulls
abbrev pub probed : Probe → Hulls → Bool
probed (Every b) h = holds b h.all
probed (Asking b) h = opt_holds b h.asking
probed Nobody h = not (is_some h.asking)

pub probed_apart : (p : Probe) (h k : Hulls) → probed p (with_hulls h (Some k)) ≡ true
    → (probed p h ≡ true) × (probed p k ≡ true)
probed_apart (Every b) h k t = all_apart b h k t
probed_apart (Asking b) h k t = opt_apart b h.asking k.asking t
probed_apart Nobody h k t = none_apart h.asking k.asking t

pub probed_both : (p : Probe) (h k : Hulls) → probed p h ≡ true → probed p k ≡ true
    → probed p (with_hulls h (Some k)) ≡ true
probed_both (Every b) h k s t = all_both b h k s t
probed_both (Asking b) h k s t = opt_both b h.asking k.asking s t
probed_both Nobody h k s t = none_both h.asking k.asking s t

-- what passes with the greater hulls passes with the lesser ones
pub probed_chain : (p : Probe) (h k : Hulls) → holds_hulls h k ≡ true → probed p h ≡ true → probed p k ≡ true
probed_chain (Every b) h k e t = holds_trans b h.all k.all t (both _ _ e).0
probed_chain (Asking b) h k e t = opt_chain b h.asking k.asking (both _ _ e).1 t
probed_chain Nobody h k e t = none_chain h.asking k.asking (both _ _ e).1 t

-- hulls that are alike answer each probe alike
pub alike_probed : (p : Probe) (h k : Hulls) → alike h k ≡ true → probed p h ≡ probed p k
alike_probed p h k e = let r = both _ _ e in bool_same (probed p h) (probed p k) (probed_chain p h k r.0) (probed_chain p k h r.1)

opt_from : (x y : Option Box) → ((b : Box) → opt_holds b x ≡ true → opt_holds b y ≡ true)
    → (not (is_some x) ≡ true → not (is_some y) ≡ true) → opt_within x y ≡ true
opt_from x None f g = refl
opt_from None (Some y) f g = let z = g refl in absurd (cc)
opt_from (Some x) (Some y) f g = f x (holds_itself x)

pub holds_from : (h k : Hulls) → ((p : Probe) → probed p h ≡ true → probed p k ≡ true) → holds_hulls h k ≡ true
holds_from h k f = pair _ _ (f (Every h.all) (holds_itself h.all)) (opt_from h.asking k.asking (λ b. f (Asking b)) (f Nobody))

-- hulls are alike where the same tests pass
pub probed_alike : (h k : Hulls) → ((p : Probe) → probed p h ≡ probed p k) → alike h k ≡ true
probed_alike h k f = pair _ _ (holds_from h k (λ p t. sym (f p) ∙ t)) (holds_from k h (λ p t. f p ∙ t))

-- hulls are like themselves
pub alike_itself : (h : Hulls) → alike h h ≡ true
alike_itself h = probed_alike h h (λ p. refl)

-- hulls that are both like the same are like each other
pub alike_turned : (h k m : Hulls) → alike h k ≡ true → alike h m ≡ true → alike k m ≡ true
alike_turned h k m e f = probed_alike k m (λ p. sym (alike_probed p h k e) ∙ alike_probed p h m f)

-- ---- over a list of children

at_some : (H : ℕ → Option Hulls) (o : Option ℕ) (h : Hulls) → at_hulls H o ≡ Some h
    → (k : ℕ) × (o ≡ Some k) × (H k ≡ Some h)
at_some H None h e = absurd (cc)
at_some H (Some k) h e = (k, refl, e)

module _ (p : Probe) where
  with_apart : (h : Hulls) (o : Option Hulls) → probed p (with_hulls h o) ≡ true
      → (probed p h ≡ true) × ((k : Hulls) → o ≡ Some k → probed p k ≡ true)
  with_apart h None t = (t, λ k e. absurd (cc))
  with_apart h (Some j) t = let r = probed_apart p h j t in (r.0, λ k e. let z : j ≡ k = (cc) in ap (probed p) (sym z) ∙ r.1)

  with_both : (h : Hulls) (o : Option Hulls) → probed p h ≡ true → ((k : Hulls) → o ≡ Some k → probed p k ≡ true)
      → probed p (with_hulls h o) ≡ true
  with_both h None t w = t
  with_both h (Some j) t w = probed_both p h j t (w j refl)

  -- what holds of the hulls over a node and its children holds of the node's own
  pub over_own : (H : ℕ → Option Hulls) (own : Hulls) (xs : List ℕ) (n : ℕ) → probed p (over H own xs n) ≡ true
      → probed p own ≡ true
  unfolding over
  over_own H own xs zero t = t
  over_own H own xs (suc n) t = over_own H own xs n (with_apart (over H own xs n) (at_hulls H (slice_get xs n)) t).0

  -- what holds of the hulls over a node and its children holds of each child
  pub over_child : (H : ℕ → Option Hulls) (own : Hulls) (xs : List ℕ) (n : ℕ) → probed p (over H own xs n) ≡ true
      → (i k : ℕ) (h : Hulls) → i < n → slice_get xs i ≡ Some k → H k ≡ Some h → probed p h ≡ true
  unfolding over
  over_child H own xs zero t i k h lt at e = absurd (omega arith)
  over_child H own xs (suc n) t i k h lt at e =
      let r = with_apart (over H own xs n) (at_hulls H (slice_get xs n)) t in
      elim (nat_cases i n) [
        | inl s ↦ r.1 h (ap (λ j. at_hulls H (slice_get xs j)) (sym s) ∙ ap (at_hulls H) at ∙ e)
        | inr ne ↦ over_child H own xs n r.0 i k h (omega arith) at e
      ]

  -- what holds a probe of a node and of each child holds it of the hulls over them
  pub over_all : (H : ℕ → Option Hulls) (own : Hulls) (xs : List ℕ) (n : ℕ) → probed p own ≡ true
      → ((i k : ℕ) (h : Hulls) → slice_get xs i ≡ Some k → H k ≡ Some h → probed p h ≡ true)
      → probed p (over H own xs n) ≡ true
  unfolding over
  over_all H own xs zero t w = t
  over_all H own xs (suc n) t w = with_both (over H own xs n) (at_hulls H (slice_get xs n)) (over_all H own xs n t w) (λ h e. let r = at_some H (slice_get xs n) h e in w n r.0 h r.1 r.2)

-- hulls that hold a node's own and each child's hold those of all
pub all_held : (H : ℕ → Option Hulls) (own h : Hulls) (xs : List ℕ) → holds_hulls h own ≡ true
    → ((i k : ℕ) (x : Hulls) → slice_get xs i ≡ Some k → H k ≡ Some x → holds_hulls h x ≡ true)
    → holds_hulls h (over H own xs (length xs)) ≡ true
all_held H own h xs mine each = holds_from h _ (λ p t.
    over_all p H own xs (length xs) (probed_chain p h own mine t) (λ i k x at e. probed_chain p h x (each i k x at e) t))

-- ---- one child's hulls grew

module _ (H J : ℕ → Option Hulls) (id : ℕ) (old new : Hulls) (was : H id ≡ Some old) (is : J id ≡ Some new) (others : (c : ℕ) → c ≢ id → J c ≡ H c) (grew : holds_hulls new old ≡ true)
    (own : Hulls) (xs : List ℕ) (place : ℕ) (at : slice_get xs place ≡ Some id) where
  module _ (p : Probe) where
    -- a child passes as it was where it passes as it is
    back : probed p (over J own xs (length xs)) ≡ true → (i k : ℕ) (h : Hulls) → slice_get xs i ≡ Some k → H k ≡ Some h
        → probed p h ≡ true
    back t i k h g e = elim (nat_cases k id) [
      | inl q ↦ (
          let z : Some h ≡ Some old = sym e ∙ ap H q ∙ was in
          let y : h ≡ old = (cc) in
          ap (probed p) y ∙ probed_chain p new old grew (over_child p J own xs (length xs) t place id new (within xs place id at) at is))
      | inr ne ↦ over_child p J own xs (length xs) t i k h (within xs i k g) g (others k ne ∙ e)
    ]

    forth : probed p (over H own xs (length xs)) ≡ true → probed p new ≡ true → (i k : ℕ) (h : Hulls)
        → slice_get xs i ≡ Some k → J k ≡ Some h → probed p h ≡ true
    forth t n i k h g e = elim (nat_cases k id) [
      | inl q ↦ (let z : Some h ≡ Some new = sym e ∙ ap J q ∙ is in let y : h ≡ new = (cc) in ap (probed p) y ∙ n)
      | inr ne ↦ over_child p H own xs (length xs) t i k h (within xs i k g) g (sym (others k ne) ∙ e)
    ]

    grown_probed : (h : Hulls) → alike h (over H own xs (length xs)) ≡ true
        → probed p (with_hulls h (Some new)) ≡ probed p (over J own xs (length xs))
    grown_probed h a =
        let same = alike_probed p h (over H own xs (length xs)) a in
        bool_same (probed p (with_hulls h (Some new))) (probed p (over J own xs (length xs)))
        (λ t. let r = probed_apart p h new t in let u = sym same ∙ r.0 in over_all p J own xs (length xs) (over_own p H own xs (length xs) u) (forth u r.1))
        (λ t. probed_both p h new (same ∙ over_all p H own xs (length xs) (over_own p J own xs (length xs) t)
        (back t)) (over_child p J own xs (length xs) t place id new (within xs place id at) at is))

  -- the old hulls of all and the child's new ones are together alike with the new hulls of all
  pub grown_alike : (h : Hulls) → alike h (over H own xs (length xs)) ≡ true
      → alike (with_hulls h (Some new)) (over J own xs (length xs)) ≡ true
  grown_alike h a = probed_alike _ _ (λ p. grown_probed p h a)

-- ---- one child's hulls changed, and lie within those of all

module _ (H J : ℕ → Option Hulls) (id : ℕ) (new : Hulls) (is : J id ≡ Some new) (others : (c : ℕ) → c ≢ id → J c ≡ H c) (own : Hulls) (xs : List ℕ) (h : Hulls)
    (right : alike h (over H own xs (length xs)) ≡ true) (inside : holds_hulls h new ≡ true) where
  inside_probed : (p : Probe) → probed p h ≡ true → (i k : ℕ) (x : Hulls) → slice_get xs i ≡ Some k → J k ≡ Some x
      → probed p x ≡ true
  inside_probed p t i k x at e = elim (nat_cases k id) [
    | inl q ↦ (let z : Some x ≡ Some new = sym e ∙ ap J q ∙ is in let y : x ≡ new = (cc) in ap (probed p) y ∙ probed_chain p h new inside t)
    | inr ne ↦ over_child p H own xs (length xs) (sym (alike_probed p h (over H own xs (length xs)) right) ∙ t) i k x (within xs i k at) at (sym (others k ne) ∙ e)
  ]

  -- then these hold the new ones of all
  pub inside_held : holds_hulls h (over J own xs (length xs)) ≡ true
  inside_held = holds_from h _ (λ p t.
      over_all p J own xs (length xs) (over_own p H own xs (length xs) (sym (alike_probed p h (over H own xs (length xs)) right) ∙ t)) (inside_probed p t))

-- ---- hulls of a node and some of its children

module _ (H : ℕ → Option Hulls) (own : Hulls) (xs : List ℕ) where
  abbrev whole : Hulls
  whole = over H own xs (length xs)

  -- those of all hold the node's own
  pub part_own : holds_hulls whole own ≡ true
  part_own = holds_from whole own (λ p t. over_own p H own xs (length xs) t)

  part_one : (h : Hulls) (i : ℕ) (v : Option Hulls) → at_hulls H (slice_get xs i) ≡ v → holds_hulls whole h ≡ true
      → holds_hulls whole (with_hulls h v) ≡ true
  part_one h i None e held = held
  part_one h i (Some j) e held =
      let r = at_some H (slice_get xs i) j e in
      holds_from whole (with_hulls h (Some j)) (λ p t.
      probed_both p h j (probed_chain p whole h held t) (over_child p H own xs (length xs) t i r.0 j (within xs i r.0 r.1) r.1 r.2))

  -- and those of one child more
  pub part_with : (at : List ℕ) → at ≡ xs → (h with : Hulls) (i : ℕ) → with ≡ with_hulls h (at_hulls H (slice_get at i))
      → holds_hulls whole h ≡ true → holds_hulls whole with ≡ true
  part_with at same h with i is held =
      ap (holds_hulls whole) (is ∙ ap (λ ys. with_hulls h (at_hulls H (slice_get ys i))) same) ∙ part_one h i (at_hulls H (slice_get xs i)) refl held

-- what the second of three hulls holds the first holds, too
pub held_through : (h k m : Hulls) → holds_hulls h k ≡ true → holds_hulls k m ≡ true → holds_hulls h m ≡ true
held_through h k m a b = holds_from h m (λ p t. probed_chain p k m b (probed_chain p h k a t))
