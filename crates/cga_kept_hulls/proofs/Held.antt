-- What an entry of a level holds.
use Rattle.std.proofs.Common.{◌≡◌, ◌≢◌, inl, inr, ℕ, zero, suc, ◌/◌, ◌%◌, ◌<◌, ◌≤◌, List, [], ◌∷◌, ◌++◌, length, set, true, false, refl, ap, subst, sym, ◌∙◌, arith}
use Rattle.std.specs.Prelude.{Option, Some, None, slice_get}
use Rattle.std.proofs.Math.ListN.{length-set}
use Rattle.std.proofs.lemmas.Option.{slice_get_within}
use Rattle.cga_fraction.proofs.Door.{eq_or_ne as nat_cases}
use Rattle.cga_kept_hulls.specs.declared.hulls.Hulls.{Hulls}
use Rattle.cga_kept_hulls.specs.Blocks.{Level, HoldsKnown, IsEmptied, IsIn, StaysIn, block_holds, known_hulls}
use Rattle.cga_kept_hulls.specs.Hull.{with_hulls, holds_hulls}
use Rattle.cga_kept_hulls.proofs.Alike.{holds_from, probed_apart, probed_both, probed_chain}

module _ {X : Type 0} where
  get_set : (xs : List X) (i : ℕ) (y : X) → i < length xs → slice_get (set xs i y) i ≡ Some y
  get_set [] i y h = absurd (omega (arith, h))
  get_set (x ∷ xs) zero y h = refl
  get_set (x ∷ xs) (suc i) y h = get_set xs i y (omega (arith, h))

  pub get_other : (xs : List X) (i j : ℕ) (y : X) → j ≢ i → slice_get (set xs i y) j ≡ slice_get xs j
  get_other [] i j y n = refl
  get_other (x ∷ xs) zero zero y n = absurd (n refl)
  get_other (x ∷ xs) zero (suc j) y n = refl
  get_other (x ∷ xs) (suc i) zero y n = refl
  get_other (x ∷ xs) (suc i) (suc j) y n = get_other xs i j y (λ e. n (ap (λ k. suc k) e))

  get_past : (xs : List X) (i : ℕ) → length xs ≤ i → slice_get xs i ≡ None
  get_past [] i h = refl
  get_past (x ∷ xs) zero h = absurd (omega (arith, h))
  get_past (x ∷ xs) (suc i) h = get_past xs i (omega (arith, h))

  get_left : (xs ys : List X) (i : ℕ) → i < length xs → slice_get (xs ++ ys) i ≡ slice_get xs i
  get_left [] ys i h = absurd (omega (arith, h))
  get_left (x ∷ xs) ys zero h = refl
  get_left (x ∷ xs) ys (suc i) h = get_left xs ys i (omega (arith, h))

with_self : (h : Hulls) (o : Option Hulls) → holds_hulls (with_hulls h o) h ≡ true
with_self h None = holds_from h h (λ p t. t)
with_self h (Some k) = holds_from (with_hulls h (Some k)) h (λ p t. (probed_apart p h k t).0)

with_other : (h k x : Hulls) → holds_hulls k x ≡ true → holds_hulls (with_hulls h (Some k)) x ≡ true
with_other h k x e = holds_from (with_hulls h (Some k)) x (λ p t. probed_chain p k x e (probed_apart p h k t).1)

still_one : (o : Option Hulls) (h x : Hulls) → block_holds (Some o) x ≡ true
    → block_holds (Some (Some (with_hulls h o))) x ≡ true
still_one None h x e = let z : false ≡ true = e in absurd (cc)
still_one (Some k) h x e = with_other h k x e

pub held_here : (xs : Level) (place : ℕ) (o : Option Hulls) (h : Hulls) → place / 16 < length xs
    → IsIn (set xs (place / 16) (Some (with_hulls h o))) place h
held_here xs place o h lt = ap (λ b. block_holds b h) (get_set xs (place / 16) (Some (with_hulls h o)) lt) ∙ with_self h o

pub held_still : (xs : Level) (i : ℕ) (o : Option Hulls) (h : Hulls) → slice_get xs i ≡ Some o
    → StaysIn xs (set xs i (Some (with_hulls h o)))
held_still xs i o h at place x e = elim (nat_cases (place / 16) i) [
  | inl q ↦ (
      let was : block_holds (Some o) x ≡ true = ap (λ b. block_holds b x) (sym (ap (slice_get xs) q ∙ at)) ∙ e in
      ap (λ b. block_holds b x) (ap (slice_get (set xs i (Some (with_hulls h o)))) q ∙ get_set xs i (Some (with_hulls h o)) (slice_get_within xs i o at)) ∙ still_one o h x was)
  | inr n ↦ ap (λ b. block_holds b x) (get_other xs i (place / 16) (Some (with_hulls h o)) n) ∙ e
]

-- what holds what the entry knew and the hulls holds both together
within_both : (outer : Option (Option Hulls)) (o : Option Hulls) (h : Hulls)
    → ((g : Hulls) → o ≡ Some g → block_holds outer g ≡ true) → block_holds outer h ≡ true
    → block_holds outer (with_hulls h o) ≡ true
within_both None o h f e = refl
within_both (Some None) o h f e = let z : false ≡ true = e in absurd (cc)
within_both (Some (Some k)) None h f e = e
within_both (Some (Some k)) (Some g) h f e = holds_from k (with_hulls h (Some g)) (λ p t. probed_both p h g (probed_chain p k h e t) (probed_chain p k g (f g refl) t))

-- an entry that took hulls in is the least that holds them and what it knew
pub least_taken : (xs : Level) (i : ℕ) (o : Option Hulls) (h : Hulls) (outer : Option (Option Hulls))
    → slice_get xs i ≡ Some o → HoldsKnown outer (slice_get xs i) → block_holds outer h ≡ true
    → HoldsKnown outer (slice_get (set xs i (Some (with_hulls h o))) i)
least_taken xs i o h outer at f e x is =
    let z : Some (with_hulls h o) ≡ Some x = sym (ap known_hulls (get_set xs i (Some (with_hulls h o)) (slice_get_within xs i o at))) ∙ is in
    let q : with_hulls h o ≡ x = (cc) in
    subst (λ (y : Hulls). block_holds outer y ≡ true) q (within_both outer o h (λ g u. f g (ap known_hulls at ∙ u)) e)

pub emptied_there : (xs : Level) (i : ℕ) → i < length xs → IsEmptied xs (set xs i None) i
emptied_there xs i lt = record {
  empty = ap known_hulls (get_set xs i None lt);
  others = λ j n. get_other xs i j None n;
  count = length-set xs i None;
}

pub emptied_past : (xs : Level) (i : ℕ) → length xs ≤ i → IsEmptied xs xs i
emptied_past xs i le = record { empty = ap known_hulls (get_past xs i le); others = λ j n. refl; count = refl }

-- an entry more, behind all places
pub room_made : (xs : Level) (o : Option Hulls) (roots place : ℕ) (h : Hulls) → roots % 16 ≡ 0 → roots / 16 ≡ length xs
    → place < roots → IsIn xs place h → IsIn (xs ++ o ∷ []) place h
room_made xs o roots place h whole full lt e = ap (λ b. block_holds b h) (get_left xs (o ∷ []) (place / 16) (omega (arith, whole, full, lt))) ∙ e

-- what holds hulls holds those that they hold
held_through : (o : Option (Option Hulls)) (k h : Hulls) → block_holds o k ≡ true → holds_hulls k h ≡ true
    → block_holds o h ≡ true
held_through None k h e f = refl
held_through (Some None) k h e f = let z : false ≡ true = e in absurd (cc)
held_through (Some (Some g)) k h e f = holds_from g h (λ p t. probed_chain p k h f (probed_chain p g k e t))

-- an entry that is there and holds hulls has some, and what holds these holds them
pub held_by : (xs : Level) (i : ℕ) (h : Hulls) (outer : Option (Option Hulls)) → i < length xs
    → block_holds (slice_get xs i) h ≡ true
    → ((k : Hulls) → known_hulls (slice_get xs i) ≡ Some k → block_holds outer k ≡ true)
    → block_holds outer h ≡ true
held_by [] i h outer lt e f = absurd (omega (arith, lt))
held_by (None ∷ xs) zero h outer lt e f = absurd (cc)
held_by (Some k ∷ xs) zero h outer lt e f = held_through outer k h (f k refl) e
held_by (x ∷ xs) (suc i) h outer lt e f = held_by xs i h outer (omega (arith, lt)) e f

-- what the entry of a place holds is held where all is that the entry of its number holds
pub held_next : (xs ys zs : Level) (i block : ℕ) (h : Hulls) → ys ≡ xs → i ≡ block → i < length xs
    → block_holds (slice_get xs i) h ≡ true
    → (block < length ys → block_holds (slice_get ys block) h ≡ true → IsIn zs block h) → IsIn zs i h
held_next xs ys zs i block h same q lt e f =
    let there : block < length ys = subst (λ (l : Level). block < length l) (sym same) (subst (λ (j : ℕ). j < length xs) q lt) in
    let holds : block_holds (slice_get ys block) h ≡ true = ap (λ (l : Level). block_holds (slice_get l block) h) same ∙ (ap (λ (j : ℕ). block_holds (slice_get xs j) h) (sym q) ∙ e) in
    subst (λ (j : ℕ). IsIn zs j h) (sym q) (f there holds)

-- what an entry knows, the entry of its number knows in the same level
pub known_next : (xs ys : Level) (i block : ℕ) (h : Hulls) → ys ≡ xs → i ≡ block → known_hulls (slice_get xs i) ≡ Some h
    → known_hulls (slice_get ys block) ≡ Some h
known_next xs ys i block h same q is = ap (λ (l : Level). known_hulls (slice_get l block)) same ∙ ap (λ (j : ℕ). known_hulls (slice_get xs j)) (sym q) ∙ is
