-- What of a slot follows from what its entry is.
use Rattle.std.proofs.Common.{◌≡◌, inl, inr, ℕ, zero, suc, List, [], ◌∷◌, ◌++◌, length, Bool, true, false, refl, ap, sym, ◌∙◌, subst}
use Rattle.std.specs.Prelude.{Option, Some, None, is_some, not, option_map, slice_get}
use Rattle.cga_marked.specs.Marked.{KeepsBooks}
use Rattle.cga_marked.specs.Slab.{Relates, passes, touch_when, OnlyTouched}
use Rattle.cga_marked.proofs.Count.{bool_cases}
pub use Rattle.cga_fraction.proofs.Door.{eq_or_ne as nat_cases}

-- what stands at an index stands there with one more element behind the list
pub get_kept : (xs : List ℕ) (k i c : ℕ) → slice_get xs i ≡ Some c → slice_get (xs ++ k ∷ []) i ≡ Some c
get_kept [] k i c h = absurd (cc)
get_kept (x ∷ xs) k zero c h = h
get_kept (x ∷ xs) k (suc i) c h = get_kept xs k i c h

-- an element behind a list stands at the index of the list's length
pub get_last : (xs : List ℕ) (k : ℕ) → slice_get (xs ++ k ∷ []) (length xs) ≡ Some k
get_last [] k = refl
get_last (x ∷ xs) k = get_last xs k

module _ {E : Type 0} where
  pub relates_some : (R : E → E → Type 0) (s t : Option E) → Relates R s t → is_some t ≡ is_some s
  relates_some R None None h = refl
  relates_some R None (Some y) h = absurd h
  relates_some R (Some x) None h = absurd h
  relates_some R (Some x) (Some y) h = refl

  -- where related entries both pass or neither does, so do the slots
  pub relates_passes : (R : E → E → Type 0) (p : E → Bool) → ((x y : E) → R x y → p y ≡ p x) → (s t : Option E)
      → Relates R s t → passes p t ≡ passes p s
  relates_passes R p same None None h = refl
  relates_passes R p same None (Some y) h = absurd h
  relates_passes R p same (Some x) None h = absurd h
  relates_passes R p same (Some x) (Some y) h = same x y h

  pub relates_from : (R : E → E → Type 0) (s t : Option E) (y : E) → Relates R s t → t ≡ Some y
      → (x : E) × (s ≡ Some x) × R x y
  relates_from R None None y h q = absurd (cc)
  relates_from R None (Some z) y h q = absurd h
  relates_from R (Some x) None y h q = absurd h
  relates_from R (Some x) (Some z) y h q = let w : z ≡ y = (cc) in (x, refl, subst (λ (e : E). R x e) w h)

  books_same : (touched aside : E → Bool) (Plain : E → Type 0) (s : Option E)
      → Relates (KeepsBooks touched aside Plain) s s
  books_same touched aside Plain None = tt
  books_same touched aside Plain (Some e) = record { touches = refl; hides = refl; plain = λ _ p. p }

  pub books_refl : (touched aside : E → Bool) (Plain : E → Type 0) (s t : Option E) → t ≡ s
      → Relates (KeepsBooks touched aside Plain) s t
  books_refl touched aside Plain s t h = subst (λ (x : Option E). Relates (KeepsBooks touched aside Plain) s x) (sym h) (books_same touched aside Plain s)

  -- an entry that doesn't pass
  pub not_passes : (p : E → Bool) (s : Option E) → passes (λ e. not (p e)) s ≡ true
      → (x : E) × (s ≡ Some x) × (p x ≡ false)
  not_passes p None h = absurd (cc)
  not_passes p (Some e) h = (e, refl, elim (bool_cases (p e)) [ inl y ↦ (let z : false ≡ true = ap not (sym y) ∙ h in absurd (cc)) | inr n ↦ n ])

  -- what is done already changes nothing
  pub same_again : (f : E → E) (p : E → Bool) → ((e : E) → p e ≡ true → f e ≡ e) → (s : Option E)
      → passes (λ e. not (p e)) s ≡ false → option_map f s ≡ s
  same_again f p again None h = refl
  same_again f p again (Some e) h = let on : p e ≡ true = elim (bool_cases (p e)) [ inl y ↦ y | inr n ↦ (let z : true ≡ false = ap not (sym n) ∙ h in absurd (cc)) ] in
      ap (λ (x : E). Some x) (again e on)

  pub some_map : (f : E → E) (s : Option E) → is_some (option_map f s) ≡ is_some s
  some_map f None = refl
  some_map f (Some e) = refl

  pub passes_some : (p : E → Bool) (s : Option E) → passes p s ≡ true → is_some s ≡ true
  passes_some p None h = absurd (cc)
  passes_some p (Some e) h = refl

  pub map_touched : (touched : E → Bool) (touching : E → E) → ((e : E) → touched (touching e) ≡ true) → (s : Option E)
      → OnlyTouched touched (option_map touching s)
  map_touched touched touching on None e h = absurd (cc)
  map_touched touched touching on (Some x) e h = let q : touching x ≡ e = (cc) in ap touched (sym q) ∙ on x

  pub when_touched : (touched : E → Bool) (touching : E → E) → ((e : E) → touched (touching e) ≡ true)
      → (m : Bool) (s : Option E) → m ≡ true → OnlyTouched touched (touch_when touching m s)
  when_touched touched touching on false s h = absurd (cc)
  when_touched touched touching on true s h = map_touched touched touching on s

  pub map_twice : (f h : E → E) (s : Option E) → option_map h (option_map f s) ≡ option_map (λ e. h (f e)) s
  map_twice f h None = refl
  map_twice f h (Some e) = refl
