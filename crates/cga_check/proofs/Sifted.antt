-- The first use that is caught in lists one after another.
use Rattle.std.proofs.Common.{◌≡◌, ℕ, ◌+◌, ◌<◌, ◌≤◌, List, [], ◌∷◌, ◌++◌, drop, length, get_or, refl, ap, sym, ◌∙◌, map, Ok, Err, Bool, true, false, if◌then◌else◌}
use Rattle.std.specs.Prelude.{Result, flat_map, is_err, ◌||◌}
use Rattle.std.specs.List.{list_any}
use Rattle.std.proofs.lemmas.List.{at_drop_more, at_drop_all}
use Rattle.cga_check.specs.Uses.{Uses}
use Rattle.cga_check.specs.Sifting.{sifted}
use Rattle.cga_check.specs.declared.usage.Use.{Use}

pub flat_map_of_map : {A B : Type 0} (f : A → List B) (xs : List A)
    → flat_map (λ (ys : List B). ys) (map f xs) ≡ flat_map f xs
flat_map_of_map f [] = refl
flat_map_of_map {B = B} f (x ∷ xs) = ap (λ (ys : List B). f x ++ ys) (flat_map_of_map f xs)

-- the first result, or what follows where nothing is caught
abbrev pub and_then : Result (Unit {0}) Use → Result (Unit {0}) Use → Result (Unit {0}) Use
and_then (Ok u) more = more
and_then (Err at) more = Err at

if_then : (b : Bool) (u : Use) (r s m : Result (Unit {0}) Use) → s ≡ and_then r m
    → (if b then Err u else s) ≡ and_then (if b then Err u else r) m
if_then true u r s m e = refl
if_then false u r s m e = e

pub sifted_append : (p : Use → Bool) (us vs : Uses) → sifted p (us ++ vs) ≡ and_then (sifted p us) (sifted p vs)
unfolding sifted
sifted_append p [] vs = refl
sifted_append p (u ∷ us) vs = if_then (p u) u (sifted p us) (sifted p (us ++ vs)) (sifted p vs) (sifted_append p us vs)

pub sifted_none : (p : Use → Bool) → sifted p [] ≡ Ok tt
unfolding sifted
sifted_none p = refl

module _ {A : Type 0} (f : A → Uses) (p : Use → Bool) (xs : List A) (i : ℕ) (item : A) (lt : i < length xs) (at : item ≡ get_or xs i item) where
  turn : sifted p (flat_map f (drop i xs)) ≡ and_then (sifted p (f item)) (sifted p (flat_map f (drop (i + 1) xs)))
  turn =
      at_drop_more (λ ys. sifted p (flat_map f ys)) xs i item lt
      ∙ ap (λ (m : A). sifted p (f m ++ flat_map f (drop (i + 1) xs))) (sym at)
      ∙ sifted_append p (f item) (flat_map f (drop (i + 1) xs))

  pub sifted_on : (u : Unit {0}) (w : Result (Unit {0}) Use) → Ok u ≡ sifted p (f item)
      → sifted p (flat_map f (drop i xs)) ≡ w → sifted p (flat_map f (drop (i + 1) xs)) ≡ w
  sifted_on u w e h = ap (λ o. and_then o (sifted p (flat_map f (drop (i + 1) xs)))) e ∙ sym turn ∙ h

  pub sifted_stop : (caught : Use) (w : Result (Unit {0}) Use) → Err caught ≡ sifted p (f item)
      → sifted p (flat_map f (drop i xs)) ≡ w → Err caught ≡ w
  sifted_stop caught w e h = ap (λ o. and_then o (sifted p (flat_map f (drop (i + 1) xs)))) e ∙ sym turn ∙ h

pub sifted_end : {A : Type 0} (f : A → Uses) (p : Use → Bool) (xs : List A) (i : ℕ) (w : Result (Unit {0}) Use)
    → length xs ≤ i → sifted p (flat_map f (drop i xs)) ≡ w → Ok tt ≡ w
sifted_end f p xs i w le h = sym (sifted_none p) ∙ sym (at_drop_all (λ ys. sifted p (flat_map f ys)) xs i le) ∙ h

any_then : (b : Bool) (u : Use) (r : Result (Unit {0}) Use) (more : Bool) → is_err r ≡ more
    → is_err (if b then Err u else r) ≡ (b || more)
any_then true u r more e = refl
any_then false u r more e = e

pub sifted_any : (p : Use → Bool) (us : Uses) → is_err (sifted p us) ≡ list_any p us
unfolding sifted
sifted_any p [] = refl
sifted_any p (u ∷ us) = any_then (p u) u (sifted p us) (list_any p us) (sifted_any p us)
