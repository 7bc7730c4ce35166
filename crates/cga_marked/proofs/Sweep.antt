-- A sweep over a list of ids, one after the other.
use Rattle.std.proofs.Common.{◌≡◌, ◌≢◌, inl, inr, ℕ, zero, suc, ◌+◌, ◌<◌, ◌≤◌, List, [], ◌∷◌, length, Bool, true, refl, ap, sym, ◌∙◌, arith, get_or, subst}
use Rattle.std.specs.Prelude.{Option, Some, None, IfSome, is_some, option_and_then, slice_get}
use Rattle.std.proofs.lemmas.Option.{slice_get_within}
use Rattle.cga_marked.specs.Marked.{IsCalm}
use Rattle.cga_marked.specs.Slab.{slot, Listed, IsSwept}
use Rattle.cga_marked.proofs.Slots.{nat_cases}

pub get_at : (xs : List ℕ) (i : ℕ) → i < length xs → slice_get xs i ≡ Some (get_or xs i 0)
get_at [] i h = absurd (omega arith)
get_at (x ∷ xs) zero h = refl
get_at (x ∷ xs) (suc i) h = get_at xs i (omega arith)

module _ {E : Type 0} (g : Option E → Option E) (twice : (s : Option E) → g (g s) ≡ g s) (old now new : List (Option E)) (list : List ℕ) where
  swept_one : (i k : ℕ) → slice_get list i ≡ Some k → IsSwept g old now list i → slot new k ≡ g (slot now k)
      → ((c : ℕ) → c ≢ k → slot new c ≡ slot now c) → IsSwept g old new list (i + 1)
  swept_one i k at s here others =
      let new_k : slot new k ≡ g (slot old k) = here ∙ elim (s.each k) [ inl y ↦ ap g y ∙ twice (slot old k) | inr n ↦ ap g n ] in record {
        each = λ c. elim (nat_cases c k) [
          | inl q ↦ inl (ap (slot new) q ∙ new_k ∙ ap (λ x. g (slot old x)) (sym q))
          | inr n ↦ elim (s.each c) [ inl y ↦ inl (others c n ∙ y) | inr y ↦ inr (others c n ∙ y) ]
        ];
        done = λ j c lt at_c. elim (nat_cases c k) [
          | inl q ↦ ap (slot new) q ∙ new_k ∙ ap (λ x. g (slot old x)) (sym q)
          | inr n ↦ others c n ∙ s.done j c (elim (nat_cases j i) [
            | inl q ↦ (let z : Some c ≡ Some k = sym at_c ∙ ap (slice_get list) q ∙ at in let w : c ≡ k = (cc) in absurd (n w))
            | inr ne ↦ omega arith
          ]) at_c
        ];
      }

-- f makes each entry calm, and leaves those alone that are
module _ {E : Type 0} (touched : E → Bool) (Plain : E → Type 0) (f : E → Option E)
    (calm : (e : E) → IsCalm touched Plain e → f e ≡ Some e) (makes : (e : E) → IfSome (f e) (IsCalm touched Plain)) where
  made : (o : Option E) (e : E) → o ≡ Some e → IfSome o (IsCalm touched Plain) → IsCalm touched Plain e
  made None e q h = absurd (cc)
  made (Some x) e q h = let w : x ≡ e = (cc) in subst (IsCalm touched Plain) w h

  pub calm_after : (s : Option E) (e : E) → option_and_then f s ≡ Some e → IsCalm touched Plain e
  calm_after None e q = absurd (cc)
  calm_after (Some x) e q = made (f x) e q (makes x)

  pub some_after : (s : Option E) → is_some (option_and_then f s) ≡ true → is_some s ≡ true
  some_after None h = h
  some_after (Some e) h = refl

  again : (s t : Option E) → option_and_then f s ≡ t → option_and_then f t ≡ t
  again s None q = refl
  again s (Some e) q = calm e (calm_after s e q)

  twice : (s : Option E) → option_and_then f (option_and_then f s) ≡ option_and_then f s
  twice s = again s (option_and_then f s) refl

  module _ (old now : List (Option E)) (list : List ℕ) where
    pub swept_start : IsSwept (option_and_then f) old old list 0
    swept_start = record { each = λ c. inr refl; done = λ j k lt at. absurd (omega arith) }

    pub swept_next : (new : List (Option E)) (i k : ℕ) → slice_get list i ≡ Some k
        → IsSwept (option_and_then f) old now list i → slot new k ≡ option_and_then f (slot now k)
        → ((c : ℕ) → c ≢ k → slot new c ≡ slot now c) → IsSwept (option_and_then f) old new list (i + 1)
    swept_next new = swept_one (option_and_then f) twice old now new list

    module _ (l : Listed touched Plain old list) (n : ℕ) (le : length list ≤ n) (s : IsSwept (option_and_then f) old now list n) where
      at_end : (c : ℕ) (o : Option E) → slot old c ≡ o → slot now c ≡ slot old c
          → slot now c ≡ option_and_then f (slot old c)
      at_end c None q w = w ∙ q ∙ sym (ap (option_and_then f) q)
      at_end c (Some e) q w = elim (l c e q) [
        | inl at ↦ (let lt = slice_get_within list at.0 c at.1 in s.done at.0 c (omega arith) at.1)
        | inr m ↦ w ∙ q ∙ sym (ap (option_and_then f) q ∙ calm e m)
      ]

      pub swept_end : (c : ℕ) → slot now c ≡ option_and_then f (slot old c)
      swept_end c = elim (s.each c) [ inl y ↦ y | inr w ↦ at_end c (slot old c) refl w ]
