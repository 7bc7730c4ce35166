-- What stands among the entries of a map after an insertion, also where the key was there.
use Rattle.std.proofs.Common.{◌≡◌, List, [], ◌∷◌, refl, sym, ap, ◌∙◌, ◌⊎◌, inl, inr}
use Rattle.std.specs.declared.cmp.Ordering.{Ordering}
use Rattle.std.specs.declared.cmp.Ordering.TheVariants.{Less, Equal, Greater}
use Rattle.std.specs.Ordering.{match_ordering}
use Rattle.std.specs.BTreeMap.{insert_entry}
use Rattle.cga_order.specs.World.{Among}

module _ {K X : Type 0} (cmp : K → K → Ordering) where
  -- the key that took the value: the new one, or one that was there and is equal to it
  abbrev pub Takes : K → List (K × X) → K → Type 0
  Takes k es q = (q ≡ k) ⊎ ((cmp k q ≡ Equal) × ((x : X) × Among (q, x) es))

  takes_on : (k : K) (e : K × X) (es : List (K × X)) (q : K) → Takes k es q → Takes k (e ∷ es) q
  takes_on k e es q (inl h) = inl h
  takes_on k e es q (inr h) = inr (h.0, (h.1.0, inr h.1.1))

  -- at that key, or before
  pub created_or_was : (k : K) (v : X) (es : List (K × X)) (q : K) (w : X) → Among (q, w) (insert_entry cmp es k v)
      → ((w ≡ v) × Takes k es q) ⊎ Among (q, w) es
  created_or_was k v [] q w h = elim h [ inl e ↦ inl (sym (ap (λ p. p.1) e), inl (sym (ap (λ p. p.0) e))) | inr r ↦ absurd r ]
  created_or_was k v (e ∷ es) q w h = elim (cmp k e.0) as (λ o. cmp k e.0 ≡ o
      → Among (q, w) (match_ordering o ((k, v) ∷ e ∷ es) ((e.0, v) ∷ es) (e ∷ insert_entry cmp es k v))
      → ((w ≡ v) × Takes k (e ∷ es) q) ⊎ Among (q, w) (e ∷ es)) [
        | Less ↦ λ c g. elim g [ inl a ↦ inl (sym (ap (λ p. p.1) a), inl (sym (ap (λ p. p.0) a))) | inr r ↦ inr r ]
        | Equal ↦ λ c g. elim g [
          | inl a ↦ inl (sym (ap (λ p. p.1) a), inr (ap (cmp k) (sym (ap (λ p. p.0) a)) ∙ c, (e.1, inl (λ i. (ap (λ p. p.0) a i, e.1)))))
          | inr r ↦ inr (inr r)
        ]
        | Greater ↦ λ c g. elim g [
          | inl a ↦ inr (inl a)
          | inr r ↦ elim (created_or_was k v es q w r) [ inl a ↦ inl (a.0, takes_on k e es q a.1) | inr b ↦ inr (inr b) ]
        ]
      ] refl h

  pub now_there : (k : K) (v : X) (es : List (K × X)) → (q : K) × Among (q, v) (insert_entry cmp es k v) × Takes k es q
  now_there k v [] = (k, inl refl, inl refl)
  now_there k v (e ∷ es) = elim (cmp k e.0) as (λ o. cmp k e.0 ≡ o → (q : K) × Among (q, v) (match_ordering o ((k, v) ∷ e ∷ es) ((e.0, v) ∷ es) (e ∷ insert_entry cmp es k v)) × Takes k (e ∷ es) q) [
    | Less ↦ λ c. (k, inl refl, inl refl)
    | Equal ↦ λ c. (e.0, inl refl, inr (c, (e.1, inl refl)))
    | Greater ↦ λ c. let z = now_there k v es in (z.0, inr z.1, takes_on k e es z.0 z.2)
  ] refl

  -- what was there still is, but at that key
  pub still_there : (k : K) (v : X) (es : List (K × X)) (q : K) (w : X) → Among (q, w) es
      → (cmp k q ≡ Equal) ⊎ Among (q, w) (insert_entry cmp es k v)
  still_there k v [] q w h = absurd h
  still_there k v (e ∷ es) q w h = elim (cmp k e.0) as (λ o. cmp k e.0 ≡ o → (cmp k q ≡ Equal) ⊎ Among (q, w) (match_ordering o ((k, v) ∷ e ∷ es) ((e.0, v) ∷ es) (e ∷ insert_entry cmp es k v))) [
    | Less ↦ λ c. inr (inr h)
    | Equal ↦ λ c. elim h [ inl a ↦ inl (ap (cmp k) (sym (ap (λ p. p.0) a)) ∙ c) | inr r ↦ inr (inr r) ]
    | Greater ↦ λ c. elim h [
      | inl a ↦ inr (inl a)
      | inr r ↦ elim (still_there k v es q w r) [ inl a ↦ inl a | inr b ↦ inr (inr b) ]
    ]
  ] refl
