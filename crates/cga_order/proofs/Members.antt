-- Members of lists, and what a step makes of them.
use Rattle.std.proofs.Common.{◌≡◌, ◌<◌, ℕ, zero, suc, arith, get_or, length, List, [], ◌∷◌, ◌++◌, map, Bool, true, false, cond, refl, sym, ap, ◌∙◌, subst, ◌⊎◌, inl, inr, ◌&&◌, Some}
use Rattle.std.specs.List.{All}
use Rattle.std.specs.Map.{keys_of}
use Rattle.std.specs.Prelude.{slice_get, nat_eq}
use lib.Pointwise.{pointwise, bytes_decides}
use Rattle.cga_order.specs.Chain.{Chain}
use Rattle.cga_order.specs.World.{World, Placed, Kind, Waiting, Done, Faulted, Instance, Has, Among, shapes_where, is_waiting, place_of}
use Rattle.cga_order.specs.Run.{same_place, become}
use Rattle.cga_order.proofs.Chains.{place}
use Rattle.cga_order.proofs.Maxima.{either}
use Rattle.std.proofs.lemmas.Bool.{and_parts as both_true}
use Rattle.cga_fraction.proofs.Door.{None-not-Some, same_Some}

pub same_place-is : (a b : Chain) → same_place a b ≡ true → place a ≡ place b
same_place-is a b e =
    let parts = both_true _ _ e in
    λ i. ((bytes_decides a.lot b.lot).0 parts.0 i, (bytes_decides a.path b.path).0 parts.1 i)

pub same_place-not : (a b : Chain) → same_place a b ≡ false → place a ≡ place b → ⊥
same_place-not a b e same =
    let lots : pointwise nat_eq a.lot b.lot ≡ true = (bytes_decides a.lot b.lot).1 (ap (λ p. p.0) same) in
    let paths : pointwise nat_eq a.path b.path ≡ true = (bytes_decides a.path b.path).1 (ap (λ p. p.1) same) in
    let both : same_place a b ≡ true = ap (λ x. x && pointwise nat_eq a.path b.path) lots ∙ paths in
    let x : false ≡ true = sym e ∙ both in cc

-- a shape of a list has an index there
pub Among-index : {N : Type 0} (ns : List N) (n : N) → Among n ns → (i : ℕ) × (slice_get ns i ≡ Some n)
Among-index [] n h = absurd h
Among-index (m ∷ ns) n h = elim h [
  | inl e ↦ (0, ap (λ x. Some x) e)
  | inr r ↦ let w = Among-index ns n r in (suc w.0, w.1)
]

module _ {X : Type 0} where
  -- an element of the first list is one of both joined
  pub Among-left : (xs ys : List X) (x : X) → Among x xs → Among x (xs ++ ys)
  Among-left [] ys x h = absurd h
  Among-left (y ∷ xs) ys x h = elim h [ inl e ↦ inl e | inr r ↦ inr (Among-left xs ys x r) ]

  -- an element of the second list is one of both joined
  pub Among-right : (xs ys : List X) (x : X) → Among x ys → Among x (xs ++ ys)
  Among-right [] ys x h = h
  Among-right (y ∷ xs) ys x h = inr (Among-right xs ys x h)

module _ {X Y : Type 0} (f : X → Y) where
  -- an element of a mapped list is the image of an element of the list
  pub Among-map : (xs : List X) (y : Y) → Among y (map f xs) → (x : X) × Among x xs × (f x ≡ y)
  Among-map [] y h = absurd h
  Among-map (x ∷ xs) y h = elim h [ inl e ↦ (x, inl refl, e) | inr r ↦ let w = Among-map xs y r in (w.0, inr w.1, w.2) ]

  -- the image of an element is an element of the mapped list
  pub map-Among : (xs : List X) (x : X) → Among x xs → Among (f x) (map f xs)
  map-Among [] x h = absurd h
  map-Among (z ∷ xs) x h = elim h [ inl e ↦ inl (ap f e) | inr r ↦ inr (map-Among xs x r) ]

module _ {K X : Type 0} where
  -- the key of an entry stands at some index
  pub Among-key : (es : List (K × X)) (q : K) (w : X) → Among (q, w) es
      → (j : ℕ) × (j < length (keys_of es)) × (get_or (keys_of es) j q ≡ q)
  Among-key [] q w h = absurd h
  Among-key (e ∷ es) q w h = elim h [
    | inl a ↦ (0, omega arith, ap (λ p. p.0) a)
    | inr r ↦ let i = Among-key es q w r in (suc i.0, omega (arith, i.1), i.2)
  ]

  -- what holds of each key holds of the key of each entry
  pub Among-All : (P : K → Type 0) (es : List (K × X)) (q : K) (w : X) → All P (keys_of es) → Among (q, w) es → P q
  Among-All P es q w all h = let i = Among-key es q w h in subst P i.2 (all i.0 q i.1)

module _ {N F P : Type 0} where
  -- what stands at an index is a member, with its shape and kind
  pub slice_get-Has : (xs : List (Placed N F P)) (i : ℕ) (m : Placed N F P) → slice_get xs i ≡ Some m
      → Has xs m.shape m.kind
  slice_get-Has [] i m e = None-not-Some m e
  slice_get-Has (x ∷ xs) zero m e = let is = same_Some x m e in inl (ap (λ y. y.shape) is, ap (λ y. y.kind) is)
  slice_get-Has (x ∷ xs) (suc i) m e = inr (slice_get-Has xs i m e)

  -- a member of the first list is one of both joined
  pub Has-left : (xs ys : List (Placed N F P)) (n : N) (k : Kind F P) → Has xs n k → Has (xs ++ ys) n k
  Has-left [] ys n k h = absurd h
  Has-left (x ∷ xs) ys n k h = elim h [ inl e ↦ inl e | inr r ↦ inr (Has-left xs ys n k r) ]

  -- a member of the second list is one of both joined
  pub Has-right : (xs ys : List (Placed N F P)) (n : N) (k : Kind F P) → Has ys n k → Has (xs ++ ys) n k
  Has-right [] ys n k h = h
  Has-right (x ∷ xs) ys n k h = inr (Has-right xs ys n k h)

  -- a member of two lists joined is one of the first or of the second, of the same kind
  pub Has-append : (xs ys : List (Placed N F P)) (n : N) (k : Kind F P) → Has (xs ++ ys) n k → Has xs n k ⊎ Has ys n k
  Has-append [] ys n k h = inr h
  Has-append (x ∷ xs) ys n k h = elim h [
    | inl e ↦ inl (inl e)
    | inr r ↦ elim (Has-append xs ys n k r) [ inl a ↦ inl (inr a) | inr b ↦ inr b ]
  ]

  -- a member has a place in the list
  pub Has-index : (xs : List (Placed N F P)) (n : N) (k : Kind F P) → Has xs n k
      → (i : ℕ) × (m : Placed N F P) × (slice_get xs i ≡ Some m) × (m.shape ≡ n) × (m.kind ≡ k)
  Has-index [] n k h = absurd h
  Has-index (x ∷ xs) n k h = elim h [
    | inl e ↦ (0, x, refl, e.0, e.1)
    | inr r ↦ let w = Has-index xs n k r in (suc w.0, w.1, w.2, w.3, w.4)
  ]

  -- where the test for waiting passes of a member's kind, the member waits
  pub waits : (xs : List (Placed N F P)) (n : N) (k : Kind F P) → Has xs n k → is_waiting k ≡ true → Has xs n Waiting
  waits xs n k h e = elim k as (λ v. Has xs n v → is_waiting v ≡ true → Has xs n Waiting) [
    | Waiting ↦ λ g f. g
    | Done ↦ λ g f. let x : false ≡ true = f in cc
    | Faulted y ↦ λ g f. let x : false ≡ true = f in cc
    | Instance y ↦ λ g f. let x : false ≡ true = f in cc
  ] h e

  -- a member that passes a test is among the shapes of those that do
  pub Among-shapes_where : (test : N → Kind F P → Bool) (ms : List (Placed N F P)) (n : N) (k : Kind F P) → Has ms n k
      → test n k ≡ true → Among n (shapes_where test ms)
  Among-shapes_where test [] n k h e = absurd h
  Among-shapes_where test (m ∷ ms) n k h e = elim h [
    | inl w ↦
        let t : test m.shape m.kind ≡ true = ap (λ x. test x m.kind) w.0 ∙ (ap (λ x. test n x) w.1 ∙ e) in
        subst (Among n) (sym (ap (λ b. cond b (m.shape ∷ shapes_where test ms) (shapes_where test ms)) t)) (inl w.0)
    | inr r ↦ elim (test m.shape m.kind) as (λ b. Among n (cond b (m.shape ∷ shapes_where test ms) (shapes_where test ms))) [
      | true ↦ inr (Among-shapes_where test ms n k r e)
      | false ↦ Among-shapes_where test ms n k r e
    ]
  ]

  -- a shape among those that pass a test is a member, of a kind with which it passes
  pub Has-from_shapes_where : (test : N → Kind F P → Bool) (ms : List (Placed N F P)) (n : N)
      → Among n (shapes_where test ms) → (k : Kind F P) × Has ms n k × (test n k ≡ true)
  Has-from_shapes_where test [] n h = absurd h
  Has-from_shapes_where test (m ∷ ms) n h = elim (either (test m.shape m.kind)) [
    | inl t ↦ elim (subst (Among n) (ap (λ b. cond b (m.shape ∷ shapes_where test ms) (shapes_where test ms)) t) h) [
      | inl e ↦ (m.kind, inl (e, refl), ap (λ x. test x m.kind) (sym e) ∙ t)
      | inr r ↦ let w = Has-from_shapes_where test ms n r in (w.0, inr w.1, w.2)
    ]
    | inr f ↦ let w = Has-from_shapes_where test ms n (subst (Among n) (ap (λ b. cond b (m.shape ∷ shapes_where test ms) (shapes_where test ms)) f) h) in (w.0, inr w.1, w.2)
  ]

module _ {N A F P : Type 0} (world : World N A F P) where
  -- two shapes stand at one place, or they don't
  pub place_dec : (n m : N) → (place_of world n ≡ place_of world m) ⊎ (place_of world n ≡ place_of world m → ⊥)
  place_dec n m = elim (either (same_place (world.chain n) (world.chain m))) [
    | inl e ↦ inl (same_place-is (world.chain n) (world.chain m) e)
    | inr e ↦ inr (same_place-not (world.chain n) (world.chain m) e)
  ]

  -- a member of a list of shapes that all wait is one of the shapes, and waits
  pub Has-start : (xs : List N) (n : N) (k : Kind F P) → Has (map (λ r. record { shape = r; kind = Waiting }) xs) n k
      → Among n xs × (k ≡ Waiting)
  Has-start [] n k h = absurd h
  Has-start (x ∷ xs) n k h = elim h [
    | inl e ↦ (inl e.0, sym e.1)
    | inr r ↦ let w = Has-start xs n k r in (inr w.0, w.1)
  ]

  pub start-Has : (xs : List N) (n : N) → Among n xs
      → Has {N = N} {F = F} {P = P} (map (λ r. record { shape = r; kind = Waiting }) xs) n Waiting
  start-Has [] n h = absurd h
  start-Has (x ∷ xs) n h = elim h [ inl e ↦ inl (e, refl) | inr r ↦ inr (start-Has xs n r) ]

  become-there : (s : N) (k : Kind F P) (m : Placed N F P) → same_place (world.chain m.shape) (world.chain s) ≡ true
      → become world s k m ≡ record { shape = m.shape; kind = k }
  become-there s k m e = ap (λ b. cond b (record { shape = m.shape; kind = k }) m) e

  become-elsewhere : (s : N) (k : Kind F P) (m : Placed N F P)
      → same_place (world.chain m.shape) (world.chain s) ≡ false → become world s k m ≡ m
  become-elsewhere s k m e = ap (λ b. cond b (record { shape = m.shape; kind = k }) m) e

  -- a member after the change of one place is there, with the new kind, or elsewhere, as before
  pub Has-become : (s : N) (kind : Kind F P) (xs : List (Placed N F P)) (n : N) (k : Kind F P)
      → Has (map (become world s kind) xs) n k
      → ((place_of world n ≡ place_of world s → ⊥) × Has xs n k)
      ⊎ ((place_of world n ≡ place_of world s) × (k ≡ kind) × ((j : Kind F P) × Has xs n j))
  Has-become s kind [] n k h = absurd h
  Has-become s kind (m ∷ xs) n k h = elim h [
    | inl e ↦ elim (either (same_place (world.chain m.shape) (world.chain s))) [
      | inl t ↦
          let is = become-there s kind m t in
          let shape : m.shape ≡ n = sym (ap (λ x. x.shape) is) ∙ e.0 in
          inr (sym (ap (λ x. place_of world x) shape) ∙ same_place-is (world.chain m.shape) (world.chain s) t, sym e.1 ∙ ap (λ x. x.kind) is, (m.kind, inl (shape, refl)))
      | inr f ↦
          let is = become-elsewhere s kind m f in
          let shape : m.shape ≡ n = sym (ap (λ x. x.shape) is) ∙ e.0 in
          inl ((λ same. same_place-not (world.chain m.shape) (world.chain s) f (ap (λ x. place_of world x) shape ∙ same)), inl (shape, sym (ap (λ x. x.kind) is) ∙ e.1))
    ]
    | inr r ↦ elim (Has-become s kind xs n k r) [
      | inl a ↦ inl (a.0, inr a.1)
      | inr b ↦ inr (b.0, b.1, (b.2.0, inr b.2.1))
    ]
  ]

  pub become-Has_elsewhere : (s : N) (kind : Kind F P) (xs : List (Placed N F P)) (n : N) (k : Kind F P)
      → (place_of world n ≡ place_of world s → ⊥) → Has xs n k → Has (map (become world s kind) xs) n k
  become-Has_elsewhere s kind [] n k d h = absurd h
  become-Has_elsewhere s kind (m ∷ xs) n k d h = elim h [
    | inl e ↦ elim (either (same_place (world.chain m.shape) (world.chain s))) [
      | inl t ↦ absurd (d (sym (ap (λ x. place_of world x) e.0) ∙ same_place-is (world.chain m.shape) (world.chain s) t))
      | inr f ↦ let is = become-elsewhere s kind m f in inl (ap (λ x. x.shape) is ∙ e.0, ap (λ x. x.kind) is ∙ e.1)
    ]
    | inr r ↦ inr (become-Has_elsewhere s kind xs n k d r)
  ]

  pub become-Has_there : (s : N) (kind : Kind F P) (xs : List (Placed N F P)) (k : Kind F P) → Has xs s k
      → Has (map (become world s kind) xs) s kind
  become-Has_there s kind [] k h = absurd h
  become-Has_there s kind (m ∷ xs) k h = elim h [
    | inl e ↦ elim (either (same_place (world.chain m.shape) (world.chain s))) [
      | inl t ↦ let is = become-there s kind m t in inl (ap (λ x. x.shape) is ∙ e.0, ap (λ x. x.kind) is)
      | inr f ↦ absurd (same_place-not (world.chain m.shape) (world.chain s) f (ap (λ x. place_of world x) e.0))
    ]
    | inr r ↦ inr (become-Has_there s kind xs k r)
  ]
