-- The run over sites goes along with the derivation.
use Rattle.std.proofs.Common.{◌≡◌, ℕ, zero, suc, List, [], ◌∷◌, ◌++◌, length, map, Bool, true, false, not, ◌&&◌, cond, refl, sym, ap, ◌∙◌, inl, inr, Result, Ok, Err, Option, Some, None, arith}
use Rattle.std.specs.List.{list_all}
use Rattle.std.specs.Ordering.{is_lt}
use Rattle.std.specs.declared.cmp.Ordering.TheVariants.{Less}
use Rattle.cga_order.specs.Rank.{rank_cmp}
use Rattle.cga_order.specs.declared.placed.Placed.{Placed}
use Rattle.cga_order.specs.declared.placed.Kind.{Kind}
use Rattle.cga_order.specs.declared.placed.Kind.TheVariants.{Waiting, Done, Faulted}
use Rattle.cga_order.specs.World.{Has, shapes_where, is_waiting}
use Rattle.cga_order.specs.Run as run
use Rattle.cga_order.proofs.Door.{waits}
use Rattle.std.proofs.lemmas.Bool.{cases_Bool as either}
use Rattle.cga_derivation.specs.Derivation.{Derivation, rank_of, same_place, is_next, next_of, become, told, asked, outcome, step_by, step, reached, first_of}
use Rattle.cga_derivation.specs.Sites.{Site, erased, erase, sited, all_sited, chain_of, world_of, next_site, step_sites_by, sites, taken_by, taken}
use Rattle.cga_derivation.proofs.Sites.{rank-site}
pub use Rattle.std.proofs.lemmas.Bool.{and_parts as both}
pub use Rattle.cga_fraction.proofs.Door.{length-map, map-append}

-- to map a list twice is to map it once by one function after the other
pub map-map : {X Y Z : Type 0} (f : Y → Z) (g : X → Y) (xs : List X) → map f (map g xs) ≡ map (λ x. f (g x)) xs
map-map f g [] = refl
map-map f g (x ∷ xs) = ap (λ l. f (g x) ∷ l) (map-map f g xs)

-- what the first that passes says
module _ {X : Type 0} where
  -- what is found as the first to pass a test passes it
  pub first_of-passes : (p : X → Bool) (xs : List X) (x : X) → first_of p xs ≡ Some x → p x ≡ true
  first_of-passes p [] x e = let f : ◌≡◌ {A = Option X} None (Some x) = e in cc
  first_of-passes p (y ∷ xs) x e = elim (either (p y)) [
    | inl t ↦
        let q : Some y ≡ Some x = sym (ap (λ b. cond b (Some y) (first_of p xs)) t) ∙ e in
        let is : y ≡ x = cc in
        ap p (sym is) ∙ t
    | inr f ↦ first_of-passes p xs x (sym (ap (λ b. cond b (Some y) (first_of p xs)) f) ∙ e)
  ]

module _ {X Y : Type 0} where
  -- the function's value where there is an element, and none where there is none
  abbrev pub option_of : (X → Y) → Option X → Option Y
  option_of f None = None
  option_of f (Some x) = Some (f x)

  first_of-map : (f : X → Y) (p : Y → Bool) (xs : List X)
      → first_of p (map f xs) ≡ option_of f (first_of (λ x. p (f x)) xs)
  first_of-map f p [] = refl
  first_of-map f p (x ∷ xs) = elim (p (f x)) as (λ b. cond b (Some (f x)) (first_of p (map f xs)) ≡ option_of f (cond b (Some x) (first_of (λ z. p (f z)) xs))) [
    | true ↦ refl
    | false ↦ first_of-map f p xs
  ]

-- where all members pass a test, a member with its shape and kind passes it
pub list_all-at : {N F P : Type 0} (p : Placed N F P → Bool) (xs : List (Placed N F P)) (n : N) (k : Kind F P)
    → list_all p xs ≡ true → Has xs n k → p (record { shape = n; kind = k }) ≡ true
list_all-at p [] n k e h = absurd h
list_all-at p (x ∷ xs) n k e h =
    let parts = both _ _ e in
    elim h [
      | inl w ↦ (λ i. p (record { shape = sym w.0 i; kind = sym w.1 i })) ∙ parts.0
      | inr r ↦ list_all-at p xs n k parts.1 r
    ]

-- the first member that passes a test is a member of the list, with its shape and kind
pub first_of-Has : {N F P : Type 0} (p : Placed N F P → Bool) (xs : List (Placed N F P)) (x : Placed N F P)
    → first_of p xs ≡ Some x → Has xs x.shape x.kind
first_of-Has p [] x e = let f : ◌≡◌ {A = Option (Placed _ _ _)} None (Some x) = e in cc
first_of-Has p (y ∷ xs) x e = elim (either (p y)) [
  | inl t ↦
      let q : Some y ≡ Some x = sym (ap (λ b. cond b (Some y) (first_of p xs)) t) ∙ e in
      let is : y ≡ x = cc in
      inl (ap (λ z. z.shape) is, ap (λ z. z.kind) is)
  | inr f ↦ inr (first_of-Has p xs x (sym (ap (λ b. cond b (Some y) (first_of p xs)) f) ∙ e))
]

module _ {N F P : Type 0} where
  -- where a site is a member, its shape is a member of the erased list, of the same kind
  pub Has-erase : (xs : List (Placed (Site N) F P)) (s : Site N) (k : Kind F P) → Has xs s k → Has (erase xs) s.shape k
  Has-erase [] s k h = absurd h
  Has-erase (x ∷ xs) s k h = elim h [
    | inl e ↦ inl (ap (λ z. z.shape) e.0, e.1)
    | inr r ↦ inr (Has-erase xs s k r)
  ]

  shapes-erase : (test : Kind F P → Bool) (xs : List (Placed (Site N) F P))
      → map (λ m. m.shape) (shapes_where (λ n k. test k) xs) ≡ shapes_where (λ n k. test k) (erase xs)
  shapes-erase test [] = refl
  shapes-erase test (x ∷ xs) = elim (test x.kind) as (λ b. map (λ m. m.shape)
      (cond b (x.shape ∷ shapes_where (λ n k. test k) xs) (shapes_where (λ n k. test k) xs)) ≡ cond b
      (x.shape.shape ∷ shapes_where (λ n k. test k) (erase xs)) (shapes_where (λ n k. test k) (erase xs))) [
        | true ↦ ap (λ l. x.shape.shape ∷ l) (shapes-erase test xs)
        | false ↦ shapes-erase test xs
      ]

  pub erase-sited : (ps : List ℕ) (cs : List (Placed N F P)) → erase (map (sited ps) cs) ≡ cs
  erase-sited ps [] = refl
  erase-sited ps (c ∷ cs) = ap (λ l. c ∷ l) (erase-sited ps cs)

module _ {N A F P : Type 0} (derivation : Derivation N A F P) where
  erase-become : (s : Site N) (k : Kind F P) (m : Placed (Site N) F P)
      → erased (run.become (world_of derivation) s k m) ≡ become derivation s.shape k (erased m)
  erase-become s k m = elim (same_place derivation m.shape.shape s.shape) as (λ b. erased
      (cond b (record { shape = m.shape; kind = k }) m) ≡ cond b (record { shape = m.shape.shape; kind = k }) (erased m)) [ true ↦ refl | false ↦ refl ]

  pub erase-becomes : (s : Site N) (k : Kind F P) (xs : List (Placed (Site N) F P))
      → erase (map (run.become (world_of derivation) s k) xs) ≡ map (become derivation s.shape k) (erase xs)
  erase-becomes s k [] = refl
  erase-becomes s k (x ∷ xs) = λ i. erase-become s k x i ∷ erase-becomes s k xs i

  erase-told : (C : List (Placed (Site N) F P)) (s : Site N) (r : Result (List (Placed N F P)) F)
      → erase (run.told (world_of derivation) C s (all_sited (chain_of derivation s).priorities r)) ≡ told derivation
      (erase C) s.shape r
  erase-told C s (Ok cs) =
      let ps = (chain_of derivation s).priorities in
      map-append erased (map (run.become (world_of derivation) s Done) C) (map (sited ps) cs) ∙ (λ i. erase-becomes s Done C i ++ erase-sited ps cs i)
  erase-told C s (Err f) = erase-becomes s (Faulted f) C

  pub asked-erase : (C : List (Placed (Site N) F P)) (s : Site N)
      → (world_of derivation).answers s (shapes_where (λ n k. true) C) (shapes_where (λ n k. is_waiting k) C) ≡ asked
      derivation (erase C) s.shape
  asked-erase C s = λ i. derivation.answers s.shape (shapes-erase (λ k. true) C i) (shapes-erase is_waiting C i)

  -- a step over sites, without the priorities of the ancestors, is a step of the derivation
  pub erase-step : (C : List (Placed (Site N) F P)) (s : Site N)
      → erase (run.told (world_of derivation) C s (run.outcome (world_of derivation) C s)) ≡ told derivation (erase C)
      s.shape (outcome derivation (erase C) s.shape)
  erase-step C s =
      ap (λ a. erase (run.told (world_of derivation) C s
      (all_sited (chain_of derivation s).priorities (derivation.expand s.shape a)))) (asked-erase C s)
      ∙ erase-told C s (outcome derivation (erase C) s.shape)

  step-along : (C : List (Placed (Site N) F P)) (o : Option (Placed (Site N) F P))
      → erase (step_sites_by derivation C o) ≡ step_by derivation (erase C) (option_of erased o)
  step-along C None = refl
  step-along C (Some m) = erase-step C m.shape

  -- the next member of the erased list is the next site, erased
  pub next-along : (C : List (Placed (Site N) F P))
      → next_of derivation (erase C) ≡ option_of erased (next_site derivation C)
  next-along C = first_of-map erased (is_next derivation (erase C)) C

  start-along : (ns : List N)
      → erase {N = N} {F = F} {P = P}
      (map (λ n. record { shape = n; kind = Waiting }) (map (λ n. record { shape = n; above = [] }) ns)) ≡ map
      (λ n. record { shape = n; kind = Waiting }) ns
  start-along [] = refl
  start-along (n ∷ ns) = ap (λ l. record { shape = n; kind = Waiting } ∷ l) (start-along ns)

  -- after any number of steps the sites, erased, are the configuration of the derivation
  pub erase-sites : (n : ℕ) → erase (sites derivation n) ≡ reached derivation n
  unfolding sites reached step
  erase-sites zero = start-along derivation.roots
  erase-sites (suc n) =
      step-along (sites derivation n) (next_site derivation (sites derivation n))
      ∙ (ap (step_by derivation (erase (sites derivation n))) (sym (next-along (sites derivation n)))
      ∙ ap (λ l. step_by derivation l (next_of derivation l)) (erase-sites n))

  -- the next site waits, and no rank of one that waits is smaller
  pub IsStep-next : (C : List (Placed (Site N) F P)) (m : Placed (Site N) F P) → next_site derivation C ≡ Some m
      → run.IsStep (world_of derivation) C
      (run.told (world_of derivation) C m.shape (run.outcome (world_of derivation) C m.shape)) m.shape
  IsStep-next C m e =
      let passes = both _ _ (first_of-passes (λ x. is_next derivation (erase C) (erased x)) C m e) in
      record {
        waits = waits C m.shape m.kind (first_of-Has (λ x. is_next derivation (erase C) (erased x)) C m e) passes.0;
        least = λ w h less.
            let t = list_all-at (λ x. not (is_waiting x.kind
            && is_lt (rank_cmp derivation.mode (rank_of derivation x.shape)
            (rank_of derivation m.shape.shape)))) (erase C) w.shape Waiting passes.1 (Has-erase C w Waiting h) in
            let lt : rank_cmp derivation.mode (rank_of derivation w.shape) (rank_of derivation m.shape.shape) ≡ Less =
            (λ i. rank_cmp derivation.mode (sym (rank-site derivation w) i) (sym (rank-site derivation m.shape) i)) ∙ less in
            let f : not (is_lt Less) ≡ true = ap (λ o. not (is_lt o)) (sym lt) ∙ t in
            let x : false ≡ true = f in
            cc;
        told = refl;
      }

  reached-by : (n : ℕ) (o : Option (Placed (Site N) F P)) → next_site derivation (sites derivation n) ≡ o
      → run.Reached (world_of derivation) (taken derivation n) (sites derivation n)
      → run.Reached (world_of derivation) (taken_by derivation o (taken derivation n))
      (step_sites_by derivation (sites derivation n) o)
  reached-by n None e r = r
  reached-by n (Some m) e r = (sites derivation n, r, IsStep-next (sites derivation n) m e)

  -- after any number of steps the sites are what the run of the world reaches by the sites taken
  pub reached-sites : (n : ℕ) → run.Reached (world_of derivation) (taken derivation n) (sites derivation n)
  unfolding sites taken
  reached-sites zero = refl
  reached-sites (suc n) = reached-by n (next_site derivation (sites derivation n)) refl (reached-sites n)
