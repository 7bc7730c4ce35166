-- Own members of jobs: of one lot two lists have the same priorities, and no two own members stand at one place.
use Rattle.std.proofs.Common.{◌≡◌, ℕ, zero, suc, List, [], ◌∷◌, ◌++◌, length, take, filter, Bool, true, false}
use Rattle.std.proofs.Common.{◌||◌, cond, refl, sym, ap, ◌∙◌, subst, inl, inr, Option, Some, None}
use Rattle.std.specs.Prelude.{slice_get, nat_eq}
use Rattle.std.proofs.lemmas.Bool.{and_parts as both, cases_Bool as either, or_cases}
use lib.Pointwise.{pointwise, bytes_decides}
use Rattle.cga_fraction.proofs.Door.{map-append}
use Rattle.cga_order.specs.Once.{Once}
use Rattle.cga_order.specs.declared.placed.Placed.{Placed}
use Rattle.cga_order.specs.declared.placed.Kind.{Kind}
use Rattle.cga_order.specs.World.{Has, Among}
use Rattle.cga_order.proofs.Door.{Has-append, Has-left, Has-right, Once-append}
use Rattle.cga_derivation.specs.Derivation.{AllApart, Derivation, first_of, place_of}
use Rattle.cga_derivation.specs.Stamps.{chain_in, priorities_down, priority_at, priority_found, stands_at}
use Rattle.cga_derivation.proofs.Door.{Has-places, first_of-Has, first_of-passes, places, places-Has, places_once}
use Rattle.cga_region.specs.Halos.{Job, LotsDiffer, all_own, is_lot_of, own_of}
use Rattle.cga_region.proofs.Lists.{filter-Has}
use Rattle.cga_region.proofs.Turns.{one_member}
use Rattle.std.proofs.lemmas.Bool.{or_right}

-- ---- places, and the priorities that are found there

none_fails : {N F P : Type 0} (p : Placed N F P → Bool) (xs : List (Placed N F P)) → first_of p xs ≡ None
    → (n : N) (k : Kind F P) → Has xs n k → p (record { shape = n; kind = k }) ≡ true → ⊥
none_fails p [] e n k h t = absurd h
none_fails p (x ∷ xs) e n k h t = elim (either (p x)) [
  | inl y ↦ let q : Some x ≡ None = sym (ap (λ b. cond b (Some x) (first_of p xs)) y) ∙ e in absurd (cc)
  | inr f ↦ elim h [
    | inl w ↦ let q : p x ≡ true = (λ i. p (record { shape = w.0 i; kind = w.1 i })) ∙ t in let no : false ≡ true = sym f ∙ q in absurd (cc)
    | inr r ↦ none_fails p xs (sym (ap (λ b. cond b (Some x) (first_of p xs)) f) ∙ e) n k r t
  ]
]

module _ {N A F P : Type 0} (derivation : Derivation N A F P) where
  at_places : (ms : List (Placed N F P)) (i : ℕ) (m : Placed N F P) → slice_get ms i ≡ Some m
      → Among (place_of derivation m.shape) (places derivation ms)
  at_places [] i m e = let f : ◌≡◌ {A = Option (Placed N F P)} None (Some m) = e in absurd (cc)
  at_places (x ∷ ms) zero m e = let is : x ≡ m = cc in inl (ap (λ (y : Placed N F P). place_of derivation y.shape) is)
  at_places (x ∷ ms) (suc i) m e = inr (at_places ms i m e)

  pub apart_of : (ms : List (Placed N F P)) → Once (places derivation ms) → AllApart derivation ms
  apart_of [] o i j m n e f same = let g : ◌≡◌ {A = Option (Placed N F P)} None (Some m) = e in absurd (cc)
  apart_of (x ∷ ms) o zero zero m n e f same = refl
  apart_of (x ∷ ms) o zero (suc j) m n e f same =
      let is : x ≡ m = cc in
      absurd (o.0 (subst (λ p. Among p (places derivation ms)) (sym (ap (λ (y : Placed N F P). place_of derivation y.shape) is ∙ same)) (at_places ms j n f)))
  apart_of (x ∷ ms) o (suc i) zero m n e f same =
      let is : x ≡ n = cc in
      absurd (o.0 (subst (λ p. Among p (places derivation ms)) (same ∙ sym (ap (λ (y : Placed N F P). place_of derivation y.shape) is)) (at_places ms i m e)))
  apart_of (x ∷ ms) o (suc i) (suc j) m n e f same = ap suc (apart_of ms o.1 i j m n e f same)

  once_filter : (test : N → Bool) (xs : List (Placed N F P)) → Once (places derivation xs)
      → Once (places derivation (filter (λ m. test m.shape) xs))
  once_filter test [] o = tt
  once_filter test (x ∷ xs) o = elim (test x.shape) as (λ b. Once (places derivation (cond b (x ∷ filter (λ m. test m.shape) xs) (filter (λ m. test m.shape) xs)))) [
    | true ↦ (
      (λ h.
          let w = places-Has derivation (filter (λ m. test m.shape) xs) (place_of derivation x.shape) h in
          o.0 (subst (λ p. Among p (places derivation xs)) w.3 (Has-places derivation xs w.0 w.1 (filter-Has test xs w.0 w.1 w.2).0))),
      once_filter test xs o.1,
    )
    | false ↦ once_filter test xs o.1
  ]

  -- what the first list has of this lot, the second has
  abbrev Goes : List ℕ → List (Placed N F P) → List (Placed N F P) → Type 0
  Goes lot xs zs = (n : N) (k : Kind F P) → derivation.lot n ≡ lot → Has xs n k → Has zs n k

  -- of one lot two lists have the same members
  module _ (xs zs : List (Placed N F P)) (lot : List ℕ) (apart : AllApart derivation zs) (into : Goes lot xs zs) (back : Goes lot zs xs) where
    priority_same : (path : List ℕ) → priority_at derivation xs lot path ≡ priority_at derivation zs lot path
    priority_same path = by (first_of test xs) refl (first_of test zs) refl
      where
        test : Placed N F P → Bool
        test = stands_at derivation lot path

        found : (list : List (Placed N F P)) (x : Placed N F P) → first_of test list ≡ Some x
            → Has list x.shape x.kind × (test x ≡ true) × (derivation.lot x.shape ≡ lot)
            × (derivation.path x.shape ≡ path)
        found list x e =
            let t = first_of-passes test list x e in
            let parts = both _ _ t in
            (first_of-Has test list x e, t, (bytes_decides (derivation.lot x.shape) lot).0 parts.0, (bytes_decides (derivation.path x.shape) path).0 parts.1)

        by : (a : Option (Placed N F P)) → first_of test xs ≡ a → (b : Option (Placed N F P)) → first_of test zs ≡ b
            → priority_found derivation a ≡ priority_found derivation b
        by None e None f = refl
        by None e (Some y) f = let w = found zs y f in absurd (none_fails test xs e y.shape y.kind (back y.shape y.kind w.2 w.0) w.1)
        by (Some x) e None f = let w = found xs x e in absurd (none_fails test zs f x.shape x.kind (into x.shape x.kind w.2 w.0) w.1)
        by (Some x) e (Some y) f =
            let v = found xs x e in
            let w = found zs y f in
            ap derivation.priority ((one_member derivation zs apart x.shape y.shape x.kind y.kind (into x.shape x.kind v.2 v.0) w.0 (λ i. ((v.2 ∙ sym w.2) i, (v.3 ∙ sym w.3) i))).0)

    down_same : (path : List ℕ) (depth : ℕ)
        → priorities_down derivation xs lot path depth ≡ priorities_down derivation zs lot path depth
    down_same path zero = refl
    down_same path (suc depth) = λ i. down_same path depth i ++ priority_same (take depth path) i ∷ []

  pub chain_same : (xs zs : List (Placed N F P)) (n : N) → AllApart derivation zs
      → ((m : N) (k : Kind F P) → derivation.lot m ≡ derivation.lot n → Has xs m k → Has zs m k)
      → ((m : N) (k : Kind F P) → derivation.lot m ≡ derivation.lot n → Has zs m k → Has xs m k)
      → chain_in derivation xs n ≡ chain_in derivation zs n
  chain_same xs zs n apart into back =
      let ps = down_same xs zs (derivation.lot n) apart into back (derivation.path n) (suc (length (derivation.path n))) in
      λ i. record { lot = derivation.lot n; path = derivation.path n; priorities = ps i }

  -- ---- the lots of roots

  pub lot_of : (roots : List N) (r : N) → Among r roots → is_lot_of derivation roots (derivation.lot r) ≡ true
  lot_of [] r h = absurd h
  lot_of (x ∷ roots) r h = elim h [
    | inl e ↦ ap (λ b. b || is_lot_of derivation roots (derivation.lot r)) ((bytes_decides (derivation.lot x) (derivation.lot r)).1 (ap derivation.lot e))
    | inr q ↦ or_right (pointwise nat_eq (derivation.lot x) (derivation.lot r)) _ (lot_of roots r q)
  ]

  pub root_in : (roots : List N) (lot : List ℕ) → is_lot_of derivation roots lot ≡ true
      → (r : N) × Among r roots × (derivation.lot r ≡ lot)
  root_in [] lot e = let no : false ≡ true = e in absurd (cc)
  root_in (x ∷ roots) lot e = elim (or_cases (pointwise nat_eq (derivation.lot x) lot) (is_lot_of derivation roots lot) e) [
    | inl t ↦ (x, inl refl, (bytes_decides (derivation.lot x) lot).0 t)
    | inr r ↦ let w = root_in roots lot r in (w.0, inr w.1, w.2)
  ]

  -- ---- the own members of jobs

  pub own_in : (jobs : List (Job N N F P)) (job : Job N N F P) → Among job jobs → (n : N) (k : Kind F P)
      → Has (own_of derivation job) n k → Has (all_own derivation jobs) n k
  own_in [] job j n k h = absurd j
  own_in (x ∷ jobs) job j n k h = elim j [
    | inl e ↦ Has-left (own_of derivation x) (all_own derivation jobs) n k (subst (λ y. Has (own_of derivation y) n k) (sym e) h)
    | inr r ↦ Has-right (own_of derivation x) (all_own derivation jobs) n k (own_in jobs job r n k h)
  ]

  pub own_from : (jobs : List (Job N N F P)) (n : N) (k : Kind F P) → Has (all_own derivation jobs) n k
      → (job : Job N N F P) × Among job jobs × Has job.members n k
      × (is_lot_of derivation job.own (derivation.lot n) ≡ true)
  own_from [] n k h = absurd h
  own_from (x ∷ jobs) n k h = elim (Has-append (own_of derivation x) (all_own derivation jobs) n k h) [
    | inl l ↦ let w = filter-Has (λ m. is_lot_of derivation x.own (derivation.lot m)) x.members n k l in (x, inl refl, w.0, w.1)
    | inr r ↦ let w = own_from jobs n k r in (w.0, inr w.1, w.2, w.3)
  ]

  pub one_job : (jobs : List (Job N N F P)) → LotsDiffer derivation jobs → (a b : Job N N F P) → Among a jobs
      → Among b jobs → (n m : N) → Among n a.own → Among m b.own → derivation.lot n ≡ derivation.lot m → a ≡ b
  one_job [] d a b i j n m h g same = absurd i
  one_job (x ∷ jobs) d a b i j n m h g same = elim i [
    | inl e ↦ elim j [
      | inl f ↦ sym e ∙ f
      | inr q ↦ absurd (d.0 b n m q (subst (λ (y : Job N N F P). Among n y.own) (sym e) h) g same)
    ]
    | inr p ↦ elim j [
      | inl f ↦ absurd (d.0 a m n p (subst (λ (y : Job N N F P). Among m y.own) (sym f) g) h (sym same))
      | inr q ↦ one_job jobs d.1 a b p q n m h g same
    ]
  ]

  pub own_once : (jobs : List (Job N N F P)) → LotsDiffer derivation jobs
      → ((job : Job N N F P) → Among job jobs → AllApart derivation job.members)
      → Once (places derivation (all_own derivation jobs))
  own_once [] d apart = tt
  own_once (x ∷ jobs) d apart =
      let rest = own_once jobs d.1 (λ job j. apart job (inr j)) in
      let own = once_filter (λ m. is_lot_of derivation x.own (derivation.lot m)) x.members (places_once derivation x.members (apart x (inl refl))) in
      subst Once (sym (map-append (λ (m : Placed N F P). place_of derivation m.shape) (own_of derivation x) (all_own derivation jobs)))
      (Once-append (places derivation (own_of derivation x)) (places derivation (all_own derivation jobs)) own rest (λ p h g.
      let v = places-Has derivation (own_of derivation x) p h in
      let w = places-Has derivation (all_own derivation jobs) p g in
      let mine = filter-Has (λ m. is_lot_of derivation x.own (derivation.lot m)) x.members v.0 v.1 v.2 in
      let there = own_from jobs w.0 w.1 w.2 in
      let l = root_in x.own (derivation.lot v.0) mine.1 in
      let r = root_in there.0.own (derivation.lot w.0) there.3 in
      d.0 there.0 l.0 r.0 there.1 l.1 r.1 (l.2 ∙ (ap (λ x. x.0) (v.3 ∙ sym w.3) ∙ sym r.2))))
