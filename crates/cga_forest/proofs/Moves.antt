-- The lists of the nodes below a node, and of those that go and come, have each of them once, and no other.
use Rattle.std.proofs.Common.{◌≡◌, inl, inr, ℕ, zero, suc, ◌+◌, ◌<◌, List, [], ◌∷◌, Bool, true, false, refl, ap, sym, ◌∙◌, arith, subst}
use Rattle.std.specs.Prelude.{Option, Some, None, slice_get, if◌then◌else◌}
use Rattle.cga_index.specs.Tree.{Member, Apart}
use Rattle.cga_fraction.proofs.Door.{eq_or_ne as nat_cases}
use Rattle.cga_index.proofs.Door.{in_at, in_flat, in_left, in_right, in_some, in_split, member_at as at_member, apart_join, apart_flat}
use Rattle.std.proofs.lemmas.Bool.{cases_Bool as bool_cases}
use Rattle.cga_order.specs.World.{Among}
use Rattle.cga_tree.specs.Tree.{IsTree}
use Rattle.cga_forest.specs.declared.slot_entry.SlotEntry.{SlotEntry}
use Rattle.cga_forest.specs.declared.node_change.NodeChange.{NodeChange}
use Rattle.cga_forest.specs.declared.node.Node.{Node}
use Rattle.cga_forest.specs.View.{Seen, kids, present_of}
use Rattle.cga_forest.specs.NodeChange.{moved_node, moved_of, Lists}
use Rattle.cga_forest.specs.Gathered.{found, below, going, going_at}
use Rattle.cga_forest.specs.Tree.{children_of, under}
use Rattle.cga_forest.proofs.Present.{present_some, kids_present}
use Rattle.cga_forest.proofs.GoesBelow.{under_deep}
use Rattle.cga_forest.proofs.Walk.{under_cases, under_child, under_self, under_none, under_same}
use Rattle.cga_forest.proofs.Listed.{found_in, found_has, found_once}

pub apart_by_place : (xs : List ℕ) → ((i j c : ℕ) → slice_get xs i ≡ Some c → slice_get xs j ≡ Some c → i ≡ j)
    → Apart xs
apart_by_place [] h = tt
apart_by_place (x ∷ xs) h = (
  (λ m. let w = at_member xs x m in let z : 0 ≡ suc w.0 = h 0 (suc w.0) x refl w.1 in absurd (omega arith)),
  apart_by_place xs (λ i j c p q. let z : suc i ≡ suc j = h (suc i) (suc j) c p q in omega arith),
)

-- ---- below a node

pub below_under : (K : ℕ → List ℕ) (n id c : ℕ) → Member (below K n id) c → under K n id c ≡ true
unfolding below
below_under K zero id c m = absurd m
below_under K (suc n) id c m = elim m [
  | inl e ↦ ap (under K (suc n) id) (sym e) ∙ under_self K (suc n) id (omega arith)
  | inr r ↦ (let p = in_some (below K n) (K id) c r in let w = at_member (K id) p.0 p.1 in under_child K n id w.0 p.0 c w.1 (below_under K n p.0 c p.2))
]

pub under_below : (K : ℕ → List ℕ) (n id c : ℕ) → under K n id c ≡ true → Member (below K n id) c
unfolding below
under_below K zero id c h = let z = under_none K id c in absurd (cc)
under_below K (suc n) id c h = elim (under_cases K n id c h) [
  | inl e ↦ inl e
  | inr w ↦ inr (in_flat (below K n) (K id) w.1 c (in_at (K id) w.0 w.1 w.2) (under_below K n w.1 c w.3))
]

same_depth : (T : ℕ → Option Seen) (a b : ℕ) (d e : Seen) → T a ≡ Some d → T b ≡ Some e → a ≡ b → d.depth ≡ e.depth
same_depth T a b d e t u q = let z : Some d ≡ Some e = sym t ∙ ap T q ∙ u in let y : d ≡ e = (cc) in ap (λ (x : Seen). x.depth) y

module _ (K : ℕ → List ℕ) (T : ℕ → Option Seen) (tree : IsTree T) (kids_are : (c : ℕ) (d : Seen) → T c ≡ Some d → K c ≡ d.children) where
  child : (id i c : ℕ) (e : Seen) → T id ≡ Some e → slice_get (K id) i ≡ Some c
      → (d : Seen) × (T c ≡ Some d) × (d.parent ≡ Some id) × (d.depth ≡ e.depth + 1) × (d.index ≡ i)
  child id i c e t g = tree.down id i c e t (ap (λ xs. slice_get xs i) (sym (kids_are id e t)) ∙ g)

  -- of two nodes of one depth only one has a given node below it
  same_top : (m a b n : ℕ) (x y : Seen) → T a ≡ Some x → T b ≡ Some y → x.depth ≡ y.depth → under K m a n ≡ true
      → under K m b n ≡ true → a ≡ b
  same_top zero a b n x y ta tb d ha hb = let z = under_none K a n in absurd (cc)
  same_top (suc m) a b n x y ta tb d ha hb = elim (under_cases K m a n ha) [
    | inl e ↦ elim (under_cases K m b n hb) [
      | inl f ↦ e ∙ sym f
      | inr u ↦ (
          let r = child b u.0 u.1 y tb u.2 in
          let q = under_deep K T tree kids_are m u.1 n r.0 r.1 u.3 in
          let s = same_depth T a n x q.0 ta q.1 e in let k = q.2 in let l = r.3 in absurd (omega arith))
    ]
    | inr w ↦ (
        let p = child a w.0 w.1 x ta w.2 in elim (under_cases K m b n hb) [
          | inl f ↦ (
              let q = under_deep K T tree kids_are m w.1 n p.0 p.1 w.3 in
              let s = same_depth T b n y q.0 tb q.1 f in let k = q.2 in let l = p.3 in absurd (omega arith))
          | inr u ↦ (
              let r = child b u.0 u.1 y tb u.2 in
              let dp = p.3 in let dr = r.3 in
              let s = same_top m w.1 u.1 n p.0 r.0 p.1 r.1 (omega arith) w.3 u.3 in
              let z : Some p.0 ≡ Some r.0 = sym p.1 ∙ ap T s ∙ r.1 in
              let v : p.0 ≡ r.0 = (cc) in
              let t : Some a ≡ Some b = sym p.2 ∙ ap (λ (o : Seen). o.parent) v ∙ r.2 in
              (cc))
        ])
  ]

  same_place : (id i j c : ℕ) (e : Seen) → T id ≡ Some e → slice_get (K id) i ≡ Some c → slice_get (K id) j ≡ Some c
      → i ≡ j
  same_place id i j c e t p q =
      let a = child id i c e t p in let b = child id j c e t q in
      let z : Some a.0 ≡ Some b.0 = sym a.1 ∙ b.1 in
      let y : a.0 ≡ b.0 = (cc) in
      sym a.4 ∙ ap (λ (o : Seen). o.index) y ∙ b.4

  pub below_once : (m id : ℕ) (e : Seen) → T id ≡ Some e → Apart (below K m id)
  unfolding below
  below_once zero id e t = tt
  below_once (suc m) id e t = (
    (λ u.
        let p = in_some (below K m) (K id) id u in
        let w = at_member (K id) p.0 p.1 in
        let r = child id w.0 p.0 e t w.1 in
        let q = under_deep K T tree kids_are m p.0 id r.0 r.1 (below_under K m p.0 id p.2) in
        let s = same_depth T id id e q.0 t q.1 refl in let k = q.2 in let l = r.3 in absurd (omega arith)),
    apart_flat (below K m) (K id) (apart_by_place (K id) (λ i j c p q. same_place id i j c e t p q))
        (λ c i. let w = at_member (K id) c i in let r = child id w.0 c e t w.1 in below_once m c r.0 r.1)
        (λ a b n i j x y.
        let w = at_member (K id) a i in let u = at_member (K id) b j in
        let r = child id w.0 a e t w.1 in let p = child id u.0 b e t u.1 in
        let dr = r.3 in let dp = p.3 in
        same_top m a b n r.0 p.0 r.1 p.1 (omega arith) (below_under K m a n x) (below_under K m b n y)),
  )

  module _ (n id : ℕ) (P : ℕ → Option Node → Bool) (news : List Node) (e : Seen) (here : T id ≡ Some e) where
    abbrev olds : List ℕ
    olds = K id

    going_at_find : (o : Option ℕ) (w : Option Node) (c : ℕ) → Member (going_at K n P o w) c
        → (k : ℕ) × (o ≡ Some k) × (P k w ≡ false) × (under K n k c ≡ true)
    going_at_find None w c m = absurd m
    going_at_find (Some k) w c m = elim (bool_cases (P k w)) [
      | inl y ↦ absurd (subst (λ b. Member (if b then [] else below K n k) c) y m)
      | inr f ↦ (k, refl, f, below_under K n k c (subst (λ b. Member (if b then [] else below K n k) c) f m))
    ]

    pub going_find : (m c : ℕ) → Member (going K n P olds news m) c
        → (i : ℕ) × (k : ℕ) × (i < m) × (slice_get olds i ≡ Some k) × (P k (slice_get news i) ≡ false)
        × (under K n k c ≡ true)
    unfolding going
    going_find zero c h = absurd h
    going_find (suc m) c h = elim (in_split (going K n P olds news m) (going_at K n P (slice_get olds m) (slice_get news m)) c h) [
      | inl y ↦ (let r = going_find m c y in let l = r.2 in (r.0, r.1, omega arith, r.3, r.4, r.5))
      | inr y ↦ (let r = going_at_find (slice_get olds m) (slice_get news m) c y in (m, r.0, omega arith, r.1, r.2, r.3))
    ]

    pub going_has : (m i k c : ℕ) → i < m → slice_get olds i ≡ Some k → P k (slice_get news i) ≡ false
        → under K n k c ≡ true → Member (going K n P olds news m) c
    unfolding going
    going_has zero i k c lt at f u = absurd (omega arith)
    going_has (suc m) i k c lt at f u = elim (nat_cases i m) [
      | inl q ↦ in_right (going K n P olds news m) (going_at K n P (slice_get olds m) (slice_get news m)) c
          (subst (λ j. Member (going_at K n P (slice_get olds j) (slice_get news j)) c) q
          (subst (λ o. Member (going_at K n P o (slice_get news i)) c) (sym at) (subst (λ b. Member (if b then [] else below K n k) c) (sym f) (under_below K n k c u))))
      | inr ne ↦ in_left (going K n P olds news m) (going_at K n P (slice_get olds m) (slice_get news m)) c (going_has m i k c (omega arith) at f u)
    ]

    going_at_once : (i : ℕ) (o : Option ℕ) (w : Option Node) → slice_get olds i ≡ o → Apart (going_at K n P o w)
    going_at_once i None w q = tt
    going_at_once i (Some k) w q = elim (P k w) as (λ b. Apart (if b then [] else below K n k)) [
      | true ↦ tt
      | false ↦ (let r = child id i k e here q in below_once n k r.0 r.1)
    ]

    pub going_once : (m : ℕ) → Apart (going K n P olds news m)
    unfolding going
    going_once zero = tt
    going_once (suc m) = apart_join (going K n P olds news m)
        (going_at K n P (slice_get olds m) (slice_get news m)) (going_once m) (going_at_once m (slice_get olds m) (slice_get news m) refl) (λ c p q.
        let a = going_find m c p in
        let b = going_at_find (slice_get olds m) (slice_get news m) c q in
        let x = child id a.0 a.1 e here a.3 in let y = child id m b.0 e here b.1 in
        let dx = x.3 in let dy = y.3 in
        let s = same_top n a.1 b.0 c x.0 y.0 x.1 y.1 (omega arith) a.5 b.3 in
        let i = same_place id a.0 m b.0 e here (a.3 ∙ ap (λ k. Some k) s) b.1 in
        let l = a.2 in absurd (omega arith))

-- ---- the list below a node of a forest

pub lists_below : (s : ℕ → Option SlotEntry) → IsTree (λ c. present_of (s c)) → (id : ℕ) (e : Seen)
    → present_of (s id) ≡ Some e
    → Lists (λ c. present_of (s c)) (λ c. under (λ d. children_of (present_of (s d))) 257 id c ≡ true)
    (found s (below (λ d. kids (s d)) 257 id))
lists_below s tree id e t =
    let K : ℕ → List ℕ = λ d. kids (s d) in
    let T : ℕ → Option Seen = λ d. present_of (s d) in
    let are : (c : ℕ) (d : Seen) → T c ≡ Some d → K c ≡ d.children = (λ c d h. kids_present (s c) d h) in record {
      once = found_once s (below K 257 id) (below_once K T tree are 257 id e t);
      each = λ m. (
        (λ h.
            let f = found_in s m (below K 257 id) h in
            let u = below_under K 257 id f.0 f.2 in
            let d = under_deep K T tree are 257 id f.0 e t u in
            let w = present_some (s f.0) d.0 d.1 in
            let z : Some f.1 ≡ Some w.0 = sym f.3 ∙ w.1 in
            let y : f.1 ≡ w.0 = (cc) in
            (f.0, d.0, d.1, sym (under_same K T tree are 257 id f.0 e t) ∙ u, f.4 ∙ ap (λ (x : SlotEntry). moved_node f.0 x.node) y ∙ ap (λ (x : Seen). moved_of f.0 x) w.2)),
        (λ h.
            let c = h.0 in
            let w = present_some (s c) h.1 h.2 in
            let u : under K 257 id c ≡ true = under_same K T tree are 257 id c e t ∙ h.3 in
            subst (λ (x : NodeChange). Among x (found s (below K 257 id))) (ap (λ (x : Seen). moved_of c x) w.2 ∙ sym h.4) (found_has s (below K 257 id) c w.0 (under_below K 257 id c u) w.1)),
      );
    }
