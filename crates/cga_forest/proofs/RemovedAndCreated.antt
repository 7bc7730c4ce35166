-- The lists of a replacement have just the nodes that went and those that came.
use Rattle.std.proofs.Common.{◌≡◌, ◌≢◌, inl, inr, ℕ, zero, suc, ◌<◌, List, [], ◌∷◌, length, Bool, true, false, refl, ap, sym, ◌∙◌, arith, subst, nat_eq, eq-eqb}
use Rattle.std.specs.Prelude.{Option, Some, None, not, slice_get, if◌then◌else◌}
use Rattle.cga_index.specs.Tree.{Member, Apart}
use Rattle.cga_fraction.proofs.Door.{eq_or_ne as nat_cases, same_from_both_ways}
use Rattle.cga_index.proofs.Door.{in_left, in_right, in_split, apart_join}
use Rattle.std.proofs.lemmas.Bool.{cases_Bool as bool_cases, eqb-true, ne_eqb, or_cases, or_left, or_right}
use Rattle.cga_order.specs.World.{Among}
use Rattle.cga_tree.specs.Tree.{IsTree}
use Rattle.cga_tree.specs.Replaced.{IsReplaced}
use Rattle.cga_forest.specs.declared.slot_entry.SlotEntry.{SlotEntry}
use Rattle.cga_forest.specs.declared.node_change.NodeChange.{NodeChange}
use Rattle.cga_forest.specs.declared.node.Node.{Node}
use Rattle.cga_forest.specs.Node.{fits}
use Rattle.cga_forest.specs.View.{Seen, kids, present_of}
use Rattle.cga_forest.specs.NodeChange.{is_listed, moved_node, moved_of, ListsOnlyIn}
use Rattle.cga_forest.specs.Gathered.{found, going, coming, coming_at, is_come}
use Rattle.cga_forest.specs.Tree.{goes, stay_of}
use Rattle.cga_forest.proofs.Present.{present_some, kids_present}
use Rattle.cga_forest.proofs.GoesBelow.{goes_find, goes_here, under_deep}
use Rattle.cga_forest.proofs.Goes.{get_within}
use Rattle.cga_forest.proofs.Replace.{IsTree-replaced}
use Rattle.cga_forest.proofs.Listed.{found_in, found_has, found_once}
use Rattle.cga_forest.proofs.Moves.{going_find, going_has, going_once}

-- ---- the nodes of a list by their numbers

listed_in : (list : List NodeChange) (c : ℕ) → is_listed list c ≡ true → (m : NodeChange) × Among m list × (m.id ≡ c)
listed_in [] c h = absurd (cc)
listed_in (m ∷ ms) c h = elim (or_cases (nat_eq m.id c) (is_listed ms c) h) [
  | inl y ↦ (m, inl refl, eqb-true m.id c y)
  | inr y ↦ (let r = listed_in ms c y in (r.0, inr r.1, r.2))
]

listed_has : (list : List NodeChange) (m : NodeChange) → Among m list → is_listed list m.id ≡ true
listed_has [] m h = absurd h
listed_has (x ∷ xs) m h = elim h [
  | inl q ↦ or_left (nat_eq x.id m.id) (is_listed xs m.id) (eq-eqb x.id m.id (ap (λ (y : NodeChange). y.id) q))
  | inr r ↦ or_right (nat_eq x.id m.id) (is_listed xs m.id) (listed_has xs m r)
]

-- ---- the children that come

come_not : (o : Option ℕ) (x : ℕ) → is_come o x ≡ true → o ≡ Some x → ⊥
come_not o x h q = let z : true ≡ false = sym h ∙ ap (λ p. is_come p x) q ∙ ap not (eq-eqb x x refl) in cc

come_so : (o : Option ℕ) (x : ℕ) → (o ≡ Some x → ⊥) → is_come o x ≡ true
come_so None x n = refl
come_so (Some k) x n = ap not (ne_eqb k x (λ q. n (ap (λ y. Some y) q)))

coming_at_in : (o n : Option ℕ) (c : ℕ) → Member (coming_at o n) c → (n ≡ Some c) × (o ≡ Some c → ⊥)
coming_at_in o None c h = absurd h
coming_at_in o (Some x) c h = elim (bool_cases (is_come o x)) [
  | inl y ↦ (
      let m : Member (x ∷ []) c = subst (λ b. Member (if b then x ∷ [] else []) c) y h in
      elim m [
        | inl q ↦ (ap (λ z. Some z) q, λ r. come_not o x y (r ∙ ap (λ z. Some z) (sym q)))
        | inr z ↦ absurd z
      ])
  | inr n ↦ absurd (subst (λ b. Member (if b then x ∷ [] else []) c) n h)
]

one_at : (o n : Option ℕ) → Apart (coming_at o n)
one_at o None = tt
one_at o (Some x) = elim (is_come o x) as (λ b. Apart (if b then x ∷ [] else [])) [
  | true ↦ ((λ z. z), tt)
  | false ↦ tt
]

module _ (olds children : List ℕ) where
  pub coming_in : (m c : ℕ) → Member (coming olds children m) c
      → (i : ℕ) × (i < m) × (slice_get children i ≡ Some c) × (slice_get olds i ≡ Some c → ⊥)
  unfolding coming
  coming_in zero c h = absurd h
  coming_in (suc m) c h = elim (in_split (coming olds children m) (coming_at (slice_get olds m) (slice_get children m)) c h) [
    | inl y ↦ (let r = coming_in m c y in let l = r.1 in (r.0, omega arith, r.2, r.3))
    | inr y ↦ (let r = coming_at_in (slice_get olds m) (slice_get children m) c y in (m, omega arith, r.0, r.1))
  ]

  coming_has : (m i c : ℕ) → i < m → slice_get children i ≡ Some c → (slice_get olds i ≡ Some c → ⊥)
      → Member (coming olds children m) c
  unfolding coming
  coming_has zero i c lt at new = absurd (omega arith)
  coming_has (suc m) i c lt at new = elim (nat_cases i m) [
    | inl q ↦ (
        let one : coming_at (slice_get olds i) (slice_get children i) ≡ c ∷ [] = ap (coming_at (slice_get olds i)) at ∙ ap (λ b. if b then c ∷ [] else []) (come_so (slice_get olds i) c new) in
        in_right (coming olds children m) (coming_at (slice_get olds m) (slice_get children m)) c
        (subst (λ j. Member (coming_at (slice_get olds j) (slice_get children j)) c) q (subst (λ l. Member l c) (sym one) (inl refl))))
    | inr ne ↦ in_left (coming olds children m) (coming_at (slice_get olds m) (slice_get children m)) c (coming_has m i c (omega arith) at new)
  ]

  coming_once : ((i j c : ℕ) → slice_get children i ≡ Some c → slice_get children j ≡ Some c → i ≡ j)
      → (m : ℕ) → Apart (coming olds children m)
  unfolding coming
  coming_once apart zero = tt
  coming_once apart (suc m) = apart_join (coming olds children m)
      (coming_at (slice_get olds m) (slice_get children m)) (coming_once apart m) (one_at (slice_get olds m) (slice_get children m)) (λ c p q.
      let a = coming_in m c p in let b = coming_at_in (slice_get olds m) (slice_get children m) c q in
      let l = a.1 in let e = apart a.0 m c a.2 b.0 in absurd (omega arith))

-- ---- the nodes that go

module _ (s : ℕ → Option SlotEntry) (id n : ℕ) (news : List Node) (e : Seen) (tree : IsTree (λ c. present_of (s c))) (was : present_of (s id) ≡ Some e) where
  abbrev goers : List ℕ
  goers = going (λ d. kids (s d)) n (λ k w. stay_of (s k) w) (kids (s id)) news (length (kids (s id)))

  abbrev goes_now : ℕ → Bool
  goes_now c = goes (λ d. kids (s d)) n (λ k w. stay_of (s k) w) (kids (s id)) news (length (kids (s id))) c

  are : (c : ℕ) (d : Seen) → present_of (s c) ≡ Some d → kids (s c) ≡ d.children
  are c d h = kids_present (s c) d h

  gone_there : (c : ℕ) → goes_now c ≡ true → (d : Seen) × (present_of (s c) ≡ Some d)
  gone_there c g =
      let f = goes_find (λ d. kids (s d)) n (λ k w. stay_of (s k) w) (kids (s id)) news (length (kids (s id))) c g in
      let x = tree.down id f.0 f.1 e was (ap (λ xs. slice_get xs f.0) (sym (are id e was)) ∙ f.2) in
      let u = under_deep (λ d. kids (s d)) (λ d. present_of (s d)) tree (λ k d t. kids_present (s k) d t) n f.1 c x.0 x.1 f.4 in (u.0, u.1)

  goers_gone : (c : ℕ) → Member goers c → goes_now c ≡ true
  goers_gone c h =
      let f = going_find (λ d. kids (s d)) (λ c. present_of (s c)) tree are n id (λ k w. stay_of (s k) w) news e was (length (kids (s id))) c h in
      goes_here (λ d. kids (s d)) n (λ k w. stay_of (s k) w) (kids (s id)) news f.0 f.1 c f.3 f.4 f.5

  gone_goers : (c : ℕ) → goes_now c ≡ true → Member goers c
  gone_goers c g =
      let f = goes_find (λ d. kids (s d)) n (λ k w. stay_of (s k) w) (kids (s id)) news (length (kids (s id))) c g in
      going_has (λ d. kids (s d)) (λ c. present_of (s c)) tree are n id (λ k w. stay_of (s k) w) news e was (length (kids (s id))) f.0 f.1 c (get_within (kids (s id)) f.0 f.1 f.2) f.2 f.3 f.4

  goers_once : Apart goers
  goers_once = going_once (λ d. kids (s d)) (λ c. present_of (s c)) tree are n id (λ k w. stay_of (s k) w) news e was (length (kids (s id)))

  -- the list of those that go names just them
  pub listed_goes : (c : ℕ) → is_listed (found s goers) c ≡ goes_now c
  listed_goes c = same_from_both_ways _ _
      (λ h.
      let l = listed_in (found s goers) c h in
      let f = found_in s l.0 goers l.1 in
      let q : f.0 ≡ c = ap (λ (m : NodeChange). m.id) (sym f.4) ∙ l.2 in
      ap goes_now (sym q) ∙ goers_gone f.0 f.2)
      (λ g.
      let u = gone_there c g in
      let w = present_some (s c) u.0 u.1 in
      listed_has (found s goers) (moved_node c w.0.node) (found_has s goers c w.0 (gone_goers c g) w.1))

module _ (s : ℕ → Option SlotEntry) (T : ℕ → Option Seen) (id n : ℕ) (news : List Node) (e now : Seen) (tree : IsTree (λ c. present_of (s c)))
    (r : IsReplaced fits (λ c. present_of (s c)) T id news e now (λ c. goes (λ d. kids (s d)) n (λ k w. stay_of (s k) w) (kids (s id)) news (length (kids (s id))) c)) where
  abbrev gone : ℕ → Bool
  gone c = goes_now s id n news e tree r.was c

  abbrev leaving : List ℕ
  leaving = goers s id n news e tree r.was

  olds : kids (s id) ≡ e.children
  olds = kids_present (s id) e r.was

  gone_apart : (c : ℕ) → gone c ≡ true → c ≢ id
  gone_apart c g q = let z : true ≡ false = sym g ∙ ap gone q ∙ r.self in (cc)

  pub lists_removed : ListsOnlyIn (λ c. present_of (s c)) T (found s leaving)
  lists_removed = record {
    once = found_once s leaving (goers_once s id n news e tree r.was);
    each = λ m. (
      (λ h.
          let f = found_in s m leaving h in
          let c = f.0 in
          let g = goers_gone s id n news e tree r.was c f.2 in
          let u = gone_there s id n news e tree r.was c g in
          let w = present_some (s c) u.0 u.1 in
          let z : Some f.1 ≡ Some w.0 = sym f.3 ∙ w.1 in
          let y : f.1 ≡ w.0 = (cc) in
          (c, u.0, u.1, r.rest c u.0 (gone_apart c g) u.1 ∙ ap (λ t. if t then None else Some u.0) g, f.4 ∙ ap (λ (x : SlotEntry). moved_node c x.node) y ∙ ap (λ (x : Seen). moved_of c x) w.2)),
      (λ h.
          let c = h.0 in
          let ne : c ≢ id = (λ y. let z : None ≡ Some now = sym h.3 ∙ ap T y ∙ r.is in (cc)) in
          let w = present_some (s c) h.1 h.2 in
          let g : gone c ≡ true = elim (bool_cases (gone c)) [
            | inl y ↦ y
            | inr f ↦ (let z : None ≡ Some h.1 = sym h.3 ∙ r.rest c h.1 ne h.2 ∙ ap (λ x. if x then None else Some h.1) f in absurd (cc))
          ] in
          subst (λ (x : NodeChange). Among x (found s leaving)) (ap (λ (x : Seen). moved_of c x) w.2 ∙ sym h.4) (found_has s leaving c w.0 (gone_goers s id n news e tree r.was c g) w.1)),
    );
  }

  -- a new child that is no old one at its place came
  created_new : (i c : ℕ) → slice_get now.children i ≡ Some c → (slice_get e.children i ≡ Some c → ⊥)
      → (present_of (s c) ≡ None) × ((d : Seen) × (T c ≡ Some d))
  created_new i c here new = elim (r.each i c here).2 [
    | inl o ↦ absurd (new o.0)
    | inr v ↦ (v.0, (v.1.seen, v.1.here))
  ]

  after : IsTree T
  after = IsTree-replaced (λ c. present_of (s c)) T id news e now gone r tree

  now_place : (i j c : ℕ) → slice_get now.children i ≡ Some c → slice_get now.children j ≡ Some c → i ≡ j
  now_place i j c p q =
      let a = after.down id i c now r.is p in let b = after.down id j c now r.is q in
      let z : Some a.0 ≡ Some b.0 = sym a.1 ∙ b.1 in
      let y : a.0 ≡ b.0 = (cc) in
      sym a.4 ∙ ap (λ (o : Seen). o.index) y ∙ b.4

  module _ (t : ℕ → Option SlotEntry) (shows : (c : ℕ) → T c ≡ present_of (t c)) where
    abbrev comers : List ℕ
    comers = coming (kids (s id)) (kids (t id)) (length (kids (t id)))

    kids_now : kids (t id) ≡ now.children
    kids_now = kids_present (t id) now (sym (shows id) ∙ r.is)

    child_now : (i c : ℕ) → slice_get (kids (t id)) i ≡ Some c → slice_get now.children i ≡ Some c
    child_now i c h = ap (λ xs. slice_get xs i) (sym kids_now) ∙ h

    comers_once : Apart comers
    comers_once = coming_once (kids (s id)) (kids (t id)) (λ i j c p q. now_place i j c (child_now i c p) (child_now j c q)) (length (kids (t id)))

    comer_created : (c : ℕ) → Member comers c → (present_of (s c) ≡ None) × ((d : Seen) × (T c ≡ Some d))
    comer_created c m =
        let k = coming_in (kids (s id)) (kids (t id)) (length (kids (t id))) c m in
        created_new k.0 c (child_now k.0 c k.2) (λ o. k.3 (ap (λ xs. slice_get xs k.0) olds ∙ o))

    created_comer : (c : ℕ) (d : Seen) → present_of (s c) ≡ None → T c ≡ Some d → Member comers c
    created_comer c d none h = elim (r.created c none) [
      | inl y ↦ (let z : None ≡ Some d = sym y ∙ h in absurd (cc))
      | inr at ↦ (
          let here : slice_get (kids (t id)) at.0 ≡ Some c = ap (λ xs. slice_get xs at.0) kids_now ∙ at.1 in
          coming_has (kids (s id)) (kids (t id)) (length (kids (t id))) at.0 c (get_within (kids (t id)) at.0 c here) here (λ o.
          let x = tree.down id at.0 c e r.was (ap (λ xs. slice_get xs at.0) (sym olds) ∙ o) in
          let z : None ≡ Some x.0 = sym none ∙ x.1 in (cc)))
    ]

    pub lists_created : ListsOnlyIn T (λ c. present_of (s c)) (found t comers)
    lists_created = record {
      once = found_once t comers comers_once;
      each = λ m. (
        (λ h.
            let f = found_in t m comers h in
            let c = f.0 in
            let u = comer_created c f.2 in
            let w = present_some (t c) u.1.0 (sym (shows c) ∙ u.1.1) in
            let z : Some f.1 ≡ Some w.0 = sym f.3 ∙ w.1 in
            let y : f.1 ≡ w.0 = (cc) in
            (c, u.1.0, u.1.1, u.0, f.4 ∙ ap (λ (x : SlotEntry). moved_node c x.node) y ∙ ap (λ (x : Seen). moved_of c x) w.2)),
        (λ h.
            let c = h.0 in
            let w = present_some (t c) h.1 (sym (shows c) ∙ h.2) in
            subst (λ (x : NodeChange). Among x (found t comers)) (ap (λ (x : Seen). moved_of c x) w.2 ∙ sym h.4) (found_has t comers c w.0 (created_comer c h.1 h.3 h.2) w.1)),
      );
    }
