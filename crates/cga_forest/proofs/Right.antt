-- Hulls, right at a node by its children's hulls.
use Rattle.std.proofs.Common.{◌≡◌, ◌≢◌, inl, inr, ℕ, zero, suc, ◌+◌, ◌<◌, List, length, Bool, true, false, refl, ap, sym, ◌∙◌, arith}
use Rattle.std.specs.Prelude.{Option, Some, None, is_some, slice_get, if◌then◌else◌}
use Rattle.cga_forest.specs.declared.slot_entry.SlotEntry.{SlotEntry}
use Rattle.cga_kept_hulls.specs.declared.hulls.Hulls.{Hulls}
use Rattle.cga_kept_hulls.specs.Hull.{over, with_hulls, at_hulls, holds_hulls, alike, grown_from}
use Rattle.cga_forest.specs.declared.hulls_due.HullsDue.{HullsDue}
use Rattle.cga_forest.specs.declared.hulls_due.HullsDue.TheVariants.{Grown, Changed}
use Rattle.cga_forest.specs.HullsDue.{HoldsAll, due_above, grown_of}
use Rattle.cga_forest.specs.Hull.{own_hulls, hulls_known}
use Rattle.cga_forest.specs.View.{Seen, hulls_of, present_of, rehulled, kids}
use Rattle.cga_forest.specs.Tree.{IsRight, AllRight, RightBut, IsDue, hulls_now, hulls_next, parent_of, depth_at}
use Rattle.cga_tree.specs.Tree.{IsTree}
use Rattle.cga_fraction.proofs.Door.{eq_or_ne as nat_cases}
use Rattle.std.proofs.lemmas.Bool.{and_from as pair, cases_Bool as bool_cases}
use Rattle.cga_kept_hulls.proofs.Door.{alike_itself, alike_turned, grown_alike, inside_held}
use Rattle.cga_forest.proofs.Tree.{IsTree-same}
use Rattle.cga_forest.proofs.Present.{present_some, parent_present, depth_present}
pub use Rattle.cga_fraction.proofs.Door.{Some_from_is_some as is_there}

pub over_zero : (H : ℕ → Option Hulls) (own : Hulls) (xs : List ℕ) → over H own xs 0 ≡ own
unfolding over
over_zero H own xs = refl

pub over_step : (H : ℕ → Option Hulls) (own : Hulls) (xs : List ℕ) (i : ℕ)
    → over H own xs (i + 1) ≡ with_hulls (over H own xs i) (at_hulls H (slice_get xs i))
unfolding over
over_step H own xs i = let e : i + 1 ≡ suc i = omega arith in rw e refl

at_same : (H J : ℕ → Option Hulls) (o : Option ℕ) → ((k : ℕ) → o ≡ Some k → J k ≡ H k) → at_hulls J o ≡ at_hulls H o
at_same H J None h = refl
at_same H J (Some k) h = h k refl

pub over_ext : (H J : ℕ → Option Hulls) (own : Hulls) (xs : List ℕ) → ((i k : ℕ) → slice_get xs i ≡ Some k → J k ≡ H k)
    → (n : ℕ) → over J own xs n ≡ over H own xs n
unfolding over
over_ext H J own xs h zero = refl
over_ext H J own xs h (suc n) = rw (over_ext H J own xs h n, at_same H J (slice_get xs n) (h n)) refl

pub right_exact : (H : ℕ → Option Hulls) (c : ℕ) (e : Seen)
    → H c ≡ Some (over H (own_hulls e.node) e.children (length e.children)) → IsRight H c e
right_exact H c e h = (over H (own_hulls e.node) e.children (length e.children), h, alike_itself _)

right_moved : (H J : ℕ → Option Hulls) (c : ℕ) (e : Seen) → J c ≡ H c
    → ((i k : ℕ) → slice_get e.children i ≡ Some k → J k ≡ H k) → IsRight H c e → IsRight J c e
right_moved H J c e same kids r = (r.0, same ∙ r.1, ap (alike r.0) (over_ext H J (own_hulls e.node) e.children kids (length e.children)) ∙ r.2)

-- a node that is as it was, with the hulls of its children as they were
pub right_same : (S : ℕ → Option Seen) (H J : ℕ → Option Hulls) → ((c : ℕ) (e : Seen) → S c ≡ Some e → J c ≡ H c)
    → IsTree S → (c : ℕ) (e : Seen) → S c ≡ Some e → IsRight H c e → IsRight J c e
right_same S H J same tree c e t r = right_moved H J c e (same c e t) (λ i k g. let d = tree.down c i k e t g in same k d.0 d.1) r

-- a part of the nodes, with the hulls as they were
pub AllRight-part : (S T : ℕ → Option Seen) (H J : ℕ → Option Hulls)
    → ((c : ℕ) (e : Seen) → T c ≡ Some e → S c ≡ Some e) → ((c : ℕ) (e : Seen) → S c ≡ Some e → J c ≡ H c) → IsTree S
    → AllRight S H → AllRight T J
AllRight-part S T H J part same tree right c e t = right_same S H J same tree c e (part c e t) (right c e (part c e t))

-- ---- the way up

grown_is : (new old k : Hulls) → grown_from new old ≡ Some k → (holds_hulls new old ≡ true) × (new ≡ k)
grown_is new old k g = elim (bool_cases (holds_hulls new old)) [
  | inl y ↦ (let z : Some new ≡ Some k = ap (λ b. if b then Some new else None) (sym y) ∙ g in (y, (cc)))
  | inr n ↦ (let z : None ≡ Some k = ap (λ b. if b then Some new else None) (sym n) ∙ g in absurd (cc))
]

module _ (T : ℕ → Option Seen) (H J : ℕ → Option Hulls) (tree : IsTree T) (id : ℕ) (e : Seen) (here : T id ≡ Some e) (others : (c : ℕ) → c ≢ id → J c ≡ H c) where
  same_seen : (d : Seen) (c : ℕ) → T c ≡ Some d → c ≡ id → d ≡ e
  same_seen d c t q = let z : Some d ≡ Some e = sym t ∙ ap T q ∙ here in (cc)

  not_own_child : (i k : ℕ) → slice_get e.children i ≡ Some k → k ≢ id
  not_own_child i k g q =
      let d = tree.down id i k e here g in
      let s : d.0.depth ≡ e.depth = ap (λ (x : Seen). x.depth) (same_seen d.0 k d.1 q) in
      let a = d.3 in omega arith

  other_right : (c : ℕ) (d : Seen) → c ≢ id → T c ≡ Some d → ((i : ℕ) → slice_get d.children i ≡ Some id → ⊥)
      → IsRight H c d → IsRight J c d
  other_right c d n t apart r = right_moved H J c d (others c n) (λ i k g. others k (λ q. apart i (g ∙ ap (λ x. Some x) q))) r

  -- the hulls at the node, worked out before they are written
  module _ (new : Hulls) (w : J id ≡ Some new) (made : alike new (over H (own_hulls e.node) e.children (length e.children)) ≡ true) where
    own_right : IsRight J id e
    own_right = (new, w, ap (alike new) (over_ext H J (own_hulls e.node) e.children (λ i k g. others k (not_own_child i k g)) (length e.children)) ∙ made)

    here_right : (c : ℕ) (d : Seen) → c ≡ id → T c ≡ Some d → IsRight J c d
    here_right c d q t = rw (same_seen d c t q, q) own_right

    module _ (but : RightBut T H id) where
      pub right_up : (p : ℕ) → e.parent ≡ Some p → RightBut T J p
      right_up p up c d n t = elim (nat_cases c id) [
        | inl q ↦ here_right c d q t
        | inr ne ↦ other_right c d ne t (λ i g.
            let x = tree.down c i id d t g in
            let y : Some x.0 ≡ Some e = sym x.1 ∙ here in
            let z : x.0 ≡ e = (cc) in
            let v : Some p ≡ Some c = sym up ∙ ap (λ (s : Seen). s.parent) (sym z) ∙ x.2 in
            let u : c ≡ p = (cc) in n u) (but c d ne t)
      ]

      pub right_top : e.parent ≡ None → AllRight T J
      right_top top c d t = elim (nat_cases c id) [
        | inl q ↦ here_right c d q t
        | inr ne ↦ other_right c d ne t (λ i g.
            let x = tree.down c i id d t g in
            let y : Some x.0 ≡ Some e = sym x.1 ∙ here in
            let z : x.0 ≡ e = (cc) in
            let v : None ≡ Some c = sym top ∙ ap (λ (s : Seen). s.parent) (sym z) ∙ x.2 in absurd (cc)) (but c d ne t)
      ]

      -- what the parent needs, where this node's hulls grew
      due_at : (old : Hulls) → H id ≡ Some old → (p : ℕ) → p ≢ id → (d : Seen) → slice_get d.children e.index ≡ Some id
          → (r : IsRight H p d) → (mine k : Hulls) → J p ≡ Some mine → grown_from new old ≡ Some k
          → alike (with_hulls mine (Some k)) (over J (own_hulls d.node) d.children (length d.children)) ≡ true
      due_at old was p ne d at r mine k h g =
          let y : Some mine ≡ Some r.0 = sym h ∙ others p ne ∙ r.1 in
          let m : mine ≡ r.0 = (cc) in
          let grew = grown_is new old k g in
          rw (m, ← grew.1) (grown_alike H J id old new was w others grew.0 (own_hulls d.node) d.children e.index at r.0 r.2)

      pub due_up : (old : Hulls) → H id ≡ Some old → (p : ℕ) → e.parent ≡ Some p → IsDue T J p (grown_from new old)
      due_up old was p up d mine k t h g =
          let x = tree.up id p e here up in
          let z : Some x.0 ≡ Some d = sym x.1 ∙ t in
          let q : x.0 ≡ d = (cc) in
          let at : slice_get d.children e.index ≡ Some id = ap (λ (s : Seen). slice_get s.children e.index) (sym q) ∙ x.2 in
          let ne : p ≢ id = (λ s. not_own_child e.index id (ap (λ (y : Seen). slice_get y.children e.index) (sym (same_seen d p t s)) ∙ at) refl) in
          due_at old was p ne d at (but p d ne t) mine k h g

      -- and what it has, where its own hold this node's
      within_at : (p : ℕ) → p ≢ id → (d : Seen) → (r : IsRight H p d) → (mine : Hulls) → J p ≡ Some mine
          → holds_hulls mine new ≡ true
          → holds_hulls mine (over J (own_hulls d.node) d.children (length d.children)) ≡ true
      within_at p ne d r mine h inside =
          let y : Some mine ≡ Some r.0 = sym h ∙ others p ne ∙ r.1 in
          let m : mine ≡ r.0 = (cc) in
          inside_held H J id new w others (own_hulls d.node) d.children mine
          (ap (λ x. alike x (over H (own_hulls d.node) d.children (length d.children))) m ∙ r.2) inside

      pub within_up : (p : ℕ) → e.parent ≡ Some p → (d : Seen) (mine : Hulls) → T p ≡ Some d → J p ≡ Some mine
          → holds_hulls mine new ≡ true
          → holds_hulls mine (over J (own_hulls d.node) d.children (length d.children)) ≡ true
      within_up p up d mine t h inside =
          let x = tree.up id p e here up in
          let z : Some x.0 ≡ Some d = sym x.1 ∙ t in
          let q : x.0 ≡ d = (cc) in
          let at : slice_get d.children e.index ≡ Some id = ap (λ (s : Seen). slice_get s.children e.index) (sym q) ∙ x.2 in
          let ne : p ≢ id = (λ s. not_own_child e.index id (ap (λ (y : Seen). slice_get y.children e.index) (sym (same_seen d p t s)) ∙ at) refl) in
          within_at p ne d (but p d ne t) mine h inside

-- hulls are kept that hold those of all and are held by them
pub right_still : (T : ℕ → Option Seen) (H : ℕ → Option Hulls) (id : ℕ) (e : Seen) (old : Hulls) → T id ≡ Some e
    → H id ≡ Some old → holds_hulls old (over H (own_hulls e.node) e.children (length e.children)) ≡ true
    → holds_hulls (over H (own_hulls e.node) e.children (length e.children)) old ≡ true → RightBut T H id → AllRight T H
right_still T H id e old here was a b but c d t = elim (nat_cases c id) [
  | inl q ↦ (
      let z : Some d ≡ Some e = sym t ∙ ap T q ∙ here in
      let y : d ≡ e = (cc) in
      let r : IsRight H id e = (old, was, pair _ _ a b) in
      rw (y, q) r)
  | inr ne ↦ but c d ne t
]

-- hulls that are alike with the right ones are kept
pub right_kept : (T : ℕ → Option Seen) (H : ℕ → Option Hulls) (id : ℕ) (e : Seen) (old new : Hulls) → T id ≡ Some e
    → H id ≡ Some old → alike new (over H (own_hulls e.node) e.children (length e.children)) ≡ true
    → alike new old ≡ true → RightBut T H id → AllRight T H
right_kept T H id e old new here was made same but c d t = elim (nat_cases c id) [
  | inl q ↦ (
      let z : Some d ≡ Some e = sym t ∙ ap T q ∙ here in
      let y : d ≡ e = (cc) in
      let r : IsRight H id e = (old, was, alike_turned new old (over H (own_hulls e.node) e.children (length e.children)) same made) in
      rw (y, q) r)
  | inr ne ↦ but c d ne t
]

pub hulls_now_of : (H : ℕ → Option Hulls) (s : Option SlotEntry) (e : SlotEntry) (own h : Hulls) → s ≡ Some e
    → own ≡ own_hulls e.node → h ≡ over H own e.children.items (length e.children.items) → hulls_now H s ≡ Some h
hulls_now_of H s e own h q o r = ap (hulls_now H) q ∙ ap (λ w. Some (over H w e.children.items (length e.children.items))) (sym o) ∙ ap (λ w. Some w) (sym r)

-- what the parent of a node is told
moved_told : (grew : Bool) (new k : Hulls) (place i : ℕ) → (if grew then Grown new else Changed place new) ≡ Changed i k
    → new ≡ k
moved_told true new k place i q = absurd (cc)
moved_told false new k place i q = (cc)

grown_told : (grew : Bool) (new : Hulls) (place : ℕ)
    → grown_of (if grew then Grown new else Changed place new) ≡ (if grew then Some new else None)
grown_told true new place = refl
grown_told false new place = refl

pub grown_above : (new old : Hulls) (place : ℕ) (told : HullsDue) → told ≡ due_above new old place
    → grown_of told ≡ grown_from new old
grown_above new old place told q = ap grown_of q ∙ grown_told (holds_hulls new old) new place

-- ---- the same at slots

pub hulls_now_at : (H : ℕ → Option Hulls) (s : Option SlotEntry) (d : Seen) → present_of s ≡ Some d
    → hulls_now H s ≡ Some (over H (own_hulls d.node) d.children (length d.children))
hulls_now_at H s d h = let w = present_some s d h in ap (hulls_now H) w.1 ∙ ap (λ (x : Seen). Some (over H (own_hulls x.node) x.children (length x.children))) w.2

rehulled_at : (s : Option SlotEntry) (d : Seen) (h : Hulls) → present_of s ≡ Some d → rehulled h (hulls_of s) ≡ Some h
rehulled_at s d h p = let w = present_some s d p in ap (λ o. rehulled h (hulls_of o)) w.1

next_made : (H : ℕ → Option Hulls) (s : Option SlotEntry) (d : Seen) (g : Option Hulls) (h : Hulls)
    → present_of s ≡ Some d
    → Some h ≡ hulls_next H s g
    → ((old k : Hulls) → hulls_of s ≡ Some old → g ≡ Some k
    → alike (with_hulls old (Some k)) (over H (own_hulls d.node) d.children (length d.children)) ≡ true)
    → alike h (over H (own_hulls d.node) d.children (length d.children)) ≡ true
next_made H s d None h p is due =
    let z : Some h ≡ Some (over H (own_hulls d.node) d.children (length d.children)) = is ∙ hulls_now_at H s d p in
    let y : h ≡ over H (own_hulls d.node) d.children (length d.children) = (cc) in
    ap (λ x. alike x (over H (own_hulls d.node) d.children (length d.children))) y ∙ alike_itself _
next_made H None d (Some k) h p is due = absurd (cc)
next_made H (Some x) d (Some k) h p is due =
    let y : h ≡ with_hulls (hulls_known x.node x.hulls) (Some k) = (cc) in
    ap (λ u. alike u (over H (own_hulls d.node) d.children (length d.children))) y ∙ due (hulls_known x.node x.hulls) k refl refl

module _ (s : ℕ → Option SlotEntry) (id : ℕ) (g : Option Hulls) (old new : Hulls) (e : Seen) (here : present_of (s id) ≡ Some e)
    (was : Some old ≡ hulls_of (s id)) (is : Some new ≡ hulls_next (λ c. hulls_of (s c)) (s id) g)
    (tree : IsTree (λ c. present_of (s c))) (but : RightBut (λ c. present_of (s c)) (λ c. hulls_of (s c)) id) (due : IsDue (λ c. present_of (s c)) (λ c. hulls_of (s c)) id g) where
  made : alike new (over (λ c. hulls_of (s c)) (own_hulls e.node) e.children (length e.children)) ≡ true
  made = next_made (λ c. hulls_of (s c)) (s id) e g new here is (λ o k h q. due e o k here h q)

  pub step_kept : alike new old ≡ true → AllRight (λ c. present_of (s c)) (λ c. hulls_of (s c))
  step_kept same = right_kept (λ c. present_of (s c)) (λ c. hulls_of (s c)) id e old new here (sym was) made same but

  module _ (t : ℕ → Option SlotEntry) (others : (c : ℕ) → c ≢ id → t c ≡ s c) (present : present_of (t id) ≡ present_of (s id)) (hulls : hulls_of (t id) ≡ rehulled new (hulls_of (s id))) where
    pub present_now : (c : ℕ) → present_of (t c) ≡ present_of (s c)
    present_now c = elim (nat_cases c id) [
      | inl q ↦ ap (λ i. present_of (t i)) q ∙ present ∙ ap (λ i. present_of (s i)) (sym q)
      | inr n ↦ ap present_of (others c n)
    ]

    pub tree_now : IsTree (λ c. present_of (t c))
    tree_now = IsTree-same (λ c. present_of (s c)) (λ c. present_of (t c)) present_now tree

    here_now : present_of (t id) ≡ Some e
    here_now = present ∙ here

    written : hulls_of (t id) ≡ Some new
    written = hulls ∙ rehulled_at (s id) e new here

    but_now : RightBut (λ c. present_of (t c)) (λ c. hulls_of (s c)) id
    but_now c d n w = but c d n (sym (present_now c) ∙ w)

    pub step_up : (p : ℕ) → parent_of (t id) ≡ Some p → RightBut (λ c. present_of (t c)) (λ c. hulls_of (t c)) p
    step_up p up = right_up (λ c. present_of (t c)) (λ c. hulls_of (s c)) (λ c. hulls_of (t c)) tree_now id e
        here_now (λ c n. ap hulls_of (others c n)) new written made but_now p (sym (parent_present (t id) e here_now) ∙ up)

    pub step_top : parent_of (t id) ≡ None → AllRight (λ c. present_of (t c)) (λ c. hulls_of (t c))
    step_top top = right_top (λ c. present_of (t c)) (λ c. hulls_of (s c)) (λ c. hulls_of (t c)) tree_now id e
        here_now (λ c n. ap hulls_of (others c n)) new written made but_now (sym (parent_present (t id) e here_now) ∙ top)

    pub step_due : (p : ℕ) → parent_of (t id) ≡ Some p → (grown : Option Hulls) → grown ≡ grown_from new old
        → IsDue (λ c. present_of (t c)) (λ c. hulls_of (t c)) p grown
    step_due p up grown q d mine k x h g = due_up (λ c. present_of (t c)) (λ c. hulls_of (s c))
        (λ c. hulls_of (t c)) tree_now id e here_now (λ c n. ap hulls_of (others c n)) new written made but_now old
        (sym was) p (sym (parent_present (t id) e here_now) ∙ up) d mine k x h (sym q ∙ g)

    pub step_within : (p : ℕ) → parent_of (t id) ≡ Some p → (place : ℕ) (told : HullsDue)
        → told ≡ due_above new old place
        → HoldsAll (λ c. present_of (t c)) (λ c. hulls_of (t c)) p told
    step_within p up place told is_told d mine k i x h q inside =
        let same = moved_told (holds_hulls new old) new k place i (sym is_told ∙ q) in
        let above = sym (parent_present (t id) e here_now) ∙ up in
        within_up (λ c. present_of (t c)) (λ c. hulls_of (s c)) (λ c. hulls_of (t c)) tree_now id e here_now (λ c n. ap hulls_of (others c n))
        new written made but_now p above d mine x h (ap (holds_hulls mine) same ∙ inside)

    pub parent_there : (p : ℕ) → parent_of (t id) ≡ Some p → is_some (present_of (t p)) ≡ true
    parent_there p up = let u = tree_now.up id p e here_now (sym (parent_present (t id) e here_now) ∙ up) in ap is_some u.1

    pub climbs : (p : ℕ) → parent_of (t id) ≡ Some p → depth_at (t p) < depth_at (s id)
    climbs p up =
        let u = tree_now.up id p e here_now (sym (parent_present (t id) e here_now) ∙ up) in
        let d = tree_now.down p e.index id u.0 u.1 u.2 in
        let z : Some d.0 ≡ Some e = sym d.1 ∙ here_now in
        let q : d.0.depth ≡ e.depth = (let w : d.0 ≡ e = (cc) in ap (λ (x : Seen). x.depth) w) in
        let a = depth_present (t p) u.0 u.1 in let b = depth_present (s id) e here in let k = d.3 in omega arith

-- with no hulls to write there is no node
pub none_there : (H : ℕ → Option Hulls) (s : Option SlotEntry) → hulls_now H s ≡ None
    → is_some (present_of s) ≡ true → ⊥
none_there H None h p = (cc)
none_there H (Some e) h p = (cc)
