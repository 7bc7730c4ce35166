-- The nodes that go with replaced children.
use Rattle.std.proofs.Common.{◌≡◌, ◌≢◌, ℕ, ◌+◌, ◌-◌, ◌<◌, List, [], length, Bool, true, false, ◌⊎◌, inl, inr, refl, ap, sym, ◌∙◌, arith}
use Rattle.std.specs.Prelude.{Option, Some, None, not, slice_get, if◌then◌else◌}
use Rattle.cga_forest.specs.declared.slot_entry.SlotEntry.{SlotEntry}
use Rattle.cga_forest.specs.declared.node.Node.{Node}
use Rattle.cga_forest.specs.declared.node.NodeState.{NodeState}
use Rattle.cga_forest.specs.Node.{fits, with_state}
use Rattle.cga_kept_hulls.specs.declared.hulls.Hulls.{Hulls}
use Rattle.cga_kept_hulls.specs.Hull.{over}
use Rattle.cga_forest.specs.Hull.{own_hulls, hulls_known}
use Rattle.cga_forest.proofs.Known.{known_own}
use Rattle.cga_forest.specs.View.{Seen, kids, flag_if, present_of, marked_of, hulls_of, marked_hulls_of, rewritten, IsNewEntry, seen, restored, former_hulls}
use Rattle.cga_forest.specs.Tree.{IsRight, AllRight, RightBut, under, goes, stay_of, IsPlaced, IsPlacedChild}
use Rattle.cga_tree.specs.Tree.{IsTree}
use Rattle.cga_tree.specs.Replaced.{IsReplaced, IsNewChild}
use Rattle.cga_fraction.proofs.Door.{eq_or_ne as nat_cases}
use Rattle.std.proofs.lemmas.Bool.{cases_Bool as bool_cases}
use Rattle.cga_forest.proofs.Under.{stay_flag}
use Rattle.cga_forest.proofs.Tree.{cut_some}
use Rattle.cga_forest.proofs.Walk.{under_into, under_onto, under_self}
use Rattle.cga_forest.proofs.Present.{present_some, kids_present}
use Rattle.cga_forest.proofs.Right.{right_exact, right_same, over_zero}
use Rattle.cga_forest.proofs.Marks.{present_flag, marked_flag, hulls_flag, marked_hulls_flag}
use Rattle.cga_forest.proofs.Replace.{old_or_new}
pub use Rattle.cga_fraction.proofs.Door.{lt-length_from_slice_get as get_within}
use Rattle.cga_forest.proofs.GoesBelow.{goes_find, goes_here, under_deep, same_seen, stay_seen, not_true, not_false, asked_some, get_there}

module _ (s0 s1 s2 s3 : ℕ → Option SlotEntry) (id depth n : ℕ) (marking : Bool) (made : List ℕ) (news : List Node) (state : NodeState) (e : Seen)
    (was : present_of (s0 id) ≡ Some e) (low : 0 < length news → e.depth < 256) (deep : depth ≡ e.depth + 1) (fuel : n ≡ 256 - e.depth)
    (tree : IsTree (λ c. present_of (s0 c)))
    (gone : ℕ → Bool) (goneis : (c : ℕ) → gone c ≡ goes (λ d. kids (s0 d)) n (λ k w. stay_of (s0 k) w) e.children news (length e.children) c)
    (dropped : (c : ℕ) → s1 c ≡ flag_if (gone c) (s0 c))
    (placed : IsPlaced s1 s2 id depth marking e.children news made) (sized : length made ≡ length news)
    (others : (c : ℕ) → c ≢ id → s3 c ≡ s2 c) (changed : present_of (s3 id) ≡ rewritten state made (present_of (s2 id))) where
  abbrev K : ℕ → List ℕ
  K d = kids (s0 d)

  abbrev S : ℕ → Option Seen
  S c = present_of (s0 c)

  K_same : (c : ℕ) (d : Seen) → present_of (s0 c) ≡ Some d → kids (s0 c) ≡ d.children
  K_same c d t = kids_present (s0 c) d t

  flag_some : (b : Bool) (s : Option SlotEntry) (x : SlotEntry) → s ≡ Some x → (y : SlotEntry) × (flag_if b s ≡ Some y)
  flag_some false s x h = (x, h)
  flag_some true s x h = (record x { aside = true; touched = true }, ap (flag_if true) h)

  flag_none : (b : Bool) (s : Option SlotEntry) → s ≡ None → flag_if b s ≡ None
  flag_none false s h = h
  flag_none true s h = ap (flag_if true) h

  -- an old slot is still there, flagged where it goes
  old_slot : (c : ℕ) (x : SlotEntry) → s0 c ≡ Some x → s2 c ≡ flag_if (gone c) (s0 c)
  old_slot c x h = let y = flag_some (gone c) (s0 c) x h in placed.rest c y.0 (dropped c ∙ y.1) ∙ sym y.1

  old_node : (c : ℕ) (d : Seen) → present_of (s0 c) ≡ Some d → s2 c ≡ flag_if (gone c) (s0 c)
  old_node c d t = let w = present_some (s0 c) d t in old_slot c w.0 w.1

  flagged_none : (b : Bool) (s : Option SlotEntry) → flag_if b s ≡ None → s ≡ None
  flagged_none false s h = h
  flagged_none true None h = refl
  flagged_none true (Some x) h = absurd (cc)

  stay_before : (k : ℕ) (w : Option Node) → stay_of (s1 k) w ≡ stay_of (s0 k) w
  stay_before k w = ap (λ s. stay_of s w) (dropped k) ∙ stay_flag (gone k) (s0 k) w

  find : (c : ℕ) → gone c ≡ true
      → (i : ℕ) × (k : ℕ) × (slice_get e.children i ≡ Some k) × (stay_of (s0 k) (slice_get news i) ≡ false)
      × (under (λ d. kids (s0 d)) n k c ≡ true)
  find c g = goes_find (λ d. kids (s0 d)) n (λ k w. stay_of (s0 k) w) e.children news (length e.children) c (sym (goneis c) ∙ g)

  here : (i k c : ℕ) → slice_get e.children i ≡ Some k → stay_of (s0 k) (slice_get news i) ≡ false
      → under (λ d. kids (s0 d)) n k c ≡ true → gone c ≡ true
  here i k c at unfit u = goneis c ∙ goes_here (λ d. kids (s0 d)) n (λ k w. stay_of (s0 k) w) e.children news i k c at unfit u

  -- what goes is a node, deeper than id
  gone_deep : (c : ℕ) → gone c ≡ true → (d : Seen) × (present_of (s0 c) ≡ Some d) × (e.depth < d.depth)
  gone_deep c g =
      let f = find c g in
      let r = tree.down id f.0 f.1 e was f.2 in
      let u = under_deep (λ d. kids (s0 d)) (λ d. present_of (s0 d)) tree K_same n f.1 c r.0 r.1 f.4 in
      let a = r.3 in let b = u.2 in (u.0, u.1, omega arith)

  stay : (c : ℕ) → (gone c ≡ true → ⊥) → gone c ≡ false
  stay c h = elim (bool_cases (gone c)) [ inl y ↦ absurd (h y) | inr ne ↦ ne ]

  self_stays : gone id ≡ false
  self_stays = stay id (λ g. let w = gone_deep id g in let q = same_seen (λ d. present_of (s0 d)) id id w.0 e w.1
      was refl in let z : w.0.depth ≡ e.depth = ap (λ (x : Seen). x.depth) q in let lt = w.2 in omega arith)

  none_stays : (c : ℕ) → present_of (s0 c) ≡ None → gone c ≡ false
  none_stays c t = stay c (λ g. let w = gone_deep c g in let z : None ≡ Some w.0 = sym t ∙ w.1 in absurd (cc))

  pub is_now : present_of (s3 id) ≡ Some (record e { node = with_state state e.node; children = made })
  is_now = changed ∙ ap (rewritten state made) (ap present_of (old_node id e was) ∙ ap (λ b. present_of (flag_if b (s0 id))) self_stays ∙ was)

  -- an old child that fits doesn't go
  fit_stays : (i c : ℕ) → slice_get e.children i ≡ Some c → stay_of (s0 c) (slice_get news i) ≡ true → gone c ≡ false
  fit_stays i c o fit = stay c (λ g.
      let f = find c g in
      let r = tree.down id f.0 f.1 e was f.2 in
      let s = tree.down id i c e was o in
      elim (under_into (λ d. kids (s0 d)) (λ d. present_of (s0 d)) tree K_same n f.1 c id r.0 s.0 r.1 s.1 s.2 f.4) [
        | inl q ↦ (
            let w = same_seen (λ d. present_of (s0 d)) f.1 c r.0 s.0 r.1 s.1 q in
            let ii : f.0 ≡ i = sym r.4 ∙ ap (λ (x : Seen). x.index) w ∙ s.4 in
            let unfit : stay_of (s0 c) (slice_get news i) ≡ false = ap (λ k. stay_of (s0 k) (slice_get news i)) (sym q) ∙ ap (λ j. stay_of (s0 f.1) (slice_get news j)) (sym ii) ∙ f.3 in
            let z : true ≡ false = sym fit ∙ unfit in (cc))
        | inr u ↦ (
            let d = under_deep (λ d. kids (s0 d)) (λ d. present_of (s0 d)) tree K_same n f.1 id r.0 r.1 u in
            let w = same_seen (λ d. present_of (s0 d)) id id d.0 e d.1 was refl in
            let z : d.0.depth ≡ e.depth = ap (λ (x : Seen). x.depth) w in let a = d.2 in let b = r.3 in omega arith)
      ])

  fuel_left : (i c : ℕ) → slice_get e.children i ≡ Some c → 0 < n
  fuel_left i c o = let r = tree.down id i c e was o in let a = tree.shallow c r.0 r.1 in let b = r.3 in omega arith

  fate_slot : (i c : ℕ) → slice_get e.children i ≡ Some c → gone c ≡ not (stay_of (s0 c) (slice_get news i))
  fate_slot i c o = elim (bool_cases (stay_of (s0 c) (slice_get news i))) [
    | inl y ↦ fit_stays i c o y ∙ not_true (stay_of (s0 c) (slice_get news i)) y
    | inr ne ↦ here i c c o ne (under_self (λ d. kids (s0 d)) n c (fuel_left i c o)) ∙ not_false (stay_of (s0 c) (slice_get news i)) ne
  ]

  kept_fits : (i c : ℕ) → slice_get e.children i ≡ Some c → gone c ≡ false → stay_of (s0 c) (slice_get news i) ≡ true
  kept_fits i c o g = elim (bool_cases (stay_of (s0 c) (slice_get news i))) [
    | inl y ↦ y
    | inr ne ↦ (let z : false ≡ true = sym g ∙ here i c c o ne (under_self (λ d. kids (s0 d)) n c (fuel_left i c o)) in absurd (cc))
  ]

  none_slot : (c : ℕ) → s1 c ≡ None → s0 c ≡ None
  none_slot c h = flagged_none (gone c) (s0 c) (sym (dropped c) ∙ h)

  not_id : (c : ℕ) → present_of (s0 c) ≡ None → c ≢ id
  not_id c h q = let z : None ≡ Some e = sym h ∙ ap (λ x. present_of (s0 x)) q ∙ was in absurd (cc)

  new_child : (i c : ℕ) (w : Node) → s1 c ≡ None → IsNewEntry (s2 c) (Some id) w depth i marking
      → IsNewChild (λ x. present_of (s3 x)) id e.depth i w c
  new_child i c w h v = record {
    seen = seen v.entry;
    here = ap present_of (others c (not_id c (ap present_of (none_slot c h))) ∙ v.here) ∙ ap (λ b. if b then None else Some (seen v.entry)) v.shows;
    node = v.node;
    parent = v.parent;
    index = v.index;
    deeper = v.deep ∙ deep;
    leaf = v.leaf;
  }

  if_none : (b : Bool) (o : Option Seen) → o ≡ None → (if b then None else o) ≡ None
  if_none true o h = refl
  if_none false o h = h

  rest_of : (c : ℕ) (x : SlotEntry) → c ≢ id → s0 c ≡ Some x
      → present_of (s3 c) ≡ (if gone c then None else present_of (s0 c))
  rest_of c x ne h = ap present_of (others c ne ∙ old_slot c x h) ∙ present_flag (gone c) (s0 c)

  created_none : (c : ℕ) (o : Option SlotEntry) → s0 c ≡ o → present_of o ≡ None
      → (present_of (s3 c) ≡ None) ⊎ ((i : ℕ) × (slice_get made i ≡ Some c))
  created_none c None q h = elim (placed.created c (dropped c ∙ flag_none (gone c) (s0 c) q)) [
    | inl y ↦ inl (ap present_of (others c (not_id c (ap present_of q)) ∙ y))
    | inr w ↦ inr w
  ]
  created_none c (Some x) q h = inl (rest_of c x (not_id c (ap present_of q ∙ h)) q ∙ if_none (gone c) (present_of (s0 c)) (ap present_of q ∙ h))

  stays_at : (i c : ℕ) → slice_get e.children i ≡ Some c → gone c ≡ false → slice_get made i ≡ Some c
  stays_at i c o g =
      let fit = kept_fits i c o g in
      let a = asked_some (s0 c) (slice_get news i) fit in
      let within = get_within news i a.0 a.1 in
      let m = get_there made i (omega arith) in
      let p = placed.each i m.0 m.1 in
      elim p.2 [
        | inl old ↦ (let z : Some m.0 ≡ Some c = sym old.0 ∙ o in m.1 ∙ z)
        | inr new ↦ (
            let u : stay_of (s1 c) (Some p.0) ≡ false = new.2 c o in
            let z : true ≡ false = sym fit ∙ ap (λ w. stay_of (s0 c) w) p.1 ∙ sym (stay_before c (Some p.0)) ∙ u in absurd (cc))
      ]

  -- a node that came stands where no entry was
  vacant_at : (c : ℕ) (o : Option SlotEntry) (d : Seen) → s0 c ≡ o → present_of o ≡ None → present_of (s3 c) ≡ Some d
      → s0 c ≡ None
  vacant_at c None d q h t = q
  vacant_at c (Some x) d q h t = let z : None ≡ Some d = sym (if_none (gone c) (present_of (s0 c)) (ap present_of q ∙ h)) ∙ sym (rest_of c x (not_id c (ap present_of q ∙ h)) q) ∙ t in absurd (cc)

  pub vacant : (c : ℕ) (d : Seen) → present_of (s0 c) ≡ None → present_of (s3 c) ≡ Some d → s0 c ≡ None
  vacant c d h t = vacant_at c (s0 c) d refl h t

  pub replaced : IsReplaced fits (λ c. present_of (s0 c)) (λ c. present_of (s3 c)) id news e (record e { node = with_state state e.node; children = made }) gone
  replaced = record {
    was = was;
    is = is_now;
    depth = refl;
    parent = refl;
    index = refl;
    low = low;
    sized = sized;
    each = λ i c m. let p = placed.each i c m in (
      p.0,
      p.1,
      elim p.2 [
        | inl o ↦ inl (o.0, fit_stays i c o.0 (ap (λ w. stay_of (s0 c) w) p.1 ∙ sym (stay_before c (Some p.0)) ∙ o.1))
        | inr w ↦ inr (ap present_of (none_slot c w.0), new_child i c p.0 w.0 w.1)
      ],
    );
    fate = λ i c d o t. fate_slot i c o ∙ ap not (stay_seen (s0 c) d (slice_get news i) t);
    stays = stays_at;
    tops = λ c d t top. stay c (λ g. let w = gone_deep c g in let q = same_seen (λ x. present_of (s0 x)) c c w.0 d
        w.1 t refl in let z : w.0.depth ≡ d.depth = ap (λ (x : Seen). x.depth) q in let lt = w.2 in let a = tree.at_root c d t top in omega arith);
    into = λ c p d t par g ne.
        let f = find c g in
        let r = tree.down id f.0 f.1 e was f.2 in
        elim (under_into (λ x. kids (s0 x)) (λ x. present_of (s0 x)) tree K_same n f.1 c p r.0 d r.1 t par f.4) [
          | inl q ↦ (
              let w = same_seen (λ x. present_of (s0 x)) f.1 c r.0 d r.1 t q in
              let z : Some p ≡ Some id = sym par ∙ ap (λ (x : Seen). x.parent) (sym w) ∙ r.2 in absurd (ne (cc)))
          | inr u ↦ here f.0 f.1 p f.2 f.3 u
        ];
    onto = λ c p d t par g.
        let f = find p g in
        let r = tree.down id f.0 f.1 e was f.2 in
        let bound = tree.shallow c d t in let a = r.3 in
        here f.0 f.1 c f.2 f.3 (under_onto (λ x. kids (s0 x)) (λ x. present_of (s0 x)) tree K_same n f.1 c p r.0 d r.1 t par (omega arith) f.4);
    self = self_stays;
    created = λ c h. created_none c (s0 c) refl h;
    rest = λ c d ne t. let w = present_some (s0 c) d t in rest_of c w.0 ne w.1 ∙ ap (λ o. if gone c then None else o) t;
  }

  -- ---- the hulls: all but id's are right

  module _ (right : AllRight (λ c. present_of (s0 c)) (λ c. hulls_of (s0 c))) (hulled : hulls_of (s3 id) ≡ hulls_of (s2 id)) where
    hulls_kept : (c : ℕ) (d : Seen) → present_of (s0 c) ≡ Some d → hulls_of (s3 c) ≡ hulls_of (s0 c)
    hulls_kept c d t = elim (nat_cases c id) [
      | inl q ↦ ap (λ x. hulls_of (s3 x)) q ∙ hulled ∙ ap (λ x. hulls_of (s2 x)) (sym q) ∙ ap hulls_of (old_node c d t) ∙ hulls_flag (gone c) (s0 c)
      | inr ne ↦ ap hulls_of (others c ne ∙ old_node c d t) ∙ hulls_flag (gone c) (s0 c)
    ]

    leaf_right : (c : ℕ) (d : Seen) (x : SlotEntry) (w : Node) → hulls_of (s3 c) ≡ Some (hulls_known x.node x.hulls)
        → hulls_known x.node x.hulls ≡ own_hulls w → d.node ≡ w → d.children ≡ [] → IsRight (λ k. hulls_of (s3 k)) c d
    leaf_right c d x w h o dn leaf = right_exact (λ k. hulls_of (s3 k)) c d
        (h ∙ ap (λ h. Some h) (o ∙ ap own_hulls (sym dn)
        ∙ sym (over_zero (λ k. hulls_of (s3 k)) (own_hulls d.node) d.children)
        ∙ ap (λ xs. over (λ k. hulls_of (s3 k)) (own_hulls d.node) d.children (length xs)) (sym leaf)))

    new_right : (i c : ℕ) (d : Seen) (w : Node) → present_of (s3 c) ≡ Some d → s1 c ≡ None
        → IsNewEntry (s2 c) (Some id) w depth i marking → IsRight (λ k. hulls_of (s3 k)) c d
    new_right i c d w t h v =
        let k = new_child i c w h v in
        let z : Some k.seen ≡ Some d = sym k.here ∙ t in
        let q : k.seen ≡ d = (cc) in
        leaf_right c d v.entry w (ap hulls_of (others c (not_id c (ap present_of (none_slot c h))) ∙ v.here))
        (known_own v.entry w v.node v.hulls) (ap (λ (x : Seen). x.node) (sym q) ∙ k.node) (ap (λ (x : Seen). x.children) (sym q) ∙ k.leaf)

    old_same : (c : ℕ) (d u : Seen) → present_of (s0 c) ≡ Some u → present_of (s3 c) ≡ Some d → c ≢ id → (i : ℕ)
        → slice_get e.children i ≡ Some c → present_of (s0 c) ≡ Some d
    old_same c d u t now ne i o = let w = present_some (s0 c) u t in let r = cut_some (gone c) (present_of (s0 c)) d (sym (rest_of c w.0 ne w.1) ∙ now) in r.1

    pub right_but : RightBut (λ c. present_of (s3 c)) (λ c. hulls_of (s3 c)) id
    right_but c d ne t = elim (old_or_new (λ x. present_of (s0 x)) (λ x. present_of (s3 x)) id news e
        (record e { node = with_state state e.node; children = made }) gone replaced tree c d t ne (present_of (s0 c)) refl) [
          | inl o ↦ right_same (λ x. present_of (s0 x)) (λ x. hulls_of (s0 x)) (λ x. hulls_of (s3 x)) hulls_kept tree c d o.1 (right c d o.1)
          | inr w ↦ (let p = placed.each w.0 c w.2 in elim p.2 [
            | inl old ↦ (
                let u = tree.down id w.0 c e was old.0 in
                right_same (λ x. present_of (s0 x)) (λ x. hulls_of (s0 x)) (λ x. hulls_of (s3 x)) hulls_kept tree c d
                (old_same c d u.0 u.1 t ne w.0 old.0) (right c d (old_same c d u.0 u.1 t ne w.0 old.0)))
            | inr new ↦ new_right w.0 c d p.0 t new.0 new.1
          ])
        ]

  -- ---- the mark

  module _ (on : marking ≡ true) (marked : marked_of (s3 id) ≡ marked_of (s2 id)) (marked_hulls : marked_hulls_of (s3 id) ≡ marked_hulls_of (s2 id)) where
    created_apart : (i c : ℕ) (w : Node) → s0 c ≡ None → IsPlacedChild s1 s2 id depth marking e.children w i c
        → IsNewEntry (s2 c) (Some id) w depth i marking
    created_apart i c w q p = elim p [
      | inl o ↦ (let u = tree.down id i c e was o.0 in let z : None ≡ Some u.0 = ap present_of (sym q) ∙ u.1 in absurd (cc))
      | inr v ↦ v.1
    ]

    placed_mark : (f : Option SlotEntry → Option Seen) → ((b : Bool) (s : Option SlotEntry) → f (flag_if b s) ≡ f s)
        → f None ≡ None → ((x : SlotEntry) → x.created ≡ true → f (Some x) ≡ None) → (c : ℕ) (o : Option SlotEntry)
        → s0 c ≡ o
        → f (s2 c) ≡ f (s0 c)
    placed_mark f flag none new c (Some x) q = ap f (old_slot c x q) ∙ flag (gone c) (s0 c)
    placed_mark f flag none new c None q = elim (placed.created c (dropped c ∙ flag_none (gone c) (s0 c) q)) [
      | inl y ↦ ap f (y ∙ sym q)
      | inr w ↦ (let p = placed.each w.0 c w.1 in let v = created_apart w.0 c p.0 q p.2 in ap f v.here ∙ new v.entry (v.comes ∙ on) ∙ sym (ap f q ∙ none))
    ]

    placed_hulls : (f : Option SlotEntry → Option Hulls) → ((b : Bool) (s : Option SlotEntry) → f (flag_if b s) ≡ f s)
        → f None ≡ None → ((x : SlotEntry) → x.created ≡ true → f (Some x) ≡ None) → (c : ℕ) (o : Option SlotEntry)
        → s0 c ≡ o
        → f (s2 c) ≡ f (s0 c)
    placed_hulls f flag none new c (Some x) q = ap f (old_slot c x q) ∙ flag (gone c) (s0 c)
    placed_hulls f flag none new c None q = elim (placed.created c (dropped c ∙ flag_none (gone c) (s0 c) q)) [
      | inl y ↦ ap f (y ∙ sym q)
      | inr w ↦ (let p = placed.each w.0 c w.1 in let v = created_apart w.0 c p.0 q p.2 in ap f v.here ∙ new v.entry (v.comes ∙ on) ∙ sym (ap f q ∙ none))
    ]

    pub mark_kept : (c : ℕ) → marked_of (s3 c) ≡ marked_of (s0 c)
    mark_kept c = elim (nat_cases c id) [
      | inl q ↦ ap (λ x. marked_of (s3 x)) q ∙ marked ∙ placed_mark marked_of marked_flag refl
          (λ x h. ap (λ b. if b then None else Some (seen (restored x x.former))) h) id (s0 id) refl ∙ sym (ap (λ x. marked_of (s0 x)) q)
      | inr ne ↦ ap marked_of (others c ne) ∙ placed_mark marked_of marked_flag refl (λ x h. ap (λ b. if b then None else Some (seen (restored x x.former))) h) c (s0 c) refl
    ]

    pub mark_hulls_kept : (c : ℕ) → marked_hulls_of (s3 c) ≡ marked_hulls_of (s0 c)
    mark_hulls_kept c = elim (nat_cases c id) [
      | inl q ↦ ap (λ x. marked_hulls_of (s3 x)) q ∙ marked_hulls ∙ placed_hulls marked_hulls_of marked_hulls_flag
          refl (λ x h. ap (λ b. if b then None else Some
          (hulls_known x.node (former_hulls x.hulls x.former_hulls))) h) id (s0 id) refl ∙ sym (ap (λ x. marked_hulls_of (s0 x)) q)
      | inr ne ↦ ap marked_hulls_of (others c ne) ∙ placed_hulls marked_hulls_of marked_hulls_flag refl
          (λ x h. ap (λ b. if b then None else Some (hulls_known x.node (former_hulls x.hulls x.former_hulls))) h) c (s0 c) refl
    ]
