-- The agenda after a turn, in the words of the theory: what was on it and stays, what came, and who meets what changed.
use Rattle.std.proofs.Common.{◌≡◌, ℕ, List, refl, sym, ap, ◌∙◌, subst, inl, inr, Some, None, Bool, true, false}
use Rattle.std.specs.Prelude.{IsSome, is_some, if◌then◌else◌}
use Rattle.std.specs.declared.cmp.Ordering.TheVariants.{Less}
use Rattle.std.specs.Ordering.{is_lt}
use Rattle.cga_frame.specs.Box.{box_of, meets}
use Rattle.cga_fraction.proofs.Door.{Less_from_is_lt as lt_is, cases_Option as option_cases, eq_or_ne as nat_cases}
use Rattle.cga_order.specs.Total.{stamp_total}
use Rattle.cga_queue.proofs.Door.{on_from, on_to}
use Rattle.std.proofs.lemmas.Bool.{cases_Bool as bool_cases}
use Rattle.cga_order.specs.Stamp.{stamp_cmp}
use Rattle.cga_order.specs.World.{Among, is_instance}
use Rattle.cga_shape.specs.declared.sources.Sources.{Sources}
use Rattle.cga_tree.specs.Replaced.{IsReplaced}
use Rattle.cga_forest.specs.declared.change.Change.{Change}
use Rattle.cga_forest.specs.declared.node_change.NodeChange as moved
use Rattle.cga_forest.specs.declared.node.Node.{Node}
use Rattle.cga_forest.specs.NodeChange.{ListsOnlyIn, moved_of}
use Rattle.cga_forest.specs.Node.{bounds, chain_kept, fits}
use Rattle.cga_forest.specs.View.{Seen}
use Rattle.cga_forest.specs.Tree.{ForestView, marked_at, node_at}
use Rattle.cga_rework.specs.Agenda.{IsMoved}
use Rattle.cga_queue.specs.Agenda.{AgendaView, ComesAfter, HasAll, is_later}
use Rattle.cga_update.specs.Askers.{IsAsker, IsOneOf}
use Rattle.cga_update.specs.Due.{AreDue, HasCome}
use Rattle.cga_update.specs.Edit.{content, meets_box, shapes_of}
use Rattle.cga_update.specs.Follow.{IsFollowed}
use Rattle.cga_update.specs.Queue.{chains_of, due_chain, on_of}
use Rattle.cga_update.proofs.DueNodes.{due_is, due_of, may_be_on}
use Rattle.cga_update.proofs.Moves.{chain_at, not_itself, on_node, some_one}

-- S and T are two forests, before and after the children of a node were replaced
module _ (v w : ForestView) (new : Sources) (id : ℕ) (news : List Node) (e now : Seen) (gone : ℕ → Bool)
    (replaced : IsReplaced fits (node_at v) (node_at w) id news e now gone)
    (inner : is_instance e.node.kind ≡ false) (still : is_instance now.node.kind ≡ false) (chain : chain_kept now.node ≡ chain_kept e.node) where
  -- a node that is there before and after stands where it stood
  same_due : (c : ℕ) (x d : Seen) → node_at v c ≡ Some x → node_at w c ≡ Some d → chains_of w c ≡ chains_of v c
  same_due c x d a b = elim (nat_cases c id) [
    | inl s ↦
        let here : node_at v c ≡ Some e = ap (node_at v) s ∙ replaced.was in
        let there : node_at w c ≡ Some now = ap (node_at w) s ∙ replaced.is in
        due_is (node_at w c) now there still ∙ ap Some chain ∙ sym (due_is (node_at v c) e here inner)
    | inr other ↦ kept_due (gone c) refl (replaced.rest c x other a)
  ]
    where
      kept_due : (g : Bool) → gone c ≡ g → node_at w c ≡ (if gone c then None else Some x)
          → chains_of w c ≡ chains_of v c
      kept_due true f r = let z : None ≡ Some d = sym (r ∙ ap (λ h. if h then None else Some x) f) ∙ b in cc
      kept_due false f r = ap due_chain (r ∙ ap (λ h. if h then None else Some x) f ∙ sym a)

  still_on : (a : AgendaView) (c : ℕ) (x d : Seen) → node_at v c ≡ Some x → node_at w c ≡ Some d → on_of v a c ≡ true
      → on_of w a c ≡ true
  still_on a c x d p q h = let z = on_from (chains_of v) a c h in on_to (chains_of w) a c z.0 (same_due c x d p q ∙ z.1) z.2

  -- a node that didn't go stays on an agenda
  pub stays_on : (a : AgendaView) (removed : List moved.NodeChange) → ListsOnlyIn (node_at v) (node_at w) removed
      → (c : ℕ)
      → (IsOneOf removed c → ⊥) → on_of v a c ≡ true → on_of w a c ≡ true
  stays_on a removed lists c stays on =
      let x = on_node v a c on in
      elim (option_cases (node_at w c)) [
        | inl none ↦ absurd (stays (moved_of c x.0, (lists.each (moved_of c x.0)).1 (c, x.0, x.1, none, refl), refl))
        | inr p ↦ still_on a c x.0 p.0 x.1 p.1 on
      ]

  abbrev IsAfter : Seen → Type 0
  IsAfter d = stamp_cmp new.mode (chain_kept e.node) (chain_kept d.node) ≡ Less

  -- a later node that is there before and after is the same
  same_later : (c : ℕ) (x d : Seen) → node_at v c ≡ Some x → node_at w c ≡ Some d → IsAfter d → x ≡ d
  same_later c x d a b less = elim (nat_cases c id) [
    | inl s ↦
        let d_now : d ≡ now = some_one (node_at w c) d now b (ap (node_at w) s ∙ replaced.is) in
        absurd (not_itself (chain_kept e.node) new (subst (λ k. stamp_cmp new.mode (chain_kept e.node) k ≡ Less) (ap (λ (k : Seen). chain_kept k.node) d_now ∙ chain) less))
    | inr other ↦ kept_same (gone c) refl (replaced.rest c x other a)
  ]
    where
      kept_same : (g : Bool) → gone c ≡ g → node_at w c ≡ (if gone c then None else Some x) → x ≡ d
      kept_same true f r = let z : None ≡ Some d = sym (r ∙ ap (λ h. if h then None else Some x) f) ∙ b in cc
      kept_same false f r = some_one (node_at w c) x d (r ∙ ap (λ h. if h then None else Some x) f) b

  -- comers: what came since the mark and comes later is on the agenda before
  module _ (was after : AgendaView) (mode : was.mode ≡ new.mode) (change : Change)
      (removed : ListsOnlyIn (node_at v) (node_at w) change.removed)
      (created : ListsOnlyIn (node_at w) (node_at v) change.created) (nobody : Bool) (followed : IsFollowed w id change nobody was after)
      (comers : (c : ℕ) (d : Seen) → node_at v c ≡ Some d → marked_at w c ≡ None → is_instance d.node.kind ≡ false
      → IsAfter d → on_of v was c ≡ true) (left : nobody ≡ true → (c : ℕ) (d : Seen) → node_at v c ≡ Some d
      → IsSome (marked_at w c) → is_instance d.node.kind ≡ false → d.node.asks ≡ true → IsAfter d → on_of v was c ≡ true) where
    pub later_in : (c : ℕ) (d : Seen) → node_at w c ≡ Some d → is_instance d.node.kind ≡ false
        → stamp_cmp new.mode (chain_kept e.node) (chain_kept d.node) ≡ Less → ComesAfter (chains_of w) was.mode id c
    later_in c d here solid less =
        (λ i. is_later (mode i) (due_is (node_at w id) now replaced.is still i)
        (due_is (node_at w c) d here solid i)) ∙ ap (λ y. is_lt (stamp_cmp new.mode y (chain_kept d.node))) chain ∙ ap is_lt less

    later_out : (c : ℕ) (d : Seen) → node_at w c ≡ Some d → is_instance d.node.kind ≡ false
        → ComesAfter (chains_of w) was.mode id c
        → stamp_cmp new.mode (chain_kept e.node) (chain_kept d.node) ≡ Less
    later_out c d here solid late =
        lt_is (stamp_cmp new.mode (chain_kept e.node) (chain_kept d.node))
        (sym (ap (λ y. is_lt (stamp_cmp new.mode y (chain_kept d.node))) chain)
        ∙ sym (λ i. is_later (mode i) (due_is (node_at w id) now replaced.is still i) (due_is (node_at w c) d here solid i)) ∙ late)

    created_on : (c : ℕ) (d : Seen) → node_at v c ≡ None → node_at w c ≡ Some d → is_instance d.node.kind ≡ false
        → on_of w after c ≡ true
    created_on c d none here solid = followed.created c (moved_of c d, (created.each (moved_of c d)).1 (c, d, here, none, refl), refl) (may_be_on w c d here solid)

    -- what was on it if it was there is on it after, as is what comes now
    pub later_on : (c : ℕ) (d : Seen) → node_at w c ≡ Some d → is_instance d.node.kind ≡ false → IsAfter d
        → (node_at v c ≡ Some d → on_of v was c ≡ true) → on_of w after c ≡ true
    later_on c d here solid less on = elim (option_cases (node_at v c)) [
      | inl none ↦ created_on c d none here solid
      | inr p ↦
          let there : node_at v c ≡ Some d = p.1 ∙ ap Some (same_later c p.0 d p.1 here less) in
          followed.grows.kept c (still_on was c d d there here (on there))
    ]

    pub comer_on : (c : ℕ) (d : Seen) → node_at w c ≡ Some d → HasCome w c d → is_instance d.node.kind ≡ false
        → IsAfter d → on_of w after c ≡ true
    comer_on c d here unmarked solid less = later_on c d here solid less (λ there. comers c d there unmarked solid less)

    -- who asks and meets the box of one of the moved is on the agenda: it came, or was there at the mark
    seen_by : (list : List moved.NodeChange) (m : moved.NodeChange) → Among m list
        → (nobody ≡ false
        → HasAll (chains_of w) (λ c. IsAsker w list c × ComesAfter (chains_of w) was.mode id c) after)
        → (c : ℕ) (d : Seen) → node_at w c ≡ Some d → is_instance d.node.kind ≡ false → d.node.asks ≡ true
        → meets (box_of d.node.shape.scope) (box_of m.scope) ≡ true
        → stamp_cmp new.mode (chain_kept e.node) (chain_kept d.node) ≡ Less
        → on_of w after c ≡ true
    unfolding bounds
    seen_by list m among has c d here solid asks meet less = elim (option_cases (marked_at w c)) [
      | inl unmarked ↦ comer_on c d here unmarked solid less
      | inr p ↦ elim (bool_cases nobody) [
        | inl is ↦ later_on c d here solid less (λ there. left is c d there (ap is_some p.1) solid asks less)
        | inr not ↦
            let k : IsAsker w list c = record { seen = d; there = here; marked = ap is_some p.1; asks = asks; one = m; among = among; near = meet } in
            has not c (k, later_in c d here solid less) (may_be_on w c d here solid)
      ]
    ]

    was_on : (a : AgendaView) (c : ℕ) (x d : Seen) → node_at v c ≡ Some x → node_at w c ≡ Some d → on_of w a c ≡ true
        → on_of v a c ≡ true
    was_on a c x d p q h = let z = on_from (chains_of w) a c h in on_to (chains_of v) a c z.0 (sym (same_due c x d p q) ∙ z.1) z.2

    pub is_moved : IsMoved (shapes_of new) content meets_box (node_at v) (node_at w) e.node (on_of v was)
        (on_of w after)
    is_moved = record {
      kept = λ c x d p q h. followed.grows.kept c (still_on was c x d p q h);
      created = created_on;
      removed = λ b c x d there none here solid asks meet less.
          seen_by change.removed (moved_of b x) ((removed.each (moved_of b x)).1 (b, x, there, none, refl)) followed.met_removed c d here solid asks meet less;
      arrived = λ b c x d none there here solid asks meet less.
          seen_by change.created (moved_of b x) ((created.each (moved_of b x)).1 (b, x, there, none, refl)) followed.met_created c d here solid asks meet less;
      only = λ c d here h. elim (option_cases (node_at v c)) [
        | inl none ↦ inr (inl none)
        | inr p ↦ elim (followed.grows.only c h) [
          | inl y ↦ inl (p.0, p.1, was_on was c p.0 d p.1 here y)
          | inr r ↦ elim r [
            | inl m ↦ inr (inl (created_none c m))
            | inr late ↦ inr (inr (later_out c d here (solid_at c d here h) late))
          ]
        ]
      ];
    }
      where
        created_none : (c : ℕ) → IsOneOf change.created c → node_at v c ≡ None
        created_none c m = let z = (created.each m.0).0 m.1 in ap (node_at v) (sym m.2 ∙ ap (λ (x : moved.NodeChange). x.id) z.4) ∙ z.3

        solid_at : (c : ℕ) (d : Seen) → node_at w c ≡ Some d → on_of w after c ≡ true → is_instance d.node.kind ≡ false
        solid_at c d here h =
            let z = on_from (chains_of w) after c h in
            let y = due_of (node_at w c) z.0 z.1 in
            ap (λ (k : Seen). is_instance k.node.kind) (some_one (node_at w c) d y.0 here y.1) ∙ y.2

    -- what is on the agenda after comes later than the node
    all_after : ((c : ℕ) (d : Seen) → node_at v c ≡ None → node_at w c ≡ Some d → IsAfter d)
        → ((c : ℕ) (x : Seen) → node_at v c ≡ Some x → on_of v was c ≡ true → IsAfter x) → (c : ℕ) (d : Seen)
        → node_at w c ≡ Some d → on_of w after c ≡ true → IsAfter d
    all_after born left c d here h = elim (is_moved.only c d here h) [
      | inl p ↦
          let same : Some (chain_kept p.0.node) ≡ Some (chain_kept d.node) = sym (chain_at v was c p.0 p.1 p.2) ∙ sym (same_due c p.0 d p.1 here) ∙ chain_at w after c d here h in
          subst (λ k. stamp_cmp new.mode (chain_kept e.node) k ≡ Less)
          (let z : chain_kept p.0.node ≡ chain_kept d.node = some_one (Some (chain_kept p.0.node))
          (chain_kept p.0.node) (chain_kept d.node) refl same in z) (left c p.0 p.1 p.2)
      | inr r ↦ elim r [ inl none ↦ born c d none here | inr less ↦ less ]
    ]

    -- so what is on it if it comes later than the node is due after, too
    pub still_due : (P : ℕ → Seen → Type 0)
        → ((c : ℕ) (d : Seen) → node_at w c ≡ Some d → P c d → is_instance d.node.kind ≡ false → IsAfter d
        → on_of w after c ≡ true)
        → ((c : ℕ) (d : Seen) → node_at v c ≡ None → node_at w c ≡ Some d → IsAfter d)
        → ((c : ℕ) (x : Seen) → node_at v c ≡ Some x → on_of v was c ≡ true → IsAfter x) → AreDue P new.mode w after
    still_due P has born left b c y d there on here one solid less =
        has c d here one solid ((stamp_total new.mode).trans (chain_kept e.node) (chain_kept y.node) (chain_kept d.node) (all_after born left b y there on) less)
