-- The root of a lot comes, where there was none of its name.
use Rattle.std.proofs.Common.{◌≡◌, ◌≢◌, inl, inr, ℕ, List, [], ◌∷◌, ◌++◌, true, false, refl, sym, ap, ◌∙◌, subst, Option, Some, None, arith, ◌+◌, ◌≤◌}
use Rattle.std.specs.Prelude.{◌↔◌, is_some, slice_get}
use Rattle.cga_index.specs.Tree.{Apart, Member}
use Rattle.cga_order.specs.World.{Among}
use Rattle.cga_rule.specs.declared.grammar.Grammar.{Grammar}
use Rattle.cga_fraction.proofs.Door.{None-not-Some as none_some, eq_or_ne as nat_cases, lt_or_eq_from_lt_suc as at_or_below, same_Some as some_same}
use Rattle.cga_forest.specs.declared.node_change.NodeChange.{NodeChange}
use Rattle.cga_forest.specs.declared.node.Node.{Node}
use Rattle.cga_forest.specs.NodeChange.{ListsOnlyIn, ids_of, moved_of}
use Rattle.cga_forest.specs.Placing.{IsRootNode}
use Rattle.cga_forest.specs.View.{Seen}
use Rattle.cga_forest.specs.Tree.{ForestView, HasNoLot, IsRootOf, KeepsMark, node_at, marked_at}
use Rattle.cga_shape.specs.declared.lot.Lot.{Lot}
use Rattle.cga_shape.specs.declared.sources.Sources.{Sources}
use Rattle.cga_update.specs.Roots.{View, AreThere, AreWithin, Gains, IsGained, IsRootNamed}
use Rattle.cga_update.proofs.Lots.{root_name}
use Rattle.cga_update.proofs.Members.{among_either, ids_join, id_of}
use Rattle.cga_order.proofs.Door.{Among-left as among_left, Among-right as among_right}
use Rattle.cga_index.proofs.Door.{apart_join}
use Rattle.cga_expand.proofs.Door.{said_priority}

abbrev top_seen : Node → Seen
top_seen n = record { node = n; depth = 0; parent = None; index = 0; children = [] }

-- a root by a table of this grammar
pub root_by : (symbols g : Grammar) (v : ForestView) (lot : Lot) (id : ℕ) → symbols ≡ g
    → (n : Node) × IsRootNode symbols lot n × (node_at v id ≡ Some (top_seen n))
    → (n : Node) × IsRootNode g lot n × (node_at v id ≡ Some (top_seen n))
root_by symbols g v lot id same root = (root.0, subst (λ h. IsRootNode h lot root.0) same root.1, root.2)

pub nothing_gained : (new : Sources) (v : ForestView) → Gains new v v
nothing_gained new v = record {
  marking = refl;
  marked = λ m c. refl;
  more = λ c d at. at;
  new = λ c d none at. none_some d (sym none ∙ at);
}

module _ (new : Sources) (old now : ForestView) (lot : Lot) (listed : (i : ℕ) × (slice_get new.lots i ≡ Some lot)) (absent : HasNoLot old lot.name) (id : ℕ) (n : Node)
    (root : IsRootNode new.grammar lot n) (at : node_at now id ≡ Some (top_seen n)) (fresh : node_at old id ≡ None) (unmarked : marked_at old id ≡ None)
    (others : (c : ℕ) → c ≢ id → node_at now c ≡ node_at old c) where
  apart : (c : ℕ) (d : Seen) → node_at old c ≡ Some d → c ≢ id
  apart c d was same = none_some d (sym fresh ∙ (ap (node_at old) (sym same) ∙ was))

  pub more_now : (c : ℕ) (d : Seen) → node_at old c ≡ Some d → node_at now c ≡ Some d
  more_now c d was = others c (apart c d was) ∙ was

  pub named_now : n.shape.lot ≡ lot.name
  named_now = root_name lot n.shape root.shape

  gained : IsGained new old id (top_seen n)
  gained = record {
    top = refl;
    leaf = refl;
    waits = root.kind;
    wanted = record { place = listed.0; lot = lot; listed = listed.1; root = record { shape = root.shape; priority = root.priority ∙ said_priority new.grammar lot.symbol } };
    unmarked = λ m. unmarked;
    first = λ b x w. absent b (x, w.0, w.1, w.2 ∙ named_now);
  }

  pub gains_root : KeepsMark old now → Gains new old now
  gains_root mark = record {
    marking = mark.0;
    marked = mark.1;
    more = more_now;
    new = λ c d none is. elim (nat_cases c id) [
      | inl same ↦ (
          let seen : top_seen n ≡ d = some_same (top_seen n) d (sym at ∙ (ap (node_at now) (sym same) ∙ is)) in
          subst (λ (k : ℕ). IsGained new old k d) (sym same) (subst (λ (x : Seen). IsGained new old id x) seen gained))
      | inr other ↦ none_some d (sym none ∙ (sym (others c other) ∙ is))
    ];
  }

  pub created_root : (W : View) (created : List NodeChange) → AreWithin W (node_at old)
      → ListsOnlyIn (node_at old) W created
      → ListsOnlyIn (node_at now) W (created ++ moved_of id (top_seen n) ∷ [])
  created_root W created within lists = record {
    once = subst (λ (ids : List ℕ). Apart ids) (sym (ids_join created (moved_of id (top_seen n) ∷ []))) (apart_join (ids_of created) (id ∷ []) lists.once ((λ m. m), tt) both);
    each = λ m. (to m, from m);
  }
    where
      both : (k : ℕ) → Member (ids_of created) k → Member (id ∷ []) k → ⊥
      both k a b =
          let x = id_of created k a in
          let p = (lists.each x.0).0 x.1 in
          let here : id ≡ k = elim b [ inl e ↦ e | inr r ↦ absurd r ] in
          let same : p.0 ≡ id = sym (ap (λ (m : NodeChange). m.id) p.4) ∙ (x.2 ∙ sym here) in
          apart p.0 p.1 p.2 same

      unlisted : (o : Option Seen) → W id ≡ o → W id ≡ None
      unlisted None is = is
      unlisted (Some d) is = none_some d (sym fresh ∙ within id d is)

      to : (m : NodeChange) → Among m (created ++ moved_of id (top_seen n) ∷ [])
          → (c : ℕ) × (d : Seen) × (node_at now c ≡ Some d) × (W c ≡ None) × (m ≡ moved_of c d)
      to m h = elim (among_either created (moved_of id (top_seen n) ∷ []) m h) [
        | inl a ↦ (let p = (lists.each m).0 a in (p.0, p.1, more_now p.0 p.1 p.2, p.3, p.4))
        | inr b ↦ elim b [
          | inl e ↦ (id, top_seen n, at, unlisted (W id) refl, sym e)
          | inr r ↦ absurd r
        ]
      ]

      from : (m : NodeChange) → ((c : ℕ) × (d : Seen) × (node_at now c ≡ Some d) × (W c ≡ None) × (m ≡ moved_of c d))
          → Among m (created ++ moved_of id (top_seen n) ∷ [])
      from m w = elim (nat_cases w.0 id) [
        | inl same ↦ (
            let seen : top_seen n ≡ w.1 = some_same (top_seen n) w.1 (sym at ∙ (ap (node_at now) (sym same) ∙ w.2)) in
            among_right created (moved_of id (top_seen n) ∷ []) m (inl (sym (w.4 ∙ (ap (λ k. moved_of k w.1) same ∙ ap (λ (x : Seen). moved_of id x) (sym seen))))))
        | inr other ↦ among_left created (moved_of id (top_seen n) ∷ []) m ((lists.each m).1 (w.0, w.1, sym (others w.0 other) ∙ w.2, w.3, w.4))
      ]

-- ---- as the calls tell it

pub root_there : (v : ForestView) (name : List ℕ) (o : Option ℕ)
    → ((c : ℕ) → (o ≡ Some c) ↔ IsRootOf (node_at v) name c) → is_some o ≡ true
    → (c : ℕ) × (d : Seen) × IsRootNamed (node_at v) name c d
root_there v name None each some = let z : false ≡ true = some in absurd (cc)
root_there v name (Some c) each some = let w = (each c).0 refl in (c, w.0, (w.1, w.2, w.3))

pub no_root_there : (v : ForestView) (name : List ℕ) (o : Option ℕ)
    → ((c : ℕ) → (o ≡ Some c) ↔ IsRootOf (node_at v) name c) → is_some o ≡ false → HasNoLot v name
no_root_there v name None each none c is = none_some c ((each c).1 is)
no_root_there v name (Some k) each none c is = let z : true ≡ false = none in absurd (cc)

module _ (new : Sources) (old now : ForestView) (lot : Lot) (listed : (i : ℕ) × (slice_get new.lots i ≡ Some lot)) (absent : HasNoLot old lot.name) (id : ℕ)
    (root : (n : Node) × IsRootNode new.grammar lot n × (node_at now id ≡ Some (top_seen n))) (fresh : node_at old id ≡ None) (unmarked : marked_at old id ≡ None)
    (others : (c : ℕ) → c ≢ id → node_at now c ≡ node_at old c) where
  pub gains_at : KeepsMark old now → Gains new old now
  gains_at mark = gains_root new old now lot listed absent id root.0 root.1 root.2 fresh unmarked others mark

  pub there_at : (c : ℕ) × (d : Seen) × IsRootNamed (node_at now) lot.name c d
  there_at = (id, top_seen root.0, (root.2, refl, root_name lot root.0.shape root.1.shape))

  pub created_at : (W : View) (created list : List NodeChange) → AreWithin W (node_at old)
      → ListsOnlyIn (node_at old) W created
      → ((d : Seen) → node_at now id ≡ Some d → list ≡ created ++ moved_of id d ∷ []) → ListsOnlyIn (node_at now) W list
  created_at W created list within lists is =
      subst (λ xs. ListsOnlyIn (node_at now) W xs) (sym (is (top_seen root.0) root.2))
      (created_root new old now lot listed absent id root.0 root.1 root.2 fresh unmarked others W created within lists)

-- ---- one root after the other

pub none_created : (T : View) → ListsOnlyIn T T []
none_created T = record {
  once = tt;
  each = λ m. ((λ h. absurd h), (λ w. none_some w.1 (sym w.3 ∙ w.2)));
}

pub gains_more : (new : Sources) (first before after : ForestView) → Gains new first before → Gains new before after
    → Gains new first after
gains_more new first before after one two = record {
  marking = two.marking ∙ one.marking;
  marked = λ m c. two.marked (one.marking ∙ m) c ∙ one.marked m c;
  more = λ c d at. two.more c d (one.more c d at);
  new = λ c d none at. by_slot c d none at (node_at before c) refl;
}
  where
    by_slot : (c : ℕ) (d : Seen) → node_at first c ≡ None → node_at after c ≡ Some d → (s : Option Seen)
        → node_at before c ≡ s → IsGained new first c d
    by_slot c d none at (Some e) is =
        let same : e ≡ d = some_same e d (sym (two.more c e is) ∙ at) in subst (λ (x : Seen). IsGained new first c x) same (one.new c e none is)
    by_slot c d none at None is =
        let g = two.new c d is at in record {
          top = g.top;
          leaf = g.leaf;
          waits = g.waits;
          wanted = g.wanted;
          unmarked = λ m. sym (one.marked m c) ∙ g.unmarked (one.marking ∙ m);
          first = λ b x w. g.first b x (one.more b x w.0, w.1, w.2);
        }

there_in : (new : Sources) (after : ForestView) (x lot : Lot) → x ≡ lot
    → (c : ℕ) × (d : Seen) × IsRootNamed (node_at after) x.name c d
    → (c : ℕ) × (d : Seen) × IsRootNamed (node_at after) lot.name c d
there_in new after x lot same w = (w.0, w.1, (w.2.0, w.2.1, w.2.2 ∙ ap (λ (l : Lot). l.name) same))

pub there_more : (new : Sources) (before after : ForestView) (n : ℕ) (x : Lot) → slice_get new.lots n ≡ Some x
    → Gains new before after
    → (c : ℕ) × (d : Seen) × IsRootNamed (node_at after) x.name c d → AreThere new before n → AreThere new after (n + 1)
there_more new before after n x at gains here first i lot lt is = elim (at_or_below i n lt) [
  | inl lower ↦ (let w = first i lot lower is in (w.0, w.1, (gains.more w.0 w.1 w.2.0, w.2.1, w.2.2)))
  | inr same ↦ there_in new after x lot (some_same x lot (sym at ∙ (ap (slice_get new.lots) (sym same) ∙ is))) here
]

pub there_fewer : (new : Sources) (f : ForestView) (n m : ℕ) → m ≤ n → AreThere new f n → AreThere new f m
there_fewer new f n m le there i lot lt = there i lot (omega (arith, lt, le))
