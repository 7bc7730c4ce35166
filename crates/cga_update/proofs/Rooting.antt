-- Roots went, and then roots came.
use Rattle.std.proofs.Common.{◌≡◌, inl, inr, ℕ, ◌+◌, ◌≤◌, length, arith, slice_get, refl, sym, ap, ◌∙◌, subst, Option, Some, None, Ok}
use Rattle.std.specs.Prelude.{is_some}
use Rattle.std.proofs.lemmas.Option.{slice_get_within}
use Rattle.cga_shape.specs.declared.lot.Lot.{Lot}
use Rattle.cga_expand.specs.Derivation.{NamesDiffer}
use Rattle.cga_fraction.proofs.Door.{None-not-Some as none_some, lt_or_eq_from_lt_suc as at_or_below, same_Some as some_same}
use Rattle.cga_forest.specs.declared.node_change.NodeChange.{NodeChange}
use Rattle.cga_forest.specs.declared.node.Node.{Node}
use Rattle.cga_depend.specs.Pairs.{DependentsView}
use Rattle.cga_forest.specs.NodeChange.{ListsOnlyIn}
use Rattle.cga_forest.specs.View.{Seen}
use Rattle.cga_forest.specs.Tree.{ForestView, IsForest, node_at}
use Rattle.cga_shape.specs.declared.shape.Shape.{Shape}
use Rattle.cga_shape.specs.declared.sources.Sources.{Sources}
use Rattle.std.proofs.Common.{List}
use Rattle.cga_queue.specs.Agenda.{AgendaView}
use Rattle.cga_update.specs.Begun.{IsFirst, StandsMarked}
use Rattle.cga_update.specs.ChangedLots.{DifferAt}
use Rattle.cga_update.specs.Roots.{View, AllWanted, AreWanted, AreThere, AreThereBut, Gains, HasLost, IsNewRoot, IsRerooted, IsRootNamed, IsWanted, Loses, lot_at}
use Rattle.cga_update.proofs.Lots.{place_cases, root_name}

-- an update at its beginning: how its roots were changed, and what is on its agenda
pub record IsRooted (old new : Sources) (first v : ForestView) (d : DependentsView) (removed created : List NodeChange) (a : AgendaView) : Type 0 where
  pub old_names : NamesDiffer old.lots
  pub names : NamesDiffer new.lots
  pub stands : StandsMarked old new first d
  pub roots : IsRerooted (node_at first) v removed
  pub listed : ListsOnlyIn (node_at v) (node_at first) created
  pub wanted : AllWanted new v
  pub there : AreThere new v (length new.lots)
  pub first_laws : IsForest first
  pub laws : IsForest v
  pub agenda : IsFirst old new v d removed created a

-- a node of an equal shape and priority is wanted too
pub wanted_alike : (new : Sources) (n m : Node) → m.shape ≡ n.shape → m.priority ≡ n.priority → IsWanted new n
    → IsWanted new m
wanted_alike new n m shape priority w = record {
  place = w.place;
  lot = w.lot;
  listed = w.listed;
  root = record { shape = w.root.shape ∙ ap Ok (sym shape); priority = priority ∙ w.root.priority };
}

pub wanted_after : (new : Sources) (before after : ForestView) → AllWanted new before → Gains new before after
    → AllWanted new after
wanted_after new before after wanted gains c d at up = by_slot (node_at before c) refl
  where
    by_slot : (s : Option Seen) → node_at before c ≡ s → IsWanted new d.node
    by_slot None is = (gains.new c d is at).wanted
    by_slot (Some e) is =
        let same : e ≡ d = some_same e d (sym (gains.more c e is) ∙ at) in
        subst (λ (x : Seen). IsWanted new x.node) same (wanted c e is (ap (λ (x : Seen). x.parent) same ∙ up))

pub loses_more : (new : Sources) (first before after : ForestView) → Loses new first before → Loses new before after
    → Loses new first after
loses_more new first before after one two = record {
  less = λ c d at. one.less c d (two.less c d at);
  wanted = λ c d at up w. two.wanted c d (one.wanted c d at up w) up w;
}

pub wanted_more : (new : Sources) (lots : List Lot) (before after : ForestView) (n : ℕ) (x : Lot)
    → slice_get lots n ≡ Some x → Loses new before after
    → ((c : ℕ) (d : Seen) → IsRootNamed (node_at after) x.name c d → IsWanted new d.node)
    → AreWanted new lots before n → AreWanted new lots after (n + 1)
wanted_more new lots before after n x at loses here first i lot lt is c d w = elim (at_or_below i n lt) [
  | inl lower ↦ first i lot lower is c d (loses.less c d w.0, w.1, w.2)
  | inr same ↦ (
      let z : x ≡ lot = some_same x lot (sym at ∙ (ap (slice_get lots) (sym same) ∙ is)) in
      here c d (w.0, w.1, w.2 ∙ ap (λ (l : Lot). l.name) (sym z)))
]

pub wanted_fewer : (new : Sources) (lots : List Lot) (f : ForestView) (n m : ℕ) → m ≤ n → AreWanted new lots f n
    → AreWanted new lots f m
wanted_fewer new lots f n m le wanted i lot lt = wanted i lot (omega (arith, lt, le))

pub all_wanted : (old new : Sources) (first f : ForestView) (n : ℕ) → length old.lots ≤ n → AllWanted old first
    → Loses new first f → AreWanted new old.lots f n → AllWanted new f
all_wanted old new first f n le was loses wanted c d at up =
    let w = was c d (loses.less c d at) up in
    let z = slice_get_within old.lots w.place w.lot w.listed in
    wanted w.place w.lot (omega (arith, z, le)) w.listed c d (at, up, root_name w.lot d.node.shape w.root.shape)

-- ---- one lot changed, or none

pub keeps_roots : (new : Sources) (f : ForestView) → Loses new f f
keeps_roots new f = record { less = λ c d at. at; wanted = λ c d at up w. at }

-- the root of a lot that stands in both is wanted still
pub still_wanted : (old new : Sources) (gone come : Option ℕ) → DifferAt old new gone come → (first f : ForestView)
    → AllWanted old first → Loses new first f
    → ((was : Lot) → lot_at old.lots gone ≡ Some was → (c : ℕ) (d : Seen) → IsRootNamed (node_at f) was.name c d
    → IsWanted new d.node)
    → AllWanted new f
still_wanted old new gone come differ first f was loses here c d at up =
    let w = was c d (loses.less c d at) up in
    elim (place_cases gone w.place) [
      | inl is ↦ here w.lot (ap (lot_at old.lots) is ∙ w.listed) c d (at, up, root_name w.lot d.node.shape w.root.shape)
      | inr other ↦ (
          let stays = differ.stay w.place w.lot w.listed other in
          record { place = stays.0; lot = w.lot; listed = stays.1.listed; root = record { shape = w.root.shape; priority = w.root.priority ∙ stays.1.priority } })
    ]

-- no lot stands at the place of the one that came
pub there_all : (new : Sources) (come : Option ℕ) (f : ForestView) → AreThereBut come new f
    → lot_at new.lots come ≡ None → AreThere new f (length new.lots)
there_all new come f there none i lot lt at = there i lot at (λ is. none_some lot (sym none ∙ (ap (lot_at new.lots) is ∙ at)))

-- its root came
pub there_now : (new : Sources) (come : Option ℕ) (before after : ForestView) → AreThereBut come new before
    → Gains new before after → (x : Lot) → lot_at new.lots come ≡ Some x
    → (c : ℕ) × (d : Seen) × IsRootNamed (node_at after) x.name c d
    → AreThere new after (length new.lots)
there_now new come before after there gains x is here i lot lt at = elim (place_cases come i) [
  | inl same ↦ (
      let z : x ≡ lot = some_same x lot (sym is ∙ (ap (lot_at new.lots) same ∙ at)) in
      (here.0, here.1, (here.2.0, here.2.1, here.2.2 ∙ ap (λ (l : Lot). l.name) z)))
  | inr other ↦ (let w = there i lot at other in (w.0, w.1, (gains.more w.0 w.1 w.2.0, w.2.1, w.2.2)))
]

module _ (new : Sources) (V : View) (first before after : ForestView) (removed : List NodeChange)
    (is : (c : ℕ) → node_at first c ≡ V c) (up : (c p : ℕ) (d : Seen) → V c ≡ Some d → d.parent ≡ Some p → (e : Seen) × (V p ≡ Some e))
    (lost : HasLost V before removed) (loses : Loses new first before) (gains : Gains new before after) where
  -- under a number of the mark no root came
  pub still : (c : ℕ) (d : Seen) → V c ≡ Some d → node_at after c ≡ node_at before c
  still c d v = by_slots (node_at before c) (node_at after c) refl refl
    where
      by_slots : (s t : Option Seen) → node_at before c ≡ s → node_at after c ≡ t → node_at after c ≡ node_at before c
      by_slots (Some e) t was now = gains.more c e was ∙ sym was
      by_slots None None was now = now ∙ sym was
      by_slots None (Some e) was now = none_some d (sym ((gains.new c e was now).unmarked lost.marking) ∙ (lost.marked c ∙ v))

  new_root : (c : ℕ) (d : Seen) → V c ≡ None → node_at after c ≡ Some d → IsNewRoot V d
  new_root c d v at =
      let g = gains.new c d (lost.none c v) at in record {
        top = g.top;
        leaf = g.leaf;
        waits = g.waits;
        other = λ b x vb top shape priority.
            let w = wanted_alike new d.node x.node shape priority g.wanted in
            g.first b x (loses.wanted b x (is b ∙ vb) top w, top, ap (λ (s : Shape). s.lot) shape);
      }

  pub rerooted : IsRerooted V after removed
  rerooted = record {
    marking = gains.marking ∙ lost.marking;
    marked = λ c. gains.marked lost.marking c ∙ lost.marked c;
    rest = λ c d v. elim (lost.rest c d v) [
      | inl t ↦ inl (gains.more c d t)
      | inr t ↦ inr (still c d v ∙ t)
    ];
    created = new_root;
    along = λ c p d v top.
        let e = up c p d v top in
        ap is_some (still c d v) ∙ (lost.along c p d v top ∙ sym (ap is_some (still p e.0 e.1)));
    removed = record {
      once = lost.removed.once;
      each = λ m. (
        (λ h. let w = (lost.removed.each m).0 h in (w.0, w.1, w.2, still w.0 w.1 w.2 ∙ w.3, w.4)),
        (λ w. (lost.removed.each m).1 (w.0, w.1, w.2, sym (still w.0 w.1 w.2) ∙ w.3, w.4)),
      );
    };
  }
