-- The roots that went and came, and the first agenda, are the beginning of the work.
use Rattle.std.proofs.Common.{◌≡◌, inl, ℕ, List, [], refl, sym, ap, ◌∙◌, subst, Option, Some, None, Ok}
use Rattle.std.specs.Prelude.{is_some}
use Rattle.cga_depend.specs.Pairs.{DependentsView}
use Rattle.cga_expand.proofs.Door.{root_is, root_among}
use Rattle.cga_fraction.proofs.Door.{None-not-Some as none_some}
use Rattle.cga_expand.specs.Derivation.{priority_of}
use Rattle.cga_expand.specs.Validity.{RootsExist}
use Rattle.cga_shape.specs.Root.{root_of}
use Rattle.cga_shape.specs.declared.shape.Shape.{Shape}
use Rattle.cga_shape.specs.declared.sources.Sources.{Sources}
use Rattle.cga_forest.specs.declared.node_change.NodeChange.{NodeChange}
use Rattle.cga_forest.specs.NodeChange.{ListsOnlyIn}
use Rattle.cga_forest.specs.View.{Seen}
use Rattle.cga_forest.specs.Tree.{ForestView, IsForest, node_at}
use Rattle.cga_update.specs.Begun.{StandsMarked}
use Rattle.cga_update.specs.ChangedLots.{AreChanged, DifferAt}
use Rattle.cga_update.specs.declared.changed_lots.ChangedLots.{ChangedLots}
use Rattle.cga_update.specs.declared.changed_lots.ChangedLots.TheVariants as lots
use Rattle.cga_update.specs.Roots.{AllWanted, AreThereBut, AreThereStill, Gains, HasLost, IsRerooted, IsRootFor, IsWanted, Loses}
use Rattle.cga_update.proofs.Adding.{none_created}
use Rattle.cga_update.proofs.RootShapes.{among_root}
use Rattle.cga_update.proofs.Rooting.{rerooted as roots_changed, still}
use Rattle.cga_update.proofs.Lots.{root_exists, root_name, scope_of_lot}

-- ---- before any root goes

-- each root is that of an old lot
pub old_wanted : (old new : Sources) (first : ForestView) (d : DependentsView) → StandsMarked old new first d
    → AllWanted old first
old_wanted old new first d stands c x at up =
    let top = stands.nodes.city.tops.top c x at up in
    let w = among_root old.lots x.node.shape top.0 in
    let z = root_is w.1 x.node.shape w.3 in
    record { place = w.0; lot = w.1; listed = w.2; root = record { shape = w.3; priority = top.1 ∙ ap (priority_of old.grammar) (ap (λ (s : Shape). s.symbol) (sym z.1)) } }

-- of a lot that stands in both the root is there still
there_but : (old new : Sources) (first before : ForestView) (d : DependentsView) → StandsMarked old new first d
    → RootsExist new.lots → (gone come : Option ℕ) → DifferAt old new gone come → Loses new first before
    → AreThereBut come new before
there_but old new first before d stands exist gone come differ loses i lot at other =
    let stood = differ.stood i lot at other in
    let r = root_exists lot (scope_of_lot new.lots exist i lot at) in
    let t = stands.nodes.city.tops.tops r.0 (root_among old.lots stood.0 lot r.0 stood.1.listed r.1) in
    let z = root_is lot r.0 r.1 in
    let shape : root_of lot ≡ Ok t.1.node.shape = r.1 ∙ ap Ok (sym t.4) in
    let symbol : t.1.node.shape.symbol ≡ lot.symbol = ap (λ (s : Shape). s.symbol) (t.4 ∙ sym z.1) in
    let root : IsRootFor lot (priority_of new.grammar lot.symbol) t.1.node = record
    { shape = shape; priority = (stands.nodes.city.tops.top t.0 t.1 t.2 t.3).1 ∙ (ap (priority_of old.grammar) symbol ∙ sym stood.1.priority) } in
    let wanted : IsWanted new t.1.node = record { place = i; lot = lot; listed = at; root = root } in
    (t.0, t.1, (loses.wanted t.0 t.1 t.2 t.3 wanted, t.3, root_name lot t.1.node.shape shape))

pub there_still : (changed : ChangedLots) (old new : Sources) (first before : ForestView) (d : DependentsView)
    → StandsMarked old new first d → RootsExist new.lots → AreChanged changed old new → Loses new first before
    → AreThereStill changed new before
there_still lots.Nothing old new first before d stands exist told loses = there_but old new first before d stands exist None None told loses
there_still (lots.One gone come) old new first before d stands exist told loses = there_but old new first before d stands exist gone come told loses
there_still lots.All old new first before d stands exist told loses = tt

pub parent_there : (first : ForestView) → IsForest first → (c p : ℕ) (x : Seen) → node_at first c ≡ Some x
    → x.parent ≡ Some p → (e : Seen) × (node_at first p ≡ Some e)
parent_there first laws c p x at up = let w = laws.present.tree.up c p x at up in (w.0, w.1)

pub nothing_lost : (old new : Sources) (first : ForestView) (d : DependentsView) (none : List NodeChange) → none ≡ []
    → StandsMarked old new first d → IsForest first → HasLost (node_at first) first none
nothing_lost old new first d none is stands laws = subst (λ (list : List NodeChange). HasLost (node_at first) first list) (sym is) (record {
  marking = stands.marking;
  marked = stands.marked;
  rest = λ c x at. inl at;
  none = λ c at. at;
  along = λ c p x at up. let e = parent_there first laws c p x at up in ap is_some at ∙ sym (ap is_some e.1);
  removed = none_created (node_at first);
})

pub now_rerooted : (old new : Sources) (first before after : ForestView) (d : DependentsView)
    (removed : List NodeChange)
    → StandsMarked old new first d → IsForest first
    → HasLost (node_at first) before removed → Loses new first before → Gains new before after
    → IsRerooted (node_at first) after removed
now_rerooted old new first before after d removed stands laws lost loses gains =
    roots_changed new (node_at first) first before after removed (λ c. refl) (parent_there first laws) lost loses gains

-- what came since the roots went is what wasn't at the mark
pub created_since : (V : ℕ → Option Seen) (before after : ForestView) (removed created : List NodeChange)
    → HasLost V before removed
    → ((c : ℕ) (x : Seen) → V c ≡ Some x → node_at after c ≡ node_at before c)
    → ListsOnlyIn (node_at after) (node_at before) created → ListsOnlyIn (node_at after) V created
created_since V before after removed created lost still lists = record {
  once = lists.once;
  each = λ m. (
    (λ h. let w = (lists.each m).0 h in (w.0, w.1, w.2, unmarked w.0 w.1 w.2 w.3 (V w.0) refl, w.4)),
    (λ w. (lists.each m).1 (w.0, w.1, w.2, lost.none w.0 w.3, w.4)),
  );
}
  where
    unmarked : (c : ℕ) (x : Seen) → node_at after c ≡ Some x → node_at before c ≡ None → (o : Option Seen) → V c ≡ o
        → V c ≡ None
    unmarked c x at none None is = is
    unmarked c x at none (Some y) is = none_some x (sym none ∙ (sym (still c y is) ∙ at))
