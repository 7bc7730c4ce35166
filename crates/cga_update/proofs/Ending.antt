-- What stands at the end of an update: for the new sources when its work is done, and for the old ones when the mark is put back.
use Rattle.std.proofs.Common.{◌≡◌, ℕ, suc, List, [], ◌∷◌, length, Bool, true, false, ◌&&◌, ◌||◌, refl, sym, ap, ◌∙◌, subst, arith}
use Rattle.std.specs.Prelude.{nat_eq, not, Option, Some, None}
use Rattle.std.specs.List.{list_any, Contains}
use Rattle.std.proofs.lemmas.List.Folds.{list_any_at}
use lib.Pointwise.{bytes_decides}
use Rattle.cga_word.specs.declared.answers.Answers.{Answers}
use Rattle.cga_word.specs.declared.primitive.Primitive.{Primitive}
use Rattle.cga_check.specs.Uses.{same_name}
use Rattle.cga_shape.specs.declared.shape.Shape.{Shape}
use Rattle.cga_shape.specs.declared.shape_fault.ShapeFault.{ShapeFault}
use Rattle.cga_shape.specs.declared.sources.Sources.{Sources}
use Rattle.cga_order.specs.Agenda as kept
use Rattle.cga_order.specs.World.{is_instance}
use Rattle.cga_agenda.specs.Edit.{Edit}
use Rattle.cga_agenda.specs.Loop.{LoopState, IsDone}
use Rattle.cga_agenda.specs.Work.{IsWorking, NoneQueued}
use Rattle.cga_rework.specs.City as tree
use Rattle.cga_rework.specs.Ranked.{Ranked}
use Rattle.cga_rework.specs.TreeLaws.{StandsAgain}
use Rattle.cga_fraction.proofs.Door.{same_from_both_ways as same_tests}
use Rattle.cga_rework.proofs.Door.{stands_again}
use Rattle.cga_depend.specs.Pairs.{DependentsView, nodes_in}
use Rattle.cga_expand.specs.Settings.{Setting}
use Rattle.cga_forest.specs.declared.node.Node.{Node}
use Rattle.cga_forest.specs.View.{Seen}
use Rattle.cga_forest.specs.Tree.{ForestView, node_at}
use Rattle.cga_update.specs.declared.kept.Kept.{Kept}
use Rattle.cga_update.specs.declared.work.Work.{Work}
use Rattle.cga_depend.specs.Log.{lists}
use Rattle.cga_update.specs.Applied.{ListsView}
use Rattle.cga_update.specs.Edit.{asks_by, content, kept_nodes, rules_of, shapes_of, the_edit}
use Rattle.cga_update.specs.Log.{is_of}
use Rattle.cga_update.specs.Means.{Means}
use Rattle.cga_update.specs.Queue.{on_of}
use Rattle.cga_update.specs.Stands.{DependentsStand, Stands}
use Rattle.cga_update.specs.Updates.{StandAsBefore}
use Rattle.cga_fraction.proofs.Door.{eq_from_nat_eq as same_number, nat_eq-same as own_number}
use Rattle.cga_update.proofs.Nodes.{kept_bound}

-- ---- membership, as a test and as a fact

contains_any : (xs : List ℕ) (c : ℕ) → Contains xs c → list_any (nat_eq c) xs ≡ true
contains_any xs c h = list_any_at (nat_eq c) xs h.0 c h.1 (ap (nat_eq c) h.2 ∙ own_number c)

any_contains : (xs : List ℕ) (c : ℕ) → list_any (nat_eq c) xs ≡ true → Contains xs c
any_contains [] c h = absurd (cc)
any_contains (x ∷ xs) c h = by_test (λ more. any_contains xs c more) (nat_eq c x) refl
  where
    by_test : (list_any (nat_eq c) xs ≡ true → Contains xs c) → (b : Bool) → nat_eq c x ≡ b → Contains (x ∷ xs) c
    by_test rest true is = (0, omega arith, sym (same_number c x is))
    by_test rest false is =
        let r = rest (sym (ap (λ t. t || list_any (nat_eq c) xs) is) ∙ h) in
        let lt = r.1 in
        (suc r.0, omega (arith, lt), r.2)

-- the node is there, is no instance, and has this symbol
abbrev IsOne : Option Seen → List ℕ → Type 0
IsOne o s = (d : Seen) × (o ≡ Some d) × (is_instance d.node.kind ≡ false) × (d.node.shape.symbol ≡ s)

of_one : (o : Option Seen) (s : List ℕ) → is_of o s ≡ true → IsOne o s
of_one None s h = absurd (cc)
of_one (Some d) s h = by_tests (is_instance d.node.kind) (same_name d.node.shape.symbol s) refl refl h
  where
    by_tests : (i n : Bool) → is_instance d.node.kind ≡ i → same_name d.node.shape.symbol s ≡ n → (not i && n) ≡ true
        → IsOne (Some d) s
    by_tests false true inner name h = (d, refl, inner, (bytes_decides d.node.shape.symbol s).0 name)
    by_tests false false inner name h = absurd (cc)
    by_tests true n inner name h = absurd (cc)

one_of : (o : Option Seen) (s : List ℕ) → IsOne o s → is_of o s ≡ true
one_of o s x =
    ap (λ p. is_of p s) x.1
    ∙ (ap (λ i. not i && same_name x.0.node.shape.symbol s) x.2 ∙ (bytes_decides x.0.node.shape.symbol s).1 x.3)

-- ---- the dependents

-- dependents that stand list the nodes of the mark
pub listed_at_mark : (sources : Sources) (v : ForestView) (d : DependentsView) (T : ℕ → Option Seen)
    → DependentsStand sources v d → ((c : ℕ) → T c ≡ node_at v c) → ListsView d T
listed_at_mark sources v d T stand same s c =
    same_tests (lists d s c) (is_of (T c) s)
    (λ h. ap (λ o. is_of o s) (same c) ∙ one_of (node_at v c) s ((stand.nodes s c).0 (any_contains (nodes_in d s) c h)))
    (λ h. contains_any (nodes_in d s) c ((stand.nodes s c).1 (of_one (node_at v c) s (sym (ap (λ o. is_of o s) (same c)) ∙ h))))

-- dependents that list the nodes stand
dependents_stand : (sources : Sources) (v : ForestView) (d : DependentsView) (T : ℕ → Option Seen)
    → ((c : ℕ) → node_at v c ≡ T c)
    → ListsView d T → DependentsStand sources v d
dependents_stand sources v d T same listed = record {
  nodes = λ s c. (
    λ h. of_one (node_at v c) s (ap (λ o. is_of o s) (same c) ∙ (sym (listed s c) ∙ contains_any (nodes_in d s) c h)),
    λ x. any_contains (nodes_in d s) c (listed s c ∙ (sym (ap (λ o. is_of o s) (same c)) ∙ one_of (node_at v c) s x)),
  );
}

-- ---- the forest

-- a view of the same nodes stands for the same sources
same_stands : (sources : Sources) (v t : ForestView) → ((c : ℕ) → node_at t c ≡ node_at v c)
    → tree.Stands (shapes_of sources) content (rules_of sources) (asks_by sources.grammar) (node_at v)
    → tree.Stands (shapes_of sources) content (rules_of sources) (asks_by sources.grammar) (node_at t)
same_stands sources v t same stood =
    let again : StandsAgain Node Shape Answers Setting ShapeFault Primitive = stands_again in
    again.back (shapes_of sources) content (rules_of sources) (asks_by sources.grammar) (node_at v) (node_at t) same stood

module _ (w : Work) (edit : Edit (Ranked Shape) Answers Setting ShapeFault Primitive) (s : LoopState (Ranked Shape) Answers ShapeFault Primitive) (means : Means w edit s) where
  abbrev Nodes : Type 0
  Nodes = List (kept.Node (Ranked Shape) Answers ShapeFault Primitive)

  working_is : (start : Nodes) (turned worked : List (Ranked Shape))
      → IsWorking edit start s.nodes s.queued turned worked
      → IsWorking (the_edit w.renewal.old.now w.renewal.new.now) start (kept_nodes w.forest) s.queued turned worked
  working_is start turned worked h =
      subst (λ e. IsWorking e start (kept_nodes w.forest) s.queued turned worked) means.edit_is
      (subst (λ ns. IsWorking edit start ns s.queued turned worked) means.nodes h)

  none_is : NoneQueued edit s.nodes s.queued
      → NoneQueued (the_edit w.renewal.old.now w.renewal.new.now) (kept_nodes w.forest) s.queued
  none_is h =
      subst (λ e. NoneQueued e (kept_nodes w.forest) s.queued) means.edit_is
      (subst (λ ns. NoneQueued edit ns s.queued) means.nodes h)

  -- the nodes stand when nothing is on the agenda
  nodes_stand : (start : Nodes) (turned worked : List (Ranked Shape))
      → IsWorking edit start s.nodes s.queued turned worked → NoneQueued edit s.nodes s.queued
      → tree.Stands (shapes_of w.renewal.new.now) content (rules_of w.renewal.new.now)
      (asks_by w.renewal.new.now.grammar) (node_at w.forest)
  nodes_stand start turned worked working none =
      let again : StandsAgain Node Shape Answers Setting ShapeFault Primitive = stands_again in
      again.done (shapes_of w.renewal.new.now) content (rules_of w.renewal.old.now) (rules_of w.renewal.new.now)
      (asks_by w.renewal.new.now.grammar) (node_at w.forest) (length w.forest.slots) start (on_of w.forest w.agenda) s.queued turned worked
      (kept_bound w.forest) means.underway means.queued (working_is start turned worked working) (none_is none)

  -- what the end of the work leaves stands for the new sources
  pub stands_done : (start : Nodes) (budget calls since : ℕ) → IsDone edit start s budget calls since
      → (v : ForestView) (d : DependentsView) → ((c : ℕ) → node_at v c ≡ node_at w.forest c) → v.marking ≡ false
      → v.mode ≡ w.forest.mode
      → ListsView d (node_at w.forest)
      → Stands w.renewal.new.now (record { forest = v; dependents = d })
  stands_done start budget calls since is_done v d same unmarked mode listed = record {
    forest = record {
      mode = mode ∙ means.mode;
      unmarked = unmarked;
      nodes = same_stands w.renewal.new.now w.forest v same (nodes_stand start is_done.turned is_done.worked is_done.working is_done.none_queued);
      silent = λ c x at. means.silent c x (sym (same c) ∙ at);
      plain = λ c x at. means.plain c x (sym (same c) ∙ at);
    };
    dependents = dependents_stand w.renewal.new.now v d (node_at w.forest) same listed;
  }

-- put back, a forest stands as it did
pub stands_back : (sources : Sources) (was : Kept) (t : ForestView) → Stands sources was
    → ((c : ℕ) → node_at t c ≡ node_at was.forest c) → t.marking ≡ false → t.mode ≡ was.forest.mode
    → StandAsBefore sources was (record was { forest = t })
stands_back sources was t stood same unmarked mode = record {
  stands = record {
    forest = record {
      mode = mode ∙ stood.forest.mode;
      unmarked = unmarked;
      nodes = same_stands sources was.forest t same stood.forest.nodes;
      silent = λ c x at. stood.forest.silent c x (sym (same c) ∙ at);
      plain = λ c x at. stood.forest.plain c x (sym (same c) ∙ at);
    };
    dependents = dependents_stand sources t was.dependents (node_at was.forest) same
        (listed_at_mark sources was.forest was.dependents (node_at was.forest) stood.dependents (λ c. refl));
  };
  nodes = same;
}
