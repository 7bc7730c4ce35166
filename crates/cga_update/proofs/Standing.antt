-- A forest that stands for sources has the members of their derivation.
use Rattle.std.proofs.Common.{List, length, map, ap, ◌∙◌, subst}
use Rattle.cga_shape.specs.declared.shape.Shape.{Shape}
use Rattle.cga_shape.specs.declared.sources.Sources.{Sources}
use Rattle.cga_order.specs.World.{Has}
use Rattle.cga_order.specs.Agenda.{members_of}
use Rattle.cga_derivation.specs.Derivation.{IsDerived}
use Rattle.cga_agenda.specs.Work.{IsStart}
use Rattle.cga_rework.specs.Ranked.{Ranked, unranked}
use Rattle.cga_rework.specs.Exact.{StandsFor}
use Rattle.cga_rework.proofs.Door.{Has-unranked, start_stands, unranked-Has}
use Rattle.cga_expand.specs.Children.{Member}
use Rattle.cga_expand.specs.Derivation.{derivation_of, NamesDiffer}
use Rattle.cga_forest.specs.Tree.{ForestView, node_at}
use Rattle.cga_update.specs.Edit.{shapes_of, rules_of, the_edit, ranked, kept_nodes}
use Rattle.cga_update.specs.Laws.{StandingIsDerived}
use Rattle.cga_update.specs.Stands.{ForestStands}
use Rattle.cga_update.proofs.Edits.{is_derivation}
use Rattle.cga_update.proofs.Nodes.{member-node, node-member, kept_bound}

-- the nodes of the forest are what an edit starts from
pub is_start : (sources : Sources) (v : ForestView) → ForestStands sources v
    → IsStart (the_edit sources sources) (kept_nodes v)
is_start sources v stands = stands.nodes.started (length v.slots) (kept_bound v)

-- the kept nodes stand for the derivation
pub nodes_stand : (sources : Sources) (v : ForestView) → NamesDiffer sources.lots → ForestStands sources v
    → (list : List Member) → IsDerived (derivation_of sources) list
    → StandsFor (shapes_of sources) (rules_of sources) (kept_nodes v) list
nodes_stand sources v names stands list derived =
    start_stands (shapes_of sources) (rules_of sources) (is_derivation sources sources names) (rules_of sources) (kept_nodes v) (is_start sources v stands) list derived

-- What stands for sources is what is derived from them.
pub standing_is_derived : StandingIsDerived
standing_is_derived sources v names stands list derived s k =
    let same = (nodes_stand sources v names stands list derived).members in (
      λ h.
          let r = Has-unranked (members_of (kept_nodes v)) s k ((same s k).1 h) in
          let n = member-node (node_at v) (length v.slots) r.0 k r.1 in
          (n.0, n.1, n.2, ap (λ (m : Ranked Shape). m.shape) n.3 ∙ r.2, n.4),
      λ w.
          let member = node-member (node_at v) (length v.slots) w.0 w.1 w.2 (kept_bound v w.0 w.1 w.2) in
          let at = unranked-Has (members_of (kept_nodes v)) (ranked w.1.node) w.1.node.kind member in
          (same s k).0 (subst (λ j. Has (map unranked (members_of (kept_nodes v))) s j) w.4 (subst (λ x. Has (map unranked (members_of (kept_nodes v))) x w.1.node.kind) w.3 at)),
    )
