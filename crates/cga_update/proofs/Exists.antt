-- Where a forest stands, the derivation ends.
use Rattle.std.proofs.Common.{◌≡◌, List, [], length, false, inl, inr, refl, arith}
use Rattle.std.specs.Prelude.{Option, Some, None}
use Rattle.cga_shape.specs.declared.sources.Sources.{Sources}
use Rattle.cga_derivation.specs.Derivation.{IsDerived, derive}
use Rattle.cga_agenda.proofs.Door.{begins, roots_once}
use Rattle.cga_derivation.proofs.Door.{within}
use Rattle.cga_rework.proofs.Door.{lists_are_views, none_over, unchanged}
use Rattle.cga_agenda.specs.Edit.{new_world}
use Rattle.cga_agenda.specs.Known.{IsOverBudget}
use Rattle.cga_agenda.specs.Work.{StandOnce, IsBegun, IsWorking}
use Rattle.cga_agenda.proofs.Door as over
use Rattle.cga_expand.specs.Children.{Member}
use Rattle.cga_expand.specs.Derivation as expansion
use Rattle.cga_expand.specs.Derivation.{NamesDiffer}
use Rattle.cga_forest.specs.Tree.{ForestView, node_at}
use Rattle.cga_update.specs.Edit.{shapes_of, rules_of, the_edit, content, kept_nodes}
use Rattle.cga_update.specs.Stands.{ForestStands}
use Rattle.cga_update.proofs.Edits.{is_derivation, is_edit}
use Rattle.cga_update.proofs.Standing.{is_start}

module _ (sources : Sources) (names : NamesDiffer sources.lots) (v : ForestView) (stands : ForestStands sources v) where
  pub once : StandOnce (kept_nodes v)
  once = lists_are_views.once (shapes_of sources) content (rules_of sources) (node_at v) (length v.slots) stands.nodes.city

  -- an edit that changes nothing begins with nothing on the agenda
  begun : IsBegun (the_edit sources sources) (kept_nodes v) (kept_nodes v) (λ n. false)
  begun = record {
    tree = (is_start sources v stands).tree;
    from = λ m k a h. inl h;
    to = λ m k a h. inl h;
    changed = λ n k a h e. inr (refl, unchanged (shapes_of sources) (rules_of sources) (rules_of sources) n a (λ children made c j there inner. refl));
  }

  working : IsWorking (the_edit sources sources) (kept_nodes v) (kept_nodes v) (λ n. false) [] []
  working = begins (the_edit sources sources) (is_edit sources sources names names) (kept_nodes v) (is_start sources v stands) (kept_nodes v) (λ n. false) begun

  not_over : IsOverBudget (new_world (the_edit sources sources)) (length (kept_nodes v)) → ⊥
  not_over h =
      let less = (over.late (the_edit sources sources) (is_edit sources sources names names) (kept_nodes v)
      (is_start sources v stands) (kept_nodes v) (λ n. false) [] [] working (λ n k a g. refl)
      (roots_once (new_world (the_edit sources sources)) (is_edit sources sources names names).new) once (length (kept_nodes v))).0 h in
      omega (arith, less)

  pub stands_derived : (list : List Member) × IsDerived (expansion.derivation_of sources) list
  stands_derived = by (derive (expansion.derivation_of sources) (length (kept_nodes v))) refl
    where
      by : (answer : Option (List Member)) → derive (expansion.derivation_of sources) (length (kept_nodes v)) ≡ answer
          → (list : List Member) × IsDerived (expansion.derivation_of sources) list
      by None none = absurd (not_over (none_over (shapes_of sources) (rules_of sources) (is_derivation sources sources names) (length (kept_nodes v)) none))
      by (Some list) is = (list, within (expansion.derivation_of sources) (is_derivation sources sources names) (length (kept_nodes v)) list is)
