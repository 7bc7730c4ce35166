-- Who asks near what lies in a clear box: nobody. The box stays clear.
use Rattle.std.proofs.Common.{◌≡◌, ◌⊎◌, inl, inr, ℕ, List, [], ◌∷◌, ◌++◌, refl, sym, ap, ◌∙◌, subst, Option, Some, None, Bool, true, false}
use Rattle.std.specs.Prelude.{IsSome, is_some, if◌then◌else◌}
use Rattle.std.proofs.lemmas.Bool.{and_from}
use Rattle.cga_fraction.proofs.Door.{None-not-Some as none_some, same_Some, cases_Option as option_cases, eq_or_ne as nat_cases}
use Rattle.cga_frame.specs.Box.{Box, box_of, meets}
use Rattle.cga_frame.proofs.Door.{box_of_boxed}
use Rattle.cga_index.specs.Around.{IsAround}
use Rattle.cga_index.specs.Tree as index
use Rattle.cga_index.proofs.Door.{in_lasting, wide_meets}
use Rattle.cga_forest.specs.declared.change.Change.{Change}
use Rattle.cga_forest.specs.declared.node_change.NodeChange.{NodeChange}
use Rattle.cga_forest.specs.Node.{bounds}
use Rattle.cga_forest.specs.View.{Seen}
use Rattle.cga_forest.specs.Tree.{ForestView, IsForest, marked_at, node_at}
use Rattle.cga_forest.specs.Walked.{asks_of, forest_tree, lasting_tree, own_of, was_marked}
use Rattle.cga_forest.proofs.Door.{inside}
use Rattle.cga_queue.specs.Agenda.{AgendaView}
use Rattle.cga_update.specs.Askers.{boxes_of}
use Rattle.cga_update.specs.Clear.{AreInside, AsksNobody, IsClear, IsClearRound, LiesInside, MeetsNobody, StaysClear}
use Rattle.cga_update.specs.Follow.{IsFollowed}
use Rattle.cga_update.proofs.Moves.{some_one}
use Rattle.cga_update.proofs.NearMoved.{near_some}

-- the walk found nobody
pub found_nobody : (v : ForestView) → IsForest v → (area : Box) (list : List ℕ)
    → index.ListsAskers (lasting_tree v) area list → list ≡ [] → MeetsNobody v area
found_nobody v f area list lists none c d at marked asks near =
    subst (λ l. index.Member l c) none (lists.all c (in_lasting (forest_tree v) (was_marked v) c (inside v f c (d, at)))
    (and_from (is_some (marked_at v c)) (asks_of (node_at v c)) marked (ap asks_of at ∙ asks))
    (ap (λ o. meets (own_of o) area) at ∙ near))

-- nobody meets a box round all of these, so nobody asks near them
pub nobody_around : (v : ForestView) (moved : List NodeChange) (area : Box) → IsAround (boxes_of moved) area
    → MeetsNobody v area → AsksNobody v moved
unfolding bounds
nobody_around v moved area around clear c k =
    clear c k.seen k.there k.marked k.asks
    (around (box_of k.seen.node.shape.scope) (box_of_boxed k.seen.node.shape.scope) (near_some (box_of k.seen.node.shape.scope) moved k.one k.among k.near))

-- no box is known
pub no_box : (v : ForestView) (moved : List NodeChange) → IsClearRound v moved None
no_box v moved = record {
  clear = λ area is. none_some area is;
  nobody = λ h. (let z : false ≡ true = h in absurd (cc));
}

pub one_box : (v : ForestView) (moved : List NodeChange) (area : Box) → IsAround (boxes_of moved) area
    → MeetsNobody v area → IsClearRound v moved (Some area)
one_box v moved area around clear = record {
  clear = λ other is. subst (MeetsNobody v) (same_Some area other is) clear;
  nobody = λ h. nobody_around v moved area around clear;
}

-- nor near what lies inside it
pub nobody_inside : (v : ForestView) (moved : List NodeChange) (area : Box) → AreInside moved area
    → MeetsNobody v area → AsksNobody v moved
unfolding bounds
nobody_inside v moved area inner clear c k =
    clear c k.seen k.there k.marked k.asks
    (wide_meets (box_of k.seen.node.shape.scope) (box_of k.one.scope) area (box_of_boxed k.seen.node.shape.scope) k.near (inner k.one k.among))

-- so who asks near what lies inside it needn't be looked for
pub followed_clear : (v : ForestView) (of : ℕ) (change : Change) (nobody both : Bool) (clear : Option Box)
    (a b : AgendaView) → (both ≡ true → (nobody ≡ true) ⊎ LiesInside change clear) → IsClear v clear
    → IsFollowed v of change both a b → IsFollowed v of change nobody a b
followed_clear v of change nobody true clear a b why is f = elim (why refl) [
  | inl all ↦ record {
    grows = f.grows;
    created = f.created;
    met_removed = λ not. (let z : true ≡ false = sym all ∙ not in absurd (cc));
    met_created = λ not. (let z : true ≡ false = sym all ∙ not in absurd (cc));
  }
  | inr lies ↦ record {
    grows = f.grows;
    created = f.created;
    met_removed = λ not c p here. absurd (nobody_inside v change.removed lies.area lies.removed (is lies.area lies.is) c p.0);
    met_created = λ not c p here. absurd (nobody_inside v change.created lies.area lies.created (is lies.area lies.is) c p.0);
  }
]
followed_clear v of change nobody false clear a b why is f = record {
  grows = f.grows;
  created = f.created;
  met_removed = λ not. f.met_removed refl;
  met_created = λ not. f.met_created refl;
}

-- after a turn: v and w are the forests before and after it
module _ (v w : ForestView) (id : ℕ) (gone : ℕ → Bool) (rest : (c : ℕ) (d : Seen) → (c ≡ id → ⊥)
    → node_at v c ≡ Some d → node_at w c ≡ (if gone c then None else Some d))
    (marks : (c : ℕ) → marked_at w c ≡ marked_at v c) (unmarked : (c : ℕ) → node_at v c ≡ None
    → IsSome (node_at w c) → marked_at v c ≡ None) (old now : Option Box)
    (stays : (area : Box) → now ≡ Some area → StaysClear w id old area) (is : IsClear v old) where
  same_one : (c : ℕ) (x d : Seen) → (b : Bool) → gone c ≡ b → node_at w c ≡ (if gone c then None else Some x)
      → node_at w c ≡ Some d → x ≡ d
  same_one c x d true f r at = let z : None ≡ Some d = sym (r ∙ ap (λ h. if h then None else Some x) f) ∙ at in cc
  same_one c x d false f r at = some_one (node_at w c) x d (r ∙ ap (λ h. if h then None else Some x) f) at

  pub turn_clear : IsClear w now
  turn_clear area now_is c d at marked asks near = elim (nat_cases c id) [
    | inl same ↦ (stays area now_is).unmarked (subst (λ k. IsSome (marked_at w k)) same marked)
    | inr other ↦ elim (option_cases (node_at v c)) [
      | inl none ↦
          let z : false ≡ true = ap is_some (sym (unmarked c none (ap is_some at))) ∙ subst IsSome (marks c) marked in
          absurd (cc)
      | inr p ↦
          let one = same_one c p.0 d (gone c) refl (rest c p.0 other p.1) at in
          is area (stays area now_is).was c d (p.1 ∙ ap Some one) (subst IsSome (marks c) marked) asks near
    ]
  ]
