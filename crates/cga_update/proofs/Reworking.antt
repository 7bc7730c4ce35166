-- The update within one mode, from its beginning to its end.
use Rattle.std.proofs.Common.{◌≡◌, ℕ, ◌+◌, ◌<◌, List, [], ◌∷◌, ◌++◌, map, length, true, false, refl, sym, ap, ◌∙◌, subst, None, Result, Ok, Err, arith}
use Rattle.std.specs.Prelude.{IsOk}
use Rattle.std.specs.List.{AllByRecursion}
use Rattle.std.proofs.lemmas.List.Elements.{recursion_from_All}
use Rattle.cga_word.specs.declared.answers.Answers.{Answers}
use Rattle.cga_word.specs.declared.primitive.Primitive.{Primitive}
use Rattle.cga_frame.specs.Scope.{Scope}
use Rattle.cga_frame.specs.declared.scope_fault.ScopeFault.{ScopeFault}
use Rattle.cga_shape.specs.Root.{root_of, root_scope}
use Rattle.cga_shape.specs.declared.changes.Changes.{Changes}
use Rattle.cga_shape.specs.declared.lot.Lot.{Lot}
use Rattle.cga_shape.specs.declared.shape.Shape.{Shape}
use Rattle.cga_shape.specs.declared.shape_fault.ShapeFault.{ShapeFault}
use Rattle.cga_shape.specs.declared.sources.Sources.{Sources}
use Rattle.cga_order.specs.Run.{start}
use Rattle.cga_order.specs.declared.placed.Placed.{Placed}
use Rattle.cga_order.specs.declared.placed.Kind.TheVariants.{Waiting}
use Rattle.cga_agenda.specs.Loop.{Ends, IsReady}
use Rattle.cga_agenda.specs.declared.ended.Ended.{Ended}
use Rattle.cga_agenda.specs.declared.ended.Ended.TheVariants.{Within, OverBudget}
use Rattle.cga_agenda.specs.Record.{Drawn}
use Rattle.cga_derivation.specs.Derivation.{IsDerived, derive}
use Rattle.cga_rework.specs.Ranked.{Ranked, ranked_world, unranked_drawn}
use Rattle.cga_rework.specs.Rules as rules
use Rattle.cga_rework.specs.TreeLaws.{ListsAreViews}
use Rattle.cga_rework.proofs.Door.{lists_are_views, loop_done, over_none, stands_again}
use Rattle.cga_depend.specs.Pairs.{DependentsView}
use Rattle.cga_expand.specs.Derivation.{NamesDiffer, derivation_of, made, roots_of}
use Rattle.cga_expand.specs.Validity.{RootsExist}
use Rattle.cga_expand.specs.Settings.{Setting}
use Rattle.cga_forest.specs.declared.node.Node.{Node}
use Rattle.cga_forest.specs.Tree.{ForestView, marked_at, node_at}
use Rattle.cga_update.specs.declared.kept.Kept.{Kept}
use Rattle.cga_update.specs.declared.work.Work.{Work}
use Rattle.cga_update.specs.Applied.{ListsView}
use Rattle.cga_update.specs.Begun.{HasBegun, IsBetween, StandsMarked}
use Rattle.cga_update.specs.Edit.{asks_by, content, kept_nodes, rules_of, shapes_of, the_edit}
use Rattle.cga_update.specs.Means.{KeepsBounds, Means, told_ranked}
use Rattle.cga_update.specs.Reworked.{HasEnded}
use Rattle.cga_update.specs.Stands.{Stands}
use Rattle.cga_update.specs.Updates.{IsExact, StandAsBefore, told}
use Rattle.cga_update.proofs.Edits.{is_derivation, is_rules_edit}
use Rattle.cga_update.proofs.Ending.{listed_at_mark, stands_back, stands_done}
use Rattle.cga_update.proofs.Exact.{changed, counts, same_derivation}
use Rattle.cga_update.proofs.Exists.{once, stands_derived}
use Rattle.cga_update.proofs.Nodes.{kept_bound}
pub use Rattle.cga_fraction.proofs.Door.{IfOk-map as where_ok}

-- ---- as many roots as lots

module _ (lot : Lot) where
  made_one : (r : Result Scope ScopeFault) → root_scope lot ≡ r → IsOk r → length (made (root_of lot)) ≡ 1
  made_one (Ok scope) is ok = (rw is refl)
  made_one (Err fault) is ok = (let no : false ≡ true = ok in absurd (cc))

module _ {X : Type 0} where
  length-both : (xs ys : List X) → length (xs ++ ys) ≡ length xs + length ys
  length-both [] ys = omega arith
  length-both (x ∷ xs) ys = let r = length-both xs ys in omega (arith, r)

  length-each : {Y : Type 0} (f : X → Y) (xs : List X) → length (map f xs) ≡ length xs
  length-each f [] = refl
  length-each f (x ∷ xs) = let r = length-each f xs in omega (arith, r)

roots_are : (lots : List Lot) → AllByRecursion (λ (lot : Lot). IsOk (root_scope lot)) lots
    → length (roots_of lots) ≡ length lots
roots_are [] all = refl
roots_are (lot ∷ lots) all =
    let one = made_one lot (root_scope lot) refl all.0 in
    let rest = roots_are lots all.1 in
    let both = length-both (made (root_of lot)) (roots_of lots) in
    omega (arith, one, rest, both)

pub as_many_roots : (old new : Sources) → RootsExist new.lots → length (the_edit old new).new.roots ≡ length new.lots
as_many_roots old new exist =
    length-each {Y = Ranked Shape} (λ s. record { shape = s; priorities = (rules_of new).priority s ∷ [] }) (roots_of new.lots)
    ∙ roots_are new.lots (recursion_from_All (λ (lot : Lot). IsOk (root_scope lot)) new.lots exist)

-- more lots than the budget make more members
pub lots_over : (new : Sources) → NamesDiffer new.lots → RootsExist new.lots → (budget : ℕ) → budget < length new.lots
    → derive (derivation_of new) budget ≡ None
lots_over new names exist budget more =
    let world = ranked_world (shapes_of new) (rules_of new) in
    let size : length (start world) ≡ length new.lots = length-each
    {Y = Placed (Ranked Shape) ShapeFault Primitive} (λ n. record { shape = n; kind = Waiting }) world.roots ∙ as_many_roots new new exist in
    over_none (shapes_of new) (rules_of new) (is_derivation new new names) budget
    ([], start world, refl, (omega (arith, more, size)))

-- ---- where the work ended

pub has_ended : (old new : Sources) (v : ForestView) (was now : Work) (roots budget calls since : ℕ) (e : Ended)
    → Ends (Means was) (Means now) roots budget calls since e → roots ≡ length was.renewal.new.now.lots
    → IsBetween old new was → HasBegun old new v was → HasEnded old new v now budget calls since e
has_ended old new v was now roots budget calls since e ends size between begun =
    let exist = subst (λ (x : Sources). RootsExist x.lots) between.1 was.renewal.roots in
    let number : length (the_edit old new).new.roots ≡ roots = as_many_roots old new exist ∙ sym (size ∙ ap (λ (x : Sources). length x.lots) between.1) in
    ends (the_edit old new) begun.0 begun.1 (kept_nodes v) (subst (λ n. IsReady (the_edit old new) (kept_nodes v) begun.0 n) number begun.2)

told_twice : (list : List (Drawn (Ranked Shape) Primitive)) → map told_ranked list ≡ map told (map unranked_drawn list)
told_twice [] = refl
told_twice (d ∷ list) = ap (λ rest. told_ranked d ∷ rest) (told_twice list)

module _ (old new : Sources) (mode : old.mode ≡ new.mode) (olds : NamesDiffer old.lots) (names : NamesDiffer new.lots) (kept : Kept) (stood : Stands old kept) where
  -- marked, the forest stands as it did
  pub marked_stands : (m : ForestView) → m.marking ≡ true → ((c : ℕ) → node_at m c ≡ node_at kept.forest c)
      → ((c : ℕ) → marked_at m c ≡ node_at kept.forest c) → m.mode ≡ kept.forest.mode
      → StandsMarked old new m kept.dependents
  marked_stands m marking present marked moded = record {
    old_mode = mode;
    mode = moded ∙ (stood.forest.mode ∙ mode);
    marking = marking;
    marked = λ c. marked c ∙ sym (present c);
    nodes = stands_again.back (shapes_of old) content (rules_of old) (asks_by old.grammar) (node_at kept.forest) (node_at m) present stood.forest.nodes;
    silent = λ c x at. stood.forest.silent c x (sym (present c) ∙ at);
    plain = λ c x at. stood.forest.plain c x (sym (present c) ∙ at);
    dependents = listed_at_mark old kept.forest kept.dependents (node_at m) stood.dependents present;
  }

  -- so the work begins from its nodes
  pub begun_before : (m : ForestView) → ((c : ℕ) → node_at m c ≡ node_at kept.forest c) → (w : Work)
      → HasBegun old new m w → HasBegun old new kept.forest w
  begun_before m present w begun =
      let views : ListsAreViews Node Shape Answers Setting ShapeFault Primitive = lists_are_views in
      let same : kept_nodes m ≡ kept_nodes kept.forest = views.same content (node_at kept.forest) (node_at m)
      (length kept.forest.slots) (length m.slots) present (kept_bound kept.forest) (λ c x at. kept_bound m c x (present c ∙ at)) in
      (begun.0, begun.1, subst (λ nodes. IsReady (the_edit old new) nodes begun.0 (length (the_edit old new).new.roots)) same begun.2)

  module _ (was w : Work) (budget calls since : ℕ) (between : IsBetween old new was) (bounds : KeepsBounds was w) (at_first : (c : ℕ) → marked_at was.forest c ≡ node_at kept.forest c) where
    still_old : w.renewal.old.now ≡ old
    still_old = ap (λ r. r.now) bounds.old ∙ between.0

    still_new : w.renewal.new.now ≡ new
    still_new = ap (λ r. r.now) bounds.new ∙ between.1

    module _ (e : Ended) (ended : HasEnded old new kept.forest w budget calls since e) where
      pub marking : w.forest.marking ≡ true
      marking = ended.1.marked

      -- the mark is as it was
      pub mark : (c : ℕ) → marked_at w.forest c ≡ node_at kept.forest c
      mark c = bounds.mark.1 (sym bounds.mark.0 ∙ marking) c ∙ at_first c

      pub listed : (f : DependentsView) → f ≡ kept.dependents → ListsView f (marked_at w.forest)
      listed f same = subst (λ x. ListsView x (marked_at w.forest)) (sym same) (listed_at_mark old kept.forest kept.dependents (marked_at w.forest) stood.dependents mark)

      pub same_mode : w.forest.mode ≡ kept.forest.mode
      same_mode = ended.1.mode ∙ (ap (λ (s : Sources). s.mode) still_new ∙ sym (stood.forest.mode ∙ mode))

      -- put back, all stands as before
      pub put_back : (t : ForestView) (f : DependentsView) → f ≡ kept.dependents
          → ((c : ℕ) → node_at t c ≡ marked_at w.forest c) → t.marking ≡ false → t.mode ≡ w.forest.mode
          → StandAsBefore old kept (record { forest = t; dependents = f })
      put_back t f same nodes unmarked moded =
          subst (λ (x : DependentsView). StandAsBefore old kept (record { forest = t; dependents = x })) (sym same)
          (stands_back old kept t stood (λ c. nodes c ∙ mark c) unmarked (moded ∙ same_mode))

    pub over : HasEnded old new kept.forest w budget calls since OverBudget → derive (derivation_of new) budget ≡ None
    over ended = over_none (shapes_of new) (rules_of new) (is_derivation new new names) budget ended.2

    module _ (k : ℕ) (ended : HasEnded old new kept.forest w budget calls since (Within k)) where
      -- settled, all stands for the new sources
      pub settled : (t : ForestView) (f : DependentsView) → ((c : ℕ) → node_at t c ≡ node_at w.forest c)
          → t.marking ≡ false → t.mode ≡ w.forest.mode
          → ListsView f (node_at w.forest)
          → Stands new (record { forest = t; dependents = f })
      settled t f nodes unmarked moded lists =
          subst (λ (s : Sources). Stands s (record { forest = t; dependents = f })) still_new
          (stands_done w (the_edit old new) ended.0 ended.1 (kept_nodes kept.forest) budget calls since ended.2 t f nodes unmarked moded lists)

      pub exact : HasBegun old new kept.forest was → since ≡ calls + k → (changes : Changes)
          → changes ≡ record { gone = w.gone.items; come = w.come.items } → IsExact old new budget k changes
      exact begun called changes is =
          let before = stands_derived old olds kept.forest stood.forest in
          let derived : IsDerived (rules.derivation_of (shapes_of new) (rules_of old)) before.0 = subst (λ D. IsDerived D before.0) (sym (same_derivation old new mode before.0 before.0)) before.1 in
          let end = loop_done (shapes_of new) (rules_of old) (rules_of new) (is_rules_edit old new olds names)
          (kept_nodes kept.forest) begun.2.started (once old olds kept.forest stood.forest) ended.0 budget calls since ended.2 before.0 derived in
          let worked = end.2.0 in
          let count = end.2.2 in
          let number : k ≡ length worked = omega (arith, called, count) in
          let gone : changes.gone ≡ map told (map unranked_drawn ended.0.gone) = ap (λ (x : Changes). x.gone) is ∙ (ended.1.gone ∙ told_twice ended.0.gone) in
          let come : changes.come ≡ map told (map unranked_drawn ended.0.come) = ap (λ (x : Changes). x.come) is ∙ (ended.1.come ∙ told_twice ended.0.come) in (
            before.0,
            end.0,
            before.1,
            end.1,
            counts old new mode before.0 end.0 ended.0.nodes worked ended.0.gone ended.0.come end.2.1 k number,
            changed old new mode before.0 end.0 ended.0.nodes worked ended.0.gone ended.0.come end.2.1 changes gone come,
          )
