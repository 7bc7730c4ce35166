-- The end of the work of an edit, over the lists of the derivations.
use Rattle.std.proofs.Common.{◌≡◌, ℕ, ◌+◌, ◌≤◌, ◌<◌, ◌⊎◌, List, map, length, Bool, false, sym, ap, ◌∙◌, subst, inl, inr, None, arith}
use Rattle.std.specs.Prelude.{count_by}
use Rattle.cga_order.specs.World.{Has, Among}
use Rattle.cga_order.specs.declared.placed.Placed.{Placed}
use Rattle.cga_order.specs.declared.placed.Kind.{Kind}
use Rattle.cga_order.specs.declared.placed.Kind.TheVariants.{Done, Instance}
use Rattle.cga_order.specs.Consistent.{SameMembers}
use Rattle.cga_order.specs.Agenda.{Node, members_of, Keeps}
use Rattle.cga_agenda.proofs.Door.{IsUpdate, all_derived, known_derived, path_not_empty, turned_derived, update}
use Rattle.cga_fraction.proofs.Door.{length-map}
use Rattle.cga_order.proofs.Door.{Once-index, length-once, slice_get-map, snoc-same}
use Rattle.cga_agenda.specs.Edit.{Edit, IsEdit, NonInstance}
use Rattle.cga_rework.specs.Ranked.{Ranked, ranked_world, edit_of, unranked, unranked_drawn}
use Rattle.cga_order.specs.Once.{Once}
use Rattle.cga_agenda.specs.Work.{IsWorking, IsStart}
use Rattle.cga_agenda.specs.Record.{Drawn, drawn, IsRecord}
use Rattle.cga_agenda.specs.Known.{shapes_of, IsKnown}
use Rattle.cga_rework.proofs.Lists.{Among-map, map-Among, Once-map, count-map, drawn-unranked}
use Rattle.cga_derivation.specs.Derivation.{IsDerivation, reached, derive, NothingWaits}
use Rattle.cga_rework.specs.Rules.{Shapes, Rules, IsRulesEdit, derivation_of}
use Rattle.cga_rework.specs.Touched.{Kept, SameInputs, Touched}
use Rattle.cga_rework.specs.Laws.{ReworkIsExact}
use Rattle.cga_rework.specs.Exact.{IsBelow, IsExactWork, IsExactRework}
use Rattle.cga_rework.proofs.Worlds.{is_world, make, root_ranked, shape_of}
use Rattle.cga_rework.proofs.Runs.{RankedRun, ranked_run, unranked-Has, Has-unranked}
use Rattle.cga_rework.proofs.Touched.{quiet, touched, kept_old, from_shape, inputs_ranked}
use Rattle.cga_rework.proofs.Budget.{derived_or_none, over_to, over_from}
use Rattle.cga_order.proofs.Door as steps
use Rattle.cga_agenda.specs.Edit as agenda

module _ {S A B F P : Type 0} (shapes : Shapes S) where
  pub once_roots : (rules : Rules S A B F P) → IsDerivation (derivation_of shapes rules)
      → Once (ranked_world shapes rules).roots
  once_roots rules are =
      Once-index (ranked_world shapes rules).roots
      (λ x i j e f.
      let u = slice_get-map (root_ranked shapes rules are) rules.roots i x e in
      let v = slice_get-map (root_ranked shapes rules are) rules.roots j x f in
      are.roots_apart i j u.0 v.0 u.1 v.1 (ap (λ (n : Ranked S). (shapes.lot n.shape, shapes.path n.shape)) (u.2 ∙ sym v.2)))

  module _ (old new : Rules S A B F P) (laws : IsRulesEdit shapes old new) where
    abbrev edit : Edit (Ranked S) A B F P
    edit = edit_of shapes old new

    made : IsEdit edit
    made = make shapes old new laws

    abbrev Nodes : Type 0
    Nodes = List (Node (Ranked S) A F P)

    abbrev old_list : ℕ → List (Placed S F P)
    old_list i = reached (derivation_of shapes old) i

    abbrev new_list : ℕ → List (Placed S F P)
    new_list j = reached (derivation_of shapes new) j

    -- where the nodes are the members of a whole run, and what was expanded is what is touched
    module _ (now : Nodes) (worked : List (Ranked S)) (i j : ℕ)
        (quiet_old : NothingWaits (derivation_of shapes old) (reached (derivation_of shapes old) i))
        (quiet_new : NothingWaits (derivation_of shapes new) (reached (derivation_of shapes new) j))
        (o : RankedRun shapes old laws.was i) (w : RankedRun shapes new laws.is j)
        (news : SameMembers (members_of now) w.1) (worked_once : Once worked) (reworked : (n : Ranked S)
        → (Among n worked → agenda.Touched edit o.1 w.1 n) × (agenda.Touched edit o.1 w.1 n → Among n worked)) where
      pub new_distinct : (n m : Ranked S) (k l : Kind F P) → Has w.1 n k → Has w.1 m l → n.shape ≡ m.shape → n ≡ m
      new_distinct n m k l h g e = ((steps.in_order (ranked_world shapes new) (is_world shapes new laws.is) w.0 w.1 w.2).distinct n m k l h g (λ t. (shapes.lot (e t), shapes.path (e t)))).0

      to_members : (s : S) (k : Kind F P) → Has (map unranked (members_of now)) s k → Has (new_list j) s k
      to_members s k h =
          let n = Has-unranked (members_of now) s k h in
          subst (λ l. Has l s k) w.3 (subst (λ x. Has (map unranked w.1) x k) n.2 (unranked-Has w.1 n.0 k ((news n.0 k).0 n.1)))

      from_members : (s : S) (k : Kind F P) → Has (new_list j) s k → Has (map unranked (members_of now)) s k
      from_members s k h =
          let n = Has-unranked w.1 s k (subst (λ l. Has l s k) (sym w.3) h) in
          subst (λ x. Has (map unranked (members_of now)) x k) n.2 (unranked-Has (members_of now) n.0 k ((news n.0 k).1 n.1))

      pub ranked_of : (s : S) → NonInstance (new_list j) s → (n : Ranked S) × NonInstance w.1 n × (n.shape ≡ s)
      ranked_of s is = let n = Has-unranked w.1 s is.0 (subst (λ l. Has l s is.0) (sym w.3) is.1) in (n.0, (is.0, n.1, is.2), n.2)

      pub to_touched : (s : S) → Among s (map shape_of worked) → Touched shapes old new (old_list i) (new_list j) s
      to_touched s h =
          let x = Among-map shape_of worked s h in
          let t = (reworked x.0).0 x.1 in
          subst (Touched shapes old new (old_list i) (new_list j)) x.2 ((touched shapes old new laws i j quiet_old quiet_new o w x.0 t.0).0 t)

      pub from_touched : (s : S) → Touched shapes old new (old_list i) (new_list j) s → Among s (map shape_of worked)
      from_touched s t =
          let n = ranked_of s t.0 in
          let there = (reworked n.0).1 ((touched shapes old new laws i j quiet_old quiet_new o w n.0 n.1).1 (subst (Touched shapes old new (old_list i) (new_list j)) (sym n.2) t)) in
          subst (λ x. Among x (map shape_of worked)) n.2 (map-Among shape_of worked n.0 there)

      once : Once (map shape_of worked)
      once = Once-map shape_of worked worked_once (λ x y a b e.
          let t = ((reworked x).0 a).0 in
          let u = ((reworked y).0 b).0 in
          new_distinct x y t.0 u.0 t.1 u.1 e)

      pub exact_work : IsExactWork shapes old new now worked (old_list i) (new_list j)
      exact_work = record {
        members = λ s k. (to_members s k, from_members s k);
        once = once;
        touched = λ s. (to_touched s, from_touched s);
        count = λ list o same.
            let one = length-once (map shape_of worked) list once (λ s h. (same s).1 (to_touched s h)) in
            let other = length-once list (map shape_of worked) o (λ s h. from_touched s ((same s).0 h)) in
            let same = length-map shape_of worked in
            omega (arith, one, other, same);
      }

    module _ (start : Nodes) (started : IsStart edit start) (now : Nodes) (queued : Ranked S → Bool) (turned worked : List (Ranked S)) (good : IsWorking edit start now queued turned worked) where
      module _ (j : ℕ) (settled : NothingWaits (derivation_of shapes new) (reached (derivation_of shapes new) j)) where
        run : RankedRun shapes new laws.is j
        run = ranked_run shapes new laws.is j

        size_of : length run.1 ≡ length (reached (derivation_of shapes new) j)
        size_of = sym (length-map unranked run.1) ∙ ap length run.3

        known_fits : (known : List (Ranked S)) → IsKnown edit now worked known
            → length known ≤ length (reached (derivation_of shapes new) j)
        known_fits known knows = subst (λ n. length known ≤ n) size_of
            (known_derived edit made start started now queued turned worked good run.0 run.1 run.2 (quiet shapes new laws.is j settled run) known knows)

        turned_fits : length turned ≤ length (reached (derivation_of shapes new) j)
        turned_fits = subst (λ n. length turned ≤ n) size_of (turned_derived edit made start started now queued turned worked good run.0 run.1 run.2 (quiet shapes new laws.is j settled run))

      pub early : (known : List (Ranked S)) → IsKnown edit now worked known → (budget : ℕ)
          → (budget < length known) ⊎ (budget < length turned) → derive (derivation_of shapes new) budget ≡ None
      early known knows budget over = elim (derived_or_none (derivation_of shapes new) laws.is budget) [
        | inl none ↦ none
        | inr (all, (j, settled)) ↦
            let most = all j in
            elim over [
              | inl lt ↦ let le = known_fits j settled known knows in absurd (omega (arith, most, lt, le))
              | inr lt ↦ let le = turned_fits j settled in absurd (omega (arith, most, lt, le))
            ]
      ]

      module _ (gone come : List (Drawn (Ranked S) P)) (kept : IsRecord edit start now worked gone come)
          (empty : (n : Ranked S) (k : Kind F P) (a : A) → Keeps now n k a → queued n ≡ false)
          (start_once : Once (shapes_of (members_of start))) (now_once : Once (shapes_of (members_of now)))
          (i j : ℕ) (quiet_old : NothingWaits (derivation_of shapes old) (reached (derivation_of shapes old) i))
          (quiet_new : NothingWaits (derivation_of shapes new) (reached (derivation_of shapes new) j)) where
        module _ (o : RankedRun shapes old laws.was i) (w : RankedRun shapes new laws.is j) where
          done : SameMembers (members_of now) w.1 × IsUpdate edit o.1 w.1 worked gone come
          done = update edit made start started now queued turned worked gone come good kept empty
              (once_roots old laws.was) (once_roots new laws.is) start_once now_once o.0 w.0 o.1 w.1 o.2
              (quiet shapes old laws.was i quiet_old o) w.2 (quiet shapes new laws.is j quiet_new w)

          size : length now ≡ length (new_list j)
          size = (all_derived edit made start started now queued turned worked good w.0 w.1 w.2
              (quiet shapes new laws.is j quiet_new w) empty (once_roots new laws.is) now_once).1 ∙ (sym (length-map unranked w.1) ∙ ap length w.3)

          old_distinct : (n m : Ranked S) (k l : Kind F P) → Has o.1 n k → Has o.1 m l
              → shapes.lot n.shape ≡ shapes.lot m.shape → shapes.path n.shape ≡ shapes.path m.shape → n ≡ m
          old_distinct n m k l h g e f = ((steps.in_order (ranked_world shapes old) (is_world shapes old laws.was) o.0 o.1 o.2).distinct n m k l h g (λ t. (e t, f t))).0

          work : IsExactWork shapes old new now worked (old_list i) (new_list j)
          work = exact_work now worked i j quiet_old quiet_new o w done.0 done.1.once done.1.touched

          new_one : (n m : Ranked S) (k l : Kind F P) → Has w.1 n k → Has w.1 m l → n.shape ≡ m.shape → n ≡ m
          new_one = new_distinct now worked i j quiet_old quiet_new o w done.0 done.1.once done.1.touched

          non_ranked : (s : S) → NonInstance (new_list j) s → (n : Ranked S) × NonInstance w.1 n × (n.shape ≡ s)
          non_ranked = ranked_of now worked i j quiet_old quiet_new o w done.0 done.1.once done.1.touched

          each_gone : (d : Drawn (Ranked S) P) → Among d gone
              → Has (old_list i) d.shape.shape (Instance d.solid)
              × ((parent : S) (l : ℕ) → NonInstance (new_list j) parent → IsBelow shapes parent l d.shape.shape
              → Kept shapes old new (old_list i) (new_list j) parent → SameInputs shapes old new parent → ⊥)
          each_gone d h =
              let g = done.1.each_gone d h in (
                subst (λ x. Has x d.shape.shape (Instance d.solid)) o.3 (unranked-Has o.1 d.shape (Instance d.solid) g.0),
                λ parent l is below keeps same.
                    let q = non_ranked parent is in
                    let kq = from_shape shapes old new laws i j quiet_old quiet_new o w q.0 q.1 (subst (Kept shapes old new (old_list i) (new_list j)) (sym q.2) keeps) in
                    let oq = kept_old shapes old new laws i j quiet_old quiet_new o w q.0 kq.0 kq.1 in
                    let sq = inputs_ranked shapes old new laws i j quiet_old quiet_new o w q.0 q.1 oq (subst (SameInputs shapes old new) (sym q.2) same) in
                    elim ((steps.in_order (ranked_world shapes old) (is_world shapes old laws.was) o.0 o.1 o.2).under d.shape (Instance d.solid) g.0) [
                      | inl root ↦ absurd (path_not_empty (shapes.path parent) l (sym below.1 ∙ root))
                      | inr e ↦
                          let path = (snoc-same (shapes.path e.0.shape) (shapes.path parent) e.1 l (sym e.3.path ∙ below.1)).0 in
                          let lot : shapes.lot e.0.shape ≡ shapes.lot parent = sym e.3.lot ∙ below.0 in
                          let one = old_distinct e.0 q.0 Done oq.0 e.2 oq.1 (lot ∙ sym (ap shapes.lot q.2)) (path ∙ sym (ap shapes.path q.2)) in
                          g.1 e.0 e.1 e.3 (subst (agenda.Kept edit o.1 w.1) (sym one) kq) (subst (agenda.SameInputs edit o.1 w.1) (sym one) sq)
                    ],
              )

          each_come : (d : Drawn (Ranked S) P) → Among d come
              → Has (new_list j) d.shape.shape (Instance d.solid)
              × ((parent : S) × (l : ℕ) × IsBelow shapes parent l d.shape.shape
              × Touched shapes old new (old_list i) (new_list j) parent)
          each_come d h =
              let g = done.1.each_come d h in
              let t = g.1.3 in (
                subst (λ x. Has x d.shape.shape (Instance d.solid)) w.3 (unranked-Has w.1 d.shape (Instance d.solid) g.0),
                (g.1.0.shape, g.1.1, (g.1.2.lot, g.1.2.path), (touched shapes old new laws i j quiet_old quiet_new o w g.1.0 t.0).0 t),
              )

          gone_once : Once (map unranked_drawn gone)
          gone_once = Once-map unranked_drawn gone done.1.gone_once (λ x y a b e.
              let shape = old_distinct x.shape y.shape (Instance x.solid) (Instance y.solid)
              (done.1.each_gone x a).0 (done.1.each_gone y b).0 (λ t. shapes.lot (e t).shape) (λ t. shapes.path (e t).shape) in
              λ t. record { shape = shape t; solid = (e t).solid })

          come_once : Once (map unranked_drawn come)
          come_once = Once-map unranked_drawn come done.1.come_once (λ x y a b e.
              let shape = new_one x.shape y.shape (Instance x.solid) (Instance y.solid) (done.1.each_come x a).0 (done.1.each_come y b).0 (λ t. (e t).shape) in
              λ t. record { shape = shape t; solid = (e t).solid })

          shape_count : (test : Drawn S P → Bool) (C : List (Placed (Ranked S) F P)) (list : List (Placed S F P))
              → map unranked C ≡ list → count_by test (drawn list) ≡ count_by (λ d. test (unranked_drawn d)) (drawn C)
          shape_count test C list e = ap (λ l. count_by test (drawn l)) (sym e) ∙ (ap (count_by test) (drawn-unranked C) ∙ count-map unranked_drawn test (drawn C))

          balance : (test : Drawn S P → Bool)
              → count_by test (drawn (old_list i)) + count_by test (map unranked_drawn come) ≡ count_by test
              (drawn (new_list j)) + count_by test (map unranked_drawn gone)
          balance test =
              let law = done.1.balance (λ d. test (unranked_drawn d)) in
              let one = shape_count test o.1 (old_list i) o.3 in
              let other = shape_count test w.1 (new_list j) w.3 in
              let created = count-map unranked_drawn test come in
              let removed = count-map unranked_drawn test gone in
              omega (arith, law, one, other, created, removed)

          pub end : IsExactRework shapes old new now worked gone come (old_list i) (new_list j)
          end = record {
            work = work;
            size = size;
            budget = λ budget. (
              (λ none. subst (λ n. budget < n) (sym size) (over_to (derivation_of shapes new) laws.is j quiet_new budget none)),
              λ lt. over_from (derivation_of shapes new) laws.is j quiet_new budget (subst (λ n. budget < n) size lt),
            );
            gone_once = gone_once;
            come_once = come_once;
            each_come = each_come;
            each_gone = each_gone;
            balance = balance;
          }

-- when nothing is on the agenda, the rework is exact
pub rework : {S A B F P : Type 0} → ReworkIsExact S A B F P
rework shapes old new laws start now queued turned worked gone come started start_once good now_once kept empty list other (i, e, was) (j, f, is) =
    let settled_old = subst (NothingWaits (derivation_of shapes old)) e was in
    let settled_new = subst (NothingWaits (derivation_of shapes new)) f is in
    let all = end shapes old new laws start started now queued turned worked good gone come kept empty start_once
    now_once i j settled_old settled_new (ranked_run shapes old laws.was i) (ranked_run shapes new laws.is j) in
    subst (λ l. IsExactRework shapes old new now worked gone come l other) (sym e) (subst (IsExactRework shapes old new now worked gone come (reached (derivation_of shapes old) i)) (sym f) all)
