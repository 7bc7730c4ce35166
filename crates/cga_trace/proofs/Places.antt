-- The places of turns and nodes, and the stamps that nodes keep.
use Rattle.std.proofs.Common.{◌≡◌, ℕ, zero, suc, ◌+◌, ◌-◌, List, [], ◌∷◌, ◌++◌, length, map, true, false, cond, refl}
use Rattle.std.proofs.Common.{sym, ap, ◌∙◌, subst, inl, inr, Result, Ok, Err, Option, Some, None, arith}
use Rattle.std.proofs.Common.{length-append}
use Rattle.cga_word.specs.declared.answers.Answers.{Answers}
use Rattle.cga_word.specs.declared.primitive.Primitive.{Primitive}
use Rattle.cga_order.specs.Agenda.{members_of}
use Rattle.cga_order.specs.World.{Has, is_instance}
use Rattle.cga_order.specs.declared.placed.Placed.{Placed}
use Rattle.cga_order.specs.declared.placed.Kind.{Kind}
use Rattle.cga_order.specs.declared.placed.Kind.TheVariants.{Waiting, Done, Faulted}
use Rattle.cga_derivation.proofs.Door.{Has-erased, chain-is, erase-sites, first_of-Has, first_of-passes, good-at, waiting_kind}
use Rattle.cga_expand.proofs.Door.{sources_are_derivations}
use Rattle.cga_fraction.proofs.Door.{cases_Option as option_cases}
use Rattle.cga_order.proofs.Door.{Has-Keeps, snoc-same}
use Rattle.cga_rework.proofs.Door.{Has-unranked, keeps, keeps-node, parent_of, rank, start_stands, unranked-Has}
use Rattle.std.proofs.lemmas.Bool.{and_parts as both}
use Rattle.cga_order.proofs.Door as steps
use Rattle.cga_derivation.specs.Derivation.{Derivation, become, same_place, is_next, next_of, outcome, told, step, step_by, reached, NothingWaits}
use Rattle.cga_derivation.specs.Sites.{Site, chain_of, erase, fitted, sites, world_of}
use Rattle.cga_derivation.specs.Stamps.{chain_in}
use Rattle.cga_shape.specs.declared.shape.Shape.{Shape}
use Rattle.cga_shape.specs.declared.shape_fault.ShapeFault.{ShapeFault}
use Rattle.cga_shape.specs.declared.sources.Sources.{Sources}
use Rattle.cga_shape.specs.declared.trace_step.TraceStep.{TraceStep}
use Rattle.cga_expand.specs.Children.{Member}
use Rattle.cga_expand.specs.Derivation.{derivation_of, priority_of, NamesDiffer}
use Rattle.cga_rework.specs.Exact.{StandsFor}
use Rattle.cga_rework.specs.Ranked.{Ranked}
use Rattle.cga_forest.specs.Node.{chain_kept}
use Rattle.cga_forest.specs.View.{Seen}
use Rattle.cga_forest.specs.Tree.{ForestView, node_at}
use Rattle.cga_trace.specs.Kept.{shapes_of, rules_of, content, NodesStand, IsInner, TurnsAreKept, ChainsAreKept}
use Rattle.cga_trace.specs.Sorted.{IsTold}
use Rattle.cga_trace.proofs.Kept.{are, bounded, keeps_of, nodes, top}
use Rattle.cga_trace.proofs.Sorted.{early}

-- ---- a member that is no instance stays one

module _ {N A F P : Type 0} (derivation : Derivation N A F P) (s : N) where
  abbrev Inner : List (Placed N F P) → Type 0
  Inner list = (j : Kind F P) × Has list s j × (is_instance j ≡ false)

  become_has : (list : List (Placed N F P)) (x : N) (kind : Kind F P) → is_instance kind ≡ false → Inner list
      → Inner (map (become derivation x kind) list)
  become_has [] x kind k h = absurd h.1
  become_has (m ∷ ms) x kind k (j, h, i) = elim h [
    | inl e ↦ elim (same_place derivation m.shape x) as (λ b. Inner (cond b (record { shape = m.shape; kind = kind }) m ∷ map (become derivation x kind) ms)) [
      | true ↦ (kind, inl (e.0, refl), k)
      | false ↦ (j, inl e, i)
    ]
    | inr r ↦ let w = become_has ms x kind k (j, r, i) in (w.0, inr w.1, w.2)
  ]

  has_left : (xs ys : List (Placed N F P)) → Inner xs → Inner (xs ++ ys)
  has_left [] ys h = absurd h.1
  has_left (x ∷ xs) ys (j, h, i) = elim h [ inl e ↦ (j, inl e, i) | inr r ↦ let w = has_left xs ys (j, r, i) in (w.0, inr w.1, w.2) ]

  told_has : (list : List (Placed N F P)) (x : N) (r : Result (List (Placed N F P)) F) → Inner list
      → Inner (told derivation list x r)
  told_has list x (Ok cs) h = has_left (map (become derivation x Done) list) cs (become_has list x Done refl h)
  told_has list x (Err f) h = become_has list x (Faulted f) refl h

  step_has : (list : List (Placed N F P)) (o : Option (Placed N F P)) → Inner list → Inner (step_by derivation list o)
  step_has list None h = h
  step_has list (Some m) h = told_has list m.shape (outcome derivation list m.shape) h

  stays : (n k : ℕ) → Inner (reached derivation n) → Inner (reached derivation (k + n))
  unfolding reached step
  stays n zero h = let e : 0 + n ≡ n = omega arith in subst (λ j. Inner (reached derivation j)) (sym e) h
  stays n (suc k) h =
      let e : suc k + n ≡ suc (k + n) = omega arith in
      subst (λ j. Inner (reached derivation j)) (sym e) (step_has (reached derivation (k + n)) (next_of derivation (reached derivation (k + n))) (stays n k h))

module _ (sources : Sources) (differ : NamesDiffer sources.lots) (end : ℕ)
    (quiet : NothingWaits (derivation_of sources) (reached (derivation_of sources) end)) (v : ForestView) (stands : NodesStand sources v) where
  abbrev D : Derivation Shape Answers ShapeFault Primitive
  D = derivation_of sources

  abbrev list : List Member
  list = reached (derivation_of sources) end

  for : StandsFor (shapes_of sources) (rules_of sources) (nodes sources differ v stands) list
  for = start_stands (shapes_of sources) (rules_of sources) (are sources differ v stands) (rules_of sources)
      (nodes sources differ v stands) (stands.started (top sources differ v stands) (bounded sources differ v stands)) list (end, refl, quiet)

  -- a member is a node
  node_of : (s : Shape) (k : Kind ShapeFault Primitive) → Has list s k → is_instance k ≡ false
      → (c : ℕ) × (d : Seen) × IsInner v c d × (d.node.shape ≡ s)
  node_of s k h inner =
      let r = Has-unranked (members_of (nodes sources differ v stands)) s k ((for.members s k).1 h) in
      let a = keeps_of (nodes sources differ v stands) r.0 k r.1 in
      let b = keeps-node content (node_at v) (top sources differ v stands) r.0 k a.0 a.1 in
      (b.0, b.1, (b.2, ap is_instance b.4 ∙ inner), ap (λ (n : Ranked Shape). n.shape) b.3 ∙ r.2)

  -- and a node is a member
  member_of : (c : ℕ) (d : Seen) → node_at v c ≡ Some d → Has list d.node.shape d.node.kind
  member_of c d t =
      let kept = keeps (shapes_of sources) content (rules_of sources) (node_at v) stands.city (top sources differ v stands) (bounded sources differ v stands) c d t in
      let has = Has-Keeps (nodes sources differ v stands) (rank (shapes_of sources) content (rules_of sources) d.node) d.node.kind d.node.answers kept in
      (for.members d.node.shape d.node.kind).0 (unranked-Has (members_of (nodes sources differ v stands)) (rank (shapes_of sources) content (rules_of sources) d.node) d.node.kind has)

  turn_kept : (n : ℕ) (t : TraceStep) → IsTold sources n t
      → (c : ℕ) × (d : Seen) × IsInner v c d × (d.node.shape.lot ≡ t.lot) × (d.node.shape.path ≡ t.path)
  turn_kept n t (m, e, is) =
      let lt = early sources end quiet n m e in
      let gap : (end - n) + n ≡ end = omega (arith, lt) in
      let now = reached (derivation_of sources) n in
      let kind = waiting_kind m.kind (both _ _ (first_of-passes (is_next D now) now m e)).0 in
      let here : Inner D m.shape now = (Waiting, subst (Has now m.shape) kind (first_of-Has (is_next D now) now m e), refl) in
      let there = subst (λ j. Inner D m.shape (reached D j)) gap (stays D m.shape n (end - n) here) in
      let w = node_of m.shape there.0 there.1 there.2 in
      (w.0, w.1, w.2, ap (λ (s : Shape). s.lot) w.3 ∙ ap (λ (u : TraceStep). u.lot) (sym is), ap (λ (s : Shape). s.path) w.3 ∙ ap (λ (u : TraceStep). u.path) (sym is))

  -- ---- chains

  abbrev C : List (Placed (Site Shape) ShapeFault Primitive)
  C = sites (derivation_of sources) end

  good : steps.IsOrdered (world_of D) C
  good = good-at D (sources_are_derivations sources differ) end

  site_of : (s : Shape) (k : Kind ShapeFault Primitive) → Has list s k → (st : Site Shape) × Has C st k × (st.shape ≡ s)
  site_of s k h = Has-erased C s k (subst (λ l. Has l s k) (sym (erase-sites D end)) h)

  abbrev LineIs : Seen → Site Shape → Type 0
  LineIs d st = d.node.line ≡ (chain_of D st).priorities

  top_line : (c : ℕ) (d : Seen) → IsInner v c d → d.parent ≡ None → (st : Site Shape) → st.shape ≡ d.node.shape
      → LineIs d st
  top_line c d (t, inner) none st same =
      let top = stands.city.root c d t none in
      let path : st.shape.path ≡ [] = ap (λ (s : Shape). s.path) same ∙ top.path in
      let own : d.node.priority ≡ priority_of sources.grammar st.shape.symbol = stands.priced c d t inner ∙ ap (λ (s : Shape). priority_of sources.grammar s.symbol) (sym same) in
      top.line ∙ (λ i. fitted (length (sym path i)) st.above ++ own i ∷ [])

  below_line : (c p : ℕ) (d e : Seen) → IsInner v c d → d.parent ≡ Some p → node_at v p ≡ Some e
      → ((u : Site Shape) → Has C u Done → u.shape ≡ e.node.shape → LineIs e u)
      → (st : Site Shape) (k : Kind ShapeFault Primitive) → Has C st k → st.shape ≡ d.node.shape → LineIs d st
  below_line c p d e (t, inner) up te known st k h same =
      let below = stands.city.child c p d e t up te in
      let path : st.shape.path ≡ e.node.shape.path ++ d.index ∷ [] = ap (λ (s : Shape). s.path) same ∙ below.place.1 in
      elim (good.under st k h) [
        | inl root ↦
            let z : 0 ≡ length e.node.shape.path + 1 = sym (ap length root) ∙ (ap length path ∙ length-append e.node.shape.path (d.index ∷ [])) in
            absurd (omega (arith, z))
        | inr (u, i, hu, child) ↦
            let upath = (snoc-same u.shape.path e.node.shape.path i d.index (sym child.path ∙ path)).0 in
            let ulot : u.shape.lot ≡ e.node.shape.lot = sym child.lot ∙ (ap (λ (s : Shape). s.lot) same ∙ below.place.0) in
            let et = site_of e.node.shape e.node.kind (member_of p e te) in
            let one = good.distinct u et.0 Done e.node.kind hu et.1 (λ j. ((ulot ∙ ap (λ (s : Shape). s.lot) (sym et.2)) j, (upath ∙ ap (λ (s : Shape). s.path) (sym et.2)) j)) in
            let line = known u hu (ap (λ (x : Site Shape). x.shape) one.0 ∙ et.2) in
            let last = (snoc-same (fitted (length st.shape.path) st.above) (chain_of D u).priorities (priority_of sources.grammar st.shape.symbol) child.priorities.0 child.priorities.1).1 in
            let own : d.node.priority ≡ child.priorities.0 = stands.priced c d t inner ∙ (ap (λ (s : Shape). priority_of sources.grammar s.symbol) (sym same) ∙ last) in
            below.line ∙ ((λ j. line j ++ own j ∷ []) ∙ sym child.priorities.1)
      ]

  line_is : (size c : ℕ) (d : Seen) → IsInner v c d → length d.node.shape.path ≡ size
      → (st : Site Shape) (k : Kind ShapeFault Primitive) → Has C st k → st.shape ≡ d.node.shape → LineIs d st
  line_is zero c d at long st k h same = elim (option_cases d.parent) [
    | inl none ↦ top_line c d at none st same
    | inr (p, up) ↦
        let e = parent_of (shapes_of sources) content (rules_of sources) (node_at v) stands.city c p d at.0 up in
        let below = stands.city.child c p d e.0 at.0 up e.1 in
        let z : length e.0.node.shape.path + 1 ≡ 0 = sym (length-append e.0.node.shape.path (d.index ∷ [])) ∙ (sym (ap length below.place.1) ∙ long) in
        absurd (omega (arith, z))
  ]
  line_is (suc size) c d at long st k h same = elim (option_cases d.parent) [
    | inl none ↦ top_line c d at none st same
    | inr (p, up) ↦
        let e = parent_of (shapes_of sources) content (rules_of sources) (node_at v) stands.city c p d at.0 up in
        let below = stands.city.child c p d e.0 at.0 up e.1 in
        let z : length e.0.node.shape.path + 1 ≡ suc size = sym (length-append e.0.node.shape.path (d.index ∷ [])) ∙ (sym (ap length below.place.1) ∙ long) in
        below_line c p d e.0 at up e.1 (λ u hu us. line_is size p e.0 (e.1, below.inner) (omega (arith, z)) u Done hu us) st k h same
  ]

  chain_kept_is : (c : ℕ) (d : Seen) → IsInner v c d → chain_kept d.node ≡ chain_in D list d.node.shape
  chain_kept_is c d at =
      let st = site_of d.node.shape d.node.kind (member_of c d at.0) in
      let line = line_is (length d.node.shape.path) c d at refl st.0 d.node.kind st.1 st.2 in
      let told = ap (λ ch. ch.priorities) (chain-is D C good st.0 d.node.kind st.1) in
      let same : chain_in D (erase C) st.0.shape ≡ chain_in D list d.node.shape = λ i. chain_in D (erase-sites D end i) (st.2 i) in
      let whole = line ∙ (told ∙ ap (λ ch. ch.priorities) same) in
      λ i. record { lot = d.node.shape.lot; path = d.node.shape.path; priorities = whole i }

pub turns_are_kept : TurnsAreKept
turns_are_kept sources differ end quiet v stands n t told = turn_kept sources differ end quiet v stands n t told

pub chains_are_kept : ChainsAreKept
chains_are_kept sources differ end quiet v stands c d at = chain_kept_is sources differ end quiet v stands c d at
