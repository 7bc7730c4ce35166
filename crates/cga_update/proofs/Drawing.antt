-- The instances among the nodes that went or came, as the theory lists them and as they are reported.
use Rattle.std.proofs.Common.{◌≡◌, ◌⊎◌, inl, inr, ℕ, List, [], ◌∷◌, map, refl, sym, ap, ◌∙◌, subst, Option, Some, None}
use Rattle.cga_index.specs.Tree.{Apart, Member}
use Rattle.cga_word.specs.declared.primitive.Primitive.{Primitive}
use Rattle.cga_order.specs.World.{Among}
use Rattle.cga_order.specs.declared.placed.Kind.{Kind}
use Rattle.cga_order.specs.declared.placed.Kind.TheVariants.{Waiting, Done, Faulted, Instance}
use Rattle.cga_agenda.specs.Record.{Drawn}
use Rattle.cga_order.specs.Once.{Once}
use Rattle.cga_rework.specs.Changes.{ListsLost}
use Rattle.cga_rework.specs.Ranked.{Ranked}
use Rattle.cga_shape.specs.declared.drawn.Drawn as reported
use Rattle.cga_shape.specs.declared.shape.Shape.{Shape}
use Rattle.cga_shape.specs.declared.shape_fault.ShapeFault.{ShapeFault}
use Rattle.cga_forest.specs.declared.node_change.NodeChange.{NodeChange}
use Rattle.cga_forest.specs.declared.node.Node.{Node}
use Rattle.cga_forest.specs.NodeChange.{ListsOnlyIn, ids_of, moved_of, primitive_of}
use Rattle.cga_forest.specs.View.{Seen}
use Rattle.cga_update.specs.Edit.{content, ranked}
use Rattle.cga_update.specs.Log.{drawn_before, drawn_of}
use Rattle.cga_update.specs.Means.{told_ranked}

abbrev Lost : Type 0
Lost = Drawn (Ranked Shape) Primitive

abbrev lost_by : Node → Kind ShapeFault Primitive → List Lost → List Lost
lost_by n Waiting rest = rest
lost_by n Done rest = rest
lost_by n (Faulted f) rest = rest
lost_by n (Instance p) rest = record { shape = ranked n; solid = p } ∷ rest

abbrev lost_at : Option Seen → List Lost → List Lost
lost_at None rest = rest
lost_at (Some d) rest = lost_by d.node d.node.kind rest

module _ (V T : ℕ → Option Seen) (one : (c b : ℕ) (d e : Seen) → V c ≡ Some d → V b ≡ Some e → d.node.shape ≡ e.node.shape → c ≡ b) where
  -- the instances of V under these numbers
  abbrev lost_of : List NodeChange → List Lost
  lost_of [] = []
  lost_of (m ∷ ms) = lost_at (V m.id) (lost_of ms)

  -- each is what is told of a node of V
  abbrev AreOf : List NodeChange → Type 0
  AreOf ms = (m : NodeChange) → Among m ms → (c : ℕ) × (d : Seen) × (V c ≡ Some d) × (m ≡ moved_of c d)

  seen_at : (m : NodeChange) (c : ℕ) (d : Seen) → V c ≡ Some d → m ≡ moved_of c d → V m.id ≡ Some d
  seen_at m c d v is = ap V (ap (λ (x : NodeChange). x.id) is) ∙ v

  told_one : (m : NodeChange) (d : Seen) (k : Kind ShapeFault Primitive) (rest : List Lost) (ms : List reported.Drawn)
      → m.lot ≡ d.node.shape.lot → m.symbol ≡ d.node.shape.symbol → m.scope ≡ d.node.shape.scope
      → map told_ranked rest ≡ ms → map told_ranked (lost_by d.node k rest) ≡ drawn_before m (primitive_of k) ms
  told_one m d Waiting rest ms a b c e = e
  told_one m d Done rest ms a b c e = e
  told_one m d (Faulted f) rest ms a b c e = e
  told_one m d (Instance p) rest ms a b c e = λ i. record { lot = sym a i; symbol = sym b i; primitive = p; scope = sym c i } ∷ e i

  told_lost : (ms : List NodeChange) → AreOf ms → map told_ranked (lost_of ms) ≡ drawn_of ms
  unfolding drawn_of
  told_lost [] each = refl
  told_lost (m ∷ ms) each =
      let w = each m (inl refl) in
      let at = seen_at m w.0 w.1 w.2 w.3 in
      ap (λ o. map told_ranked (lost_at o (lost_of ms))) at
      ∙ (told_one m w.1 w.1.node.kind (lost_of ms) (drawn_of ms) (ap (λ (x : NodeChange). x.lot) w.3)
      (ap (λ (x : NodeChange). x.symbol) w.3) (ap (λ (x : NodeChange). x.scope) w.3) (told_lost ms (λ x h. each x (inr h)))
      ∙ ap (λ o. drawn_before m o (drawn_of ms)) (sym (ap (λ (x : NodeChange). x.primitive) w.3)))

  -- an instance of V under one of these numbers
  abbrev IsLost : List NodeChange → Lost → Type 0
  IsLost ms x = (m : NodeChange) × Among m ms × ((d : Seen) × (V m.id ≡ Some d) × (ranked d.node ≡ x.shape) × (d.node.kind ≡ Instance x.solid))

  by_from : (n : Node) (k : Kind ShapeFault Primitive) (rest : List Lost) (x : Lost) → Among x (lost_by n k rest)
      → ((ranked n ≡ x.shape) × (k ≡ Instance x.solid)) ⊎ Among x rest
  by_from n Waiting rest x h = inr h
  by_from n Done rest x h = inr h
  by_from n (Faulted f) rest x h = inr h
  by_from n (Instance p) rest x h = elim h [
    | inl e ↦ inl (ap (λ (y : Lost). y.shape) e, ap (λ (y : Lost). Instance y.solid) e)
    | inr r ↦ inr r
  ]

  by_to : (n : Node) (k : Kind ShapeFault Primitive) (rest : List Lost) (x : Lost) → Among x rest
      → Among x (lost_by n k rest)
  by_to n Waiting rest x h = h
  by_to n Done rest x h = h
  by_to n (Faulted f) rest x h = h
  by_to n (Instance p) rest x h = inr h

  from_slot : (m : NodeChange) (ms : List NodeChange) (x : Lost) → (Among x (lost_of ms) → IsLost ms x)
      → (o : Option Seen)
      → V m.id ≡ o → Among x (lost_at o (lost_of ms)) → IsLost (m ∷ ms) x
  from_slot m ms x more None is h = let w = more h in (w.0, inr w.1, w.2)
  from_slot m ms x more (Some d) is h = elim (by_from d.node d.node.kind (lost_of ms) x h) [
    | inl e ↦ (m, inl refl, (d, is, e.0, e.1))
    | inr r ↦ (let w = more r in (w.0, inr w.1, w.2))
  ]

  lost_from : (ms : List NodeChange) (x : Lost) → Among x (lost_of ms) → IsLost ms x
  lost_from [] x h = absurd h
  lost_from (m ∷ ms) x h = from_slot m ms x (lost_from ms x) (V m.id) refl h

  to_slot : (o : Option Seen) (rest : List Lost) (x : Lost) → Among x rest → Among x (lost_at o rest)
  to_slot None rest x h = h
  to_slot (Some d) rest x h = by_to d.node d.node.kind rest x h

  to_here : (m : NodeChange) (rest : List Lost) (x : Lost) (d : Seen) → V m.id ≡ Some d → ranked d.node ≡ x.shape
      → d.node.kind ≡ Instance x.solid → Among x (lost_at (V m.id) rest)
  to_here m rest x d at shape kind =
      subst (λ o. Among x (lost_at o rest)) (sym at)
      (subst (λ k. Among x (lost_by d.node k rest)) (sym kind) (inl (λ i. record { shape = shape i; solid = x.solid })))

  lost_to : (ms : List NodeChange) (x : Lost) (y : NodeChange) (d : Seen) → Among y ms → V y.id ≡ Some d
      → ranked d.node ≡ x.shape
      → d.node.kind ≡ Instance x.solid → Among x (lost_of ms)
  lost_to [] x y d h at shape kind = absurd h
  lost_to (m ∷ ms) x y d (inl e) at shape kind = to_here m (lost_of ms) x d (ap (λ (z : NodeChange). V z.id) e ∙ at) shape kind
  lost_to (m ∷ ms) x y d (inr h) at shape kind = to_slot (V m.id) (lost_of ms) x (lost_to ms x y d h at shape kind)

  id_among : (ms : List NodeChange) (m : NodeChange) → Among m ms → Member (ids_of ms) m.id
  id_among [] m h = absurd h
  id_among (x ∷ ms) m (inl e) = inl (ap (λ (y : NodeChange). y.id) e)
  id_among (x ∷ ms) m (inr h) = inr (id_among ms m h)

  once_by : (n : Node) (k : Kind ShapeFault Primitive) (rest : List Lost) → Once rest
      → ((p : Primitive) → k ≡ Instance p → Among (record { shape = ranked n; solid = p }) rest → ⊥)
      → Once (lost_by n k rest)
  once_by n Waiting rest once new = once
  once_by n Done rest once new = once
  once_by n (Faulted f) rest once new = once
  once_by n (Instance p) rest once new = (new p refl, once)

  once_slot : (m : NodeChange) (ms : List NodeChange) → (Member (ids_of ms) m.id → ⊥) → Once (lost_of ms)
      → (o : Option Seen)
      → V m.id ≡ o → Once (lost_at o (lost_of ms))
  once_slot m ms new once None is = once
  once_slot m ms new once (Some d) is = once_by d.node d.node.kind (lost_of ms) once (λ p kind h.
      let w = lost_from ms (record { shape = ranked d.node; solid = p }) h in
      let same : m.id ≡ w.0.id = one m.id w.0.id d w.2.0 is w.2.1 (sym (ap (λ (r : Ranked Shape). r.shape) w.2.2)) in
      new (subst (λ n. Member (ids_of ms) n) (sym same) (id_among ms w.0 w.1)))

  once_lost : (ms : List NodeChange) → Apart (ids_of ms) → Once (lost_of ms)
  once_lost [] apart = tt
  once_lost (m ∷ ms) apart = once_slot m ms apart.0 (once_lost ms apart.1) (V m.id) refl

  -- what went, as the theory lists it and as it is reported
  pub lists_lost : (removed : List NodeChange) → ListsOnlyIn V T removed
      → (list : List Lost) × ListsLost content V T list × (map told_ranked list ≡ drawn_of removed)
  lists_lost removed lists = (
    lost_of removed,
    record {
      once = once_lost removed lists.once;
      each = λ x. (to x, from x);
    },
    told_lost removed (λ m h. let w = (lists.each m).0 h in (w.0, w.1, w.2, w.4)),
  )
    where
      to : (x : Lost) → Among x (lost_of removed)
          → (c : ℕ) × (d : Seen) × (V c ≡ Some d) × (T c ≡ None) × (ranked d.node ≡ x.shape)
          × (d.node.kind ≡ Instance x.solid)
      to x h =
          let w = lost_from removed x h in
          let p = (lists.each w.0).0 w.1 in
          let id : p.0 ≡ w.0.id = sym (ap (λ (m : NodeChange). m.id) p.4) in
          (w.0.id, w.2.0, w.2.1, ap T (sym id) ∙ p.3, w.2.2, w.2.3)

      from : (x : Lost)
          → ((c : ℕ) × (d : Seen) × (V c ≡ Some d) × (T c ≡ None) × (ranked d.node ≡ x.shape)
          × (d.node.kind ≡ Instance x.solid))
          → Among x (lost_of removed)
      from x w = lost_to removed x (moved_of w.0 w.1) w.1 ((lists.each (moved_of w.0 w.1)).1 (w.0, w.1, w.2, w.3, refl)) w.2 w.4 w.5
