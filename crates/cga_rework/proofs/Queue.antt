-- Told of numbers, an agenda can be told of ranked shapes; and the numbers that a map's entries name.
use Rattle.std.proofs.Common.{◌≡◌, ℕ, zero, suc, ◌<◌, List, [], ◌∷◌, Bool, true, false, ◌&&◌, ◌||◌, inl, inr, refl, ap, sym, ◌∙◌, arith, eqb-true, eq-eqb}
use Rattle.std.specs.Prelude.{Option, Some, None, nat_eq}
use lib.Pointwise.{pointwise, bytes_decides}
use Rattle.cga_tree.specs.Tree.{Seen, View}
use Rattle.cga_rework.specs.Rules.{Shapes, Rules}
use Rattle.cga_rework.specs.Ranked.{Ranked}
use Rattle.cga_rework.specs.Nodes.{Content, ranked_of, IsBound}
use Rattle.cga_rework.specs.City.{IsCity}
use Rattle.cga_rework.specs.Agenda.{AreQueued, numbered}
use Rattle.cga_rework.specs.TreeLaws.{EmptyIsNone, EntriesNumber}
use Rattle.cga_rework.proofs.NodeLists.{bool_cases, nat_cases, true_false, keeps-node}
use Rattle.cga_rework.proofs.Place.{same_node}
use Rattle.std.proofs.lemmas.Bool.{and_from as and_true, and_parts as and_cases, or_cases, or_left, or_right}

module _ {X S A F P : Type 0} (shapes : Shapes S) (content : Content X S A F P) (V : View X) (agenda : ℕ → Bool) where
  abbrev lot : Seen X → List ℕ
  lot d = shapes.lot (content.shape d.node)

  abbrev path : Seen X → List ℕ
  path d = shapes.path (content.shape d.node)

  -- the node is on the agenda and stands where n does
  abbrev at_place : Option (Seen X) → Bool → Ranked S → Bool
  at_place None q n = false
  at_place (Some d) q n = q && (pointwise nat_eq (lot d) (shapes.lot n.shape) && pointwise nat_eq (path d) (shapes.path n.shape))

  abbrev pub queued_by : ℕ → Ranked S → Bool
  queued_by zero n = false
  queued_by (suc b) n = at_place (V b) (agenda b) n || queued_by b n

  abbrev IsThere : Ranked S → Type 0
  IsThere n =
      (c : ℕ) × (d : Seen X) × (V c ≡ Some d) × (agenda c ≡ true) × (lot d ≡ shapes.lot n.shape) × (path d ≡ shapes.path n.shape)

  found : (b : ℕ) (n : Ranked S) → queued_by b n ≡ true → IsThere n
  found zero n h = let z : false ≡ true = h in absurd (cc)
  found (suc b) n h = elim (or_cases (at_place (V b) (agenda b) n) (queued_by b n) h) [
    | inl q ↦ here (V b) refl q
    | inr r ↦ found b n r
  ]
    where
      here : (o : Option (Seen X)) → V b ≡ o → at_place o (agenda b) n ≡ true → IsThere n
      here None e q = let z : false ≡ true = q in absurd (cc)
      here (Some d) e q =
          let x = and_cases (agenda b) (pointwise nat_eq (lot d) (shapes.lot n.shape) && pointwise nat_eq (path d) (shapes.path n.shape)) q in
          let y = and_cases (pointwise nat_eq (lot d) (shapes.lot n.shape)) (pointwise nat_eq (path d) (shapes.path n.shape)) x.1 in
          (b, d, e, x.0, (bytes_decides (lot d) (shapes.lot n.shape)).0 y.0, (bytes_decides (path d) (shapes.path n.shape)).0 y.1)

  finds : (b c : ℕ) (d : Seen X) → c < b → V c ≡ Some d → agenda c ≡ true
      → queued_by b (ranked_of content d.node) ≡ true
  finds zero c d lt v q = absurd (omega arith)
  finds (suc b) c d lt v q = elim (nat_cases c b) [
    | inl is ↦
        let here : at_place (V b) (agenda b) (ranked_of content d.node) ≡ true =
        ap (λ o. at_place o (agenda b) (ranked_of content d.node)) (ap V (sym is) ∙ v)
        ∙ and_true (agenda b) (pointwise nat_eq (lot d) (lot d) && pointwise nat_eq (path d) (path d)) (ap agenda (sym is) ∙ q)
        (and_true (pointwise nat_eq (lot d) (lot d)) (pointwise nat_eq (path d) (path d)) ((bytes_decides (lot d) (lot d)).1 refl) ((bytes_decides (path d) (path d)).1 refl)) in
        or_left (at_place (V b) (agenda b) (ranked_of content d.node)) (queued_by b (ranked_of content d.node)) here
    | inr ne ↦ or_right (at_place (V b) (agenda b) (ranked_of content d.node)) (queued_by b (ranked_of content d.node)) (finds b c d (omega arith) v q)
  ]

  pub are_queued : {B : Type 0} (rules : Rules S A B F P) → IsCity shapes content rules V → (n : ℕ) → IsBound V n
      → AreQueued shapes content V agenda (queued_by n)
  are_queued rules city n bound c d v = (
    λ h.
        let x = found n (ranked_of content d.node) h in
        let q = same_node shapes content rules V city x.0 c x.1 d x.2 v (x.4, x.5) in
        ap agenda (sym q.0) ∙ x.3,
    λ h. finds n c d (bound c d v) v h,
  )

-- where no node is on the agenda, nothing is queued
pub empty_is_none : {X S A B F P : Type 0} → EmptyIsNone X S A B F P
empty_is_none shapes content old new V n agenda queued bound are none m k a h =
    let y = keeps-node content V n m k a h in
    elim (bool_cases (queued m)) [
      | inl q ↦ true_false (agenda y.0) ((are y.0 y.1 y.2).0 (ap queued y.3 ∙ q)) (none y.0 y.1 y.2)
      | inr f ↦ f
    ]

pub entries_number : {K : Type 0} → EntriesNumber K
entries_number {K} [] c = (λ h. let z : false ≡ true = h in absurd (cc), λ x. absurd x.1)
entries_number {K} (x ∷ xs) c = (
  λ h. elim (or_cases (nat_eq x.1 c) (numbered xs c) h) [
    | inl q ↦ (x.0, inl (let e = eqb-true x.1 c q in λ i. (x.0, e i)))
    | inr r ↦ let y = (entries_number xs c).0 r in (y.0, inr y.1)
  ],
  λ y. elim y.1 [
    | inl e ↦ or_left (nat_eq x.1 c) (numbered xs c) (eq-eqb x.1 c (ap (λ p. p.1) e))
    | inr r ↦ or_right (nat_eq x.1 c) (numbered xs c) ((entries_number xs c).1 (y.0, r))
  ],
)
