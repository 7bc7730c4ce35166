-- A child as it is placed below its parent, and with its new priority.
use Rattle.std.proofs.Common.{◌≡◌, ℕ, List, [], ◌∷◌, ◌++◌, true, false, inl, inr, refl, ap, sym, ◌∙◌}
use Rattle.std.specs.Prelude.{Some}
use Rattle.cga_tree.specs.Tree.{Seen, View}
use Rattle.cga_order.specs.World.{is_instance}
use Rattle.cga_order.specs.declared.placed.Placed.{Placed}
use Rattle.cga_order.specs.declared.placed.Kind.{Kind}
use Rattle.cga_order.specs.declared.placed.Kind.TheVariants.{Waiting, Done, Faulted, Instance}
use Rattle.cga_agenda.specs.Work.{renewed_child, first_kind}
use Rattle.cga_rework.specs.Rules.{Shapes, Rules}
use Rattle.cga_rework.specs.Ranked.{Ranked, last_of, with_last, renewed_as, placed_as, placed, edit_of}
use Rattle.cga_rework.specs.Nodes.{Content, ranked_of, placed_of}
use Rattle.cga_rework.specs.City.{IsCity}
use Rattle.cga_rework.proofs.NodeLists.{option_cases}
use Rattle.cga_rework.proofs.Place.{parent_of}
use Rattle.cga_rework.proofs.Worlds.{with_last-snoc}

last_from-snoc : (p : ℕ) (ps : List ℕ) (q : ℕ) → last_of (p ∷ (ps ++ q ∷ [])) ≡ q
last_from-snoc p [] q = refl
last_from-snoc p (r ∷ ps) q = last_from-snoc r ps q

pub last-snoc : (ps : List ℕ) (q : ℕ) → last_of (ps ++ q ∷ []) ≡ q
last-snoc [] q = refl
last-snoc (p ∷ ps) q = last_from-snoc p ps q

-- a list that is one number longer than another, or of one
abbrev pub EndsWith : List ℕ → ℕ → Type 0
EndsWith line p = (above : List ℕ) × (line ≡ above ++ p ∷ [])

pub last_is : (line : List ℕ) (p : ℕ) → EndsWith line p → last_of line ≡ p
last_is line p (above, e) = ap last_of e ∙ last-snoc above p

-- what renewing changes of kinds
pub first_alike : {F P : Type 0} (k : Kind F P) → is_instance k ≡ is_instance (first_kind k)
first_alike Waiting = refl
first_alike Done = refl
first_alike (Faulted f) = refl
first_alike (Instance p) = refl

pub first_same : {F P : Type 0} (k : Kind F P) → is_instance (first_kind k) ≡ true → k ≡ first_kind k
first_same Waiting h = refl
first_same Done h = let z : false ≡ true = h in absurd (cc)
first_same (Faulted f) h = let z : false ≡ true = h in absurd (cc)
first_same (Instance p) h = refl

pub first_plain : {F P : Type 0} (k : Kind F P) → is_instance (first_kind k) ≡ false → is_instance k ≡ false
first_plain k h = first_alike k ∙ h

-- what has its symbol's priority stays when it is renewed
pub renew_same : {S F P : Type 0} (priority : S → ℕ) (n : Ranked S) (k : Kind F P) (front : List ℕ) (last : ℕ)
    → n.priorities ≡ front ++ last ∷ [] → (is_instance k ≡ false → last ≡ priority n.shape)
    → ◌≡◌ {A = Placed (Ranked S) F P} (renewed_as priority n k) (record { shape = n; kind = k })
renew_same {S} {F} {P} priority n k front last e q = by k q
  where
    same : last ≡ priority n.shape → with_last (priority n.shape) n.priorities ≡ n.priorities
    same q = ap (with_last (priority n.shape)) e ∙ with_last-snoc (priority n.shape) last front ∙ ap (λ p. front ++ p ∷ []) (sym q) ∙ sym e

    by : (j : Kind F P) → (is_instance j ≡ false → last ≡ priority n.shape)
        → ◌≡◌ {A = Placed (Ranked S) F P} (renewed_as priority n j) (record { shape = n; kind = j })
    by Waiting q = let z = same (q refl) in λ i. record { shape = record { shape = n.shape; priorities = z i }; kind = Waiting }
    by Done q = let z = same (q refl) in λ i. record { shape = record { shape = n.shape; priorities = z i }; kind = Done }
    by (Faulted f) q = let z = same (q refl) in λ i. record { shape = record { shape = n.shape; priorities = z i }; kind = Faulted f }
    by (Instance p) q = refl

module _ {X S A B F P : Type 0} (shapes : Shapes S) (content : Content X S A F P) (rules : Rules S A B F P) where
  -- each line ends with its node's priority
  pub ends_with : (V : View X) → IsCity shapes content rules V → (c : ℕ) (d : Seen X) → V c ≡ Some d
      → EndsWith (content.line d.node) (content.priority d.node)
  ends_with V city c d v = elim (option_cases d.parent) [
    | inl top ↦ ([], (city.root c d v top).line)
    | inr up ↦
        let u = parent_of shapes content rules V city c up.0 d v up.1 in
        (content.line u.0.node, (city.child c up.0 d u.0 v up.1 u.1).line)
  ]

  -- a child that stands at its place below a node is as the theory places it
  pub placed_below : (above : List ℕ) (own : ℕ) → EndsWith above own → (y : X)
      → content.line y ≡ above ++ content.priority y ∷ []
      → (is_instance (content.kind y) ≡ false → content.priority y ≡ rules.priority (content.shape y))
      → (is_instance (content.kind y) ≡ true → content.priority y ≡ own)
      → placed rules.priority above (placed_of content y) ≡ record
      { shape = ranked_of content y; kind = content.kind y }
  placed_below above own ends y line new solid = by (content.kind y) refl
    where
      shown : (p : ℕ) → content.priority y ≡ p → above ++ p ∷ [] ≡ content.line y
      shown p e = ap (λ q. above ++ q ∷ []) (sym e) ∙ sym line

      by : (k : Kind F P) → content.kind y ≡ k
          → ◌≡◌ {A = Placed (Ranked S) F P} (placed_as rules.priority above (content.shape y) k)
          (record { shape = ranked_of content y; kind = k })
      by Waiting e = let q = shown (rules.priority (content.shape y)) (new (ap is_instance e)) in λ i. record { shape = record { shape = content.shape y; priorities = q i }; kind = Waiting }
      by Done e = let q = shown (rules.priority (content.shape y)) (new (ap is_instance e)) in λ i. record { shape = record { shape = content.shape y; priorities = q i }; kind = Done }
      by (Faulted f) e = let q = shown (rules.priority (content.shape y)) (new (ap is_instance e)) in λ i. record { shape = record { shape = content.shape y; priorities = q i }; kind = Faulted f }
      by (Instance p) e = let q = shown (last_of above) (solid (ap is_instance e)
          ∙ sym (last_is above own ends)) in λ i. record { shape = record { shape = content.shape y; priorities = q i }; kind = Instance p }

  -- and so is one from before, with its new priority
  pub renewed_below : (old : Rules S A B F P) (above : List ℕ) (x y : X)
      → content.line x ≡ above ++ content.priority x ∷ [] → content.line y ≡ above ++ content.priority y ∷ []
      → content.shape y ≡ content.shape x → content.kind y ≡ first_kind (content.kind x)
      → (is_instance (content.kind y) ≡ false → content.priority y ≡ rules.priority (content.shape y))
      → (is_instance (content.kind y) ≡ true → content.priority y ≡ content.priority x)
      → renewed_child (edit_of shapes old rules) (ranked_of content x) (content.kind x) ≡ record
      { shape = ranked_of content y; kind = content.kind y }
  renewed_below old above x y line_x line_y shape kind new solid =
      by (first_kind (content.kind x)) refl ∙ ap (λ k. record { shape = ranked_of content y; kind = k }) (sym kind)
    where
      own : (p : ℕ) → content.priority y ≡ p → with_last p (content.line x) ≡ content.line y
      own p e = ap (with_last p) line_x ∙ with_last-snoc p (content.priority x) above ∙ ap (λ q. above ++ q ∷ []) (sym e) ∙ sym line_y

      back : content.shape x ≡ content.shape y
      back = sym shape

      fresh : is_instance (content.kind y) ≡ false → content.priority y ≡ rules.priority (content.shape x)
      fresh i = new i ∙ ap rules.priority shape

      by : (k : Kind F P) → first_kind (content.kind x) ≡ k
          → ◌≡◌ {A = Placed (Ranked S) F P} (renewed_as rules.priority (ranked_of content x) k)
          (record { shape = ranked_of content y; kind = k })
      by Waiting e = let q = own (rules.priority (content.shape x)) (fresh (ap is_instance (kind ∙ e))) in λ i. record { shape = record { shape = back i; priorities = q i }; kind = Waiting }
      by Done e = let q = own (rules.priority (content.shape x)) (fresh (ap is_instance (kind ∙ e))) in λ i. record { shape = record { shape = back i; priorities = q i }; kind = Done }
      by (Faulted f) e = let q = own (rules.priority (content.shape x)) (fresh (ap is_instance (kind ∙ e))) in λ i. record { shape = record { shape = back i; priorities = q i }; kind = Faulted f }
      by (Instance p) e =
          let same = solid (ap is_instance (kind ∙ e)) in
          let q : content.line x ≡ content.line y = line_x ∙ ap (λ r. above ++ r ∷ []) (sym same) ∙ sym line_y in
          λ i. record { shape = record { shape = back i; priorities = q i }; kind = Instance p }
