-- The agenda of a kept tree: the numbers of the nodes that are to be looked at. Of numbers that name no
-- node nothing is said.
use Rattle.std.specs.Prelude.{◌≡◌, ◌≢◌, ◌⊎◌, ◌↔◌, ℕ, List, Some, None, Bool, true, false, nat_eq}
use Rattle.std.specs.List.{list_any}
use Rattle.cga_tree.specs.Tree.{Seen, View}
use Rattle.cga_order.specs.World.{is_instance}
use Rattle.cga_rework.specs.Rules.{Shapes}
use Rattle.cga_rework.specs.Ranked.{Ranked}
use Rattle.cga_rework.specs.Nodes.{Content, ranked_of, ComesLater}

-- the numbers that the entries of a map name
abbrev pub numbered : {K : Type 0} → List (K × ℕ) → ℕ → Bool
numbered entries c = list_any (λ entry. nat_eq entry.1 c) entries

module _ {X S A F P : Type 0} (shapes : Shapes S) (content : Content X S A F P) where
  -- that the nodes are queued, said of ranked shapes
  abbrev pub AreQueued : View X → (ℕ → Bool) → (Ranked S → Bool) → Type 0
  AreQueued V agenda queued =
      (c : ℕ) (d : Seen X) → V c ≡ Some d → (queued (ranked_of content d.node) ≡ true) ↔ (agenda c ≡ true)

  -- the node e under id was taken, and every other node that was on it stays, and comes later
  pub record IsTaken (V : View X) (id : ℕ) (e : Seen X) (agenda rest : ℕ → Bool) : Type 0 where
    pub here : V id ≡ Some e
    pub there : agenda id ≡ true
    pub left : (c : ℕ) (d : Seen X) → V c ≡ Some d → rest c ≡ true
        → (c ≢ id) × (agenda c ≡ true) × ComesLater content shapes e.node d.node
    pub stay : (c : ℕ) (d : Seen X) → V c ≡ Some d → agenda c ≡ true → c ≢ id → rest c ≡ true

  -- what the turn of e makes of the rest: meets says which asker meets which box
  pub record IsMoved (meets : S → S → Bool) (V T : View X) (e : X) (rest after : ℕ → Bool) : Type 0 where
    pub kept : (c : ℕ) (x d : Seen X) → V c ≡ Some x → T c ≡ Some d → rest c ≡ true → after c ≡ true
    -- what came is on it
    pub created : (c : ℕ) (d : Seen X) → V c ≡ None → T c ≡ Some d → is_instance (content.kind d.node) ≡ false
        → after c ≡ true
    -- for each box that went and each that came: each asker of greater stamp that meets it
    pub removed : (b c : ℕ) (x d : Seen X) → V b ≡ Some x → T b ≡ None → T c ≡ Some d
        → is_instance (content.kind d.node) ≡ false → content.asks d.node ≡ true
        → meets (content.shape d.node) (content.shape x.node) ≡ true
        → ComesLater content shapes e d.node → after c ≡ true
    pub arrived : (b c : ℕ) (x d : Seen X) → V b ≡ None → T b ≡ Some x → T c ≡ Some d
        → is_instance (content.kind d.node) ≡ false → content.asks d.node ≡ true
        → meets (content.shape d.node) (content.shape x.node) ≡ true
        → ComesLater content shapes e d.node → after c ≡ true
    -- and nothing else: what is on it was left, or came, or comes later
    pub only : (c : ℕ) (d : Seen X) → T c ≡ Some d → after c ≡ true
        → ((x : Seen X) × (V c ≡ Some x) × (rest c ≡ true)) ⊎ ((V c ≡ None) ⊎ ComesLater content shapes e d.node)
