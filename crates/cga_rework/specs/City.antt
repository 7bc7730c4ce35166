-- A kept tree that stands where the shapes of its nodes say: between turns, and when it stands for rules.
use Rattle.std.specs.Prelude.{◌≡◌, ◌⊎◌, ℕ, [], ◌∷◌, ◌++◌, Some, None, Bool, true, false}
use Rattle.cga_tree.specs.Tree.{Seen, View, IsTree}
use Rattle.cga_order.specs.World.{Among, is_instance}
use Rattle.cga_agenda.specs.Work.{IsStart}
use Rattle.cga_rework.specs.Rules.{Shapes, Rules}
use Rattle.cga_rework.specs.Ranked.{edit_of}
use Rattle.cga_rework.specs.Exact.{IsBelow}
use Rattle.cga_rework.specs.Nodes.{Content, nodes_of, IsBound}

module _ {X S A F P : Type 0} (shapes : Shapes S) (content : Content X S A F P) where
  -- x stands at the top of a lot
  pub record StandsOnTop (x : X) : Type 0 where
    pub inner : is_instance (content.kind x) ≡ false
    pub path : shapes.path (content.shape x) ≡ []
    pub line : content.line x ≡ content.priority x ∷ []

  -- y stands where child i of x does; an instance has its parent's symbol
  pub record StandsBelow (x : X) (i : ℕ) (y : X) : Type 0 where
    pub inner : is_instance (content.kind x) ≡ false
    pub place : IsBelow shapes (content.shape x) i (content.shape y)
    pub line : content.line y ≡ content.line x ++ content.priority y ∷ []
    pub symbol : is_instance (content.kind y) ≡ true → content.symbol y ≡ content.symbol x

  module _ {B : Type 0} (rules : Rules S A B F P) where
    -- the roots are those of the rules, one for each lot
    pub record HasTops (T : View X) : Type 0 where
      pub top : (c : ℕ) (d : Seen X) → T c ≡ Some d → d.parent ≡ None
          → Among (content.shape d.node) rules.roots × (content.priority d.node ≡ rules.priority (content.shape d.node))
      pub tops : (s : S) → Among s rules.roots
          → (c : ℕ) × (d : Seen X) × (T c ≡ Some d) × (d.parent ≡ None) × (content.shape d.node ≡ s)
      pub one_top : (c b : ℕ) (d e : Seen X) → T c ≡ Some d → T b ≡ Some e → d.parent ≡ None → e.parent ≡ None
          → shapes.lot (content.shape d.node) ≡ shapes.lot (content.shape e.node) → c ≡ b

    -- the nodes stand at their places below the roots
    pub record IsCity (T : View X) : Type 0 where
      pub tree : IsTree T
      pub root : (c : ℕ) (d : Seen X) → T c ≡ Some d → d.parent ≡ None → StandsOnTop d.node
      pub child : (c p : ℕ) (d e : Seen X) → T c ≡ Some d → d.parent ≡ Some p → T p ≡ Some e
          → StandsBelow e.node d.index d.node
      -- an instance keeps the priority of its parent
      pub drawn : (c p : ℕ) (d e : Seen X) → T c ≡ Some d → d.parent ≡ Some p → T p ≡ Some e
          → is_instance (content.kind d.node) ≡ true → content.priority d.node ≡ content.priority e.node
      pub tops : HasTops T

    -- where the kept priority of a child isn't its symbol's, its parent is on the agenda
    abbrev pub IsPriced : View X → (ℕ → Bool) → Type 0
    IsPriced T agenda =
        (c p : ℕ) (d e : Seen X) → T c ≡ Some d → d.parent ≡ Some p → T p ≡ Some e → is_instance (content.kind d.node) ≡ false
        → (agenda p ≡ true) ⊎ (content.priority d.node ≡ rules.priority (content.shape d.node))

    -- off the agenda a node asks exactly where its shape does
    abbrev pub AsksRight : (S → Bool) → View X → (ℕ → Bool) → Type 0
    AsksRight asks T agenda =
        (c : ℕ) (d : Seen X) → T c ≡ Some d → is_instance (content.kind d.node) ≡ false
        → (agenda c ≡ true) ⊎ (content.asks d.node ≡ asks (content.shape d.node))

    -- between the turns of the work towards these rules
    pub record IsUnderway (asks : S → Bool) (T : View X) (agenda : ℕ → Bool) : Type 0 where
      pub city : IsCity T
      pub priced : IsPriced T agenda
      pub asking : AsksRight asks T agenda

    -- it stands for the rules: each node is right, has its symbol's priority, and asks where its shape does
    pub record Stands (asks : S → Bool) (T : View X) : Type 0 where
      pub city : IsCity T
      pub started : (n : ℕ) → IsBound T n → IsStart (edit_of shapes rules rules) (nodes_of content T n)
      pub priced : (c : ℕ) (d : Seen X) → T c ≡ Some d → is_instance (content.kind d.node) ≡ false
          → content.priority d.node ≡ rules.priority (content.shape d.node)
      pub asking : (c : ℕ) (d : Seen X) → T c ≡ Some d → is_instance (content.kind d.node) ≡ false
          → content.asks d.node ≡ asks (content.shape d.node)
