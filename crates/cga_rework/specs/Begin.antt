-- The beginning of an edit: the roots that went and came, and the first agenda.
use Rattle.std.specs.Prelude.{◌≡◌, ◌≢◌, ◌⊎◌, ℕ, [], Some, None, Bool, true, false, if◌then◌else◌}
use Rattle.cga_tree.specs.Tree.{Seen, View}
use Rattle.cga_order.specs.World.{is_instance}
use Rattle.cga_order.specs.declared.placed.Kind.TheVariants.{Waiting}
use Rattle.cga_rework.specs.Rules.{Shapes, Rules}
use Rattle.cga_rework.specs.Nodes.{Content}
use Rattle.cga_rework.specs.City.{IsPriced, AsksRight}

module _ {X S A F P : Type 0} (content : Content X S A F P) where
  -- what removing roots and adding roots makes of a view
  pub record IsRerooted (V T : View X) (gone : ℕ → Bool) : Type 0 where
    pub rest : (c : ℕ) (d : Seen X) → V c ≡ Some d → T c ≡ (if gone c then None else Some d)
    -- with a node goes all below it, and nothing else
    pub along : (c p : ℕ) (d : Seen X) → V c ≡ Some d → d.parent ≡ Some p → gone c ≡ gone p
    -- what came is a root that waits
    pub top : (c : ℕ) (d : Seen X) → V c ≡ None → T c ≡ Some d → d.parent ≡ None
    pub leaf : (c : ℕ) (d : Seen X) → V c ≡ None → T c ≡ Some d → d.children ≡ []
    pub waits : (c : ℕ) (d : Seen X) → V c ≡ None → T c ≡ Some d → content.kind d.node ≡ Waiting
    -- and isn't equal to a root that was there
    pub other : (c b : ℕ) (d x : Seen X) → V c ≡ None → T c ≡ Some d → V b ≡ Some x → x.parent ≡ None
        → content.shape x.node ≡ content.shape d.node → content.priority x.node ≡ content.priority d.node → ⊥

  -- a removal: with a node goes all below it
  pub record IsRemoved (U T : View X) (removed : ℕ → Bool) : Type 0 where
    pub rest : (c : ℕ) → T c ≡ (if removed c then None else U c)
    pub along : (c p : ℕ) (d : Seen X) → U c ≡ Some d → d.parent ≡ Some p → removed c ≡ removed p

  -- an addition to U, under a number that names no node of the first view V either
  pub record IsAdded (V U T : View X) (id : ℕ) (x : Seen X) : Type 0 where
    pub vacant : U id ≡ None
    pub unmarked : V id ≡ None
    pub here : T id ≡ Some x
    pub others : (c : ℕ) → c ≢ id → T c ≡ U c
    pub top : x.parent ≡ None
    pub leaf : x.children ≡ []
    pub waits : content.kind x.node ≡ Waiting
    pub other : (b : ℕ) (y : Seen X) → V b ≡ Some y → y.parent ≡ None
        → content.shape y.node ≡ content.shape x.node → content.priority y.node ≡ content.priority x.node → ⊥

module _ {X S A B F P : Type 0} (shapes : Shapes S) (content : Content X S A F P) (old new : Rules S A B F P) where
  -- the first agenda
  pub record IsFirstAgenda (asks : S → Bool) (meets : S → S → Bool) (V T : View X) (agenda : ℕ → Bool) : Type 0 where
    pub created : (c : ℕ) (d : Seen X) → V c ≡ None → T c ≡ Some d → agenda c ≡ true
    -- for each box that went or came: each asker that meets it, at any stamp
    pub removed : (b c : ℕ) (x d : Seen X) → V b ≡ Some x → T b ≡ None → T c ≡ Some d
        → is_instance (content.kind d.node) ≡ false → content.asks d.node ≡ true
        → meets (content.shape d.node) (content.shape x.node) ≡ true → agenda c ≡ true
    pub arrived : (b c : ℕ) (x d : Seen X) → V b ≡ None → T b ≡ Some x → T c ≡ Some d
        → is_instance (content.kind d.node) ≡ false → content.asks d.node ≡ true
        → meets (content.shape d.node) (content.shape x.node) ≡ true → agenda c ≡ true
    -- each node whose group changed, or an attribute that it mentions
    pub changed : (c : ℕ) (d : Seen X) → T c ≡ Some d → is_instance (content.kind d.node) ≡ false
        → (agenda c ≡ true)
        ⊎ (old.setting (content.shape d.node) ≡ new.setting (content.shape d.node))
    -- the parent of each node whose symbol has another priority
    pub priced : IsPriced shapes content new T agenda
    -- whatever is off it asks where its shape does
    pub asking : AsksRight shapes content new asks T agenda
