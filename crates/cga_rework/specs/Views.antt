-- What the list of a view is: how long it is, and what of it a node that asks is told by the walk.
use Rattle.std.specs.Prelude.{◌≡◌, ℕ, zero, suc, ◌+◌, List, Option, Some, None, Bool, true, false, not, ◌&&◌}
use Rattle.std.specs.Ordering.{is_lt}
use Rattle.cga_tree.specs.Tree.{Seen, View}
use Rattle.cga_order.specs.Stamp.{stamp_cmp}
use Rattle.cga_order.specs.World.{Among, is_instance}
use Rattle.cga_rework.specs.Rules.{Shapes, Rules}
use Rattle.cga_rework.specs.Nodes.{Content, kept_key}

abbrev pub one_if : {X : Type 0} → Option X → ℕ
one_if None = 0
one_if (Some x) = 1

-- how many of the numbers below a bound name a node
abbrev pub count_of : {X : Type 0} → View X → ℕ → ℕ
count_of T zero = 0
count_of T (suc n) = one_if (T n) + count_of T n

module _ {X S A F P : Type 0} (shapes : Shapes S) (content : Content X S A F P) (T : View X) where
  -- the node's stamp comes before that of q
  abbrev pub comes_before : Option (Seen X) → X → Bool
  comes_before None q = false
  comes_before (Some d) q = is_lt (stamp_cmp shapes.mode (kept_key content shapes d.node) (kept_key content shapes q))

  -- a root is there at each stamp, and any other from its parent's stamp on
  abbrev pub there_at : X → Option ℕ → Bool
  there_at q None = true
  there_at q (Some p) = comes_before (T p) q

  -- the node exists at the stamp of q
  abbrev pub exists_then : X → Seen X → Bool
  exists_then q d = there_at q d.parent

  -- and it waits: it is no instance and comes later
  abbrev pub waits_then : X → Seen X → Bool
  waits_then q d =
      exists_then q d && not (is_instance (content.kind d.node))
      && is_lt (stamp_cmp shapes.mode (kept_key content shapes q) (kept_key content shapes d.node))

-- the shapes that a walk counts for q: all that pass the test, are seen and are there, and none but those
-- that are there and pass
pub record IsCounted {X S A B F P : Type 0} (content : Content X S A F P) (rules : Rules S A B F P) (T : View X) (q : X) (test : Seen X → Bool) (counted : List S) : Type 0 where
  pub is : (s : S) → Among s counted
      → (c : ℕ) × (d : Seen X) × (T c ≡ Some d) × (test d ≡ true) × (content.shape d.node ≡ s)
  pub all : (c : ℕ) (d : Seen X) → T c ≡ Some d → test d ≡ true
      → rules.sees (content.shape q) (content.shape d.node) ≡ true → Among (content.shape d.node) counted
