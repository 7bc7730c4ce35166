-- A tree of boxes as contracts see it.
use Rattle.std.specs.Prelude.{◌≡◌, ℕ, zero, suc, ◌+◌, ◌≤◌, ◌<◌, ◌⊎◌, List, [], ◌∷◌, length, map, Bool, true, false, cond, nat_eq, ◌&&◌, Option, Some, None, slice_get}
use Rattle.std.specs.Bool.{⊤}
use Rattle.std.specs.List.{flat_map, filter}
use Rattle.cga_frame.specs.Box.{Box, touches, meets, holds, is_box}
use Rattle.cga_index.specs.Occlusion.{answer_of}
use Rattle.cga_word.specs.declared.answer.Answer.{Answer}
use Rattle.cga_word.specs.declared.target.Target.{Target}
use Rattle.cga_word.specs.declared.target.Target.TheVariants.{Noparent, Active}
use Rattle.cga_index.specs.declared.standing.Standing.{Standing}
use Rattle.cga_index.specs.declared.standing.Standing.TheVariants.{Hidden, Waiting, Finished}

pub record TreeView : Type 0 where
  pub roots : List ℕ
  pub children : ℕ → List ℕ
  pub own : ℕ → Box
  pub hull : ℕ → Box
  pub depth : ℕ → ℕ
  pub standing : ℕ → ℕ → Standing
  pub asks : ℕ → Bool
  pub asking_hull : ℕ → Option Box

abbrev pub Member : List ℕ → ℕ → Type 0
Member [] n = ⊥
Member (x ∷ xs) n = (x ≡ n) ⊎ Member xs n

-- no node stands in the list twice
abbrev pub Apart : List ℕ → Type 0
Apart [] = ⊤
Apart (x ∷ xs) = (Member xs x → ⊥) × Apart xs

-- the box lies in the hull, which there is
abbrev pub LiesIn : Option Box → Box → Type 0
LiesIn hull box = (h : Box) × (hull ≡ Some h) × (holds h box ≡ true)

-- whether a hull touches the box, where there is one
abbrev pub touches_some : Option Box → Box → Bool
touches_some None box = false
touches_some (Some hull) box = touches hull box

-- a node and all below it, at most so many levels
unfoldable pub below : TreeView → ℕ → ℕ → List ℕ
below v zero node = []
below v (suc n) node = node ∷ flat_map (below v n) (v.children node)

unfoldable pub all_nodes : TreeView → List ℕ
all_nodes v = flat_map (below v 257) v.roots

abbrev pub InTree : TreeView → ℕ → Type 0
InTree v node = Member (all_nodes v) node

pub record IsHullTree (v : TreeView) : Type 0 where
  pub roots_once : Apart v.roots
  pub children_once : (n : ℕ) → InTree v n → Apart (v.children n)
  pub one_parent : (a b c : ℕ) → InTree v a → InTree v b → Member (v.children a) c → Member (v.children b) c → a ≡ b
  pub at_root : (r : ℕ) → Member v.roots r → v.depth r ≡ 0
  pub at_child : (n c : ℕ) → InTree v n → Member (v.children n) c → v.depth c ≡ v.depth n + 1
  pub closed : (n c : ℕ) → InTree v n → Member (v.children n) c → InTree v c
  pub shallow : (n : ℕ) → InTree v n → v.depth n ≤ 256
  pub boxed : (n : ℕ) → InTree v n → is_box (v.own n) ≡ true
  pub holds_own : (n : ℕ) → InTree v n → holds (v.hull n) (v.own n) ≡ true
  pub holds_children : (n c : ℕ) → InTree v n → Member (v.children n) c → holds (v.hull n) (v.hull c) ≡ true
  pub asks_own : (n : ℕ) → InTree v n → v.asks n ≡ true → LiesIn (v.asking_hull n) (v.own n)
  pub asks_below : (n c : ℕ) (h : Box) → InTree v n → Member (v.children n) c → v.asking_hull c ≡ Some h
      → LiesIn (v.asking_hull n) h

-- ---- runs of roots: so many places of their list in a row

abbrev pub IsInRun : ℕ → ℕ → ℕ → Type 0
IsInRun from count place = (from ≤ place) × (place < from + count)

-- no root of the run has a hull that touches the box
abbrev pub IsFarRun : TreeView → ℕ → ℕ → Box → Type 0
IsFarRun v from count box = (place c : ℕ) → IsInRun from count place → slice_get v.roots place ≡ Some c → touches (v.hull c) box ≡ false

-- nor has one a hull of those that ask that does
abbrev pub IsQuietRun : TreeView → ℕ → ℕ → Box → Type 0
IsQuietRun v from count box = (place c : ℕ) (h : Box) → IsInRun from count place → slice_get v.roots place ≡ Some c → v.asking_hull c ≡ Some h → touches h box ≡ false

-- whether a node of this standing is asked about
abbrev pub counts_for : Target → Standing → Bool
counts_for Noparent Hidden = false
counts_for Noparent Waiting = true
counts_for Noparent Finished = true
counts_for Active Hidden = false
counts_for Active Waiting = true
counts_for Active Finished = false

-- the boxes of those of the nodes that the node's question of this target is about
abbrev pub asked : TreeView → ℕ → Target → List ℕ → List Box
asked v by target nodes = map v.own (filter (λ n. counts_for target (v.standing n by)) nodes)

unfoldable pub answer_over : TreeView → ℕ → Target → List ℕ → Answer
answer_over v by target nodes = answer_of (v.own by) (asked v by target nodes)

-- whether the node asks and its box meets the area
abbrev pub is_asker : TreeView → Box → ℕ → Bool
is_asker v area n = v.asks n && meets (v.own n) area

unfoldable pub askers : TreeView → Box → List ℕ → List ℕ
askers v area nodes = filter (is_asker v area) nodes

-- the list has each node of the tree that asks and whose box meets the area, once, and no other
pub record ListsAskers (v : TreeView) (area : Box) (list : List ℕ) : Type 0 where
  pub all : (n : ℕ) → InTree v n → v.asks n ≡ true → meets (v.own n) area ≡ true → Member list n
  pub only : (n : ℕ) → Member list n → InTree v n × (v.asks n ≡ true) × (meets (v.own n) area ≡ true)
  pub once : Apart list

abbrev pub total : (ℕ → ℕ) → List ℕ → ℕ
total f [] = 0
total f (n ∷ ns) = f n + total f ns

-- the number of children of a node whose hull touches the box
abbrev pub open_children : TreeView → Box → ℕ → ℕ
open_children v box n = cond (touches (v.hull n) box) (length (v.children n)) 0

unfoldable pub near : TreeView → ℕ → ℕ
near v node = length v.roots + total (open_children v (v.own node)) (all_nodes v)

-- how many nodes the walk reads from this one on: the asking node's own box is at hand
unfoldable pub reads : TreeView → ℕ → ℕ → ℕ → ℕ
reads v by zero node = 0
reads v by (suc n) node = cond (nat_eq node by) 0 1 + cond (touches (v.hull node) (v.own by)) (total (reads v by n) (v.children node)) 0

-- how many nodes it comes to
unfoldable pub visits : TreeView → ℕ → ℕ → ℕ → ℕ
visits v by zero node = 0
visits v by (suc n) node = 1 + cond (touches (v.hull node) (v.own by)) (total (visits v by n) (v.children node)) 0
