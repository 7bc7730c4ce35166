-- The tree in which only those nodes ask that last has the same nodes, and keeps the laws.
use Rattle.std.proofs.Common.{◌≡◌, ℕ, zero, suc, ◌∷◌, Bool, true, false, ◌&&◌, refl, sym, subst}
use Rattle.std.specs.Prelude.{Option, Some, None, if◌then◌else◌}
use Rattle.std.specs.List.{flat_map}
use Rattle.cga_frame.specs.Box.{Box}
use Rattle.cga_index.specs.Lasting.{lasting_tree, ParentsLast}
use Rattle.cga_index.specs.Tree.{TreeView, Member, InTree, IsHullTree, IsQuietRun, LiesIn, all_nodes, below}

asks_still : (lasts : Bool) (hull : Option Box) (h : Box) → (if lasts then hull else None) ≡ Some h → hull ≡ Some h
asks_still true hull h e = e
asks_still false hull h e = let z : None ≡ Some h = e in absurd (cc)

own_lies : (lasts asks : Bool) (hull : Option Box) (own : Box) → (asks ≡ true → LiesIn hull own)
    → (lasts && asks) ≡ true → LiesIn (if lasts then hull else None) own
own_lies true asks hull own lies on = lies on
own_lies false asks hull own lies on = let z : false ≡ true = on in absurd (cc)

child_lies : (lasts child : Bool) (hull below : Option Box) (h : Box) → (child ≡ true → lasts ≡ true)
    → (below ≡ Some h → LiesIn hull h) → (if child then below else None) ≡ Some h
    → LiesIn (if lasts then hull else None) h
child_lies lasts true hull below h up lies is = subst (λ b. LiesIn (if b then hull else None) h) (sym (up refl)) (lies is)
child_lies lasts false hull below h up lies is = let z : None ≡ Some h = is in absurd (cc)

module _ (t : TreeView) (lasts : ℕ → Bool) where
  below_same : (n node : ℕ) → below (lasting_tree t lasts) n node ≡ below t n node
  unfolding below
  below_same zero node = refl
  below_same (suc n) node = λ i. node ∷ flat_map (λ c. below_same n c i) (t.children node)

  nodes_same : all_nodes (lasting_tree t lasts) ≡ all_nodes t
  unfolding all_nodes
  nodes_same = λ i. flat_map (λ c. below_same 257 c i) t.roots

  -- and the other way round
  pub in_whole : (n : ℕ) → InTree (lasting_tree t lasts) n → InTree t n
  in_whole n m = subst (λ l. Member l n) nodes_same m

  -- a node of the tree is one of the tree in which those ask that last
  pub in_lasting : (n : ℕ) → InTree t n → InTree (lasting_tree t lasts) n
  in_lasting n m = subst (λ l. Member l n) (sym nodes_same) m

  -- who asks in it asks in the whole
  pub quiet_too : (from count : ℕ) (area : Box) → IsQuietRun t from count area
      → IsQuietRun (lasting_tree t lasts) from count area
  quiet_too from count area quiet place c h within at is =
      quiet place c h within at (asks_still (lasts c) (t.asking_hull c) h is)

  -- where the parents of what lasts last, that tree keeps the laws of hulls
  pub lasting_laws : IsHullTree t → ParentsLast t lasts → IsHullTree (lasting_tree t lasts)
  lasting_laws k up = record {
    roots_once = k.roots_once;
    children_once = λ n m. k.children_once n (in_whole n m);
    one_parent = λ a b c ma mb ca cb. k.one_parent a b c (in_whole a ma) (in_whole b mb) ca cb;
    at_root = k.at_root;
    at_child = λ n c m h. k.at_child n c (in_whole n m) h;
    closed = λ n c m h. in_lasting c (k.closed n c (in_whole n m) h);
    shallow = λ n m. k.shallow n (in_whole n m);
    boxed = λ n m. k.boxed n (in_whole n m);
    holds_own = λ n m. k.holds_own n (in_whole n m);
    holds_children = λ n c m h. k.holds_children n c (in_whole n m) h;
    asks_own = λ n m on. own_lies (lasts n) (t.asks n) (t.asking_hull n) (t.own n) (k.asks_own n (in_whole n m)) on;
    asks_below = λ n c b m h is. child_lies (lasts n) (lasts c) (t.asking_hull n) (t.asking_hull c) b (up n c (in_whole n m) h)
        (k.asks_below n c b (in_whole n m) h) is;
  }
