-- The steps of a replacement together.
use Rattle.std.proofs.Common.{◌≡◌, ◌≢◌, ℕ, ◌+◌, ◌-◌, ◌<◌, ◌≤◌, List, length, Bool, true, false, refl, ap, sym, ◌∙◌, subst}
use Rattle.std.specs.Prelude.{Option, Some, None, is_some, slice_get}
use Rattle.cga_forest.specs.declared.slot_entry.SlotEntry.{SlotEntry}
use Rattle.cga_forest.specs.declared.node.Node.{Node}
use Rattle.cga_forest.specs.declared.node.NodeState.{NodeState}
use Rattle.cga_forest.specs.Node.{fits, with_state}
use Rattle.cga_forest.specs.View.{Seen, kids, flag_if, present_of, marked_of, hulls_of, marked_hulls_of, rewritten}
use Rattle.cga_forest.proofs.Place.{some_kept}
use Rattle.cga_forest.proofs.Places.{InPlace-replaced}
use Rattle.cga_forest.specs.Tree.{InPlace, IsInner, IsWhole, HaveFew, RightBut, depth_at, goes, stay_of, IsPlaced}
use Rattle.cga_tree.specs.Tree.{IsTree}
use Rattle.cga_tree.specs.Replaced.{IsReplaced}
use Rattle.cga_forest.proofs.Under.{kids_flag}
use Rattle.cga_forest.proofs.Present.{present_some, kids_present, depth_present}
use Rattle.cga_forest.proofs.Replace.{IsTree-replaced}
use Rattle.cga_forest.proofs.Few.{few-replaced}
use Rattle.cga_forest.proofs.Goes.{vacant, replaced, right_but, mark_kept, mark_hulls_kept}

some_flag : (b : Bool) (s : Option SlotEntry) → is_some (flag_if b s) ≡ is_some s
some_flag false s = refl
some_flag true None = refl
some_flag true (Some e) = refl

module _ (s0 s1 : ℕ → Option SlotEntry) (id : ℕ) (e : Seen) (was : present_of (s0 id) ≡ Some e)
    (tree : IsTree (λ c. present_of (s0 c))) (gone : ℕ → Bool) (dropped : (c : ℕ) → s1 c ≡ flag_if (gone c) (s0 c)) where
  pub dropped_kids : kids (s1 id) ≡ e.children
  dropped_kids = ap kids (dropped id) ∙ kids_flag (gone id) (s0 id) ∙ kids_present (s0 id) e was

  there : (c : ℕ) (d : Seen) → present_of (s0 c) ≡ Some d → is_some (s1 c) ≡ true
  there c d t = let w = present_some (s0 c) d t in ap is_some (dropped c) ∙ some_flag (gone c) (s0 c) ∙ ap is_some w.1

  pub dropped_here : is_some (s1 id) ≡ true
  dropped_here = there id e was

  pub kids_there : (i k : ℕ) → slice_get (kids (s1 id)) i ≡ Some k → is_some (s1 k) ≡ true
  kids_there i k g = let d = tree.down id i k e was (ap (λ xs. slice_get xs i) (sym dropped_kids) ∙ g) in there k d.0 d.1

module _ (s0 s1 s2 s3 : ℕ → Option SlotEntry) (id depth n : ℕ) (marking : Bool) (made : List ℕ) (news : List Node) (state : NodeState) (e : Seen)
    (was : present_of (s0 id) ≡ Some e) (low : 0 < length news → e.depth < 256) (deep : depth ≡ e.depth + 1) (fuel : n ≡ 256 - e.depth)
    (whole : IsWhole (λ c. present_of (s0 c)) (λ c. hulls_of (s0 c)))
    (dropped : (c : ℕ) → s1 c ≡ flag_if (goes (λ d. kids (s0 d)) n (λ k w. stay_of (s0 k) w) (kids (s0 id)) news (length (kids (s0 id))) c) (s0 c))
    (placed : IsPlaced s1 s2 id depth marking (kids (s1 id)) news made) (sized : length made ≡ length news)
    (others : (c : ℕ) → c ≢ id → s3 c ≡ s2 c) (changed : present_of (s3 id) ≡ rewritten state made (present_of (s2 id))) where
  abbrev pub gone : ℕ → Bool
  gone c = goes (λ d. kids (s0 d)) n (λ k w. stay_of (s0 k) w) e.children news (length e.children) c

  dropped_seen : (c : ℕ) → s1 c ≡ flag_if (gone c) (s0 c)
  dropped_seen c = dropped c ∙ ap (λ xs. flag_if (goes (λ d. kids (s0 d)) n (λ k w. stay_of (s0 k) w) xs news (length xs) c) (s0 c)) (kids_present (s0 id) e was)

  placed_seen : IsPlaced s1 s2 id depth marking e.children news made
  placed_seen = subst (λ (xs : List ℕ). IsPlaced s1 s2 id depth marking xs news made) (dropped_kids s0 s1 id e was whole.tree gone dropped_seen) placed

  pub assembled : IsReplaced fits (λ c. present_of (s0 c)) (λ c. present_of (s3 c)) id news e (record e { node = with_state state e.node; children = made }) gone
  assembled = replaced s0 s1 s2 s3 id depth n marking made news state e was low deep fuel whole.tree gone (λ c. refl) dropped_seen placed_seen sized others changed

  abbrev pub gone_slots : ℕ → Bool
  gone_slots c = goes (λ d. kids (s0 d)) n (λ k w. stay_of (s0 k) w) (kids (s0 id)) news (length (kids (s0 id))) c

  pub assembled_slots : IsReplaced fits (λ c. present_of (s0 c)) (λ c. present_of (s3 c)) id news e (record e { node = with_state state e.node; children = made }) gone_slots
  assembled_slots = subst (λ (xs : List ℕ). IsReplaced fits (λ c. present_of (s0 c)) (λ c. present_of (s3 c)) id
      news e (record e { node = with_state state e.node; children = made })
      (λ c. goes (λ d. kids (s0 d)) n (λ k w. stay_of (s0 k) w) xs news (length xs) c)) (sym (kids_present (s0 id) e was)) assembled

  -- the node itself isn't set aside
  pub still_here : s2 id ≡ s0 id
  still_here =
      some_kept s1 s2 id (placed.rest id) (s1 id) refl (dropped_here s0 s1 id e was whole.tree gone dropped_seen)
      ∙ dropped_seen id ∙ ap (λ b. flag_if b (s0 id)) assembled.self

  pub vacant_after : (c : ℕ) (d : Seen) → present_of (s0 c) ≡ None → present_of (s3 c) ≡ Some d → s0 c ≡ None
  vacant_after c d h t = vacant s0 s1 s2 s3 id depth n marking made news state e was low deep fuel whole.tree gone (λ c. refl) dropped_seen placed_seen sized others changed c d h t

  pub tree_after : IsTree (λ c. present_of (s3 c))
  tree_after = IsTree-replaced (λ c. present_of (s0 c)) (λ c. present_of (s3 c)) id news e (record e { node = with_state state e.node; children = made }) gone assembled whole.tree

  pub places_after : IsInner e state news → InPlace (λ c. present_of (s3 c))
  places_after inner = InPlace-replaced (λ c. present_of (s0 c)) (λ c. present_of (s3 c)) id state news made e gone assembled whole.tree tree_after whole.places inner

  pub few_after : length news ≤ 4096 → HaveFew (λ c. present_of (s3 c))
  few_after few = few-replaced (λ c. present_of (s0 c)) (λ c. present_of (s3 c)) id news e (record e { node = with_state state e.node; children = made }) gone assembled whole.tree few whole.few

  pub here_after : is_some (present_of (s3 id)) ≡ true
  here_after = ap is_some assembled.is

  pub depth_after : depth_at (s3 id) ≡ depth_at (s0 id)
  depth_after = depth_present (s3 id) (record e { node = with_state state e.node; children = made }) assembled.is ∙ sym (depth_present (s0 id) e was)

  pub right_after : hulls_of (s3 id) ≡ hulls_of (s2 id) → RightBut (λ c. present_of (s3 c)) (λ c. hulls_of (s3 c)) id
  right_after h = right_but s0 s1 s2 s3 id depth n marking made news state e was low deep fuel whole.tree gone (λ c. refl) dropped_seen placed_seen sized others changed whole.right h

  pub mark_after : marking ≡ true → marked_of (s3 id) ≡ marked_of (s2 id)
      → marked_hulls_of (s3 id) ≡ marked_hulls_of (s2 id) → (c : ℕ) → marked_of (s3 c) ≡ marked_of (s0 c)
  mark_after on m h = mark_kept s0 s1 s2 s3 id depth n marking made news state e was low deep fuel whole.tree gone (λ c. refl) dropped_seen placed_seen sized others changed on m h

  pub mark_hulls_after : marking ≡ true → marked_of (s3 id) ≡ marked_of (s2 id)
      → marked_hulls_of (s3 id) ≡ marked_hulls_of (s2 id) → (c : ℕ) → marked_hulls_of (s3 c) ≡ marked_hulls_of (s0 c)
  mark_hulls_after on m h = mark_hulls_kept s0 s1 s2 s3 id depth n marking made news state e was low deep fuel whole.tree gone (λ c. refl) dropped_seen placed_seen sized others changed on m h
