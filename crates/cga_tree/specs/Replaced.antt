-- What a tree becomes where one node's children are replaced: an old child stays at its place, with all below it, where it
-- fits the content asked for there, and all others go.
use Rattle.std.specs.Prelude.{◌≡◌, ◌≢◌, ◌⊎◌, ℕ, ◌+◌, ◌<◌, List, [], length, Option, Some, None, Bool, true, false, not, slice_get, if◌then◌else◌}
use Rattle.cga_tree.specs.Tree.{Seen, View}

module _ {X : Type 0} where
  -- an old child stays where the new list has a content at its place that it fits
  abbrev pub fits_at : (X → X → Bool) → X → Option X → Bool
  fits_at fits old None = false
  fits_at fits old (Some new) = fits old new

  -- a child that came
  pub record IsNewChild (T : View X) (id depth i : ℕ) (w : X) (c : ℕ) : Type 0 where
    pub seen : Seen X
    pub here : T c ≡ Some seen
    pub node : seen.node ≡ w
    pub parent : seen.parent ≡ Some id
    pub index : seen.index ≡ i
    pub deeper : seen.depth ≡ depth + 1
    pub leaf : seen.children ≡ []

  -- the child at a place of the new list is the old one there, or it came
  abbrev pub IsChildNow : View X → View X → ℕ → Seen X → (ℕ → Bool) → X → ℕ → ℕ → Type 0
  IsChildNow S T id e gone w i c = ((slice_get e.children i ≡ Some c) × (gone c ≡ false)) ⊎ ((S c ≡ None) × IsNewChild T id e.depth i w c)

  -- what S became: the node e under id has these children now, the gone ones went, and the others are as they were
  pub record IsReplaced (fits : X → X → Bool) (S T : View X) (id : ℕ) (news : List X) (e now : Seen X) (gone : ℕ → Bool) : Type 0 where
    pub was : S id ≡ Some e
    pub is : T id ≡ Some now
    pub depth : now.depth ≡ e.depth
    pub parent : now.parent ≡ e.parent
    pub index : now.index ≡ e.index
    pub low : 0 < length news → e.depth < 256
    -- as many children as were asked for, each the old one at its place or one of the content asked for
    pub sized : length now.children ≡ length news
    pub each : (i c : ℕ) → slice_get now.children i ≡ Some c
        → (w : X) × (slice_get news i ≡ Some w) × IsChildNow S T id e gone w i c
    -- an old child goes exactly where it doesn't fit the content asked for at its place
    pub fate : (i c : ℕ) (d : Seen X) → slice_get e.children i ≡ Some c → S c ≡ Some d
        → gone c ≡ not (fits_at fits d.node (slice_get news i))
    pub stays : (i c : ℕ) → slice_get e.children i ≡ Some c → gone c ≡ false → slice_get now.children i ≡ Some c
    -- no root goes; with a node goes all below it, and nothing else
    pub tops : (c : ℕ) (d : Seen X) → S c ≡ Some d → d.parent ≡ None → gone c ≡ false
    pub into : (c p : ℕ) (d : Seen X) → S c ≡ Some d → d.parent ≡ Some p → gone c ≡ true → p ≢ id → gone p ≡ true
    pub onto : (c p : ℕ) (d : Seen X) → S c ≡ Some d → d.parent ≡ Some p → gone p ≡ true → gone c ≡ true
    pub self : gone id ≡ false
    pub created : (c : ℕ) → S c ≡ None → (T c ≡ None) ⊎ ((i : ℕ) × (slice_get now.children i ≡ Some c))
    pub rest : (c : ℕ) (d : Seen X) → c ≢ id → S c ≡ Some d → T c ≡ (if gone c then None else Some d)
