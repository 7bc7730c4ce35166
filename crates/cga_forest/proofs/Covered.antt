-- Blocks that hold the hulls of the roots.
use Rattle.std.proofs.Common.{◌≡◌, ◌≢◌, ◌⊎◌, inl, inr, ℕ, zero, suc, ◌+◌, ◌*◌, ◌/◌, ◌<◌, ◌≤◌, List, [], ◌∷◌, ◌++◌, length, swap, true, false, refl, ap, sym, subst, ◌∙◌, arith}
use Rattle.std.specs.Prelude.{Option, Some, None, slice_get}
use Rattle.std.proofs.lemmas.List.{length_push}
use Rattle.cga_frame.specs.Box.{Box, touches}
use Rattle.cga_fraction.proofs.Door.{eq_or_ne as nat_cases}
use Rattle.cga_frame.proofs.Door.{touches_up}
use Rattle.std.proofs.lemmas.Bool.{and_parts as both, cases_Bool as bool_cases}
use Rattle.cga_index.specs.Tree.{IsFarRun, IsQuietRun}
use Rattle.cga_kept_hulls.specs.declared.blocks.Blocks.{Blocks}
use Rattle.cga_forest.specs.declared.slot_entry.SlotEntry.{SlotEntry}
use Rattle.cga_kept_hulls.specs.declared.hulls.Hulls.{Hulls}
use Rattle.cga_kept_hulls.specs.Blocks.{Level, IsHeld, IsIn, StaysHeld, block_asks, block_holds, block_touches, opt_touches}
use Rattle.cga_forest.specs.Blocks.{AreCovered, AreCoveredBut, IsCovered, IsWithBlocks}
use Rattle.cga_kept_hulls.specs.Hull.{opt_within}
use Rattle.cga_forest.specs.Roots.{HasRoots}
use Rattle.cga_marked.specs.Map.{KeepsPlaces, Named, ids, id_under}
use Rattle.cga_forest.specs.Tree.{ForestView, hulls_at}
use Rattle.cga_forest.specs.View.{Seen, present_of}
use Rattle.cga_forest.specs.Walked.{all_of, asking_of, forest_tree}
use Rattle.cga_marked.proofs.Door.{contains_at, contains_under, place_once, swap_kept}
use Rattle.cga_forest.proofs.Present.{present_some}

-- ---- lists

-- the roots' ids by their places
pub ids_within : (es : Named) (i c : ℕ) → slice_get (ids es) i ≡ Some c → i < length es
ids_within [] i c h = let x : None ≡ Some c = h in absurd (cc)
ids_within (e ∷ es) zero c h = omega arith
ids_within (e ∷ es) (suc i) c h = let w = ids_within es i c h in omega (arith, w)

pub ids_at : (es : Named) (i c : ℕ) → slice_get (ids es) i ≡ Some c → (n : List ℕ) × (slice_get es i ≡ Some (n, c))
ids_at [] i c h = let x : None ≡ Some c = h in absurd (cc)
ids_at (e ∷ es) zero c h = let x : Some e.1 ≡ Some c = h in let q : e.1 ≡ c = (cc) in (e.0, λ i. Some (e.0, q i))
ids_at (e ∷ es) (suc i) c h = ids_at es i c h

pub at_ids : (es : Named) (i c : ℕ) (n : List ℕ) → slice_get es i ≡ Some (n, c) → slice_get (ids es) i ≡ Some c
at_ids [] i c n h = let x : None ≡ Some (n, c) = h in absurd (cc)
at_ids (e ∷ es) zero c n h = let x : Some e ≡ Some (n, c) = h in let q : e ≡ (n, c) = (cc) in ap (λ (p : List ℕ × ℕ). Some p.1) q
at_ids (e ∷ es) (suc i) c n h = at_ids es i c n h

pushed_ids : (es : Named) (n : List ℕ) (id i c : ℕ) → slice_get (ids (es ++ (n, id) ∷ [])) i ≡ Some c
    → (slice_get (ids es) i ≡ Some c) ⊎ (i ≡ length es)
pushed_ids [] n id zero c h = inr refl
pushed_ids [] n id (suc i) c h = let x : None ≡ Some c = h in absurd (cc)
pushed_ids (e ∷ es) n id zero c h = inl h
pushed_ids (e ∷ es) n id (suc i) c h = elim (pushed_ids es n id i c h) [ inl w ↦ inl w | inr q ↦ inr (omega (arith, q)) ]

-- ---- what an entry of a level holds

-- ---- the roots' hulls are held

-- other nodes, whose hulls are the same where they have some
pub covered_part : (xs : Blocks) (roots left : Named) (H J : ℕ → Option Hulls) → left ≡ roots
    → ((c : ℕ) (h : Hulls) → J c ≡ Some h → H c ≡ Some h) → AreCovered xs roots H → AreCovered xs left J
covered_part xs roots left H J same part a place c h at e = a place c h (subst (λ (l : Named). slice_get (ids l) place ≡ Some c) same at) (part c h e)

pub none_covered : (xs : Blocks) (roots : Named) (H : ℕ → Option Hulls) → roots ≡ [] → AreCovered xs roots H
none_covered xs roots H none place c h at e = let l = ids_within roots place c at in let z = ap length none in absurd (omega (arith, l, z))

-- more blocks, behind all roots
pub covered_made : (xs ys : Blocks) (roots : Named) (H : ℕ → Option Hulls) (count : ℕ) → count ≡ length roots
    → ((place : ℕ) (h : Hulls) → place < count → IsHeld xs place h → IsHeld ys place h) → AreCovered xs roots H
    → AreCovered ys roots H
covered_made xs ys roots H count n made a place c h at e = let lt = ids_within roots place c at in made place h (omega (arith, lt, n)) (a place c h at e)

-- a root that is added, where it comes to stand, and the blocks by turns: with room, with the place where it stands, and
-- with the place at the end
pub record IsRootAdded (S : ℕ → Option Seen) (roots left : Named) (H J : ℕ → Option Hulls) (us vs xs ys : Blocks) (n : List ℕ) (id gap : ℕ) : Type 0 where
  pub known : HasRoots S roots
  pub fresh : S id ≡ None
  pub others : (c : ℕ) → c ≢ id → J c ≡ H c
  pub made : (place : ℕ) (h : Hulls) → place < length roots → IsHeld us place h → IsHeld vs place h
  pub kept : StaysHeld vs xs
  pub more : StaysHeld xs ys
  pub low : gap ≤ length roots
  pub pushed : left ≡ swap (roots ++ (n, id) ∷ []) gap (length roots)
  pub here : IsCovered xs left J gap
  pub there : IsCovered ys left J (length roots)

pub covered_added : (S : ℕ → Option Seen) (roots left : Named) (H J : ℕ → Option Hulls) (us vs xs ys : Blocks)
    (n : List ℕ) (id gap : ℕ) → IsRootAdded S roots left H J us vs xs ys n id gap → AreCovered us roots H
    → AreCovered ys left J
covered_added S roots left H J us vs xs ys n id gap is a place c h at e = elim (nat_cases place gap) [
  | inl q ↦ is.more place h (subst (λ i. IsHeld xs i h) (sym q) (is.here c h (subst (λ i. slice_get (ids left) i ≡ Some c) q at) e))
  | inr ng ↦ elim (nat_cases place (length roots)) [
    | inl q ↦ subst (λ i. IsHeld ys i h) (sym q) (is.there c h (subst (λ i. slice_get (ids left) i ≡ Some c) q at) e)
    | inr nl ↦ (
        let k = ids_at left place c at in
        let long = length_push roots (n, id) in
        let still = swap_kept (roots ++ (n, id) ∷ []) gap (length roots) place (k.0, c)
        (omega (arith, is.low, long)) (omega (arith, long)) ng nl (subst (λ (l : Named). slice_get l place ≡ Some (k.0, c)) is.pushed k.1) in
        elim (pushed_ids roots n id place c (at_ids (roots ++ (n, id) ∷ []) place c k.0 still)) [
          | inl w ↦ (
              let m = ids_at roots place c w in
              let d = is.known.each m.0 c (contains_at roots place (m.0, c) m.1) in
              let apart : c ≢ id = (λ q. let z : None ≡ Some d.0 = sym is.fresh ∙ ap S (sym q) ∙ d.1 in (cc)) in
              is.more place h (is.kept place h (is.made place h (ids_within roots place c w) (a place c h w (sym (is.others c apart) ∙ e)))))
          | inr q ↦ absurd (nl q)
        ])
  ]
]

pub covered_out : (xs ys : Blocks) (roots left : Named) (H : ℕ → Option Hulls) (place : ℕ)
    → KeepsPlaces place roots left → StaysHeld xs ys → IsCovered ys left H place → AreCovered xs roots H
    → AreCovered ys left H
covered_out xs ys roots left H place keeps kept here a i c h at e = elim (nat_cases i place) [
  | inl q ↦ subst (λ k. IsHeld ys k h) (sym q) (here c h (subst (λ k. slice_get (ids left) k ≡ Some c) q at) e)
  | inr n ↦ (
      let m = ids_at left i c at in
      kept i h (a i c h (at_ids roots i c m.0 (keeps i (m.0, c) n m.1)) e))
]

-- a place more
pub covered_next : (xs ys : Blocks) (roots : Named) (H : ℕ → Option Hulls) (from to : ℕ)
    → ((p : ℕ) → from ≤ p → p < to → IsCovered xs roots H p) → StaysHeld xs ys → IsCovered ys roots H to → (p : ℕ)
    → from ≤ p → p < to + 1 → IsCovered ys roots H p
covered_next xs ys roots H from to a kept here p low lt c h at e = elim (nat_cases p to) [
  | inl q ↦ subst (λ i. IsHeld ys i h) (sym q) (here c h (subst (λ i. slice_get (ids roots) i ≡ Some c) q at) e)
  | inr n ↦ kept p h (a p low (omega (arith, lt, n)) c h at e)
]

-- a group is emptied, and its places are gone over
-- one block is made anew, of the places from its first to the last of them that has a root
pub covered_anew : (xs ys zs : Blocks) (roots : Named) (H : ℕ → Option Hulls) (block to : ℕ)
    → ((p : ℕ) → p < length roots → p < 16 * block + 16 → p < to)
    → ((place : ℕ) (h : Hulls) → place / 16 ≢ block → IsHeld xs place h → IsHeld ys place h) → StaysHeld ys zs
    → ((p : ℕ) → 16 * block ≤ p → p < to → IsCovered zs roots H p) → AreCovered xs roots H → AreCovered zs roots H
covered_anew xs ys zs roots H block to reach others kept here a place c h at e =
    let lt = ids_within roots place c at in
    elim (nat_cases (place / 16) block) [
      | inl q ↦ here place (omega (arith, q)) (reach place lt (omega (arith, q))) c h at e
      | inr ne ↦ kept place h (others place h ne (a place c h at e))
    ]

-- a group is made anew of its blocks, where each root has one
pub covered_gathered : (xs ys : Blocks) (roots : Named) (H : ℕ → Option Hulls)
    → ((place : ℕ) → place < length roots → place / 16 < length xs.blocks.hulls.items)
    → ((place : ℕ) (h : Hulls) → place / 16 < length xs.blocks.hulls.items → IsHeld xs place h → IsHeld ys place h)
    → AreCovered xs roots H → AreCovered ys roots H
covered_gathered xs ys roots H there kept a place c h at e =
    kept place h (there place (ids_within roots place c at)) (a place c h at e)

-- ---- one root's hulls change

pub covered_but : (S : ℕ → Option Seen) (roots : Named) (H J : ℕ → Option Hulls) (xs : Blocks) (changed : Option ℕ)
    → HasRoots S roots → ((c : ℕ) (d : Seen) → S c ≡ Some d → d.parent ≡ None → changed ≢ Some c → J c ≡ H c)
    → AreCovered xs roots H → AreCoveredBut changed xs roots J
covered_but S roots H J xs changed r same a place c h n at e =
    let m = ids_at roots place c at in
    let d = r.each m.0 c (contains_at roots place (m.0, c) m.1) in
    a place c h at (sym (same c d.0 d.1 d.2 n) ∙ e)

pub covered_root : (xs ys : Blocks) (roots : Named) (H : ℕ → Option Hulls) (root place : ℕ)
    → AreCoveredBut (Some root) xs roots H → StaysHeld xs ys → IsCovered ys roots H place
    → ((p : ℕ) → slice_get (ids roots) p ≡ Some root → place ≡ p) → AreCovered ys roots H
covered_root xs ys roots H root place a kept here stands p c h at e = elim (nat_cases c root) [
  | inl q ↦ (
      let same : place ≡ p = stands p (at ∙ ap (λ k. Some k) q) in
      subst (λ i. IsHeld ys i h) same (here c h (subst (λ i. slice_get (ids roots) i ≡ Some c) (sym same) at) e))
  | inr n ↦ kept p h (a p c h (λ q. let z : root ≡ c = (cc) in n (sym z)) at e)
]

-- none of them is a root of the list
pub covered_none : (xs : Blocks) (roots : Named) (H : ℕ → Option Hulls) (changed : Option ℕ)
    → AreCoveredBut changed xs roots H → ((p c : ℕ) → changed ≡ Some c → slice_get (ids roots) p ≡ Some c → ⊥)
    → AreCovered xs roots H
covered_none xs roots H changed a none p c h at e = a p c h (λ q. absurd (none p c q at)) at e

-- the slot of a root, and its name
pub root_at : (s : ℕ → Option SlotEntry) (roots : Named) → HasRoots (λ c. present_of (s c)) roots → (root p : ℕ)
    → slice_get (ids roots) p ≡ Some root
    → (n : List ℕ) × (slice_get roots p ≡ Some (n, root)) × ((x : SlotEntry) → s root ≡ Some x → x.node.shape.lot ≡ n)
    × (s root ≡ None → ⊥)
root_at s roots r root p at =
    let m = ids_at roots p root at in
    let d = r.each m.0 root (contains_at roots p (m.0, root) m.1) in
    let w = present_some (s root) d.0 d.1 in (
      m.0,
      m.1,
      (λ x e. let z : Some x ≡ Some w.0 = sym e ∙ w.1 in let y : x ≡ w.0 = (cc) in ap (λ (k : SlotEntry). k.node.shape.lot) y ∙ ap (λ (k : Seen). k.node.shape.lot) w.2 ∙ d.3),
      (λ e. let z : None ≡ Some w.0 = sym e ∙ w.1 in absurd (cc)),
    )

pub place_is : (s : ℕ → Option SlotEntry) (roots : Named) → HasRoots (λ c. present_of (s c)) roots
    → (root place id p : ℕ) (x : SlotEntry) (name : List ℕ) → s root ≡ Some x → name ≡ x.node.shape.lot
    → slice_get roots place ≡ Some (name, id) → slice_get (ids roots) p ≡ Some root → place ≡ p
place_is s roots r root place id p x name here named there at =
    let w = root_at s roots r root p at in
    let same : name ≡ w.0 = named ∙ w.2 x here in
    place_once roots place p w.0 id root r.apart (there ∙ ap (λ (n : List ℕ). Some (n, id)) same) w.1

pub place_there : (s : ℕ → Option SlotEntry) (roots : Named) → HasRoots (λ c. present_of (s c)) roots
    → (root p : ℕ) (x : SlotEntry) (name : List ℕ) → s root ≡ Some x → name ≡ x.node.shape.lot
    → None ≡ id_under roots name → slice_get (ids roots) p ≡ Some root → ⊥
place_there s roots r root p x name here named none at =
    let w = root_at s roots r root p at in
    let same : name ≡ w.0 = named ∙ w.2 x here in
    let z : None ≡ Some root = none ∙ ap (id_under roots) same ∙ contains_under roots w.0 p root r.apart w.1 in absurd (cc)

-- ---- a block that doesn't touch

held_far : (o : Option (Option Hulls)) (h : Hulls) (area : Box) → block_holds o h ≡ true → block_touches o area ≡ false
    → touches h.all area ≡ false
held_far None h area e f = let z : true ≡ false = f in absurd (cc)
held_far (Some None) h area e f = let z : false ≡ true = e in absurd (cc)
held_far (Some (Some k)) h area e f = elim (bool_cases (touches h.all area)) [
  | inl y ↦ absurd (let z : true ≡ false = sym (touches_up h.all k.all area (both _ _ e).0 y) ∙ f in (cc))
  | inr n ↦ n
]

opt_far : (a : Option Box) (b area : Box) → opt_within a (Some b) ≡ true → opt_touches a area ≡ false
    → touches b area ≡ false
opt_far None b area e f = let z : false ≡ true = e in absurd (cc)
opt_far (Some a) b area e f = elim (bool_cases (touches b area)) [
  | inl y ↦ absurd (let z : true ≡ false = sym (touches_up b a area e y) ∙ f in (cc))
  | inr n ↦ n
]

held_quiet : (o : Option (Option Hulls)) (h : Hulls) (b area : Box) → block_holds o h ≡ true → block_asks o area ≡ false
    → h.asking ≡ Some b → touches b area ≡ false
held_quiet None h b area e f s = let z : true ≡ false = f in absurd (cc)
held_quiet (Some None) h b area e f s = let z : false ≡ true = e in absurd (cc)
held_quiet (Some (Some k)) h b area e f s = opt_far k.asking b area (ap (opt_within k.asking) (sym s) ∙ (both _ _ e).1) f

-- the hulls of the root at a place are held by its block and by its group
module _ (v : ForestView) (xs : Blocks) (w : IsWithBlocks v xs) (area : Box) where
  root_held : (place c : ℕ) → slice_get (ids v.roots) place ≡ Some c
      → (h : Hulls) × (hulls_at v c ≡ Some h) × IsHeld xs place h
  root_held place c at =
      let m = ids_at v.roots place c at in
      let d = w.forest.tops.each m.0 c (contains_at v.roots place (m.0, c) m.1) in
      let r = w.forest.present.right c d.0 d.1 in
      (r.0, r.1, w.covered place c r.0 at r.1)

  -- what an entry of a level holds is as far as the entry
  module _ (level : Level) (entry from count : ℕ) (index : ℕ → ℕ) (here : (place : ℕ) → from ≤ place → place < from + count → index place / 16 ≡ entry)
      (holds : (place : ℕ) (h : Hulls) → IsHeld xs place h → IsIn level (index place) h) where
    at_entry : (place : ℕ) (h : Hulls) → from ≤ place → place < from + count → IsHeld xs place h
        → block_holds (slice_get level entry) h ≡ true
    at_entry place h low high e = ap (λ i. block_holds (slice_get level i) h) (sym (here place low high)) ∙ holds place h e

    pub far_run : block_touches (slice_get level entry) area ≡ false → IsFarRun (forest_tree v) from count area
    far_run off place c within at =
        let r = root_held place c at in
        ap (λ o. touches (all_of o) area) r.1 ∙ held_far (slice_get level entry) r.0 area (at_entry place r.0 within.0 within.1 r.2) off

    pub quiet_run : block_asks (slice_get level entry) area ≡ false → IsQuietRun (forest_tree v) from count area
    quiet_run off place c b within at asks =
        let r = root_held place c at in
        held_quiet (slice_get level entry) r.0 b area (at_entry place r.0 within.0 within.1 r.2) off (sym (ap asking_of r.1) ∙ asks)

  pub far_block : (block : ℕ) → block_touches (slice_get xs.blocks.hulls.items block) area ≡ false
      → IsFarRun (forest_tree v) (16 * block) 16 area
  far_block block = far_run xs.blocks.hulls.items block (16 * block) 16 (λ p. p) (λ p a b. omega (arith, a, b)) (λ p h e. e.0)

  pub quiet_block : (block : ℕ) → block_asks (slice_get xs.blocks.hulls.items block) area ≡ false
      → IsQuietRun (forest_tree v) (16 * block) 16 area
  quiet_block block = quiet_run xs.blocks.hulls.items block (16 * block) 16 (λ p. p) (λ p a b. omega (arith, a, b)) (λ p h e. e.0)

  pub far_group : (group : ℕ) → block_touches (slice_get xs.groups.hulls.items group) area ≡ false
      → IsFarRun (forest_tree v) (256 * group) 256 area
  far_group group = far_run xs.groups.hulls.items group (256 * group) 256 (λ p. p / 16) (λ p a b. omega (arith, a, b)) (λ p h e. e.1)

  pub quiet_group : (group : ℕ) → block_asks (slice_get xs.groups.hulls.items group) area ≡ false
      → IsQuietRun (forest_tree v) (256 * group) 256 area
  quiet_group group = quiet_run xs.groups.hulls.items group (256 * group) 256 (λ p. p / 16) (λ p a b. omega (arith, a, b)) (λ p h e. e.1)
