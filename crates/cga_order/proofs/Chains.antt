-- The ranks on a chain, and those on the chain of a child.
use Rattle.std.proofs.Common.{◌≡◌, ℕ, zero, suc, ◌+◌, ◌≤◌, List, [], ◌∷◌, ◌++◌, length, take, refl, sym, ap, ◌∙◌, inl, inr, subst, arith, length-append}
use Rattle.std.specs.Prelude.{slice_index}
use Rattle.std.specs.declared.cmp.Ordering.TheVariants.{Less, Equal}
use Rattle.std.proofs.Math.Seq.{take-length, take-append_seam, get_or-append_seam}
use Rattle.std.proofs.Common.{get_or}
use Rattle.std.proofs.lemmas.List.{length-take, take-append-le, get_or_append_left}
use Rattle.cga_word.specs.declared.mode.Mode.{Mode}
use Rattle.cga_order.specs.Rank.{Rank, rank_cmp}
use Rattle.cga_order.specs.Chain.{Chain, IsWhole, IsChild, rank_at, ranks_down, rank, ranks_above, ranks}
use Rattle.cga_order.specs.Stamp.{maxima, stamps_cmp, stamp_cmp, stamp, birth}
use Rattle.cga_order.specs.Total.{rank_total}
use Rattle.cga_order.proofs.Order.{rank_exact, stamps_exact}
use Rattle.cga_order.proofs.Maxima as stamps

abbrev pub Apart : Mode → Rank → List Rank → Type 0
Apart mode = stamps.Apart (rank_cmp mode) (rank_total mode)

rank_at-apart : (mode : Mode) (chain : Chain) (r : Rank) (depth : ℕ) → depth ≤ length r.path
    → Apart mode r (ranks_down chain depth)
rank_at-apart mode chain r zero h = tt
rank_at-apart mode chain r (suc depth) h =
    stamps.Apart-push (rank_cmp mode) (rank_total mode) r (rank_at chain depth) (ranks_down chain depth) (rank_at-apart mode chain r depth (omega (arith, h)))
    (λ e.
    let same : length (take depth chain.path) ≡ length r.path = ap (λ q. length q.path) (rank_exact mode _ _ e) in
    absurd (omega (arith, length-take depth chain.path, same, h)))

length-rank : (chain : Chain) → length (rank chain).path ≡ length chain.path
length-rank chain = ap length (take-length chain.path)

-- a shape's rank ties with none above it
pub rank-apart : (mode : Mode) (chain : Chain) → Apart mode (rank chain) (ranks_above chain)
rank-apart mode chain = rank_at-apart mode chain (rank chain) (length chain.path) (omega (arith, length-rank chain))

-- a shape is made before it is expanded
pub birth-stamp : (mode : Mode) (chain : Chain) → stamps_cmp mode (birth mode chain) (stamp mode chain) ≡ Less
birth-stamp mode chain = stamps.grows (rank_cmp mode) (rank_total mode) (ranks_above chain) (rank chain) (rank-apart mode chain)

-- a stamp ends with the shape's own rank
pub stamp-same : (mode : Mode) (a b : Chain) → stamp mode a ≡ stamp mode b → rank a ≡ rank b
stamp-same mode a b e =
    let cmp = rank_cmp mode in
    let o = rank_total mode in
    let p = stamps.least_last cmp o (ranks_above b) (rank b) (rank a) (subst (stamps.In cmp o (rank a)) e (stamps.last_in cmp o (ranks_above a) (rank a))) in
    let q = stamps.least_last cmp o (ranks_above a) (rank a) (rank b) (subst (stamps.In cmp o (rank b)) (sym e) (stamps.last_in cmp o (ranks_above b) (rank b))) in
    elim (stamps.split cmp o (rank a) (rank b)) [
      | inl l ↦ absurd (p l)
      | inr r ↦ elim r [ inl t ↦ rank_exact mode _ _ t | inr g ↦ absurd (q g) ]
    ]

abbrev pub place : Chain → List ℕ × List ℕ
place chain = (chain.lot, chain.path)

-- a rank is that of one place
pub rank-place : (a b : Chain) → rank a ≡ rank b → place a ≡ place b
rank-place a b e = λ i. ((e i).lot, (sym (take-length a.path) ∙ (ap (λ r. r.path) e ∙ take-length b.path)) i)

ranks_down-child : (parent : Chain) (i : ℕ) (child : Chain) → IsWhole parent → IsChild parent i child → (depth : ℕ)
    → depth ≤ length parent.path + 1 → ranks_down child depth ≡ ranks_down parent depth
ranks_down-child parent i child whole h zero within = refl
ranks_down-child parent i child whole h (suc depth) within =
    let priority : slice_index child.priorities depth ≡ slice_index parent.priorities depth =
    ap (λ ps. slice_index ps depth) h.priorities.1 ∙ get_or_append_left parent.priorities (h.priorities.0 ∷ []) 0 depth (omega (arith, whole, within)) in
    let path : take depth child.path ≡ take depth parent.path =
    ap (take depth) h.path ∙ take-append-le depth parent.path (i ∷ []) (omega (arith, within)) in
    let here : rank_at child depth ≡ rank_at parent depth = λ j. record { priority = priority j; lot = h.lot j; path = path j } in
    λ j. ranks_down-child parent i child whole h depth (omega (arith, within)) j ++ here j ∷ []

-- above a child stand its parent's ranks
pub ranks_above-child : (parent : Chain) (i : ℕ) (child : Chain) → IsWhole parent → IsChild parent i child
    → ranks_above child ≡ ranks parent
ranks_above-child parent i child whole h =
    let size : length child.path ≡ suc (length parent.path) = ap length h.path ∙ (length-append parent.path (i ∷ []) ∙ omega arith) in
    ap (ranks_down child) size ∙ ranks_down-child parent i child whole h (suc (length parent.path)) (omega arith)

-- where the parent's chain is whole, the birth of a child is the stamp of the parent
pub birth-child : (mode : Mode) (parent : Chain) (i : ℕ) (child : Chain) → IsWhole parent → IsChild parent i child
    → birth mode child ≡ stamp mode parent
birth-child mode parent i child whole h = ap (maxima (rank_cmp mode)) (ranks_above-child parent i child whole h)

-- a child comes after its parent
pub stamp-child : (mode : Mode) (parent : Chain) (i : ℕ) (child : Chain) → IsWhole parent → IsChild parent i child
    → stamp_cmp mode parent child ≡ Less
stamp-child mode parent i child whole h = subst (λ s. stamps_cmp mode s (stamp mode child) ≡ Less) (birth-child mode parent i child whole h) (birth-stamp mode child)

pub birth-root : (mode : Mode) (chain : Chain) → chain.path ≡ [] → birth mode chain ≡ []
birth-root mode chain e = ap (λ p. maxima (rank_cmp mode) (ranks_down chain (length p))) e

nonempty : (mode : Mode) (s : List Rank) (r : Rank) → stamps.In (rank_cmp mode) (rank_total mode) r s
    → stamps_cmp mode [] s ≡ Less
nonempty mode [] r i = absurd i
nonempty mode (q ∷ s) r i = refl

-- a root was there before every stamp
pub root-before : (mode : Mode) (root other : Chain) → root.path ≡ []
    → stamps_cmp mode (birth mode root) (stamp mode other) ≡ Less
root-before mode root other e =
    subst (λ b. stamps_cmp mode b (stamp mode other) ≡ Less) (sym (birth-root mode root e))
    (nonempty mode (stamp mode other) (rank other) (stamps.last_in (rank_cmp mode) (rank_total mode) (ranks_above other) (rank other)))

-- equal stamps are those of one place
pub stamps-place : (mode : Mode) (a b : Chain) → stamp_cmp mode a b ≡ Equal → place a ≡ place b
stamps-place mode a b e = rank-place a b (stamp-same mode a b (stamps_exact mode _ _ e))

-- a shape that was made before the other's stamp, and has a smaller one, has a smaller rank
pub rank-before : (mode : Mode) (a b : Chain) → stamps_cmp mode (birth mode b) (stamp mode a) ≡ Less
    → stamp_cmp mode a b ≡ Less → rank_cmp mode (rank a) (rank b) ≡ Less
rank-before mode a b born before = stamps.rank_below (rank_cmp mode) (rank_total mode) (ranks_above b) (rank b) (ranks_above a) (rank a) (rank-apart mode b) born before

-- of two children of one parent, each has its index
pub snoc-same : (xs ys : List ℕ) (i j : ℕ) → xs ++ i ∷ [] ≡ ys ++ j ∷ [] → (xs ≡ ys) × (i ≡ j)
snoc-same xs ys i j e =
    let size : length xs ≡ length ys = omega (arith, ap length e, length-append xs (i ∷ []), length-append ys (j ∷ [])) in
    let front : xs ≡ ys = sym (take-append_seam xs (i ∷ [])) ∙ (ap (take (length xs)) e ∙ (ap (λ n. take n (ys ++ j ∷ [])) size ∙ take-append_seam ys (j ∷ []))) in
    let back : i ≡ j = sym (get_or-append_seam xs i [] 0) ∙ (ap (λ l. get_or l (length xs) 0) e ∙ (ap (λ n. get_or (ys ++ j ∷ []) n 0) size ∙ get_or-append_seam ys j [] 0)) in
    (front, back)
