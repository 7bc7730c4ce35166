-- The greatest rank of a chain from some depth on.
use Rattle.std.proofs.Common.{◌≡◌, ℕ, zero, suc, ◌+◌, ◌-◌, ◌<◌, ◌≤◌, [], ◌∷◌, ◌++◌, length, take, refl, sym, ap, ◌∙◌, ◌⊎◌, inl, inr, subst, arith, append_assoc}
use Rattle.std.specs.Prelude.{slice_index, Option, Some, None}
use Rattle.std.specs.declared.cmp.Ordering.{Ordering}
use Rattle.std.specs.declared.cmp.Ordering.TheVariants.{Less, Equal, Greater}
use Rattle.std.specs.Ordering.{nat_cmp, ordering_then, MatchOrdering}
use Rattle.std.specs.Cmp.{ranked}
use Rattle.std.proofs.lemmas.Cmp.{tied_itself, nat_list_cmp_total}
use Rattle.std.proofs.lemmas.List.{length-take, length-take-le}
use Rattle.cga_word.specs.declared.mode.Mode.{Mode}
use Rattle.cga_word.specs.declared.mode.Mode.TheVariants.{Breadth, Depth}
use Rattle.cga_order.specs.Rank.{Rank, rank_cmp}
use Rattle.cga_order.specs.Chain.{Chain, IsWhole, rank_at, ranks_down, ranks}
use Rattle.cga_order.specs.Head.{IsHead}
use Rattle.cga_order.specs.Stamp.{maxima, stamps_cmp, stamp_cmp}
use Rattle.cga_order.specs.Walk.{ranks_run, ranks_from, IsTop, IsWithin, tops_cmp}
use Rattle.cga_order.proofs.Prefixes.{nat_cmp-less, slice_cmp-within, then_decided}
use Rattle.cga_order.specs.Total.{rank_total}
use Rattle.cga_order.proofs.Order.{rank_exact}
use Rattle.cga_order.proofs.Heads as heads
use Rattle.cga_order.proofs.Maxima as stamps
use Rattle.std.proofs.Common.{append-nil}
use Rattle.cga_fraction.proofs.Door.{nat_cmp-same}

-- the order of the stamps of the ranks from this depth on
abbrev pub order_from : Mode → Chain → Chain → ℕ → Ordering
order_from mode a b depth = stamps_cmp mode (maxima (rank_cmp mode) (ranks_from a depth)) (maxima (rank_cmp mode) (ranks_from b depth))

ap2 : {A B C : Type 0} (f : A → B → C) {a a' : A} {b b' : B} → a ≡ a' → b ≡ b' → f a b ≡ f a' b'
ap2 f p q = λ i. f (p i) (q i)

pub ranks_from-step : (chain : Chain) (depth : ℕ) → depth < length chain.priorities
    → ranks_from chain depth ≡ rank_at chain depth ∷ ranks_from chain (depth + 1)
ranks_from-step chain depth h =
    let e : length chain.priorities - depth ≡ suc (length chain.priorities - (depth + 1)) = omega arith in
    ap (ranks_run chain depth) e

pub ranks_from-end : (chain : Chain) (depth : ℕ) → length chain.priorities ≤ depth → ranks_from chain depth ≡ []
ranks_from-end chain depth h =
    let e : length chain.priorities - depth ≡ 0 = omega arith in
    ap (ranks_run chain depth) e

ranks_run-all : (chain : Chain) (depth n : ℕ)
    → ranks_down chain depth ++ ranks_run chain depth n ≡ ranks_down chain (depth + n)
ranks_run-all chain depth zero =
    let e : depth ≡ depth + 0 = omega arith in
    append-nil (ranks_down chain depth) ∙ ap (ranks_down chain) e
ranks_run-all chain depth (suc n) =
    let next : suc depth ≡ depth + 1 = omega arith in
    let sum : (depth + 1) + n ≡ depth + suc n = omega arith in
    sym (append_assoc (ranks_down chain depth) (rank_at chain depth ∷ []) (ranks_run chain (depth + 1) n))
    ∙ ap (λ k. ranks_down chain k ++ ranks_run chain (depth + 1) n) next
    ∙ ranks_run-all chain (depth + 1) n
    ∙ ap (ranks_down chain) sum

pub ranks_from-all : (chain : Chain) → IsWhole chain → ranks_from chain 0 ≡ ranks chain
ranks_from-all chain whole =
    let e : length chain.priorities - 0 ≡ suc (length chain.path) = omega (arith, whole) in
    let z : 0 + suc (length chain.path) ≡ suc (length chain.path) = omega arith in
    ap (ranks_run chain 0) e ∙ ranks_run-all chain 0 (suc (length chain.path)) ∙ ap (ranks_down chain) z

-- the ranks down to some depth, and those from there on
pub ranks-split : (chain : Chain) (depth : ℕ) → IsWhole chain → depth ≤ length chain.priorities
    → ranks_down chain depth ++ ranks_from chain depth ≡ ranks chain
ranks-split chain depth whole within =
    let sum : depth + (length chain.priorities - depth) ≡ suc (length chain.path) = omega (arith, whole, within) in
    ranks_run-all chain depth (length chain.priorities - depth) ∙ ap (ranks_down chain) sum

then_less : (a b : Ordering) → a ≡ Less → ordering_then a b ≡ Less
then_less a b e = ap (λ c. ordering_then c b) e

then_equal : (a b c : Ordering) → a ≡ Equal → b ≡ c → ordering_then a b ≡ c
then_equal a b c e f = ap (λ x. ordering_then x b) e ∙ f

-- on one chain the greater priority decides
pub rank_at-priority : (mode : Mode) (chain : Chain) (i j : ℕ)
    → slice_index chain.priorities i < slice_index chain.priorities j
    → rank_cmp mode (rank_at chain i) (rank_at chain j) ≡ Less
rank_at-priority Breadth chain i j h = then_less _ _ (nat_cmp-less _ _ h)
rank_at-priority Depth chain i j h = then_less _ _ (nat_cmp-less _ _ h)

-- and of equal ones the depth
pub rank_at-depth : (mode : Mode) (chain : Chain) (i j : ℕ)
    → slice_index chain.priorities i ≡ slice_index chain.priorities j → i < j → j ≤ length chain.path
    → rank_cmp mode (rank_at chain i) (rank_at chain j) ≡ Less
rank_at-depth Breadth chain i j e h within =
    let left : length (take i chain.path) ≡ i = length-take-le i chain.path (omega arith) in
    let right : length (take j chain.path) ≡ j = length-take-le j chain.path within in
    let below : length (take i chain.path) < length (take j chain.path) = omega (arith, left, right) in
    then_equal _ _ _ (nat_cmp-same _ _ e) (then_less _ _ (nat_cmp-less _ _ below))
rank_at-depth Depth chain i j e h within =
    let paths = slice_cmp-within (length chain.path) chain.path chain.path i j refl (omega arith) within (inr within) in
    then_equal _ _ _ (nat_cmp-same _ _ e) (then_equal _ _ _ (tied_itself nat_list_cmp_total chain.lot) (paths ∙ nat_cmp-less i j h))

-- the ranks from some depth on have paths as long as their depths
pub In-ranks_run : (mode : Mode) (chain : Chain) (depth n : ℕ) (q : Rank)
    → stamps.In (rank_cmp mode) (rank_total mode) q (ranks_run chain depth n)
    → (j : ℕ) × (depth ≤ j) × (j < depth + n) × (q ≡ rank_at chain j)
In-ranks_run mode chain depth zero q i = absurd i
In-ranks_run mode chain depth (suc n) q i = elim i [
  | inl e ↦ (depth, omega arith, omega arith, sym e)
  | inr j ↦
      let w = In-ranks_run mode chain (depth + 1) n q j in
      (w.0, omega (arith, w.1), omega (arith, w.2), w.3)
]

-- a rank at some depth ties with none that stands deeper on any chain
TiesNone-deeper : (mode : Mode) (a b : Chain) (depth : ℕ) → IsWhole b
    → heads.TiesNone (rank_cmp mode) (rank_total mode) (rank_at a depth)
    (maxima (rank_cmp mode) (ranks_from b (depth + 1)))
TiesNone-deeper mode a b depth whole q i =
    let w = In-ranks_run mode b (depth + 1) (length b.priorities - (depth + 1)) q (heads.in_maxima (rank_cmp mode) (rank_total mode) q (ranks_from b (depth + 1)) i) in
    let here : length (take depth a.path) ≤ depth = omega (arith, length-take depth a.path) in
    let there : length (take w.0 b.path) ≡ w.0 = length-take-le w.0 b.path (omega (arith, whole, w.1, w.2)) in
    let deeper : length q.path ≡ w.0 = ap (λ r. length r.path) w.3 ∙ there in (
      (λ e. let same : length (take depth a.path) ≡ length q.path = ap (λ r. length r.path) (rank_exact mode _ _ e) in absurd (omega (arith, here, same, deeper, w.1))),
      (λ e. let same : length q.path ≡ length (take depth a.path) = ap (λ r. length r.path) (rank_exact mode _ _ e) in absurd (omega (arith, here, same, deeper, w.1))),
    )

-- the greatest rank from some depth on, given the greatest below it
pub IsTop-under : (mode : Mode) (chain : Chain) (depth top : ℕ) → IsWhole chain → depth < length chain.priorities
    → slice_index chain.priorities depth ≤ slice_index chain.priorities top → IsTop mode chain (depth + 1) (Some top)
    → IsTop mode chain depth (Some top)
IsTop-under mode chain depth top whole within le h =
    let below : rank_cmp mode (rank_at chain depth) (rank_at chain top) ≡ Less = elim (lt_or_eq le) [
      | inl l ↦ rank_at-priority mode chain depth top l
      | inr e ↦ rank_at-depth mode chain depth top e (omega (arith, h.0)) (omega (arith, whole, h.1))
    ] in (
      omega (arith, h.0),
      h.1,
      h.2,
      ap (maxima (rank_cmp mode)) (ranks_from-step chain depth within)
          ∙ (heads.maxima-under (rank_cmp mode) (rank_total mode) (rank_at chain depth) (ranks_from chain (depth + 1)) (rank_at chain top) h.2 h.3 below ∙ h.3),
    )
  where
    lt_or_eq : {m n : ℕ} → m ≤ n → (m < n) ⊎ (m ≡ n)
    lt_or_eq {m = m} {n = n} le = elim (nat_cmp m n) as (λ v. MatchOrdering v (m < n) (m ≡ n) (n < m) → (m < n) ⊎ (m ≡ n)) [
      | Less ↦ λ h. inl h
      | Equal ↦ λ h. inr h
      | Greater ↦ λ h. absurd (omega (arith, h, le))
    ] (ranked m n (nat_cmp m n) refl)

pub IsTop-over : (mode : Mode) (chain : Chain) (depth top : ℕ) → depth < length chain.priorities
    → slice_index chain.priorities top < slice_index chain.priorities depth → IsTop mode chain (depth + 1) (Some top)
    → IsTop mode chain depth (Some depth)
IsTop-over mode chain depth top within lt h = (
  omega arith,
  within,
  maxima (rank_cmp mode) (ranks_from chain (depth + 1)),
  ap (maxima (rank_cmp mode))
      (ranks_from-step chain depth within) ∙ heads.maxima-over (rank_cmp mode) (rank_total mode)
      (rank_at chain depth) (ranks_from chain (depth + 1)) (rank_at chain top) h.2 h.3 (rank_at-priority mode chain top depth lt),
)

-- the maxima from one depth on are those from the next on, with one more or not
Extends-ranks_from : (mode : Mode) (chain : Chain) (depth : ℕ)
    → heads.Extends (rank_cmp mode) (rank_total mode) (rank_at chain depth)
    (maxima (rank_cmp mode) (ranks_from chain (depth + 1))) (maxima (rank_cmp mode) (ranks_from chain depth))
Extends-ranks_from mode chain depth = elim (within_or_past depth (length chain.priorities)) [
  | inl within ↦ subst (λ rs. heads.Extends (rank_cmp mode) (rank_total mode) (rank_at chain depth)
      (maxima (rank_cmp mode) (ranks_from chain (depth + 1))) (maxima (rank_cmp mode) rs))
      (sym (ranks_from-step chain depth within)) (heads.Extends-maxima (rank_cmp mode) (rank_total mode) (rank_at chain depth) (ranks_from chain (depth + 1)))
  | inr past ↦ inr (ap (maxima (rank_cmp mode)) (ranks_from-end chain depth past ∙ sym (ranks_from-end chain (depth + 1) (omega (arith, past)))))
]
  where
    within_or_past : (m n : ℕ) → (m < n) ⊎ (n ≤ m)
    within_or_past m n = elim (nat_cmp m n) as (λ v. MatchOrdering v (m < n) (m ≡ n) (n < m) → (m < n) ⊎ (n ≤ m)) [
      | Less ↦ λ h. inl h
      | Equal ↦ λ h. inr (omega (arith, h))
      | Greater ↦ λ h. inr (omega (arith, h))
    ] (ranked m n (nat_cmp m n) refl)

none : (mode : Mode) (chain : Chain) (depth : ℕ) → length chain.priorities ≤ depth
    → maxima (rank_cmp mode) (ranks_from chain depth) ≡ []
none mode chain depth past = ap (maxima (rank_cmp mode)) (ranks_from-end chain depth past)

-- the tops are the first of the maxima
pub heads_cmp-tops : (mode : Mode) (a b : Chain) (depth : ℕ) (left right : Option ℕ) → IsTop mode a depth left
    → IsTop mode b depth right
    → heads.heads_cmp (rank_cmp mode) (rank_total mode) (maxima (rank_cmp mode) (ranks_from a depth))
    (maxima (rank_cmp mode) (ranks_from b depth)) ≡ tops_cmp mode a left b right
heads_cmp-tops mode a b depth None None h k = ap2 (heads.heads_cmp (rank_cmp mode) (rank_total mode)) (none mode a depth h) (none mode b depth k)
heads_cmp-tops mode a b depth None (Some j) h k = ap2 (heads.heads_cmp (rank_cmp mode) (rank_total mode)) (none mode a depth h) k.3
heads_cmp-tops mode a b depth (Some i) None h k = ap2 (heads.heads_cmp (rank_cmp mode) (rank_total mode)) h.3 (none mode b depth k)
heads_cmp-tops mode a b depth (Some i) (Some j) h k = ap2 (heads.heads_cmp (rank_cmp mode) (rank_total mode)) h.3 k.3

-- one step of the walk: the stamps' order from this depth on, by the tops and by the order from the next depth on
pub stamps_cmp-step : (mode : Mode) (a b : Chain) (depth : ℕ) (left right : Option ℕ) → IsWhole a → IsWhole b
    → IsTop mode a depth left → IsTop mode b depth right
    → order_from mode a b depth ≡ ordering_then (tops_cmp mode a left b right) (order_from mode a b (depth + 1))
stamps_cmp-step mode a b depth left right whole_a whole_b h k =
    heads.cmps-extended (rank_cmp mode) (rank_total mode) (rank_at a depth) (rank_at b depth) _ _ _ _
    (Extends-ranks_from mode a depth) (Extends-ranks_from mode b depth) (TiesNone-deeper mode a b depth whole_b) (TiesNone-deeper mode b a depth whole_a)
    ∙ ap (λ c. ordering_then c (order_from mode a b (depth + 1))) (heads_cmp-tops mode a b depth left right h k)

pub order_from-end : (mode : Mode) (a b : Chain) (depth : ℕ) → length a.priorities ≤ depth → length b.priorities ≤ depth
    → order_from mode a b depth ≡ Equal
order_from-end mode a b depth past_a past_b = ap2 (λ xs ys. stamps_cmp mode (maxima (rank_cmp mode) xs) (maxima (rank_cmp mode) ys)) (ranks_from-end a depth past_a) (ranks_from-end b depth past_b)

pub order_from-all : (mode : Mode) (a b : Chain) → IsWhole a → IsWhole b → order_from mode a b 0 ≡ stamp_cmp mode a b
order_from-all mode a b whole_a whole_b = ap2 (λ xs ys. stamps_cmp mode (maxima (rank_cmp mode) xs) (maxima (rank_cmp mode) ys)) (ranks_from-all a whole_a) (ranks_from-all b whole_b)

pub IsTop-pred : (mode : Mode) (chain : Chain) (depth : ℕ) (top : Option ℕ) → 0 < depth → IsTop mode chain depth top
    → IsTop mode chain ((depth - 1) + 1) top
IsTop-pred mode chain depth top h t =
    let e : depth ≡ (depth - 1) + 1 = omega arith in
    subst (λ d. IsTop mode chain d top) e t

pub IsWithin-from_IsTop : (mode : Mode) (chain : Chain) (depth : ℕ) (top : Option ℕ) → IsTop mode chain depth top
    → IsWithin chain top
IsWithin-from_IsTop mode chain depth None t = tt
IsWithin-from_IsTop mode chain depth (Some top) t = t.1

-- the head is the greatest from its own depth on
IsTop-head : (mode : Mode) (chain : Chain) (head : ℕ) → IsHead chain.priorities head → IsTop mode chain head (Some head)
IsTop-head mode chain head h = (
  omega arith,
  h.within,
  maxima (rank_cmp mode) (ranks_from chain (head + 1)),
  ap (maxima (rank_cmp mode)) (ranks_from-step chain head h.within) ∙ heads.maxima-first (rank_cmp mode) (rank_total mode) (rank_at chain head) (ranks_from chain (head + 1)) (λ q i.
      let w = In-ranks_run mode chain (head + 1) (length chain.priorities - (head + 1)) q i in
      let less = h.deepest w.0 (omega (arith, w.1)) (omega (arith, w.1, w.2)) in
      subst (λ r. rank_cmp mode r (rank_at chain head) ≡ Less) (sym w.3) (rank_at-priority mode chain w.0 head less)),
)

-- and from each depth before it
IsTop-above : (mode : Mode) (chain : Chain) (head n depth : ℕ) → depth + n ≡ head → IsWhole chain
    → IsHead chain.priorities head → IsTop mode chain depth (Some head)
IsTop-above mode chain head zero depth e whole h =
    let here : head ≡ depth = omega (arith, e) in
    subst (λ d. IsTop mode chain d (Some head)) here (IsTop-head mode chain head h)
IsTop-above mode chain head (suc n) depth e whole h =
    let within : depth < length chain.priorities = omega (arith, e, h.within) in
    IsTop-under mode chain depth head whole within (h.greatest depth within) (IsTop-above mode chain head n (depth + 1) (omega (arith, e)) whole h)

-- the greatest rank of a chain stands at its head
pub IsTop-from_IsHead : (mode : Mode) (chain : Chain) (head : ℕ) → IsWhole chain → IsHead chain.priorities head
    → IsTop mode chain 0 (Some head)
IsTop-from_IsHead mode chain head = IsTop-above mode chain head head 0 (omega arith)

-- where the greatest ranks differ, they decide
pub order_from-decided : (mode : Mode) (a b : Chain) (left right : Option ℕ) → IsWhole a → IsWhole b
    → IsTop mode a 0 left → IsTop mode b 0 right → (tops_cmp mode a left b right ≡ Equal → ⊥)
    → tops_cmp mode a left b right ≡ stamp_cmp mode a b
order_from-decided mode a b left right whole_a whole_b h k differ =
    sym (then_decided _ _ differ) ∙ sym (stamps_cmp-step mode a b 0 left right whole_a whole_b h k) ∙ order_from-all mode a b whole_a whole_b
