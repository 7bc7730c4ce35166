-- Two lists that begin alike: where the greatest elements behind that differ, they decide how the maxima compare.
use Rattle.std.proofs.Common.{◌≡◌, ℕ, zero, suc, ◌+◌, ◌-◌, ◌<◌, ◌≤◌, List, [], ◌∷◌, ◌++◌, length, take, false, refl, sym, ap, ◌∙◌, ◌⊎◌, inl, inr, arith}
use Rattle.std.specs.Prelude.{slice_index, Option}
use Rattle.std.specs.declared.cmp.Ordering.{Ordering}
use Rattle.std.specs.declared.cmp.Ordering.TheVariants.{Less, Equal, Greater}
use Rattle.std.specs.Ordering.{ordering_reverse, ordering_then}
use Rattle.std.specs.Cmp.{IsTotalOrder}
use Rattle.std.specs.Cmp.Lexicographic.{slice_cmp}
use Rattle.std.specs.List.{list_all}
use Rattle.std.proofs.lemmas.Cmp.{tied_itself}
use Rattle.std.proofs.lemmas.List.{get_or-take, length-take-le, take-take}
use Rattle.cga_word.specs.declared.mode.Mode.{Mode}
use Rattle.cga_order.specs.Rank.{Rank, rank_cmp}
use Rattle.cga_order.specs.Chain.{Chain, IsWhole, rank_at, ranks_down, ranks}
use Rattle.cga_order.specs.Stamp.{maxima, stamp_cmp}
use Rattle.cga_order.specs.Walk.{IsTop, SharesRanks, ranks_from, tops_cmp}
use Rattle.cga_order.proofs.Prefixes.{then_decided}
use Rattle.cga_order.specs.Total.{rank_total}
use Rattle.cga_order.proofs.Order.{rank_exact}
use Rattle.cga_order.proofs.Tops.{In-ranks_run, heads_cmp-tops, ranks-split}
use Rattle.cga_order.proofs.Maxima.{either}
use Rattle.cga_order.proofs.Maxima as lists
use Rattle.cga_order.proofs.Heads as heads

module _ {R : Type 0} (cmp : R → R → Ordering) (o : IsTotalOrder cmp) where
  abbrev In : R → List R → Type 0
  In = lists.In cmp o

  abbrev cmps : List R → List R → Ordering
  cmps = slice_cmp cmp

  abbrev heads_cmp : List R → List R → Ordering
  heads_cmp = heads.heads_cmp cmp o

  -- x ties with no element
  abbrev pub TiesNone : R → List R → Type 0
  TiesNone x ys = (y : R) → In y ys → cmp x y ≡ Equal → ⊥

  abbrev pub TieNone : List R → List R → Type 0
  TieNone xs ys = (x : R) → In x xs → TiesNone x ys

  greater : (x y : R) → cmp x y ≡ Less → cmp y x ≡ Greater
  greater x y e = o.antisymm y x ∙ ap ordering_reverse e

  In-right : (xs ys : List R) (q : R) → In q ys → In q (xs ++ ys)
  In-right [] ys q i = i
  In-right (x ∷ xs) ys q i = inr (In-right xs ys q i)

  In-either : (xs ys : List R) (q : R) → In q (xs ++ ys) → In q xs ⊎ In q ys
  In-either [] ys q i = inr i
  In-either (x ∷ xs) ys q i = elim i [
    | inl e ↦ inl (inl e)
    | inr j ↦ elim (In-either xs ys q j) [ inl k ↦ inl (inr k) | inr k ↦ inr k ]
  ]

  In-left : (xs ys : List R) (q : R) → In q xs → In q (xs ++ ys)
  In-left [] ys q i = absurd i
  In-left (x ∷ xs) ys q i = elim i [ inl e ↦ inl e | inr j ↦ inr (In-left xs ys q j) ]

  -- the first elements decide where they differ
  decided : (xs ys : List R) → (heads_cmp xs ys ≡ Equal → ⊥) → cmps xs ys ≡ heads_cmp xs ys
  decided [] [] h = absurd (h refl)
  decided [] (y ∷ ys) h = refl
  decided (x ∷ xs) [] h = refl
  decided (x ∷ xs) (y ∷ ys) h = then_decided (cmp x y) (cmps xs ys) h

  -- x is greater than all of ps, and not greater than some of ps and bs: x is smaller than one of bs
  smaller : (x : R) (ps bs : List R) → TiesNone x bs → ((q : R) → In q ps → cmp q x ≡ Less)
      → list_all (lists.under cmp o x) (ps ++ bs) ≡ false → (q : R) × In q bs × (cmp x q ≡ Less)
  smaller x ps bs ties all some =
      let w = lists.over_some cmp o x (ps ++ bs) some in
      elim (In-either ps bs w.0 w.1) [
        | inl i ↦ absurd (w.2 (all w.0 i))
        | inr i ↦ (w.0, i, elim (lists.split cmp o x w.0) [ inl l ↦ l | inr s ↦ elim s [ inl e ↦ absurd (ties w.0 i e) | inr g ↦ absurd (w.2 g) ] ])
      ]

  -- the first of the maxima of a list that has an element greater than x
  over : (x q : R) (rs : List R) → In q rs → cmp x q ≡ Less
      → (h : R) × (t : List R) × (maxima cmp rs ≡ h ∷ t) × (cmp x h ≡ Less)
  over x q rs i l =
      let u = lists.top cmp o rs q i in
      (u.0, u.1, u.2, lists.past cmp o x q u.0 l u.3)

  -- all of rs are smaller than x, and x is smaller than the first of the other list
  less_first : (x : R) (rs ys : List R) (h : R) (t : List R) → ((q : R) → In q rs → cmp q x ≡ Less)
      → ys ≡ h ∷ t → cmp x h ≡ Less
      → heads_cmp rs ys ≡ Less
  less_first x [] ys h t all e l = ap (heads_cmp []) e
  less_first x (a ∷ rs) ys h t all e l = ap (heads_cmp (a ∷ rs)) e ∙ o.trans a x h (all a (inl refl)) l

  greater_first : (x : R) (ys bs : List R) (h : R) (t : List R) → ((q : R) → In q bs → cmp q x ≡ Less)
      → ys ≡ h ∷ t → cmp x h ≡ Less
      → heads_cmp ys bs ≡ Greater
  greater_first x ys [] h t all e l = ap (λ zs. heads_cmp zs []) e
  greater_first x ys (b ∷ bs) h t all e l = ap (λ zs. heads_cmp zs (b ∷ bs)) e ∙ greater b h (o.trans b x h (all b (inl refl)) l)

  pub cmps-shared : (ps rs bs : List R) → TieNone ps rs → TieNone ps bs
      → (heads_cmp (maxima cmp rs) (maxima cmp bs) ≡ Equal → ⊥)
      → cmps (maxima cmp (ps ++ rs)) (maxima cmp (ps ++ bs)) ≡ heads_cmp (maxima cmp rs) (maxima cmp bs)
  cmps-shared [] rs bs left right differ = decided (maxima cmp rs) (maxima cmp bs) differ
  cmps-shared (x ∷ ps) rs bs left right differ =
      let ih = cmps-shared ps rs bs (λ y i. left y (inr i)) (λ y i. right y (inr i)) differ in
      elim (either (list_all (lists.under cmp o x) (ps ++ rs))) [
        | inl e ↦ elim (either (list_all (lists.under cmp o x) (ps ++ bs))) [
          | inl f ↦
              ap (λ s. cmps s (maxima cmp (x ∷ (ps ++ bs)))) (lists.at_true cmp o x (ps ++ rs) e)
              ∙ ap (cmps (x ∷ maxima cmp (ps ++ rs))) (lists.at_true cmp o x (ps ++ bs) f)
              ∙ ap (λ c. ordering_then c (cmps (maxima cmp (ps ++ rs)) (maxima cmp (ps ++ bs)))) (tied_itself o x)
              ∙ ih
          | inr f ↦
              let all = lists.under_all cmp o x (ps ++ rs) e in
              let w = smaller x ps bs (right x (inl refl)) (λ q i. all q (In-left ps rs q i)) f in
              let whole = over x w.0 (ps ++ bs) (In-right ps bs w.0 w.1) w.2 in
              let own = over x w.0 bs w.1 w.2 in
              ap (λ s. cmps s (maxima cmp (x ∷ (ps ++ bs)))) (lists.at_true cmp o x (ps ++ rs) e)
              ∙ ap (cmps (x ∷ maxima cmp (ps ++ rs))) (lists.at_false cmp o x (ps ++ bs) f ∙ whole.2)
              ∙ ap (λ c. ordering_then c (cmps (maxima cmp (ps ++ rs)) whole.1)) whole.3
              ∙ sym (less_first x (maxima cmp rs) (maxima cmp bs) own.0 own.1 (λ q i. all q (In-right ps rs q (heads.in_maxima cmp o q rs i))) own.2 own.3)
        ]
        | inr e ↦ elim (either (list_all (lists.under cmp o x) (ps ++ bs))) [
          | inl f ↦
              let all = lists.under_all cmp o x (ps ++ bs) f in
              let w = smaller x ps rs (left x (inl refl)) (λ q i. all q (In-left ps bs q i)) e in
              let whole = over x w.0 (ps ++ rs) (In-right ps rs w.0 w.1) w.2 in
              let own = over x w.0 rs w.1 w.2 in
              ap (λ s. cmps s (maxima cmp (x ∷ (ps ++ bs)))) (lists.at_false cmp o x (ps ++ rs) e ∙ whole.2)
              ∙ ap (cmps (whole.0 ∷ whole.1)) (lists.at_true cmp o x (ps ++ bs) f)
              ∙ ap (λ c. ordering_then c (cmps whole.1 (maxima cmp (ps ++ bs)))) (greater x whole.0 whole.3)
              ∙ sym (greater_first x (maxima cmp rs) (maxima cmp bs) own.0 own.1 (λ q i. all q (In-right ps bs q (heads.in_maxima cmp o q bs i))) own.2 own.3)
          | inr f ↦
              ap (λ s. cmps s (maxima cmp (x ∷ (ps ++ bs)))) (lists.at_false cmp o x (ps ++ rs) e)
              ∙ ap (cmps (maxima cmp (ps ++ rs))) (lists.at_false cmp o x (ps ++ bs) f)
              ∙ ih
        ]
      ]

-- the ranks of so many shapes from the root down have paths of the length of their depths
In-ranks_down : (mode : Mode) (chain : Chain) (depth : ℕ) (q : Rank)
    → lists.In (rank_cmp mode) (rank_total mode) q (ranks_down chain depth)
    → (j : ℕ) × (j < depth) × (q ≡ rank_at chain j)
In-ranks_down mode chain zero q i = absurd i
In-ranks_down mode chain (suc depth) q i = elim (In-either (rank_cmp mode) (rank_total mode) (ranks_down chain depth) (rank_at chain depth ∷ []) q i) [
  | inl j ↦ let w = In-ranks_down mode chain depth q j in (w.0, omega (arith, w.1), w.2)
  | inr j ↦ elim j [ inl e ↦ (depth, omega arith, sym e) | inr k ↦ absurd k ]
]

-- a rank that is shared ties with none behind
TieNone-ranks : (mode : Mode) (a b : Chain) (shared : ℕ) → IsWhole a → IsWhole b → shared ≤ length a.priorities
    → TieNone (rank_cmp mode) (rank_total mode) (ranks_down a shared) (ranks_from b shared)
TieNone-ranks mode a b shared whole_a whole_b within x i y j tie =
    let u = In-ranks_down mode a shared x i in
    let w = In-ranks_run mode b shared (length b.priorities - shared) y j in
    let left : length x.path ≡ u.0 = ap (λ r. length r.path) u.2 ∙ length-take-le u.0 a.path (omega (arith, whole_a, within, u.1)) in
    let right : length y.path ≡ w.0 = ap (λ r. length r.path) w.3 ∙ length-take-le w.0 b.path (omega (arith, whole_b, w.1, w.2)) in
    let same : length x.path ≡ length y.path = ap (λ r. length r.path) (rank_exact mode x y tie) in
    absurd (omega (arith, left, right, same, u.1, w.1))

-- where the greatest ranks behind those that are shared differ, they decide
pub shared-decided : (mode : Mode) (a b : Chain) (shared : ℕ) (left right : Option ℕ) → IsWhole a → IsWhole b
    → SharesRanks a b shared → IsTop mode a shared left → IsTop mode b shared right
    → (tops_cmp mode a left b right ≡ Equal → ⊥) → tops_cmp mode a left b right ≡ stamp_cmp mode a b
shared-decided mode a b shared left right whole_a whole_b shares h k differ =
    let tops = heads_cmp-tops mode a b shared left right h k in
    let law = cmps-shared (rank_cmp mode) (rank_total mode) (ranks_down a shared) (ranks_from a shared) (ranks_from b shared)
    (TieNone-ranks mode a a shared whole_a whole_a shares.left) (TieNone-ranks mode a b shared whole_a whole_b shares.left)
    (λ e. differ (sym tops ∙ e)) in
    let split_a : ranks_down a shared ++ ranks_from a shared ≡ ranks a = ranks-split a shared whole_a shares.left in
    let split_b : ranks_down a shared ++ ranks_from b shared ≡ ranks b = ap (λ rs. rs ++ ranks_from b shared) shares.same ∙ ranks-split b shared whole_b shares.right in
    sym tops
    ∙ sym law
    ∙ ap (λ rs. slice_cmp (rank_cmp mode) (maxima (rank_cmp mode) rs) (maxima (rank_cmp mode) (ranks_down a shared ++ ranks_from b shared))) split_a
    ∙ ap (λ rs. slice_cmp (rank_cmp mode) (maxima (rank_cmp mode) (ranks a)) (maxima (rank_cmp mode) rs)) split_b

-- the same priorities and steps, the same ranks
pub shares-ranks : (a b : Chain) (n common priorities : ℕ) → n ≤ priorities → n ≤ common + 1 → a.lot ≡ b.lot
    → take priorities a.priorities ≡ take priorities b.priorities → take common a.path ≡ take common b.path
    → ranks_down a n ≡ ranks_down b n
shares-ranks a b zero common priorities p s lots same steps = refl
shares-ranks a b (suc n) common priorities p s lots same steps =
    let rest = shares-ranks a b n common priorities (omega (arith, p)) (omega (arith, s)) lots same steps in
    let priority : slice_index a.priorities n ≡ slice_index b.priorities n = at_place n priorities a.priorities b.priorities (omega (arith, p)) same in
    let path : take n a.path ≡ take n b.path = cut n common a.path b.path (omega (arith, s)) steps in
    λ i. rest i ++ record { priority = priority i; lot = lots i; path = path i } ∷ []
  where
    cut : (n m : ℕ) (xs ys : List ℕ) → n ≤ m → take m xs ≡ take m ys → take n xs ≡ take n ys
    cut n m xs ys h e = sym (take-take n m xs h) ∙ ap (take n) e ∙ take-take n m ys h

    at_place : (n m : ℕ) (xs ys : List ℕ) → n < m → take m xs ≡ take m ys → slice_index xs n ≡ slice_index ys n
    at_place n m xs ys h e = sym (get_or-take m xs n 0 h) ∙ ap (λ zs. slice_index zs n) e ∙ get_or-take m ys n 0 h
