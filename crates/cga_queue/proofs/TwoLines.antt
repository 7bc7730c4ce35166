-- What stands among the entries that count when one is put into two lines, and when the first is taken out.
use Rattle.std.proofs.Common.{◌≡◌, ℕ, zero, suc, arith, List, [], ◌∷◌, ◌++◌, length, refl, sym, ap, ◌∙◌, subst, ◌⊎◌, inl, inr, true, false}
use Rattle.std.specs.Prelude.{◌||◌, if◌then◌else◌, slice_index_or}
use Rattle.std.specs.Cmp.{IsTotalOrder}
use Rattle.std.specs.declared.cmp.Ordering.{Ordering}
use Rattle.std.specs.declared.cmp.Ordering.TheVariants.{Less, Equal}
use Rattle.std.specs.BTreeMap.{insert_entry}
use Rattle.std.specs.Ordering.{is_eq}
use Rattle.std.proofs.lemmas.Cmp.{tied_itself, tied_back}
use Rattle.cga_order.specs.World.{Among}
use Rattle.cga_queue.specs.Lines.{has_key, spare, counted, AllBefore, AllBehind, Rises, IsPutIn, IsTakenOut}
use Rattle.cga_queue.proofs.Entries.{Takes, created_or_was, now_there, still_there}
use Rattle.cga_queue.proofs.OnIt.{any_from, any_to, is_eq_is}
pub use Rattle.cga_fraction.proofs.Door.{true-not-false as true_false}

-- ---- members of lists one behind the other

module _ {E : Type 0} where
  pub among_either : (xs ys : List E) (x : E) → Among x (xs ++ ys) → Among x xs ⊎ Among x ys
  among_either [] ys x h = inr h
  among_either (y ∷ xs) ys x h = elim h [
    | inl a ↦ inl (inl a)
    | inr r ↦ elim (among_either xs ys x r) [ inl b ↦ inl (inr b) | inr b ↦ inr b ]
  ]

  among_first : (xs ys : List E) (x : E) → Among x xs → Among x (xs ++ ys)
  among_first [] ys x h = absurd h
  among_first (y ∷ xs) ys x h = elim h [ inl a ↦ inl a | inr r ↦ inr (among_first xs ys x r) ]

  among_second : (xs ys : List E) (x : E) → Among x ys → Among x (xs ++ ys)
  among_second [] ys x h = h
  among_second (y ∷ xs) ys x h = inr (among_second xs ys x h)

  -- one of them was taken out of the middle
  pub record IsOut (p : E) (old new : List E) : Type 0 where
    pub there : Among p old
    pub either : (x : E) → Among x old → (p ≡ x) ⊎ Among x new
    pub only : (x : E) → Among x new → Among x old
    pub shorter : length old ≡ suc (length new)

  out_of : (p : E) (xs ys : List E) → IsOut p (xs ++ p ∷ ys) (xs ++ ys)
  out_of p [] ys = record { there = inl refl; either = λ x h. h; only = λ x h. inr h; shorter = refl }
  out_of p (y ∷ xs) ys =
      let z = out_of p xs ys in
      record {
        there = inr z.there;
        either = λ x h. elim h [
          | inl a ↦ inr (inl a)
          | inr r ↦ elim (z.either x r) [ inl b ↦ inl b | inr b ↦ inr (inr b) ]
        ];
        only = λ x h. elim h [ inl a ↦ inl a | inr r ↦ inr (z.only x r) ];
        shorter = ap suc z.shorter;
      }

before_not_tied : {K : Type 0} (cmp : K → K → Ordering) (o : IsTotalOrder cmp) (k q : K) → cmp k q ≡ Less
    → cmp q k ≡ Equal → Less ≡ Equal
before_not_tied cmp o k q l e = sym l ∙ tied_back o q k e

-- an entry was put into a list, in the place of what was there at its key
module _ {K X : Type 0} (cmp : K → K → Ordering) where
  pub record PutsIn (k : K) (v : X) (old new : List (K × X)) : Type 0 where
    pub there : (q : K) × Among (q, v) new × (cmp k q ≡ Equal)
    pub kept : (q : K) (i : X) → Among (q, i) old → (cmp k q ≡ Equal) ⊎ Among (q, i) new
    pub only : (q : K) (i : X) → Among (q, i) new → ((i ≡ v) × (cmp k q ≡ Equal)) ⊎ Among (q, i) old

module _ {K X : Type 0} (cmp : K → K → Ordering) (o : IsTotalOrder cmp) where
  has_from : (es : List (K × X)) (k : K) → has_key cmp es k ≡ true → (e : K × X) × Among e es × (cmp e.0 k ≡ Equal)
  has_from es k h = let z = any_from (λ (e : K × X). is_eq (cmp e.0 k)) es h in (z.0, z.1, is_eq_is (cmp z.0.0 k) z.2)

  has_to : (es : List (K × X)) (k : K) (e : K × X) → Among e es → cmp e.0 k ≡ Equal → has_key cmp es k ≡ true
  has_to es k e h q = any_to (λ (x : K × X). is_eq (cmp x.0 k)) es e h (ap is_eq q)

  -- what counts of the second line
  spare_from : (es ls : List (K × X)) (x : K × X) → Among x (spare cmp es ls)
      → Among x ls × (has_key cmp es x.0 ≡ false)
  unfolding spare
  spare_from es [] x h = absurd h
  spare_from es (l ∷ ls) x h = elim (has_key cmp es l.0) as (λ b. has_key cmp es l.0 ≡ b
      → Among x (if b then spare cmp es ls else (l ∷ spare cmp es ls)) → Among x (l ∷ ls) × (has_key cmp es x.0 ≡ false)) [
        | true ↦ λ q g. let z = spare_from es ls x g in (inr z.0, z.1)
        | false ↦ λ q g. elim g [
          | inl a ↦ (inl a, ap (λ (e : K × X). has_key cmp es e.0) (sym a) ∙ q)
          | inr r ↦ let z = spare_from es ls x r in (inr z.0, z.1)
        ]
      ] refl h

  pub counted_from : (es ls : List (K × X)) (x : K × X) → Among x (counted cmp es ls) → Among x es ⊎ Among x ls
  counted_from es ls x h = elim (among_either es (spare cmp es ls) x h) [ inl a ↦ inl a | inr b ↦ inr (spare_from es ls x b).0 ]

  spare_to : (es ls : List (K × X)) (x : K × X) → Among x ls → has_key cmp es x.0 ≡ false → Among x (spare cmp es ls)
  unfolding spare
  spare_to es [] x h q = absurd h
  spare_to es (l ∷ ls) x h q = elim (has_key cmp es l.0) as (λ b. has_key cmp es l.0 ≡ b → Among x (if b then spare cmp es ls else (l ∷ spare cmp es ls))) [
    | true ↦ λ t. elim h [
      | inl a ↦ true_false (sym t ∙ ap (λ (e : K × X). has_key cmp es e.0) a ∙ q)
      | inr r ↦ spare_to es ls x r q
    ]
    | false ↦ λ t. elim h [ inl a ↦ inl a | inr r ↦ inr (spare_to es ls x r q) ]
  ] refl

  -- a map has no key that comes behind all of it, or before
  none_at : (es : List (K × X)) (k : K) → AllBefore cmp es k → has_key cmp es k ≡ false
  none_at es k h = elim (has_key cmp es k) as (λ b. has_key cmp es k ≡ b → b ≡ false) [
    | true ↦ λ q. (let z = has_from es k q in let w : Less ≡ Equal = sym (h z.0.0 z.0.1 z.1) ∙ z.2 in cc)
    | false ↦ λ q. refl
  ] refl

  none_before : (es : List (K × X)) (k : K) → AllBehind cmp k es → has_key cmp es k ≡ false
  none_before es k h = elim (has_key cmp es k) as (λ b. has_key cmp es k ≡ b → b ≡ false) [
    | true ↦ λ q. (let z = has_from es k q in let w : Less ≡ Equal = before_not_tied cmp o k z.0.0 (h z.0.0 z.0.1 z.1) z.2 in cc)
    | false ↦ λ q. refl
  ] refl

  -- ---- an entry is put in

  taken_tied : (k : K) (es : List (K × X)) (q : K) → Takes cmp k es q → cmp k q ≡ Equal
  taken_tied k es q (inl e) = ap (cmp k) e ∙ tied_itself o k
  taken_tied k es q (inr h) = h.0

  module _ (es ls : List (K × X)) (k : K) (v : X) where
    abbrev more : List (K × X)
    more = insert_entry cmp es k v

    -- the keys of the map are there still, and else only the new one is
    has_old : (q : K) → has_key cmp es q ≡ true → has_key cmp more q ≡ true
    has_old q h =
        let z = has_from es q h in
        elim (still_there cmp k v es z.0.0 z.0.1 z.1) [
          | inl e ↦
              let n = now_there cmp k v es in
              has_to more q (n.0, v) n.1 (sym (o.congr k n.0 q (taken_tied k es n.0 n.2)) ∙ o.congr k z.0.0 q e ∙ z.2)
          | inr t ↦ has_to more q (z.0.0, z.0.1) t z.2
        ]

    has_new : (q : K) → has_key cmp more q ≡ true → (cmp k q ≡ Equal) ⊎ (has_key cmp es q ≡ true)
    has_new q h =
        let z = has_from more q h in
        elim (created_or_was cmp k v es z.0.0 z.0.1 z.1) [
          | inl a ↦ inl (o.congr k z.0.0 q (taken_tied k es z.0.0 a.1) ∙ z.2)
          | inr b ↦ inr (has_to es q (z.0.0, z.0.1) b z.2)
        ]

    into_map : PutsIn cmp k v (counted cmp es ls) (counted cmp more ls)
    into_map = record {
      there = let n = now_there cmp k v es in (n.0, among_first more (spare cmp more ls) (n.0, v) n.1, taken_tied k es n.0 n.2);
      kept = λ q i h. elim (among_either es (spare cmp es ls) (q, i) h) [
        | inl a ↦ elim (still_there cmp k v es q i a) [ inl e ↦ inl e | inr t ↦ inr (among_first more (spare cmp more ls) (q, i) t) ]
        | inr b ↦
            let z = spare_from es ls (q, i) b in
            elim (has_key cmp more q) as (λ b. has_key cmp more q ≡ b → (cmp k q ≡ Equal) ⊎ Among (q, i) (counted cmp more ls)) [
              | true ↦ λ t. elim (has_new q t) [ inl e ↦ inl e | inr f ↦ true_false (sym f ∙ z.1) ]
              | false ↦ λ t. inr (among_second more (spare cmp more ls) (q, i) (spare_to more ls (q, i) z.0 t))
            ] refl
      ];
      only = λ q i h. elim (among_either more (spare cmp more ls) (q, i) h) [
        | inl a ↦ elim (created_or_was cmp k v es q i a) [ inl e ↦ inl (e.0, taken_tied k es q e.1) | inr t ↦ inr (among_first es (spare cmp es ls) (q, i) t) ]
        | inr b ↦
            let z = spare_from more ls (q, i) b in
            elim (has_key cmp es q) as (λ b. has_key cmp es q ≡ b → ((i ≡ v) × (cmp k q ≡ Equal)) ⊎ Among (q, i) (counted cmp es ls)) [
              | true ↦ λ t. true_false (sym (has_old q t) ∙ z.1)
              | false ↦ λ t. inr (among_second es (spare cmp es ls) (q, i) (spare_to es ls (q, i) z.0 t))
            ] refl
      ];
    }

    abbrev longer : List (K × X)
    longer = ls ++ (k, v) ∷ []

    behind_all : AllBefore cmp es k → PutsIn cmp k v (counted cmp es ls) (counted cmp es longer)
    behind_all h = record {
      there = (k, among_second es (spare cmp es longer) (k, v) (spare_to es longer (k, v) (among_second ls ((k, v) ∷ []) (k, v) (inl refl)) (none_at es k h)), tied_itself o k);
      kept = λ q i g. elim (among_either es (spare cmp es ls) (q, i) g) [
        | inl a ↦ inr (among_first es (spare cmp es longer) (q, i) a)
        | inr b ↦ let z = spare_from es ls (q, i) b in inr (among_second es (spare cmp es longer) (q, i) (spare_to es longer (q, i) (among_first ls ((k, v) ∷ []) (q, i) z.0) z.1))
      ];
      only = λ q i g. elim (among_either es (spare cmp es longer) (q, i) g) [
        | inl a ↦ inr (among_first es (spare cmp es ls) (q, i) a)
        | inr b ↦
            let z = spare_from es longer (q, i) b in
            elim (among_either ls ((k, v) ∷ []) (q, i) z.0) [
              | inl c ↦ inr (among_second es (spare cmp es ls) (q, i) (spare_to es ls (q, i) c z.1))
              | inr d ↦ elim d [
                | inl e ↦ inl (sym (ap (λ p. p.1) e), ap (cmp k) (sym (ap (λ p. p.0) e)) ∙ tied_itself o k)
                | inr f ↦ absurd f
              ]
            ]
      ];
    }

  pub puts_in : (es ls es' ls' : List (K × X)) (k : K) (v : X) → IsPutIn cmp es ls es' ls' k v
      → PutsIn cmp k v (counted cmp es ls) (counted cmp es' ls')
  puts_in es ls es' ls' k v (inl h) = subst (λ (xs : List (K × X)). PutsIn cmp k v (counted cmp es ls)
      (counted cmp xs ls')) (sym h.0)
      (subst (λ (ys : List (K × X)). PutsIn cmp k v (counted cmp es ls) (counted cmp es ys)) (sym h.1) (behind_all es ls k v h.2))
  puts_in es ls es' ls' k v (inr h) = subst (λ (xs : List (K × X)). PutsIn cmp k v (counted cmp es ls)
      (counted cmp xs ls')) (sym h.0)
      (subst (λ (ys : List (K × X)). PutsIn cmp k v (counted cmp es ls) (counted cmp (insert_entry cmp es k v) ys)) (sym h.1) (into_map es ls k v))

  rises_more : (ls : List (K × X)) (k : K) (v : X) → Rises cmp ls → AllBefore cmp ls k → Rises cmp (ls ++ (k, v) ∷ [])
  rises_more [] k v r h = (λ q i x. absurd x, tt)
  rises_more (l ∷ ls) k v r h = (
    λ q i x. elim (among_either ls ((k, v) ∷ []) (q, i) x) [
      | inl a ↦ r.0 q i a
      | inr b ↦ elim b [
        | inl e ↦ ap (cmp l.0) (sym (ap (λ p. p.0) e)) ∙ h l.0 l.1 (inl refl)
        | inr f ↦ absurd f
      ]
    ],
    rises_more ls k v r.1 (λ q i x. h q i (inr x)),
  )

  pub rises_after : (es ls es' ls' : List (K × X)) (k : K) (v : X) → Rises cmp ls → IsPutIn cmp es ls es' ls' k v
      → Rises cmp ls'
  rises_after es ls es' ls' k v r (inl h) = subst (Rises cmp) (sym h.1) (rises_more ls k v r h.3)
  rises_after es ls es' ls' k v r (inr h) = subst (Rises cmp) (sym h.1) r

  -- what comes behind the last one comes behind all
  pub all_before : (ls : List (K × X)) (j : ℕ) (x : K × X) (k : K) → length ls ≡ suc j → x ≡ slice_index_or ls j x
      → Rises cmp ls → cmp x.0 k ≡ Less → AllBefore cmp ls k
  all_before [] j x k n e r l q i h = absurd h
  all_before (y ∷ []) zero x k n e r l q i h = elim h [
    | inl a ↦ ap (λ p. cmp p k) (sym (ap (λ p. p.0) a) ∙ ap (λ (p : K × X). p.0) (sym e)) ∙ l
    | inr f ↦ absurd f
  ]
  all_before (y ∷ []) (suc j) x k n e r l q i h = absurd (omega (arith, n))
  all_before (y ∷ z ∷ ls) zero x k n e r l q i h = absurd (omega (arith, n))
  all_before (y ∷ z ∷ ls) (suc j) x k n e r l q i h =
      let rest = all_before (z ∷ ls) j x k (omega (arith, n)) e r.1 l in
      elim h [
        | inl a ↦ ap (λ p. cmp p k) (sym (ap (λ p. p.0) a)) ∙ o.trans y.0 z.0 k (r.0 z.0 z.1 (inl refl)) (rest z.0 z.1 (inl refl))
        | inr s ↦ rest q i s
      ]

  -- ---- the first is taken out

  -- what comes before all of the second line changes nothing of what counts of it
  spare_past : (p : K × X) (es ls : List (K × X)) → AllBehind cmp p.0 ls → spare cmp (p ∷ es) ls ≡ spare cmp es ls
  unfolding spare
  spare_past p es [] h = refl
  spare_past p es (l ∷ ls) h =
      ap (λ b. if (is_eq b || has_key cmp es l.0) then spare cmp (p ∷ es) ls else (l ∷ spare cmp (p ∷ es) ls)) (h l.0 l.1 (inl refl))
      ∙ ap (λ (r : List (K × X)). if has_key cmp es l.0 then r else (l ∷ r)) (spare_past p es ls (λ q i x. h q i (inr x)))

  spare_tied : (p l : K × X) (es ls : List (K × X)) → cmp p.0 l.0 ≡ Equal
      → spare cmp (p ∷ es) (l ∷ ls) ≡ spare cmp (p ∷ es) ls
  unfolding spare
  spare_tied p l es ls e = ap (λ b. if (is_eq b || has_key cmp es l.0) then spare cmp (p ∷ es) ls else (l ∷ spare cmp (p ∷ es) ls)) e

  spare_first : (p : K × X) (es ls : List (K × X)) → AllBehind cmp p.0 es → spare cmp es (p ∷ ls) ≡ p ∷ spare cmp es ls
  unfolding spare
  spare_first p es ls h = ap (λ b. if b then spare cmp es ls else (p ∷ spare cmp es ls)) (none_before es p.0 h)

  -- what comes before the first comes before all
  pub behind_front : (p l : K × X) (ls : List (K × X)) → cmp p.0 l.0 ≡ Less → Rises cmp (l ∷ ls)
      → AllBehind cmp p.0 (l ∷ ls)
  behind_front p l ls less r q i h = elim h [
    | inl a ↦ ap (cmp p.0) (sym (ap (λ (e : K × X). e.0) a)) ∙ less
    | inr b ↦ o.trans p.0 l.0 q less (r.0 q i b)
  ]

  behind_tied : (p l : K × X) (ls : List (K × X)) → cmp p.0 l.0 ≡ Equal → AllBehind cmp l.0 ls → AllBehind cmp p.0 ls
  behind_tied p l ls e h q i x = o.congr p.0 l.0 q e ∙ h q i x

  front_out : (p : K × X) (old new : List (K × X)) → old ≡ p ∷ new → IsOut p old new
  front_out p old new e = subst (λ (xs : List (K × X)). IsOut p xs new) (sym e) (out_of p [] new)

  pub taken_out : (es ls es' ls' : List (K × X)) (p : K × X) → Rises cmp ls → IsTakenOut cmp es ls es' ls' p
      → IsOut p (counted cmp es ls) (counted cmp es' ls')
  taken_out es ls es' ls' p r (inl h) =
      front_out p (counted cmp es ls) (counted cmp es' ls') (ap (λ (xs : List (K × X)). counted cmp xs ls) h.0
      ∙ ap (λ (ys : List (K × X)). p ∷ (es' ++ ys)) (spare_past p es' ls h.3) ∙ ap (λ (ys : List (K × X)). p ∷ counted cmp es' ys) (sym h.1))
  taken_out es ls es' ls' p r (inr (inl h)) =
      let rest = subst (Rises cmp) h.2 r in
      front_out p (counted cmp es ls) (counted cmp es' ls') (
      ap (λ (xs : List (K × X)). counted cmp xs ls) h.0
      ∙ ap (λ (ys : List (K × X)). counted cmp (p ∷ es') ys) h.2
      ∙ ap (λ (ys : List (K × X)). p ∷ (es' ++ ys)) (spare_tied p h.1 es' ls' h.3 ∙ spare_past p es' ls' (behind_tied p h.1 ls' h.3 rest.0))
      )
  taken_out es ls es' ls' p r (inr (inr h)) =
      subst (λ (xs : List (K × X)). IsOut p (counted cmp es ls) (counted cmp xs ls')) (sym h.0)
      (subst (λ (ys : List (K × X)). IsOut p ys (counted cmp es ls'))
      (sym (ap (counted cmp es) h.1 ∙ ap (λ (ys : List (K × X)). es ++ ys) (spare_first p es ls' h.2))) (out_of p es (spare cmp es ls')))

  -- and what is left comes behind it
  counted_behind : (es ls : List (K × X)) (k : K) → AllBehind cmp k es → AllBehind cmp k ls
      → AllBehind cmp k (counted cmp es ls)
  counted_behind es ls k a b q i h = elim (counted_from es ls (q, i) h) [ inl x ↦ a q i x | inr y ↦ b q i y ]

  pub left_behind : (es ls es' ls' : List (K × X)) (p : K × X) → Rises cmp ls → IsTakenOut cmp es ls es' ls' p
      → AllBehind cmp p.0 (counted cmp es' ls')
  left_behind es ls es' ls' p r (inl h) = counted_behind es' ls' p.0 h.2 (subst (AllBehind cmp p.0) (sym h.1) h.3)
  left_behind es ls es' ls' p r (inr (inl h)) = counted_behind es' ls' p.0 h.4 (behind_tied p h.1 ls' h.3 (subst (Rises cmp) h.2 r).0)
  left_behind es ls es' ls' p r (inr (inr h)) = counted_behind es' ls' p.0 (subst (AllBehind cmp p.0) (sym h.0) h.2) (subst (Rises cmp) h.1 r).0

  pub rises_left : (es ls es' ls' : List (K × X)) (p : K × X) → Rises cmp ls → IsTakenOut cmp es ls es' ls' p
      → Rises cmp ls'
  rises_left es ls es' ls' p r (inl h) = subst (Rises cmp) (sym h.1) r
  rises_left es ls es' ls' p r (inr (inl h)) = (subst (Rises cmp) h.2 r).1
  rises_left es ls es' ls' p r (inr (inr h)) = (subst (Rises cmp) h.1 r).1
