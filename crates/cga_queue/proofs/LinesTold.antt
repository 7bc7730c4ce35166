-- What the calls on a map and a queue tell of two lines of entries.
use Rattle.std.proofs.Common.{◌≡◌, ℕ, suc, arith, List, [], ◌∷◌, ◌++◌, length, refl, sym, ap, ◌∙◌, subst, inl, inr, Bool, true, false}
use Rattle.std.specs.Prelude.{◌<◌, ◌-◌, ◌↔◌, slice_get, slice_index_or, Option, Some, None, IsSome, IfSome}
use Rattle.std.specs.Option.{option_to_list}
use Rattle.std.specs.Cmp.{IsTotalOrder}
use Rattle.std.specs.declared.cmp.Ordering.{Ordering}
use Rattle.std.specs.declared.cmp.Ordering.TheVariants.{Less, Equal, Greater}
use Rattle.std.specs.BTreeMap.Range.{IsLeBy, IsLtBy}
use Rattle.std.specs.Map.{keys_of}
use Rattle.std.specs.List.{All}
use Rattle.std.specs.Ordering.{is_gt, is_lt, ordering_reverse}
use Rattle.std.proofs.lemmas.Cmp.{alike_right}
use Rattle.cga_queue.specs.Lines.{AllBefore, AllBehind, Rises, FirstsCompare, FirstCompares, IsTakenOut}
use Rattle.cga_order.proofs.Door.{Among-All}
use Rattle.cga_queue.proofs.TwoLines.{behind_front, true_false}

module _ {K X : Type 0} (cmp : K → K → Ordering) (o : IsTotalOrder cmp) where
  pub cons_head : (x y : K × X) (xs ys : List (K × X)) → ◌≡◌ {A = List (K × X)} (x ∷ xs) (y ∷ ys) → x ≡ y
  cons_head x y xs ys e = cc

  pub above_behind : (es : List (K × X)) (k : K) → All (IsLtBy cmp k) (keys_of es) → AllBehind cmp k es
  above_behind es k h q i x = Among-All (IsLtBy cmp k) es q i h x

  -- the map's first was taken: it came before the second line's, or at it
  pub map_taken : (es ls es' ls' : List (K × X)) (p : K × X) → Rises cmp ls → FirstsCompare cmp es ls Less
      → es ≡ p ∷ es' → ls' ≡ ls → AllBehind cmp p.0 es' → IsTakenOut cmp es ls es' ls' p
  map_taken es ls es' ls' p r (inl h) e same above = inl (e, same, above, subst (AllBehind cmp p.0) (sym h.1) (λ q i x. absurd x))
  map_taken es ls es' ls' p r (inr h) e same above =
      let first : h.3.0 ≡ p = cons_head h.3.0 p h.3.1 es' (sym h.3.2 ∙ e) in
      let less : cmp p.0 h.0.0 ≡ Less = ap (λ (x : K × X). cmp x.0 h.0.0) (sym first) ∙ h.3.3 in
      inl (e, same, above, subst (AllBehind cmp p.0) (sym h.2) (behind_front cmp o p h.0 h.1 less (subst (Rises cmp) h.2 r)))

  -- what comes behind one that nothing is behind comes behind all
  pub up_to_before : (es : List (K × X)) (x k : K) → All (λ q. is_lt (cmp x q) ≡ false) (keys_of es) → cmp x k ≡ Less
      → AllBefore cmp es k
  up_to_before es x k h l q i a = elim (cmp x q) as (λ c. cmp x q ≡ c → is_lt c ≡ false → cmp q k ≡ Less) [
    | Less ↦ λ e f. true_false f
    | Equal ↦ λ e f. sym (o.congr x q k e) ∙ l
    | Greater ↦ λ e f. o.trans q x k (o.antisymm q x ∙ ap ordering_reverse e) l
  ] refl (Among-All (λ q. is_lt (cmp x q) ≡ false) es q i h a)

  -- the first of a map, compared with a key
  pub compared : (es r : List (K × X)) (e : K × X) (k : K) (order : Ordering) → es ≡ e ∷ r
      → All (IsLeBy cmp e.0) (keys_of es) → order ≡ cmp e.0 k → FirstCompares cmp es k order
  compared es r e k Less is h c = (e, r, is, sym c)
  compared es r e k Equal is h c = (e, r, is, sym c)
  compared es r e k Greater is h c =
      λ q i a.
      let before : cmp k e.0 ≡ Less = o.antisymm k e.0 ∙ ap ordering_reverse (sym c) in
      elim (cmp e.0 q) as (λ d. cmp e.0 q ≡ d → is_gt d ≡ false → cmp k q ≡ Less) [
        | Less ↦ λ x f. o.trans k e.0 q before x
        | Equal ↦ λ x f. sym (alike_right o e.0 q k x) ∙ before
        | Greater ↦ λ x f. true_false f
      ] refl (Among-All (IsLeBy cmp e.0) es q i h a)

-- a list by its first element
pub opened : {E : Type 0} (xs : List E) (x : E) → 0 < length xs → x ≡ slice_index_or xs 0 x
    → (r : List E) × (xs ≡ x ∷ r)
opened [] x n e = absurd (omega (arith, n))
opened (y ∷ ys) x n e = (ys, ap (λ z. z ∷ ys) (sym e))

pub opened_at : {E : Type 0} (xs : List E) (x : E) → slice_get xs 0 ≡ Some x → (r : List E) × (xs ≡ x ∷ r)
opened_at [] x e = let z : None ≡ Some x = e in cc
opened_at (y ∷ ys) x e = let z : Some y ≡ Some x = e in (ys, ap (λ z. z ∷ ys) (let w : y ≡ x = cc in w))

module _ {K X : Type 0} (cmp : K → K → Ordering) (o : IsTotalOrder cmp) where
  -- the map's first was taken, or there was none
  pub map_took : (es ls es' : List (K × X)) (r : Option (K × X)) → Rises cmp ls → FirstsCompare cmp es ls Less
      → IfSome r (λ p. es ≡ p ∷ es') → IfSome r (λ p. All (IsLtBy cmp p.0) (keys_of es'))
      → IfSome r (λ p. IsTakenOut cmp es ls es' ls p)
  map_took es ls es' None rises first taken above = taken
  map_took es ls es' (Some p) rises first taken above = map_taken cmp o es ls es' ls p rises first taken refl (above_behind cmp o es' p.0 above)

  -- the second line's first was taken
  pub late_took : (es ls ls' : List (K × X)) (r : Option (K × X)) → FirstsCompare cmp es ls Greater
      → ls ≡ option_to_list r ++ ls' → IsSome r → IfSome r (λ p. IsTakenOut cmp es ls es ls' p)
  late_took es ls ls' None first taken some = let z : false ≡ true = some in cc
  late_took es ls ls' (Some p) (inl h) taken some = let z : Greater ≡ Less = h.0 in cc
  late_took es ls ls' (Some p) (inr h) taken some =
      let same : h.0 ≡ p = cons_head cmp o h.0 p h.1 ls' (sym h.2 ∙ taken) in
      inr (inr (refl, taken, subst (λ (x : K × X). AllBehind cmp x.0 es) same h.3))

  -- the second line has a first where its key isn't behind the map's
  pub late_some : (es ls : List (K × X)) (order : Ordering) → FirstsCompare cmp es ls order → (order ≡ Less → ⊥)
      → 0 < length ls
  late_some es ls order (inl h) other = absurd (other h.0)
  late_some es ls order (inr h) other = subst (λ (xs : List (K × X)). 0 < length xs) (sym h.2) (omega arith)

  -- both were taken
  pub both_took : (es ls es' ls' : List (K × X)) (other r : Option (K × X)) → FirstsCompare cmp es ls Equal
      → ls ≡ option_to_list other ++ ls' → IsSome other → IfSome r (λ p. es ≡ p ∷ es')
      → IfSome r (λ p. All (IsLtBy cmp p.0) (keys_of es')) → IfSome r (λ p. IsTakenOut cmp es ls es' ls' p)
  both_took es ls es' ls' None r first was some taken above = let z : false ≡ true = some in cc
  both_took es ls es' ls' (Some l) None first was some taken above = taken
  both_took es ls es' ls' (Some l) (Some p) (inl h) was some taken above = let z : Equal ≡ Less = h.0 in cc
  both_took es ls es' ls' (Some l) (Some p) (inr h) was some taken above =
      let same : h.0 ≡ l = cons_head cmp o h.0 l h.1 ls' (sym h.2 ∙ was) in
      let first : h.3.0 ≡ p = cons_head cmp o h.3.0 p h.3.1 es' (sym h.3.2 ∙ taken) in
      let tied : cmp p.0 l.0 ≡ Equal = (λ i. cmp (sym first i).0 (sym same i).0) ∙ h.3.3 in
      inr (inl (taken, l, was, tied, above_behind cmp o es' p.0 above))

pub lt_is : (o c : Ordering) (r : Bool) → o ≡ c → r ≡ is_lt o → r ≡ true → c ≡ Less
lt_is o Less r e f h = refl
lt_is o Equal r e f h = let z : false ≡ true = sym (f ∙ ap is_lt e) ∙ h in cc
lt_is o Greater r e f h = let z : false ≡ true = sym (f ∙ ap is_lt e) ∙ h in cc

-- what a queue tells of its ends, whose length it keeps
pub some_within : {E : Type 0} (xs : List E) (n : ℕ) → n ≡ length xs → 0 < n → 0 < length xs
some_within xs n e v = subst (λ m. 0 < m) e v

pub some_there : {E B : Type 0} (xs : List E) (n : ℕ) (o : Option B) → n ≡ length xs → 0 < length xs
    → IsSome o ↔ (0 < n) → IsSome o
some_there xs n o e h v = v.1 (subst (λ m. 0 < m) (sym e) h)

pub last_at : {E : Type 0} (xs : List E) (x : E) (n : ℕ) → n ≡ length xs → 0 < n → x ≡ slice_index_or xs (n - 1) x
    → (j : ℕ) × (length xs ≡ suc j) × (x ≡ slice_index_or xs j x)
last_at xs x n e h l = (n - 1, (let z : length xs ≡ suc (n - 1) = omega (arith, e, h) in z), l)
