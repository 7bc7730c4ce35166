-- Lists of nodes that are gathered by their numbers.
use Rattle.std.proofs.Common.{◌≡◌, inl, inr, ℕ, zero, suc, ◌+◌, ◌-◌, ◌≤◌, ◌<◌, List, [], ◌∷◌, ◌++◌, length, take, Bool, true, false, refl, ap, sym, ◌∙◌, arith, subst}
use Rattle.std.specs.List.{flat_map}
use Rattle.std.specs.Prelude.{Option, Some, None, slice_get, slice_index_or, if◌then◌else◌}
use Rattle.std.proofs.lemmas.List.{append_assoc, append-nil, take_all}
use Rattle.std.proofs.lemmas.Option.{slice_get_cases}
use Rattle.cga_index.specs.Tree.{Member, Apart}
use Rattle.cga_order.specs.World.{Among}
use Rattle.cga_forest.specs.declared.slot_entry.SlotEntry.{SlotEntry}
use Rattle.cga_forest.specs.declared.node_change.NodeChange.{NodeChange}
use Rattle.cga_forest.specs.declared.node.Node.{Node}
use Rattle.cga_forest.specs.NodeChange.{moved_node, ids_of}
use Rattle.cga_forest.specs.Gathered.{found, found_at, below, going, going_at, coming, coming_at, is_come}
pub use Rattle.std.proofs.lemmas.Grind.{flat_map-append as flat_append}
pub use Rattle.cga_fraction.proofs.Door.{Some_from_is_some as some_from, cases_Option as opt_cases}

-- ---- lists

pub take_next : {X : Type 0} (xs : List X) (i : ℕ) (x : X) → slice_get xs i ≡ Some x
    → take (i + 1) xs ≡ take i xs ++ x ∷ []
take_next [] i x h = absurd (cc)
take_next (y ∷ ys) zero x h = let q : y ≡ x = (cc) in ap (λ z. z ∷ []) q
take_next (y ∷ ys) (suc i) x h = let e : suc i + 1 ≡ suc (i + 1) = omega arith in rw e (ap (λ zs. y ∷ zs) (take_next ys i x h))

pub take_none : {X : Type 0} (xs : List X) (i : ℕ) → slice_get xs i ≡ None → take (i + 1) xs ≡ take i xs
take_none xs i h = elim (slice_get_cases xs i).1 [
  | inl w ↦ (cc)
  | inr w ↦ (let out : length xs ≤ i = w.0 in rw (take_all i xs out, take_all (i + 1) xs (omega arith)) refl)
]

pub flat_next : {X A : Type 0} (f : X → List A) (xs : List X) (i : ℕ) (x : X) → slice_get xs i ≡ Some x
    → flat_map f (take (i + 1) xs) ≡ flat_map f (take i xs) ++ f x
flat_next f xs i x h = ap (flat_map f) (take_next xs i x h) ∙ flat_append f (take i xs) (x ∷ []) ∙ ap (λ zs. flat_map f (take i xs) ++ zs) (append-nil (f x))

-- ---- what is found

module _ (s : ℕ → Option SlotEntry) where
  pub found_join : (a b c : List NodeChange) (xs ys : List ℕ) → b ≡ a ++ found s xs → c ≡ b ++ found s ys
      → c ≡ a ++ found s (xs ++ ys)
  found_join a b c xs ys p q =
      q ∙ ap (λ l. l ++ found s ys) p ∙ append_assoc a (found s xs) (found s ys) ∙ ap (λ l. a ++ l) (sym (flat_append (λ k. found_at k (s k)) xs ys))

  -- the numbers may be told otherwise
  pub found_is : (a b : List NodeChange) (xs ys : List ℕ) → xs ≡ ys → b ≡ a ++ found s xs → b ≡ a ++ found s ys
  found_is a b xs ys e p = p ∙ ap (λ l. a ++ found s l) e

  pub found_none : (a : List NodeChange) (xs : List ℕ) → xs ≡ [] → a ≡ a ++ found s xs
  found_none a xs e = sym (ap (λ l. a ++ found s l) e ∙ append-nil a)

  pub found_in : (m : NodeChange) (xs : List ℕ) → Among m (found s xs)
      → (c : ℕ) × (e : SlotEntry) × Member xs c × (s c ≡ Some e) × (m ≡ moved_node c e.node)
  found_in m [] h = absurd h
  found_in m (x ∷ xs) h = (elim (s x) as (λ o. s x ≡ o → Among m (found_at x o ++ found s xs) → (c : ℕ) × (e : SlotEntry) × Member (x ∷ xs) c × (s c ≡ Some e) × (m ≡ moved_node c e.node)) [
    | None ↦ (λ q j. let r = found_in m xs j in (r.0, r.1, inr r.2, r.3, r.4))
    | Some e ↦ (λ q j. elim j [ inl y ↦ (x, e, inl refl, q, sym y) | inr n ↦ (let r = found_in m xs n in (r.0, r.1, inr r.2, r.3, r.4)) ])
  ]) refl h

  among_right : (m : NodeChange) (xs ys : List NodeChange) → Among m ys → Among m (xs ++ ys)
  among_right m [] ys h = h
  among_right m (x ∷ xs) ys h = inr (among_right m xs ys h)

  pub found_has : (xs : List ℕ) (c : ℕ) (e : SlotEntry) → Member xs c → s c ≡ Some e
      → Among (moved_node c e.node) (found s xs)
  found_has [] c e h q = absurd h
  found_has (x ∷ xs) c e h q = elim h [
    | inl y ↦ subst (λ (o : Option SlotEntry). Among (moved_node c e.node) (found_at x o ++ found s xs)) (sym q ∙ ap s (sym y)) (inl (ap (λ k. moved_node k e.node) y))
    | inr n ↦ among_right (moved_node c e.node) (found_at x (s x)) (found s xs) (found_has xs c e n q)
  ]

  ids_in : (xs : List ℕ) (c : ℕ) → Member (ids_of (found s xs)) c → Member xs c
  ids_in [] c h = absurd h
  ids_in (x ∷ xs) c h = (elim (s x) as (λ o. Member (ids_of (found_at x o ++ found s xs)) c → Member (x ∷ xs) c) [
    | None ↦ (λ j. inr (ids_in xs c j))
    | Some e ↦ (λ j. elim j [ inl y ↦ inl y | inr n ↦ inr (ids_in xs c n) ])
  ]) h

  pub found_once : (xs : List ℕ) → Apart xs → Apart (ids_of (found s xs))
  found_once [] a = tt
  found_once (x ∷ xs) a = elim (s x) as (λ o. Apart (ids_of (found_at x o ++ found s xs))) [
    | None ↦ found_once xs a.1
    | Some e ↦ ((λ m. a.0 (ids_in xs x m)), found_once xs a.1)
  ]

-- ---- each once

-- ---- the steps of the walks

pub below_zero : (K : ℕ → List ℕ) (n id : ℕ) → n ≤ 0 → below K n id ≡ []
unfolding below
below_zero K zero id h = refl
below_zero K (suc n) id h = absurd (omega arith)

pub below_step : (K : ℕ → List ℕ) (n id : ℕ) → 0 < n → below K n id ≡ id ∷ flat_map (below K (n - 1)) (K id)
unfolding below
below_step K zero id h = absurd (omega arith)
below_step K (suc n) id h = let e : suc n - 1 ≡ n = omega arith in rw e refl

pub going_zero : (K : ℕ → List ℕ) (n : ℕ) (P : ℕ → Option Node → Bool) (olds : List ℕ) (news : List Node)
    → going K n P olds news 0 ≡ []
unfolding going
going_zero K n P olds news = refl

pub going_step : (K : ℕ → List ℕ) (n : ℕ) (P : ℕ → Option Node → Bool) (olds : List ℕ) (news : List Node) (i : ℕ)
    → going K n P olds news (i + 1) ≡ going K n P olds news i ++ going_at K n P (slice_get olds i) (slice_get news i)
unfolding going
going_step K n P olds news i = let e : i + 1 ≡ suc i = omega arith in rw e refl

-- nobody goes with this child
pub going_still : (K : ℕ → List ℕ) (n : ℕ) (P : ℕ → Option Node → Bool) (olds : List ℕ) (news : List Node) (i : ℕ)
    → going_at K n P (slice_get olds i) (slice_get news i) ≡ []
    → going K n P olds news i ≡ going K n P olds news (i + 1)
going_still K n P olds news i h = sym (going_step K n P olds news i ∙ ap (λ l. going K n P olds news i ++ l) h ∙ append-nil (going K n P olds news i))

pub going_at_none : (K : ℕ → List ℕ) (n : ℕ) (P : ℕ → Option Node → Bool) (o : Option ℕ) (w : Option Node) → o ≡ None
    → going_at K n P o w ≡ []
going_at_none K n P o w h = ap (λ x. going_at K n P x w) h

pub going_at_stays : (K : ℕ → List ℕ) (n : ℕ) (P : ℕ → Option Node → Bool) (o : Option ℕ) (k : ℕ) (w : Option Node)
    → o ≡ Some k → P k w ≡ true → going_at K n P o w ≡ []
going_at_stays K n P o k w h t = ap (λ x. going_at K n P x w) h ∙ ap (λ b. if b then [] else below K n k) t

pub going_at_goes : (K : ℕ → List ℕ) (n : ℕ) (P : ℕ → Option Node → Bool) (o : Option ℕ) (k : ℕ) (w : Option Node)
    → o ≡ Some k → P k w ≡ false → going_at K n P o w ≡ below K n k
going_at_goes K n P o k w h t = ap (λ x. going_at K n P x w) h ∙ ap (λ b. if b then [] else below K n k) t

pub coming_zero : (olds children : List ℕ) → coming olds children 0 ≡ []
unfolding coming
coming_zero olds children = refl

coming_step : (olds children : List ℕ) (i : ℕ)
    → coming olds children (i + 1) ≡ coming olds children i ++ coming_at (slice_get olds i) (slice_get children i)
unfolding coming
coming_step olds children i = let e : i + 1 ≡ suc i = omega arith in rw e refl

-- a child that is no old one at its place
pub coming_more : (olds children : List ℕ) (i c : ℕ) → slice_get children i ≡ Some c
    → is_come (slice_get olds i) c ≡ true → coming olds children i ++ c ∷ [] ≡ coming olds children (i + 1)
coming_more olds children i c at h =
    ap (λ l. coming olds children i ++ l) (sym (ap (coming_at (slice_get olds i)) at ∙ ap (λ b. if b then c ∷ [] else []) h))
    ∙ sym (coming_step olds children i)

-- an old child that stays
pub coming_same : (olds children : List ℕ) (i c : ℕ) → slice_get children i ≡ Some c
    → is_come (slice_get olds i) c ≡ false → coming olds children i ≡ coming olds children (i + 1)
coming_same olds children i c at h =
    sym (append-nil (coming olds children i))
    ∙ ap (λ l. coming olds children i ++ l) (sym (ap (coming_at (slice_get olds i)) at ∙ ap (λ b. if b then c ∷ [] else []) h))
    ∙ sym (coming_step olds children i)

pub got_at : {X : Type 0} (xs : List X) (i : ℕ) (d : X) → i < length xs → slice_get xs i ≡ Some (slice_index_or xs i d)
got_at [] i d h = absurd (omega arith)
got_at (x ∷ xs) zero d h = refl
got_at (x ∷ xs) (suc i) d h = got_at xs i d (omega arith)
