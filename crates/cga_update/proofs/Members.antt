-- Members of lists.
use Rattle.std.proofs.Common.{◌≡◌, ◌⊎◌, inl, inr, ℕ, List, [], ◌∷◌, ◌++◌, refl, ap}
use Rattle.cga_index.specs.Tree.{Member}
use Rattle.cga_order.specs.World.{Among}
use Rattle.cga_forest.specs.declared.node_change.NodeChange.{NodeChange}
use Rattle.cga_forest.specs.NodeChange.{ids_of}

pub among_either : {X : Type 0} (xs ys : List X) (x : X) → Among x (xs ++ ys) → Among x xs ⊎ Among x ys
among_either [] ys x h = inr h
among_either (z ∷ xs) ys x h = elim h [
  | inl e ↦ inl (inl e)
  | inr r ↦ elim (among_either xs ys x r) [ inl a ↦ inl (inr a) | inr b ↦ inr b ]
]

pub ids_join : (xs ys : List NodeChange) → ids_of (xs ++ ys) ≡ ids_of xs ++ ids_of ys
ids_join [] ys = refl
ids_join (x ∷ xs) ys = ap (λ (ids : List ℕ). x.id ∷ ids) (ids_join xs ys)

pub id_of : (xs : List NodeChange) (n : ℕ) → Member (ids_of xs) n → (m : NodeChange) × Among m xs × (m.id ≡ n)
id_of [] n h = absurd h
id_of (x ∷ xs) n h = elim h [
  | inl e ↦ (x, inl refl, e)
  | inr r ↦ (let w = id_of xs n r in (w.0, inr w.1, w.2))
]

pub member_among : (xs : List ℕ) (n : ℕ) → Member xs n → Among n xs
member_among [] n h = h
member_among (y ∷ xs) n (inl e) = inl e
member_among (y ∷ xs) n (inr h) = inr (member_among xs n h)

pub among_member : (xs : List ℕ) (n : ℕ) → Among n xs → Member xs n
among_member [] n h = h
among_member (y ∷ xs) n (inl e) = inl e
among_member (y ∷ xs) n (inr h) = inr (among_member xs n h)
