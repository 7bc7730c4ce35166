-- How many nodes of a kind a forest has, and how many members of it a list that has the nodes.
use Rattle.std.proofs.Common.{◌≡◌, ℕ, zero, suc, ◌+◌, List, [], ◌∷◌, ◌++◌, length, Bool, true, false, cond, not, refl, sym, ap, ◌∙◌, subst, arith, Option, Some, None, inl, inr}
use Rattle.std.specs.Prelude.{count_by, ◌&&◌, if◌then◌else◌}
use Rattle.std.proofs.lemmas.List.Sums.{sum_by-append, sum_by-cons}
use Rattle.cga_word.specs.declared.primitive.Primitive.{Primitive}
use Rattle.cga_order.specs.World.{Among}
use Rattle.cga_order.specs.Once.{Once}
use Rattle.cga_order.specs.declared.placed.Kind.{Kind}
use Rattle.cga_order.proofs.Door.{Once-index, count-once, length-once}
use Rattle.cga_shape.specs.declared.shape_fault.ShapeFault.{ShapeFault}
use Rattle.cga_expand.specs.Children.{Member}
use Rattle.cga_forest.specs.declared.slot_entry.SlotEntry.{SlotEntry}
use Rattle.cga_forest.specs.Count.{is_shown_as, tally}
use Rattle.cga_forest.specs.View.{Seen, is_shown, present_of, seen, slot}
use Rattle.cga_forest.specs.Tree.{ForestView, IsForest}
use Rattle.cga_city.specs.Nodes.{member_of, members_at, HasNodes}
use Rattle.cga_city.proofs.Counting.{one_node}
use Rattle.cga_city.proofs.LotNodes.{at_to, at_from, at_rest}
use Rattle.cga_city.proofs.Nodes.{among_has, has_among}

-- the members that the nodes of these slots are
abbrev shown : List (Option SlotEntry) → List Member
shown [] = []
shown (s ∷ rest) = members_at (present_of s) ++ shown rest

-- no two are the same
abbrev AreApartIn : List (Option SlotEntry) → Type 0
AreApartIn slots =
    (c d : ℕ) (x y : Seen) → present_of (slot slots c) ≡ Some x → present_of (slot slots d) ≡ Some y
    → member_of x.node ≡ member_of y.node → c ≡ d

shown_to : (slots : List (Option SlotEntry)) (m : Member) → Among m (shown slots)
    → (c : ℕ) × (d : Seen) × (present_of (slot slots c) ≡ Some d) × (member_of d.node ≡ m)
shown_to [] m h = absurd h
shown_to (s ∷ rest) m h = elim (at_to (present_of s) (shown rest) m h) [
  | inl w ↦ (0, w.0, w.1, w.2)
  | inr r ↦ let w = shown_to rest m r in (suc w.0, w.1, w.2, w.3)
]

shown_from : (slots : List (Option SlotEntry)) (c : ℕ) (d : Seen) → present_of (slot slots c) ≡ Some d
    → Among (member_of d.node) (shown slots)
shown_from [] c d h = cc
shown_from (s ∷ rest) zero d h = at_from (present_of s) (shown rest) d h
shown_from (s ∷ rest) (suc c) d h = at_rest (present_of s) (shown rest) (member_of d.node) (shown_from rest c d h)

one_once : (o : Option Seen) (rest : List Member)
    → ((d : Seen) → o ≡ Some d → Among (member_of d.node) rest → ⊥) → Once rest → Once (members_at o ++ rest)
one_once None rest new h = h
one_once (Some d) rest new h = (new d refl, h)

shown_once : (slots : List (Option SlotEntry)) → AreApartIn slots → Once (shown slots)
shown_once [] h = tt
shown_once (s ∷ rest) h = one_once (present_of s) (shown rest)
    (λ d at i. let w = shown_to rest (member_of d.node) i in let e : 0 ≡ suc w.0 = h 0 (suc w.0) d w.1 at w.2 (sym w.3) in absurd (omega (arith, e)))
    (shown_once rest (λ c d x y a b e. let q : suc c ≡ suc d = h (suc c) (suc d) x y a b e in omega (arith, q)))

-- and how many of them pass a test
module _ (test : Kind ShapeFault Primitive → Bool) where
  abbrev passes : Member → Bool
  passes m = test m.kind

  count_first : (o : Option Seen) (rest : List Member)
      → count_by passes (members_at o ++ rest) ≡ count_by passes (members_at o) + count_by passes rest
  count_first o rest = sum_by-append (λ m. cond (passes m) 1 0) (members_at o) rest

  count_one : (s : Option SlotEntry) → count_by passes (members_at (present_of s)) ≡ cond (is_shown_as test s) 1 0
  count_one None = refl
  count_one (Some e) = by_flag e.aside
    where
      by_flag : (b : Bool)
          → count_by passes (members_at (if b then None else Some (seen e))) ≡ cond (not b && test e.node.kind) 1 0
      by_flag true = refl
      by_flag false = let one = sum_by-cons (λ m. cond (passes m) 1 0) (member_of e.node) [] in omega (arith, one)

  shown_count : (slots : List (Option SlotEntry)) → count_by passes (shown slots) ≡ tally (is_shown_as test) slots
  shown_count [] = refl
  shown_count (s ∷ rest) =
      let a = count_first (present_of s) (shown rest) in
      let b = count_one s in
      let c = shown_count rest in
      omega (arith, a, b, c)

shown_length : (slots : List (Option SlotEntry)) → length (shown slots) ≡ tally is_shown slots
shown_length [] = refl
shown_length (s ∷ rest) = let a = first s in let b = shown_length rest in omega (arith, a, b)
  where
    by_flag : (e : SlotEntry) (b : Bool)
        → length (members_at (if b then None else Some (seen e)) ++ shown rest) ≡ cond (not b) 1 0 + length (shown rest)
    by_flag e true = omega arith
    by_flag e false = omega arith

    first : (s : Option SlotEntry)
        → length (members_at (present_of s) ++ shown rest) ≡ cond (is_shown s) 1 0 + length (shown rest)
    first None = omega arith
    first (Some e) = by_flag e e.aside

-- a list that has the nodes of a forest has as many of each kind
module _ (v : ForestView) (f : IsForest v) (list : List Member) (has : HasNodes v list) where
  list_once : Once list
  list_once = Once-index list (λ m i j a b. has.apart i j m m a b refl)

  to_list : (m : Member) → Among m (shown v.slots) → Among m list
  to_list m i =
      let w = shown_to v.slots m i in
      subst (λ n. Among n list) w.3 (has_among list w.1.node.shape w.1.node.kind (has.all w.0 w.1 w.2))

  from_list : (m : Member) → Among m list → Among m (shown v.slots)
  from_list m i =
      let x = has.only m.shape m.kind (among_has list m i) in
      let same : member_of x.1.node ≡ m = ap (λ t. record { shape = t; kind = x.1.node.kind }) x.3 ∙ ap (λ j. record { shape = m.shape; kind = j }) x.4 in
      subst (λ n. Among n (shown v.slots)) same (shown_from v.slots x.0 x.1 x.2)

  pub nodes_counted : tally is_shown v.slots ≡ length list
  nodes_counted =
      let once = shown_once v.slots (one_node v f) in
      let a = length-once (shown v.slots) list once to_list in
      let b = length-once list (shown v.slots) list_once from_list in
      let c = shown_length v.slots in
      omega (arith, a, b, c)

  pub kinds_counted : (test : Kind ShapeFault Primitive → Bool)
      → tally (is_shown_as test) v.slots ≡ count_by (λ m. test m.kind) list
  kinds_counted test = sym (shown_count test v.slots) ∙ count-once (passes test) (shown v.slots) list (shown_once v.slots (one_node v f)) list_once to_list from_list
