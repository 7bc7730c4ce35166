-- What is drawn stands by the order of the lots, and each solid can be drawn.
use Rattle.std.proofs.Common.{◌≡◌, ℕ, List, [], ◌∷◌, ◌++◌, Bool, true, refl, Result, Ok, Err, Option, inl, inr}
use Rattle.std.specs.Prelude.{IsOk, IfOk}
use Rattle.std.specs.List.{AllByRecursion, filter, flat_map}
use Rattle.std.proofs.lemmas.List.Elements.{All-from_recursion}
use Rattle.std.proofs.lemmas.Slice.Eq.{bytes_eq-Decides}
use Rattle.cga_check.specs.Uses.{same_name}
use Rattle.cga_word.specs.declared.primitive.Primitive.{Primitive}
use Rattle.cga_order.specs.declared.placed.Kind.{Kind}
use Rattle.cga_order.specs.declared.placed.Kind.TheVariants.{Waiting, Done, Faulted, Instance}
use Rattle.cga_shape.specs.declared.drawn.Drawn.{Drawn}
use Rattle.cga_shape.specs.declared.lot.Lot.{Lot}
use Rattle.cga_shape.specs.declared.shape.Shape.{Shape}
use Rattle.cga_shape.specs.declared.shape_fault.ShapeFault.{ShapeFault}
use Rattle.cga_solid.specs.Solids.{check_solid_of}
use Rattle.cga_obj.specs.Lots.{AreSolid, StandsBy}
use Rattle.cga_expand.specs.Children.{Member}
use Rattle.cga_city.specs.declared.no_lot.NoLot.{NoLot}
use Rattle.cga_city.specs.Order.{put, sorted, comes_before, members_of}
use Rattle.cga_city.specs.Reports.{drawn_as, drawn_of, drawn_in, chosen, drawn_by, instances_of}
use Rattle.cga_city.proofs.Sorting.{decide}

-- ---- what holds of members holds of them in another order

module _ {X : Type 0} (P : X → Type 0) where
  pub both : (xs ys : List X) → AllByRecursion P xs → AllByRecursion P ys → AllByRecursion P (xs ++ ys)
  both [] ys h k = k
  both (x ∷ xs) ys h k = (h.0, both xs ys h.1 k)

  sifted : (test : X → Bool) (xs : List X) → ((x : X) → test x ≡ true → P x) → AllByRecursion P (filter test xs)
  sifted test [] h = tt
  sifted test (x ∷ xs) h = elim (decide (test x)) [ inl t ↦ rw t (h x t, sifted test xs h) | inr f ↦ rw f (sifted test xs h) ]

  fewer : (test : X → Bool) (xs : List X) → AllByRecursion P xs → AllByRecursion P (filter test xs)
  fewer test [] h = tt
  fewer test (x ∷ xs) h = elim (decide (test x)) [ inl t ↦ rw t (h.0, fewer test xs h.1) | inr f ↦ rw f (fewer test xs h.1) ]

  put_all : (before : X → X → Bool) (x : X) (ys : List X) → P x → AllByRecursion P ys
      → AllByRecursion P (put before x ys)
  put_all before x [] h k = (h, tt)
  put_all before x (y ∷ ys) h k = elim (decide (before y x)) [ inl t ↦ rw t (k.0, put_all before x ys h k.1) | inr f ↦ rw f (h, k) ]

  sorted_all : (before : X → X → Bool) (xs : List X) → AllByRecursion P xs → AllByRecursion P (sorted before xs)
  unfolding sorted
  sorted_all before [] h = tt
  sorted_all before (x ∷ xs) h = put_all before x (sorted before xs) h.0 (sorted_all before xs h.1)

-- ---- the order of lots

abbrev IsIn : List ℕ → Member → Type 0
IsIn lot m = m.shape.lot ≡ lot

drawn_as_in : (lot : List ℕ) (s : Shape) (k : Kind ShapeFault Primitive) → s.lot ≡ lot
    → AllByRecursion (λ (d : Drawn). d.lot ≡ lot) (drawn_as s k)
drawn_as_in lot s Waiting h = tt
drawn_as_in lot s Done h = tt
drawn_as_in lot s (Faulted fault) h = tt
drawn_as_in lot s (Instance p) h = (h, tt)

drawn_lot : (lot : List ℕ) (ms : List Member) → AllByRecursion (IsIn lot) ms
    → AllByRecursion (λ (d : Drawn). d.lot ≡ lot) (flat_map drawn_of ms)
drawn_lot lot [] h = tt
drawn_lot lot (m ∷ ms) h = both (λ (d : Drawn). d.lot ≡ lot) (drawn_of m) (flat_map drawn_of ms) (drawn_as_in lot m.shape m.kind h.0) (drawn_lot lot ms h.1)

pub own_drawn : (lot : List ℕ) (list : List Member)
    → AllByRecursion (λ (d : Drawn). d.lot ≡ lot) (flat_map drawn_of (members_of lot list))
own_drawn lot list =
    drawn_lot lot (members_of lot list) (sorted_all (IsIn lot) comes_before (filter (λ m. same_name m.shape.lot lot) list)
    (sifted (IsIn lot) (λ m. same_name m.shape.lot lot) list (λ m t. (bytes_eq-Decides m.shape.lot lot).0 t)))

pub stands : (lots : List (List ℕ)) (list : List Member) → StandsBy lots (drawn_in lots list)
unfolding drawn_in
stands [] list = refl
stands (lot ∷ lots) list = (
  flat_map drawn_of (members_of lot list),
  drawn_in lots list,
  refl,
  All-from_recursion
      (λ (d : Drawn). d.lot ≡ lot) (flat_map drawn_of (members_of lot list)) (own_drawn lot list),
  stands lots list,
)

told_stands : (c : Result (List (List ℕ)) NoLot) (list : List Member)
    → IfOk (drawn_by c list) (λ drawn. IfOk c (λ names. StandsBy names drawn))
told_stands (Ok names) list = stands names list
told_stands (Err none) list = tt

-- what is told stands by the order of the lots that are told of
pub order_told : (lots : List Lot) (name : Option (List ℕ)) (list : List Member) (told : Result (List Drawn) NoLot)
    → told ≡ instances_of lots name list
    → IfOk told (λ drawn. IfOk (chosen lots name) (λ names. StandsBy names drawn))
order_told lots name list told h = rw h (told_stands (chosen lots name) list)

-- ---- solids

abbrev pub CanBeDrawn : Shape → Kind ShapeFault Primitive → Type 0
CanBeDrawn s Waiting = Unit {0}
CanBeDrawn s Done = Unit {0}
CanBeDrawn s (Faulted fault) = Unit {0}
CanBeDrawn s (Instance p) = IsOk (check_solid_of p s.scope)

abbrev pub IsSound : Member → Type 0
IsSound m = CanBeDrawn m.shape m.kind

abbrev IsSolid : Drawn → Type 0
IsSolid d = IsOk (check_solid_of d.primitive d.scope)

solid_as : (s : Shape) (k : Kind ShapeFault Primitive) → CanBeDrawn s k → AllByRecursion IsSolid (drawn_as s k)
solid_as s Waiting h = tt
solid_as s Done h = tt
solid_as s (Faulted fault) h = tt
solid_as s (Instance p) h = (h, tt)

solid_drawn : (ms : List Member) → AllByRecursion IsSound ms → AllByRecursion IsSolid (flat_map drawn_of ms)
solid_drawn [] h = tt
solid_drawn (m ∷ ms) h = both IsSolid (drawn_of m) (flat_map drawn_of ms) (solid_as m.shape m.kind h.0) (solid_drawn ms h.1)

solid_lots : (lots : List (List ℕ)) (list : List Member) → AllByRecursion IsSound list
    → AllByRecursion IsSolid (drawn_in lots list)
unfolding drawn_in
solid_lots [] list h = tt
solid_lots (lot ∷ lots) list h =
    both IsSolid (flat_map drawn_of (members_of lot list)) (drawn_in lots list)
    (solid_drawn (members_of lot list) (sorted_all IsSound comes_before (filter (λ m. same_name m.shape.lot lot) list) (fewer IsSound (λ m. same_name m.shape.lot lot) list h)))
    (solid_lots lots list h)

pub are_solid : (lots : List (List ℕ)) (list : List Member) → AllByRecursion IsSound list
    → AreSolid (drawn_in lots list)
are_solid lots list h = All-from_recursion IsSolid (drawn_in lots list) (solid_lots lots list h)

told_solid : (c : Result (List (List ℕ)) NoLot) (list : List Member) → AllByRecursion IsSound list
    → IfOk (drawn_by c list) AreSolid
told_solid (Ok names) list h = are_solid names list h
told_solid (Err none) list h = tt

pub solid_told : (lots : List Lot) (name : Option (List ℕ)) (list : List Member) (told : Result (List Drawn) NoLot)
    → AllByRecursion IsSound list → told ≡ instances_of lots name list
    → IfOk told AreSolid
solid_told lots name list told all h = rw h (told_solid (chosen lots name) list all)
