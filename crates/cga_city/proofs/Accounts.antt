-- The changes of an edit account for what is reported before and after it.
use Rattle.std.proofs.Common.{◌≡◌, ℕ, ◌+◌, ◌≤◌, List, [], ◌∷◌, length, map, Bool, true, false, cond, Some, inl, inr, refl, sym, ap, ◌∙◌, subst, arith}
use Rattle.std.specs.Prelude.{bytes_eq, count_by, sum_by, filter}
use Rattle.std.specs.List.{AllByRecursion, IsDistinct, flat_map}
use Rattle.std.proofs.lemmas.List.{length-map}
use Rattle.std.proofs.lemmas.List.Sums.{length-filter, sum_by-cons, sum_by-append}
use Rattle.std.proofs.lemmas.List.Concat.{flat_map-cons}
use Rattle.std.proofs.lemmas.Slice.Eq.{bytes_eq-Decides}
use Rattle.cga_word.specs.declared.primitive.Primitive.{Primitive}
use Rattle.cga_check.specs.Uses.{same_name}
use Rattle.cga_order.specs.Once.{Once}
use Rattle.cga_order.specs.World.{Among}
use Rattle.cga_order.specs.declared.placed.Kind.{Kind}
use Rattle.cga_order.specs.declared.placed.Kind.TheVariants.{Waiting, Done, Faulted, Instance}
use Rattle.cga_agenda.specs.Record.{Drawn, drawn}
use Rattle.cga_agenda.proofs.Door.{Has-drawn}
use Rattle.cga_order.proofs.Door.{length-once}
use Rattle.cga_shape.specs.declared.changes.Changes.{Changes}
use Rattle.cga_shape.specs.declared.drawn.Drawn as reported
use Rattle.cga_shape.specs.declared.shape.Shape.{Shape}
use Rattle.cga_shape.specs.declared.shape_fault.ShapeFault.{ShapeFault}
use Rattle.cga_shape.specs.declared.sources.Sources.{Sources}
use Rattle.cga_derivation.specs.Derivation.{told}
use Rattle.cga_expand.specs.Children.{Member}
use Rattle.cga_update.specs.Updates as updates
use Rattle.cga_update.specs.Updates.{IsChange, instances}
use Rattle.cga_city.specs.Derived.{derived}
use Rattle.cga_city.specs.Inside.{AreSound}
use Rattle.cga_city.specs.Lots.{names_of}
use Rattle.cga_city.specs.Order.{comes_before, members_of, put, sorted}
use Rattle.cga_city.specs.Reports.{drawn_as, drawn_in, drawn_of}
use Rattle.cga_city.proofs.Deriving.{few_members}
use Rattle.cga_city.proofs.Sorting.{all_at, decide}
use Rattle.cga_city.proofs.InLots.{AllAt, members_at_lots}
use Rattle.cga_city.proofs.Nodes.{filter_from, filter_to}

-- ---- sums

module _ {X : Type 0} where
  sum_none : (xs : List X) → sum_by (λ (x : X). 0) xs ≡ 0
  sum_none [] = refl
  sum_none (x ∷ xs) = let a = sum_by-cons (λ (x : X). 0) x xs in let b = sum_none xs in omega (arith, a, b)

  sum_plus : (f g : X → ℕ) (xs : List X) → sum_by (λ (x : X). f x + g x) xs ≡ sum_by f xs + sum_by g xs
  sum_plus f g [] = refl
  sum_plus f g (x ∷ xs) =
      let a = sum_by-cons (λ (x : X). f x + g x) x xs in
      let b = sum_by-cons f x xs in
      let c = sum_by-cons g x xs in
      let d = sum_plus f g xs in
      omega (arith, a, b, c, d)

  sum_alike : (f g : X → ℕ) → ((x : X) → f x ≡ g x) → (xs : List X) → sum_by f xs ≡ sum_by g xs
  sum_alike f g h xs = ap (λ (k : X → ℕ). sum_by k xs) (λ i x. h x i)

  -- the order doesn't matter
  sum_put : (f : X → ℕ) (before : X → X → Bool) (x : X) (ys : List X) → sum_by f (put before x ys) ≡ f x + sum_by f ys
  sum_put f before x [] = sum_by-cons f x []
  sum_put f before x (y ∷ ys) = elim (decide (before y x)) [
    | inl t ↦ rw t (let a = sum_by-cons f y (put before x ys) in let b = sum_by-cons f y ys in let c = sum_put f before x ys in omega (arith, a, b, c))
    | inr e ↦ rw e (sum_by-cons f x (y ∷ ys))
  ]

  sum_sorted : (f : X → ℕ) (before : X → X → Bool) (xs : List X) → sum_by f (sorted before xs) ≡ sum_by f xs
  unfolding sorted
  sum_sorted f before [] = refl
  sum_sorted f before (x ∷ xs) =
      let a = sum_put f before x (sorted before xs) in
      let b = sum_sorted f before xs in
      let c = sum_by-cons f x xs in
      omega (arith, a, b, c)

  count_flat : {Y : Type 0} (test : X → Bool) (f : Y → List X) (ys : List Y)
      → count_by test (flat_map f ys) ≡ sum_by (λ (y : Y). count_by test (f y)) ys
  count_flat {Y} test f [] = refl
  count_flat {Y} test f (y ∷ ys) =
      let a = ap (count_by test) (flat_map-cons f y ys) in
      let b = sum_by-append (λ (x : X). cond (test x) 1 0) (f y) (flat_map f ys) in
      let c = sum_by-cons (λ (y : Y). count_by test (f y)) y ys in
      let d = count_flat test f ys in
      omega (arith, a, b, c, d)

  count_all : (xs : List X) → count_by (λ (x : X). true) xs ≡ length xs
  count_all [] = refl
  count_all (x ∷ xs) = let a = sum_by-cons (λ (x : X). 1) x xs in let b = count_all xs in omega (arith, a, b)

-- ---- by lots, and at once

-- a name stands once among names that differ
none_named : (name : List ℕ) (n : ℕ) (names : List (List ℕ)) → AllByRecursion (λ l. bytes_eq name l ≡ false) names
    → sum_by (λ (l : List ℕ). cond (same_name name l) n 0) names ≡ 0
none_named name n [] h = refl
none_named name n (l ∷ names) h =
    let a = sum_by-cons (λ (l : List ℕ). cond (same_name name l) n 0) l names in
    let b : cond (same_name name l) n 0 ≡ 0 = ap (λ (t : Bool). cond t n 0) h.0 in
    let c = none_named name n names h.1 in
    omega (arith, a, b, c)

once_named : (name : List ℕ) (n : ℕ) (names : List (List ℕ)) → IsDistinct bytes_eq names → Among name names
    → sum_by (λ (l : List ℕ). cond (same_name name l) n 0) names ≡ n
unfolding IsDistinct
once_named name n [] distinct i = absurd i
once_named name n (l ∷ names) distinct i =
    let a = sum_by-cons (λ (l : List ℕ). cond (same_name name l) n 0) l names in
    elim i [
      | inl e ↦ (
          let b : cond (same_name name l) n 0 ≡ n = ap (λ (t : Bool). cond t n 0) ((bytes_eq-Decides name l).1 (sym e)) in
          let c = none_named name n names (subst (λ (x : List ℕ). AllByRecursion (λ y. bytes_eq x y ≡ false) names) e distinct.0) in
          omega (arith, a, b, c)
          )
      | inr j ↦ (
          let other : bytes_eq l name ≡ false = all_at (λ y. bytes_eq l y ≡ false) names name distinct.0 j in
          let b : cond (same_name name l) n 0 ≡ 0 = elim (decide (bytes_eq name l)) [
            | inl t ↦ (let same : l ≡ name = sym ((bytes_eq-Decides name l).0 t) in let yes : bytes_eq l name ≡ true = (bytes_eq-Decides l name).1 same in cc)
            | inr f ↦ ap (λ (t : Bool). cond t n 0) f
          ] in
          let c = once_named name n names distinct.1 j in
          omega (arith, a, b, c)
          )
    ]

-- the members of a lot, whatever their order
sum_lot : (f : Member → ℕ) (lot : List ℕ) (m : Member) (list : List Member)
    → sum_by f (filter (λ (m : Member). same_name m.shape.lot lot) (m ∷ list)) ≡ cond (same_name m.shape.lot lot) (f m)
    0 + sum_by f (filter (λ (m : Member). same_name m.shape.lot lot) list)
sum_lot f lot m list = elim (decide (same_name m.shape.lot lot)) [
  | inl t ↦ rw t (sum_by-cons f m (filter (λ (m : Member). same_name m.shape.lot lot) list))
  | inr e ↦ rw e (omega arith)
]

sum_lots : (f : Member → ℕ) (names : List (List ℕ)) → IsDistinct bytes_eq names → (list : List Member)
    → AllAt names list
    → sum_by (λ (lot : List ℕ). sum_by f (filter (λ (m : Member). same_name m.shape.lot lot) list)) names ≡ sum_by f
    list
sum_lots f names distinct [] h = sum_none names
sum_lots f names distinct (m ∷ list) h =
    let a = sum_alike _ _ (λ lot. sum_lot f lot m list) names in
    let b = sum_plus (λ (lot : List ℕ). cond (same_name m.shape.lot lot) (f m) 0) (λ (lot : List ℕ). sum_by f (filter (λ (m : Member). same_name m.shape.lot lot) list)) names in
    let c = once_named m.shape.lot (f m) names distinct h.0 in
    let d = sum_lots f names distinct list h.1 in
    let e = sum_by-cons f m list in
    a ∙ (b ∙ omega (arith, c, d, e))

-- what is drawn, as reports give it and as the record of changes does
instance_count : (test : reported.Drawn → Bool) (n : Shape) (k : Kind ShapeFault Primitive) (rest : List Member)
    → count_by test (instances (record { shape = n; kind = k } ∷ rest)) ≡ count_by test (drawn_as n k) + count_by test
    (instances rest)
instance_count test n Waiting rest = omega arith
instance_count test n Done rest = omega arith
instance_count test n (Faulted fault) rest = omega arith
instance_count test n (Instance p) rest = sum_by-append (λ (x : reported.Drawn). cond (test x) 1 0) (drawn_as n (Instance p)) (instances rest)

instances_count : (test : reported.Drawn → Bool) (list : List Member)
    → count_by test (instances list) ≡ sum_by (λ (m : Member). count_by test (drawn_of m)) list
instances_count test [] = refl
instances_count test (m ∷ list) =
    let a = instance_count test m.shape m.kind list in
    let b = instances_count test list in
    let c = sum_by-cons (λ (m : Member). count_by test (drawn_of m)) m list in
    omega (arith, a, b, c)

reports_count : (test : reported.Drawn → Bool) (names : List (List ℕ)) (list : List Member) → IsDistinct bytes_eq names
    → AllAt names list → count_by test (drawn_in names list) ≡ count_by test (instances list)
unfolding drawn_in
reports_count test names list distinct h =
    let each : Member → ℕ = λ (m : Member). count_by test (drawn_of m) in
    count_flat test (λ (lot : List ℕ). flat_map drawn_of (members_of lot list)) names
    ∙ (sum_alike _ _ (λ lot. count_flat test drawn_of (members_of lot list) ∙ sum_sorted each comes_before (filter (λ (m : Member). same_name m.shape.lot lot) list)) names
    ∙ (sum_lots each names distinct list h ∙ sym (instances_count test list)))

few_by : (n : Shape) (k : Kind ShapeFault Primitive) (list : List Member) → length (drawn list) ≤ length list
    → length (drawn (record { shape = n; kind = k } ∷ list)) ≤ length list + 1
few_by n Waiting list h = omega (arith, h)
few_by n Done list h = omega (arith, h)
few_by n (Faulted fault) list h = omega (arith, h)
few_by n (Instance p) list h = omega (arith, h)

few_drawn : (list : List Member) → length (drawn list) ≤ length list
few_drawn [] = omega arith
few_drawn (m ∷ list) = let h = few_by m.shape m.kind list (few_drawn list) in omega (arith, h)

-- ---- what went

module _ {X : Type 0} (test : X → Bool) where
  once_filtered : (xs : List X) → Once xs → Once (filter test xs)
  once_filtered [] once = tt
  once_filtered (x ∷ xs) once = elim (decide (test x)) [
    | inl t ↦ rw t ((λ i. once.0 (filter_to test xs x i).0), once_filtered xs once.1)
    | inr f ↦ rw f (once_filtered xs once.1)
  ]

  -- where each of a list is once and in another, no more of it meet a test
  few_of : (xs ys : List X) → Once xs → ((x : X) → Among x xs → Among x ys) → count_by test xs ≤ count_by test ys
  few_of xs ys once all =
      let few = length-once (filter test xs) (filter test ys) (once_filtered xs once) (λ x i. let w = filter_to test xs x i in filter_from test ys x (all x w.0) w.1) in
      omega (arith, few, length-filter test xs, length-filter test ys)

told_count : (test : reported.Drawn → Bool) (list : List (Drawn Shape Primitive))
    → count_by test (map updates.told list) ≡ count_by (λ (d : Drawn Shape Primitive). test (updates.told d)) list
told_count test [] = refl
told_count test (d ∷ list) =
    let a = sum_by-cons (λ (x : reported.Drawn). cond (test x) 1 0) (updates.told d) (map updates.told list) in
    let b = sum_by-cons (λ (x : Drawn Shape Primitive). cond (test (updates.told x)) 1 0) d list in
    omega (arith, a, b, told_count test list)

-- ---- changes

module _ (budget : ℕ) (old new : Sources) (before after : List Member) (changes : Changes) (change : IsChange old new before after changes) where
  -- what is reported before and after an edit, each as often
  pub accounted : AreSound old → AreSound new → derived budget old ≡ Some before → derived budget new ≡ Some after
      → (test : reported.Drawn → Bool)
      → count_by test (drawn_in (names_of old.lots) before) + count_by test changes.come ≡ count_by test
      (drawn_in (names_of new.lots) after) + count_by test changes.gone
  accounted sound sound' fits fits' test =
      ap (λ (n : ℕ). n + count_by test changes.come) (reports_count test (names_of old.lots) before sound.names (members_at_lots budget old before fits))
      ∙ (change.balance test
      ∙ ap (λ (n : ℕ). n + count_by test changes.gone) (sym (reports_count test (names_of new.lots) after sound'.names (members_at_lots budget new after fits'))))

  -- what went was reported before
  pub gone_reported : AreSound old → derived budget old ≡ Some before → (test : reported.Drawn → Bool)
      → count_by test changes.gone ≤ count_by test (drawn_in (names_of old.lots) before)
  gone_reported sound fits test =
      let as_told : Drawn Shape Primitive → Bool = λ d. test (updates.told d) in
      let few = few_of as_told change.gone (drawn before) change.record.gone_once (λ d i. Has-drawn before d (change.record.each_gone d i).0) in
      let gone = ap (count_by test) change.gone_told in
      let told = told_count test change.gone in
      let all = told_count test (drawn before) in
      let same = reports_count test (names_of old.lots) before sound.names (members_at_lots budget old before fits) in
      omega (arith, few, gone, told, all, same)

  -- no more comes than there are members then
  pub come_few : length changes.come ≤ length after
  come_few =
      let one = length-once change.come (drawn after) change.record.come_once (λ d i. Has-drawn after d (change.record.each_come d i).0) in
      let all = few_drawn after in
      let told = ap length change.come_told in
      omega (arith, one, all, told, length-map change.come updates.told)

-- and no more is reported
pub reported_few : (budget : ℕ) (s : Sources) (list : List Member) → AreSound s → derived budget s ≡ Some list
    → length (drawn_in (names_of s.lots) list) ≤ budget
reported_few budget s list sound fits =
    let drawn_all = drawn_in (names_of s.lots) list in
    let a = count_all drawn_all in
    let b = reports_count (λ (d : reported.Drawn). true) (names_of s.lots) list sound.names (members_at_lots budget s list fits) in
    let c = count_all (instances list) in
    let d = length-map (drawn list) updates.told in
    let e = few_drawn list in
    let f = few_members budget s list fits in
    omega (arith, a, b, c, d, e, f)
