-- Boxes in a row, up to one of them, in one box.
use Rattle.std.proofs.Common.{◌≡◌, ℕ, zero, suc, ◌-◌, ◌<◌, ◌≤◌, List, [], ◌∷◌, ◌++◌, length, map, true, false, Some, get_or, refl, sym, ap, ◌∙◌, subst, inl, inr, arith, length-append}
use Rattle.std.specs.Prelude.{slice_get, slice_set, nat_lt}
use Rattle.std.proofs.lemmas.Bool.{cases_Bool as either}
use Rattle.std.proofs.lemmas.Bool.Decides.{nat_tests}
use Rattle.cga_fraction.proofs.Door.{None-not-Some as none_some, length-map, lt-length_from_slice_get as within, map-append, slice_get_from_get_or as there, same_Some as some_same}
use Rattle.cga_frame.specs.Box.{Box, box_of, holds, is_box, meets, touches}
use Rattle.cga_frame.specs.Meeting.{IsHull}
use Rattle.cga_frame.proofs.Door.{box_of_boxed, holds_itself, holds_trans, meets_touches, touches_up}
use Rattle.cga_order.specs.declared.placed.Kind.{Kind}
use Rattle.cga_word.specs.declared.primitive.Primitive.{Primitive}
use Rattle.cga_shape.specs.declared.shape_fault.ShapeFault.{ShapeFault}
use Rattle.cga_expand.specs.Children.{Member}
use Rattle.cga_derive.specs.declared.streak.Streak.{Streak}
use Rattle.cga_derive.specs.Streaks.{AreStreaks, IsBoxed, IsStreak}

-- ---- lists with one more

get_before : {X : Type 0} (xs : List X) (x : X) (i : ℕ) (y : X) → i < length xs → slice_get (xs ++ x ∷ []) i ≡ Some y
    → slice_get xs i ≡ Some y
get_before [] x i y h e = absurd (omega (arith, h))
get_before (z ∷ xs) x zero y h e = e
get_before (z ∷ xs) x (suc i) y h e = get_before xs x i y (omega (arith, h)) e

get_last : {X : Type 0} (xs : List X) (x y : X) → slice_get (xs ++ x ∷ []) (length xs) ≡ Some y → x ≡ y
get_last [] x y e = some_same x y e
get_last (z ∷ xs) x y e = get_last xs x y e

get_map : {X Y : Type 0} (f : X → Y) (xs : List X) (i : ℕ) (x : X) → slice_get xs i ≡ Some x
    → slice_get (map f xs) i ≡ Some (f x)
get_map f [] i x e = none_some x e
get_map f (y ∷ xs) zero x e = ap Some (ap f (some_same y x e))
get_map f (y ∷ xs) (suc i) x e = get_map f xs i x e

-- ---- the next streak

module _ (boxes : List Box) (own : Box) where
  -- the last box alone
  pub streak_one : (last : ℕ) → last ≡ length boxes
      → IsStreak (boxes ++ own ∷ []) (length boxes) (record { first = last; hull = own })
  streak_one last is = record {
    begins = omega (arith, is);
    held = λ i b from to there.
        let at : i ≡ length boxes = omega (arith, from, to, is) in
        let same = get_last boxes own b (subst (λ n. slice_get (boxes ++ own ∷ []) n ≡ Some b) at there) in
        subst (λ c. holds own c ≡ true) same (holds_itself own);
  }

  -- a streak and the one before it
  pub streak_joined : (streak before : Streak) (hull : Box) → IsStreak (boxes ++ own ∷ []) (length boxes) streak
      → 0 < streak.first → IsStreak boxes (streak.first - 1) before → IsHull streak.hull before.hull hull
      → IsStreak (boxes ++ own ∷ []) (length boxes) (record { first = before.first; hull = hull })
  streak_joined streak before hull is some earlier both = record {
    begins = omega (arith, is.begins, earlier.begins, some);
    held = λ i b from to there. elim (either (nat_lt i streak.first)) [
      | inl t ↦
          let lt : i < streak.first = grind (arith, nat_tests) in
          let here = get_before boxes own i b (omega (arith, lt, is.begins)) there in
          holds_trans hull before.hull b both.second (earlier.held i b from (omega (arith, lt)) here)
      | inr t ↦
          let ge : streak.first ≤ i = grind (arith, nat_tests) in
          holds_trans hull streak.hull b both.first (is.held i b ge to there)
    ];
  }

-- the one before a streak
pub streak_before : (boxes : List Box) (streaks : List Streak) (first : ℕ) (before : Streak)
    → AreStreaks boxes streaks → 0 < first → first ≤ length streaks → before ≡ get_or streaks (first - 1) before
    → IsStreak boxes (first - 1) before
streak_before boxes streaks first before are some inside is =
    are.each (first - 1) before (there streaks (first - 1) before (omega (arith, some, inside)) is)

-- ---- one streak more

streak_kept : (boxes : List Box) (own : Box) (i : ℕ) (streak : Streak) → i < length boxes → IsStreak boxes i streak
    → IsStreak (boxes ++ own ∷ []) i streak
streak_kept boxes own i streak inside is = record {
  begins = is.begins;
  held = λ j b from to there. is.held j b from to (get_before boxes own j b (omega (arith, inside, to)) there);
}

streaks_push : (boxes : List Box) (streaks : List Streak) (own : Box) (streak : Streak) → AreStreaks boxes streaks
    → IsStreak (boxes ++ own ∷ []) (length boxes) streak → AreStreaks (boxes ++ own ∷ []) (streaks ++ streak ∷ [])
streaks_push boxes streaks own streak are is =
    let old = length-append streaks (streak ∷ []) in
    let new = length-append boxes (own ∷ []) in record {
      size = omega (arith, old, new, are.size);
      each = λ i s there. elim (either (nat_lt i (length streaks))) [
        | inl t ↦
            let lt : i < length streaks = grind (arith, nat_tests) in
            streak_kept boxes own i s (omega (arith, lt, are.size)) (are.each i s (get_before streaks streak i s lt there))
        | inr t ↦
            let ge : length streaks ≤ i = grind (arith, nat_tests) in
            let less = within (streaks ++ streak ∷ []) i s there in
            let at : i ≡ length streaks = omega (arith, ge, less, old) in
            let same = get_last streaks streak s (subst (λ n. slice_get (streaks ++ streak ∷ []) n ≡ Some s) at there) in
            let end : length boxes ≡ i = omega (arith, at, are.size) in
            subst (IsStreak (boxes ++ own ∷ []) i) same (subst (λ n. IsStreak (boxes ++ own ∷ []) n streak) end is)
      ];
    }

-- ---- along a list of members

abbrev box_in : Member → Box
box_in m = box_of m.shape.scope

-- a member that came, with its streak
pub boxed_created : (list more : List Member) (streaks lent many : List Streak) (m : Member) (own : Box)
    (streak : Streak)
    → IsBoxed list streaks → lent ≡ streaks → more ≡ list ++ m ∷ [] → many ≡ streaks ++ streak ∷ []
    → own ≡ box_of m.shape.scope
    → ((boxes : List Box) → AreStreaks boxes lent → IsStreak (boxes ++ own ∷ []) (length boxes) streak)
    → IsBoxed more many
boxed_created list more streaks lent many m own streak are same created at is made =
    let next = made (map box_in list) (subst (AreStreaks (map box_in list)) (sym same) are) in
    let whole : map box_in list ++ own ∷ [] ≡ map box_in more = ap (λ b. map box_in list ++ b ∷ []) is ∙ (sym (map-append box_in list (m ∷ [])) ∙ ap (map box_in) (sym created)) in
    subst (AreStreaks (map box_in more)) (sym at)
    (subst (λ l. AreStreaks l (streaks ++ streak ∷ [])) whole (streaks_push (map box_in list) streaks own streak are next))

-- they are lent
pub boxed_lent : (list : List Member) (streaks lent : List Streak) → IsBoxed list streaks → lent ≡ streaks
    → (boxes : List Box) × AreStreaks boxes lent
boxed_lent list streaks lent are same = (map box_in list, subst (AreStreaks (map box_in list)) (sym same) are)

-- the same lists
pub boxed_still : (list more : List Member) (streaks many : List Streak) → IsBoxed list streaks → more ≡ list
    → many ≡ streaks → IsBoxed more many
boxed_still list more streaks many are same at =
    subst (λ l. AreStreaks (map box_in l) many) (sym same) (subst (AreStreaks (map box_in list)) (sym at) are)

set_same : {X Y : Type 0} (f : X → Y) (list : List X) (i : ℕ) (x y : X) → x ≡ get_or list i x → f y ≡ f x
    → map f (slice_set list i y) ≡ map f list
set_same f [] i x y at e = refl
set_same f (a ∷ list) zero x y at e = ap (λ z. z ∷ map f list) (e ∙ ap f at)
set_same f (a ∷ list) (suc i) x y at e = ap (λ l. f a ∷ l) (set_same f list i x y at e)

-- a member whose kind is set keeps its streak
pub boxed_set : (list : List Member) (streaks : List Streak) (i : ℕ) (x : Member) (kind : Kind ShapeFault Primitive)
    → x ≡ get_or list i x → IsBoxed list streaks
    → IsBoxed (slice_set list i (record { shape = x.shape; kind = kind })) streaks
boxed_set list streaks i x kind at are =
    subst (λ l. AreStreaks l streaks) (sym (set_same box_in list i x (record { shape = x.shape; kind = kind }) at refl)) are

streaks_long : (list : List Member) (streaks : List Streak) → IsBoxed list streaks → length streaks ≡ length list
streaks_long list streaks are = are.size ∙ length-map box_in list

-- the one that ends with the last of so many members
pub streak_there : (list : List Member) (streaks : List Streak) (left : ℕ) (streak : Streak)
    → IsBoxed list streaks → 0 < left → left ≤ length list → streak ≡ get_or streaks (left - 1) streak
    → (slice_get streaks (left - 1) ≡ Some streak) × (streak.first ≤ left - 1)
streak_there list streaks left streak are some inside is =
    let long = streaks_long list streaks are in
    let at = there streaks (left - 1) streak (omega (arith, some, inside, long)) is in
    (at, (are.each (left - 1) streak at).begins)

-- ---- a hull that doesn't touch a box

apart : (hull b own : Box) → is_box b ≡ true → holds hull b ≡ true → touches hull own ≡ false → meets b own ≡ false
apart hull b own good held off = elim (either (meets b own)) [
  | inl t ↦
      let near = touches_up b hull own held (meets_touches b own good t) in
      let wrong : false ≡ true = sym off ∙ near in absurd (cc)
  | inr f ↦ f
]

-- no member of the streak meets it
pub none_meets : (list : List Member) (streaks : List Streak) (last : ℕ) (streak : Streak) (own : Box)
    → IsBoxed list streaks → slice_get streaks last ≡ Some streak → touches streak.hull own ≡ false
    → (i : ℕ) (m : Member) → streak.first ≤ i → i ≤ last → slice_get list i ≡ Some m
    → meets (box_of m.shape.scope) own ≡ false
none_meets list streaks last streak own are here off i m from to there =
    let held = (are.each last streak here).held i (box_in m) from to (get_map box_in list i m there) in
    apart streak.hull (box_in m) own (box_of_boxed m.shape.scope) held off
