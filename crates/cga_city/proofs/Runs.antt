-- Walks over lots in runs: what a run adds to what those before it told.
use Rattle.std.proofs.Common.{◌≡◌, ◌∙◌, ℕ, ◌+◌, List, [], ◌∷◌, ◌++◌, length, Bool, true, false, cond, not, Some, None, Result, Ok, Err, refl, sym, ap, arith, append_assoc}
use Rattle.std.specs.List.{flat_map, position, position_from}
use Rattle.std.specs.Prelude.{is_ok, option_map}
use Rattle.std.proofs.lemmas.Grind.{flat_map-append}
use Rattle.std.proofs.lemmas.Iterator.Adapters.{position_from-zero}
use Rattle.cga_fraction.proofs.Door.{map-append}
use Rattle.cga_fraction.specs.Results.{and_then, err_if}
use Rattle.cga_rule.specs.declared.grammar.Grammar.{Grammar}
use Rattle.cga_shape.specs.declared.drawn.Drawn.{Drawn}
use Rattle.cga_shape.specs.declared.edit_refused.EditRefused.TheVariants.{BadLot, NoSymbol}
use Rattle.cga_shape.specs.declared.fault_line.FaultLine.{FaultLine}
use Rattle.cga_shape.specs.declared.lot.Lot.{Lot}
use Rattle.cga_expand.specs.Children.{Member}
use Rattle.cga_city.specs.Grammars.{is_plain}
use Rattle.cga_city.specs.Lots.{accepted, is_bad, names_of, rooted}
use Rattle.cga_city.specs.Order.{members_of}
use Rattle.cga_city.specs.Reports.{drawn_in, drawn_of, fault_of, faults_in}

-- ---- the first place that passes a test

module _ {X : Type 0} (test : X → Bool) where
  shifted : (n m : ℕ) (xs : List X) → position_from test (n + m) xs ≡ option_map (λ i. n + i) (position_from test m xs)
  shifted n m [] = refl
  shifted n m (x ∷ xs) =
      let e : n + m + 1 ≡ n + (m + 1) = omega arith in
      by_test (test x) (ap (λ k. position_from test k xs) e ∙ shifted n (m + 1) xs)
    where
      by_test : (b : Bool) → position_from test (n + m + 1) xs ≡ option_map (λ i. n + i) (position_from test (m + 1) xs)
          → cond b (Some (n + m)) (position_from test (n + m + 1) xs)
          ≡ option_map (λ i. n + i) (cond b (Some m) (position_from test (m + 1) xs))
      by_test true rest = refl
      by_test false rest = rest

  found_first : (n : ℕ) (xs ys : List X) (i : ℕ) → position_from test n xs ≡ Some i
      → position_from test n (xs ++ ys) ≡ Some i
  found_first n [] ys i h = absurd (cc)
  found_first n (x ∷ xs) ys i h = by_test (test x) (found_first (n + 1) xs ys i) h
    where
      by_test : (b : Bool)
          → (position_from test (n + 1) xs ≡ Some i → position_from test (n + 1) (xs ++ ys) ≡ Some i)
          → cond b (Some n) (position_from test (n + 1) xs) ≡ Some i
          → cond b (Some n) (position_from test (n + 1) (xs ++ ys)) ≡ Some i
      by_test true rest h = h
      by_test false rest h = rest h

  none_first : (n : ℕ) (xs ys : List X) → position_from test n xs ≡ None
      → position_from test n (xs ++ ys) ≡ position_from test (n + length xs) ys
  none_first n [] ys h = let e : n ≡ n + 0 = omega arith in ap (λ k. position_from test k ys) e
  none_first n (x ∷ xs) ys h =
      let e : (n + 1) + length xs ≡ n + length (x ∷ xs) = omega arith in
      by_test (test x) (λ none. none_first (n + 1) xs ys none ∙ ap (λ k. position_from test k ys) e) h
    where
      by_test : (b : Bool)
          → (position_from test (n + 1) xs ≡ None
          → position_from test (n + 1) (xs ++ ys) ≡ position_from test (n + length (x ∷ xs)) ys)
          → cond b (Some n) (position_from test (n + 1) xs) ≡ None
          → cond b (Some n) (position_from test (n + 1) (xs ++ ys)) ≡ position_from test (n + length (x ∷ xs)) ys
      by_test true rest h = absurd (cc)
      by_test false rest h = rest h

  from_position : (n : ℕ) (xs : List X) → position_from test n xs ≡ option_map (λ i. n + i) (position test xs)
  from_position n xs =
      let e : n ≡ n + 0 = omega arith in
      ap (λ k. position_from test k xs) e ∙ (shifted n 0 xs ∙ ap (option_map (λ i. n + i)) (sym (position_from-zero test xs)))

  pub place_begun : (xs : List X) → position_from test 0 xs ≡ position test xs
  place_begun xs = sym (position_from-zero test xs)

  pub place_next : (n : ℕ) (xs ys : List X) → None ≡ position test xs
      → position_from test n (xs ++ ys) ≡ position_from test (n + length xs) ys
  place_next n xs ys none = none_first n xs ys (from_position n xs ∙ ap (option_map (λ i. n + i)) (sym none))

  pub place_found : (n : ℕ) (xs ys : List X) (i : ℕ) → Some i ≡ position test xs
      → position_from test n (xs ++ ys) ≡ Some (n + i)
  place_found n xs ys i found = found_first n xs ys (n + i) (from_position n xs ∙ ap (option_map (λ k. n + k)) (sym found))

-- ---- the first lot that is refused

pub then_next : {E : Type 0} (first more : Result (Unit {0}) E) → is_ok first ≡ true → and_then first (λ u. more) ≡ more
then_next (Ok u) more h = refl
then_next (Err e) more h = absurd (cc)

pub then_stops : {E : Type 0} (first more : Result (Unit {0}) E) → is_ok first ≡ false
    → and_then first (λ u. more) ≡ first
then_stops (Ok u) more h = absurd (cc)
then_stops (Err e) more h = refl

pub rooted-append : (g : Grammar) (xs ys : List Lot) → rooted g (xs ++ ys) ≡ and_then (rooted g xs) (λ u. rooted g ys)
rooted-append g [] ys = refl
rooted-append g (lot ∷ xs) ys = by_test (not (is_plain g lot.symbol)) (rooted-append g xs ys)
  where
    by_test : (b : Bool) → rooted g (xs ++ ys) ≡ and_then (rooted g xs) (λ u. rooted g ys)
        → err_if b (NoSymbol lot.symbol) (rooted g (xs ++ ys))
        ≡ and_then (err_if b (NoSymbol lot.symbol) (rooted g xs)) (λ u. rooted g ys)
    by_test true rest = refl
    by_test false rest = rest

pub accepted-append : (g : Grammar) (xs ys : List Lot)
    → accepted g (xs ++ ys) ≡ and_then (accepted g xs) (λ u. accepted g ys)
accepted-append g [] ys = refl
accepted-append g (lot ∷ xs) ys = by_tests (not (is_plain g lot.symbol)) (is_bad lot) (accepted-append g xs ys)
  where
    by_tests : (b c : Bool) → accepted g (xs ++ ys) ≡ and_then (accepted g xs) (λ u. accepted g ys)
        → err_if b (NoSymbol lot.symbol) (err_if c (BadLot lot.name) (accepted g (xs ++ ys)))
        ≡ and_then (err_if b (NoSymbol lot.symbol) (err_if c (BadLot lot.name) (accepted g xs))) (λ u. accepted g ys)
    by_tests true c rest = refl
    by_tests false true rest = refl
    by_tests false false rest = rest

-- ---- reports

pub drawn_more : (run rest : List Lot) (list : List Member) (old new all : List Drawn)
    → new ≡ old ++ drawn_in (names_of run) list → old ++ drawn_in (names_of (run ++ rest)) list ≡ all
    → new ++ drawn_in (names_of rest) list ≡ all
unfolding drawn_in
drawn_more run rest list old new all made kept =
    let both : drawn_in (names_of (run ++ rest)) list ≡ drawn_in (names_of run) list ++ drawn_in (names_of rest) list =
    ap (λ names. drawn_in names list) (map-append (λ (lot : Lot). lot.name) run rest)
    ∙ flat_map-append (λ lot. flat_map drawn_of (members_of lot list)) (names_of run) (names_of rest) in
    ap (λ d. d ++ drawn_in (names_of rest) list) made
    ∙ (append_assoc old (drawn_in (names_of run) list) (drawn_in (names_of rest) list) ∙ (ap (λ d. old ++ d) (sym both) ∙ kept))

pub faults_more : (run rest : List Lot) (list : List Member) (old new all : List FaultLine)
    → new ≡ old ++ faults_in (names_of run) list → old ++ faults_in (names_of (run ++ rest)) list ≡ all
    → new ++ faults_in (names_of rest) list ≡ all
unfolding faults_in
faults_more run rest list old new all made kept =
    let both : faults_in (names_of (run ++ rest)) list ≡ faults_in (names_of run) list ++ faults_in (names_of rest) list =
    ap (λ names. faults_in names list) (map-append (λ (lot : Lot). lot.name) run rest)
    ∙ flat_map-append (λ lot. flat_map fault_of (members_of lot list)) (names_of run) (names_of rest) in
    ap (λ d. d ++ faults_in (names_of rest) list) made
    ∙ (append_assoc old (faults_in (names_of run) list) (faults_in (names_of rest) list) ∙ (ap (λ d. old ++ d) (sym both) ∙ kept))
