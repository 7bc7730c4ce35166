-- What is drawn of the first lot, and what is left for the others.
use Rattle.std.proofs.Common.{◌≡◌, ℕ, ◌+◌, ◌<◌, ◌≤◌, List, [], ◌∷◌, ◌++◌, length, get_or, take, drop, refl, sym, ◌∙◌, ap, append_assoc, Bool, true, false, subst, arith}
use Rattle.std.specs.List.{AllByRecursion, IsDistinct, filter, prefix_len}
use Rattle.std.proofs.lemmas.List.{append-nil, at_drop_all, drop_at, drop_more, take_at}
use Rattle.std.proofs.lemmas.List.Elements.{filter-append, recursion_from_All}
use Rattle.std.proofs.lemmas.Slice.Eq.{bytes_eq-Decides}
use Rattle.std.specs.Prelude.{bytes_eq}
use Rattle.cga_shape.specs.declared.drawn.Drawn.{Drawn}
use Rattle.cga_obj.specs.Lots.{Shown, StandsBy, drawn_of, is_of, lot_text, lots_text, vertices_in}
use Rattle.cga_fraction.proofs.Door.{bytes_eq-false_back}

module _ (p : Drawn → Bool) where
  filter_all : (xs : List Drawn) → AllByRecursion (λ x. p x ≡ true) xs → filter p xs ≡ xs
  filter_all [] h = refl
  filter_all (x ∷ xs) h = rw h.0 (ap (λ (t : List Drawn). x ∷ t) (filter_all xs h.1))

  filter_none : (xs : List Drawn) → AllByRecursion (λ x. p x ≡ false) xs → filter p xs ≡ []
  filter_none [] h = refl
  filter_none (x ∷ xs) h = rw h.0 (filter_none xs h.1)

  prefix_none : (xs : List Drawn) → AllByRecursion (λ x. p x ≡ false) xs → prefix_len p xs ≡ 0
  prefix_none [] h = refl
  prefix_none (x ∷ xs) h = rw h.0 refl

  prefix_run : (xs ys : List Drawn) → AllByRecursion (λ x. p x ≡ true) xs → AllByRecursion (λ x. p x ≡ false) ys
      → prefix_len p (xs ++ ys) ≡ length xs
  prefix_run [] ys h k = prefix_none ys k
  prefix_run (x ∷ xs) ys h k = rw h.0 (ap (λ (n : ℕ). 1 + n) (prefix_run xs ys h.1 k) ∙ omega arith)

  both_fail : (xs ys : List Drawn) → AllByRecursion (λ x. p x ≡ false) xs → AllByRecursion (λ x. p x ≡ false) ys
      → AllByRecursion (λ x. p x ≡ false) (xs ++ ys)
  both_fail [] ys h k = k
  both_fail (x ∷ xs) ys h k = (h.0, both_fail xs ys h.1 k)

-- those of a lot pass its test, and fail that of another
own_pass : (lot : List ℕ) (own : List Drawn) → AllByRecursion (λ d. d.lot ≡ lot) own
    → AllByRecursion (λ d. is_of lot d ≡ true) own
own_pass lot [] h = tt
own_pass lot (d ∷ ds) h = ((bytes_eq-Decides lot d.lot).1 (sym h.0), own_pass lot ds h.1)

others_fail : (lot other : List ℕ) (own : List Drawn) → bytes_eq lot other ≡ false
    → AllByRecursion (λ d. d.lot ≡ other) own → AllByRecursion (λ d. is_of lot d ≡ false) own
others_fail lot other [] e h = tt
others_fail lot other (d ∷ ds) e h = (rw h.0 e, others_fail lot other ds e h.1)

rest_fail : (lot : List ℕ) (lots : List (List ℕ)) (rest : List Drawn)
    → AllByRecursion (λ y. bytes_eq lot y ≡ false) lots → StandsBy lots rest
    → AllByRecursion (λ d. is_of lot d ≡ false) rest
rest_fail lot [] rest a s = rw s tt
rest_fail lot (l ∷ ls) rest a (own, more, e, all, stands) =
    rw e (both_fail (is_of lot) own more (others_fail lot l own a.0 (recursion_from_All _ own all)) (rest_fail lot ls more a.1 stands))

-- what the others have drawn isn't changed by what stands before
others_same : (lot : List ℕ) (lots : List (List ℕ)) (own rest : List Drawn)
    → AllByRecursion (λ y. bytes_eq lot y ≡ false) lots → AllByRecursion (λ d. d.lot ≡ lot) own
    → AllByRecursion (λ l. drawn_of l (own ++ rest) ≡ drawn_of l rest) lots
others_same lot [] own rest a h = tt
others_same lot (l ∷ ls) own rest a h = (
  filter-append (is_of l) own rest ∙ ap (λ (t : List Drawn). t ++ drawn_of l rest)
      (filter_none (is_of l) own (others_fail l lot own (bytes_eq-false_back lot l a.0) h)),
  others_same lot ls own rest a.1 h,
)

texts_same : (mesh : Shown) (decimals before : ℕ) (lots : List (List ℕ)) (xs ys : List Drawn)
    → AllByRecursion (λ l. drawn_of l xs ≡ drawn_of l ys) lots
    → lots_text mesh decimals xs before lots ≡ lots_text mesh decimals ys before lots
unfolding lots_text
texts_same mesh decimals before [] xs ys h = refl
texts_same mesh decimals before (l ∷ ls) xs ys h =
    rw h.0 (ap (λ (t : List ℕ). lot_text mesh decimals before l (drawn_of l ys) ++ t) (texts_same mesh decimals (before + vertices_in mesh (drawn_of l ys)) ls xs ys h.1))

-- own are those of the first lot, which stand first, and those that are left stand by the order of the other lots
pub record FirstRun (lot : List ℕ) (lots : List (List ℕ)) (drawn own left : List Drawn) : Type 0 where
  pub own_are : own ≡ drawn_of lot drawn
  pub order : StandsBy lots left
  pub distinct : IsDistinct bytes_eq lots
  pub texts : (mesh : Shown) (decimals before : ℕ)
      → lots_text mesh decimals drawn before lots ≡ lots_text mesh decimals left before lots

pub run_at : (lot : List ℕ) (lots : List (List ℕ)) (own rest : List Drawn)
    → AllByRecursion (λ y. bytes_eq lot y ≡ false) lots → IsDistinct bytes_eq lots
    → AllByRecursion (λ d. d.lot ≡ lot) own → StandsBy lots rest → FirstRun lot lots (own ++ rest) own rest
run_at lot lots own rest a distinct h stands =
    let passed : drawn_of lot (own ++ rest) ≡ own = filter-append (is_of lot) own rest ∙ ap (λ (t : List Drawn). t ++ drawn_of lot rest) (filter_all (is_of lot) own (own_pass lot own h))
    ∙ ap (λ (t : List Drawn). own ++ t) (filter_none (is_of lot) rest (rest_fail lot lots rest a stands)) ∙ append-nil own in
    record {
      own_are = sym passed;
      order = stands;
      distinct = distinct;
      texts = λ mesh decimals before. texts_same mesh decimals before lots (own ++ rest) rest (others_same lot lots own rest a h);
    }

pub first_run : (lot : List ℕ) (lots : List (List ℕ)) (drawn : List Drawn) (n : ℕ) → IsDistinct bytes_eq (lot ∷ lots)
    → StandsBy (lot ∷ lots) drawn → n ≡ prefix_len (is_of lot) drawn
    → FirstRun lot lots drawn (take n drawn) (drop n drawn)
unfolding IsDistinct
first_run lot lots drawn n distinct (own, rest, e, all, stands) k =
    let h : AllByRecursion (λ (d : Drawn). d.lot ≡ lot) own = recursion_from_All _ own all in
    let m : n ≡ length own = k ∙ ap (prefix_len (is_of lot)) e ∙ prefix_run (is_of lot) own rest (own_pass lot own h) (rest_fail lot lots rest distinct.0 stands) in
    rw (m, e, take_at own rest (length own) refl, drop_at own rest (length own) refl) (run_at lot lots own rest distinct.0 distinct.1 h stands)

pub drop_first : (lots : List (List ℕ)) (i : ℕ) (lot : List ℕ) → i < length lots → get_or lots i lot ≡ lot
    → drop i lots ≡ lot ∷ drop (i + 1) lots
drop_first lots i lot h at = drop_more lots i lot h ∙ ap (λ (l : List ℕ). l ∷ drop (i + 1) lots) at

-- the same of the lots from some place on
pub run_from : (lots : List (List ℕ)) (i : ℕ) (lot : List ℕ) (rest : List Drawn) (n : ℕ) → i < length lots
    → get_or lots i lot ≡ lot
    → IsDistinct bytes_eq (drop i lots) → StandsBy (drop i lots) rest → n ≡ prefix_len (is_of lot) rest
    → FirstRun lot (drop (i + 1) lots) rest (take n rest) (drop n rest)
run_from lots i lot rest n h at distinct stands k =
    let e : drop i lots ≡ lot ∷ drop (i + 1) lots = drop_first lots i lot h at in
    first_run lot (drop (i + 1) lots) rest n (subst (IsDistinct bytes_eq) e distinct) (subst (λ (l : List (List ℕ)). StandsBy l rest) e stands) k

lots_cons : (mesh : Shown) (decimals before : ℕ) (drawn : List Drawn) (lot : List ℕ) (lots : List (List ℕ))
    → lots_text mesh decimals drawn before (lot ∷ lots) ≡ lot_text mesh decimals before lot (drawn_of lot drawn) ++
    lots_text mesh decimals drawn (before + vertices_in mesh (drawn_of lot drawn)) lots
unfolding lots_text
lots_cons mesh decimals before drawn lot lots = refl

lots_none : (mesh : Shown) (decimals before : ℕ) (drawn : List Drawn) → lots_text mesh decimals drawn before [] ≡ []
unfolding lots_text
lots_none mesh decimals before drawn = refl

-- one lot more, then those that are left
pub one_lot : (mesh : Shown) (decimals before : ℕ) (these : List (List ℕ)) (lot : List ℕ) (lots : List (List ℕ))
    (rest own left : List Drawn) (old new : List ℕ)
    → these ≡ lot ∷ lots → FirstRun lot lots rest own left → new ≡ old ++ lot_text mesh decimals before lot own
    → new ++ lots_text mesh decimals left (before + vertices_in mesh own) lots
    ≡ old ++ lots_text mesh decimals rest before these
one_lot mesh decimals before these lot lots rest own left old new is run e =
    let first = lot_text mesh decimals before lot (drawn_of lot rest) in
    let after = before + vertices_in mesh (drawn_of lot rest) in
    rw (e, is, run.own_are) (append_assoc old first (lots_text mesh decimals left after lots)
    ∙ ap (λ (t : List ℕ). old ++ (first ++ t)) (sym (run.texts mesh decimals after))
    ∙ ap (λ (t : List ℕ). old ++ t) (sym (lots_cons mesh decimals before rest lot lots)))

-- no lot is left
pub no_lot : (mesh : Shown) (decimals before : ℕ) (lots : List (List ℕ)) (i : ℕ) (rest : List Drawn) (old all : List ℕ)
    → length lots ≤ i → old ++ lots_text mesh decimals rest before (drop i lots) ≡ all → old ≡ all
no_lot mesh decimals before lots i rest old all h f =
    sym (append-nil old) ∙ ap (λ (t : List ℕ). old ++ t) (sym (lots_none mesh decimals before rest))
    ∙ sym (at_drop_all (λ (r : List (List ℕ)). old ++ lots_text mesh decimals rest before r) lots i h) ∙ f
