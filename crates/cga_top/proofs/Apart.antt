-- The lots of a block of a whole city differ in their names.
use Rattle.std.proofs.Common.{◌≡◌, ◌≢◌, ◌∙◌, ap, refl, sym, subst, ℕ, zero, suc, take, List, [], ◌∷◌, Bool, true, false, ◌&&◌, Option, Some, None, arith}
use Rattle.std.specs.Prelude.{if◌then◌else◌, nat_eq, bytes_eq}
use Rattle.std.proofs.lemmas.Bool.Decides.{nat_tests}
use Rattle.cga_syntax.specs.Lexemes.{is}
use Rattle.cga_shape.specs.declared.lot.Lot.{Lot}
use Rattle.std.specs.List.{AllByRecursion, IsDistinct}
use Rattle.cga_city.specs.Lots.{names_of}
use Rattle.cga_script.specs.declared.city_line.CityLine.{CityLine}
use Rattle.cga_script.specs.declared.city_line.CityLine.TheVariants as line
use Rattle.cga_script.specs.CityLines.{with_lot, lots_after}
use Rattle.std.proofs.lemmas.Bool.{and_parts as both}
use Rattle.cga_fraction.proofs.Door.{eq_from_nat_eq as same_number, nat_eq-same as number_itself}

is_equal : (a b : List ℕ) → is a b ≡ true → a ≡ b
is_equal [] [] h = refl
is_equal [] (y ∷ b) h = absurd (let bad : false ≡ true = h in cc)
is_equal (x ∷ a) [] h = absurd (let bad : false ≡ true = h in cc)
is_equal (x ∷ a) (y ∷ b) h = let p = both (nat_eq x y) (is a b) h in ap (λ (n : ℕ). n ∷ a) (same_number x y p.0) ∙ ap (λ (l : List ℕ). y ∷ l) (is_equal a b p.1)

is_itself : (a : List ℕ) → is a a ≡ true
is_itself [] = refl
is_itself (x ∷ a) = rw (number_itself x) (is_itself a)

-- no lot has the name
abbrev NoneNamed : List ℕ → List Lot → Type 0
NoneNamed name [] = Unit {0}
NoneNamed name (l ∷ ls) = (name ≢ l.name) × NoneNamed name ls

abbrev Apart : List Lot → Type 0
Apart [] = Unit {0}
Apart (l ∷ ls) = NoneNamed l.name ls × Apart ls

none_by : (name : List ℕ) (lot l : Lot) (ls more : List Lot) (b : Bool) → name ≢ lot.name → name ≢ l.name
    → NoneNamed name ls → NoneNamed name more → NoneNamed name (if b then lot ∷ ls else l ∷ more)
none_by name lot l ls more true p q h k = (p, h)
none_by name lot l ls more false p q h k = (q, k)

with_none : (name : List ℕ) (lot : Lot) (ls : List Lot) → name ≢ lot.name → NoneNamed name ls
    → NoneNamed name (with_lot lot ls)
unfolding with_lot
with_none name lot [] p h = (p, tt)
with_none name lot (l ∷ ls) p h = none_by name lot l ls (with_lot lot ls) (is l.name lot.name) p h.0 h.1 (with_none name lot ls p h.1)

apart_by : (lot l : Lot) (ls : List Lot) (b : Bool) → is l.name lot.name ≡ b → NoneNamed l.name ls → Apart ls
    → Apart (with_lot lot ls) → Apart (if b then lot ∷ ls else l ∷ with_lot lot ls)
apart_by lot l ls true e h k m = (subst (λ (n : List ℕ). NoneNamed n ls) (is_equal l.name lot.name e) h, k)
apart_by lot l ls false e h k m =
    let other : l.name ≢ lot.name = λ q. let yes : is l.name lot.name ≡ true = subst (λ (n : List ℕ). is l.name n ≡ true) q (is_itself l.name) in let bad : false ≡ true = sym e ∙ yes in cc in
    (with_none l.name lot ls other h, m)

with_apart : (lot : Lot) (ls : List Lot) → Apart ls → Apart (with_lot lot ls)
unfolding with_lot
with_apart lot [] h = (tt, tt)
with_apart lot (l ∷ ls) h = apart_by lot l ls (is l.name lot.name) refl h.0 h.1 (with_apart lot ls h.1)

after_apart : (lots : List Lot) (all : List (Option CityLine)) → Apart lots → Apart (lots_after lots all)
unfolding lots_after
after_apart lots [] h = h
after_apart lots (Some (line.Lot l) ∷ all) h = after_apart (with_lot l lots) all (with_apart l lots h)
after_apart lots (Some (line.Block b) ∷ all) h = after_apart lots all h
after_apart lots (Some (line.Order m) ∷ all) h = after_apart lots all h
after_apart lots (None ∷ all) h = after_apart lots all h

not_is : (a b : List ℕ) (t : Bool) → bytes_eq a b ≡ t → a ≢ b → bytes_eq a b ≡ false
not_is a b true e n = absurd (n (is_equal a b e))
not_is a b false e n = e

none_same : (name : List ℕ) (ls : List Lot) → NoneNamed name ls
    → AllByRecursion (λ other. bytes_eq name other ≡ false) (names_of ls)
none_same name [] h = tt
none_same name (l ∷ ls) h = (not_is name l.name (bytes_eq name l.name) refl h.0, none_same name ls h.1)

distinct : (ls : List Lot) → Apart ls → IsDistinct bytes_eq (names_of ls)
unfolding IsDistinct
distinct [] h = tt
distinct (l ∷ ls) h = (none_same l.name ls h.0, distinct ls h.1)

others_kept : (P : List ℕ → Type 0) (n : ℕ) (ls : List Lot) → AllByRecursion P (names_of ls)
    → AllByRecursion P (names_of (take n ls))
others_kept P zero ls h = tt
others_kept P (suc n) [] h = tt
others_kept P (suc n) (l ∷ ls) h = (h.0, others_kept P n ls h.1)

-- lots whose names differ still do where some are left out
pub kept_differ : (n : ℕ) (ls : List Lot) → IsDistinct bytes_eq (names_of ls)
    → IsDistinct bytes_eq (names_of (take n ls))
unfolding IsDistinct
kept_differ zero ls h = tt
kept_differ (suc n) [] h = tt
kept_differ (suc n) (l ∷ ls) h = (others_kept (λ other. bytes_eq l.name other ≡ false) n ls h.0, kept_differ n ls h.1)

pub lots_differ : (all : List (Option CityLine)) → IsDistinct bytes_eq (names_of (lots_after [] all))
lots_differ all = distinct (lots_after [] all) (after_apart [] all tt)
