-- The first fault of lists one after another.
use Rattle.std.proofs.Common.{◌≡◌, ℕ, ◌+◌, ◌<◌, ◌≤◌, List, [], ◌∷◌, ◌++◌, drop, take, length, get_or, refl, ap, sym, ◌∙◌, Ok, Err, if◌then◌else◌}
use Rattle.std.specs.Prelude.{Result, flat_map, is_err}
use Rattle.std.proofs.lemmas.List.{at_drop_more, at_drop_all, take_more}
use Rattle.cga_rule.specs.declared.check_fault.CheckFault.{CheckFault}
use Rattle.cga_rule.specs.declared.grammar.Grammar.{Grammar}
use Rattle.cga_rule.specs.declared.rule.Rule.{Rule}
use Rattle.cga_check.specs.Faults.{Faults, first, each_after, use_faults, is_faulty}
use Rattle.cga_check.specs.Uses.{Uses}
use Rattle.cga_check.specs.Sifting.{sifted}
use Rattle.cga_check.specs.declared.usage.Use.{Use}

abbrev pub Answer : Type 0
Answer = Result (Unit {0}) CheckFault

-- the first answer, or what follows where there is no fault
abbrev pub and_then : Answer → Answer → Answer
and_then (Ok u) more = more
and_then (Err fault) more = Err fault

pub first_append : (xs ys : Faults) → first (xs ++ ys) ≡ and_then (first xs) (first ys)
first_append [] ys = refl
first_append (x ∷ xs) ys = refl

pub after_none : {A : Type 0} (look : List A → A → Faults) (before : List A) → first (each_after look before []) ≡ Ok tt
unfolding each_after
after_none look before = refl

pub after_more : {A : Type 0} (look : List A → A → Faults) (before : List A) (x : A) (xs : List A) →
    first (each_after look before (x ∷ xs)) ≡ and_then (first (look before x)) (first (each_after look (before ++ x ∷ []) xs))
unfolding each_after
after_more look before x xs = first_append (look before x) (each_after look (before ++ x ∷ []) xs)

module _ {A : Type 0} (look : List A → A → Faults) (xs : List A) (i : ℕ) (item : A) (lt : i < length xs) (at : item ≡ get_or xs i item) where
  turn : first (each_after look (take i xs) (drop i xs)) ≡ and_then (first (look (take i xs) item))
      (first (each_after look (take (i + 1) xs) (drop (i + 1) xs)))
  turn =
      at_drop_more (λ ys. first (each_after look (take i xs) ys)) xs i item lt
      ∙ ap (λ (m : A). first (each_after look (take i xs) (m ∷ drop (i + 1) xs))) (sym at)
      ∙ after_more look (take i xs) item (drop (i + 1) xs)
      ∙ ap (λ ys. and_then (first (look (take i xs) item)) (first (each_after look ys (drop (i + 1) xs)))) (ap (λ m. take i xs ++ m ∷ []) at ∙ sym (take_more xs i item lt))

  pub after_on : (u : Unit {0}) (w : Answer) → Ok u ≡ first (look (take i xs) item)
      → first (each_after look (take i xs) (drop i xs)) ≡ w
      → first (each_after look (take (i + 1) xs) (drop (i + 1) xs)) ≡ w
  after_on u w e h = ap (λ o. and_then o (first (each_after look (take (i + 1) xs) (drop (i + 1) xs)))) e ∙ sym turn ∙ h

  pub after_stop : (fault : CheckFault) (w : Answer) → Err fault ≡ first (look (take i xs) item)
      → first (each_after look (take i xs) (drop i xs)) ≡ w → Err fault ≡ w
  after_stop fault w e h = ap (λ o. and_then o (first (each_after look (take (i + 1) xs) (drop (i + 1) xs)))) e ∙ sym turn ∙ h

pub after_end : {A : Type 0} (look : List A → A → Faults) (before xs : List A) (i : ℕ) (w : Answer) → length xs ≤ i
    → first (each_after look before (drop i xs)) ≡ w → Ok tt ≡ w
after_end look before xs i w le h = sym (after_none look before) ∙ sym (at_drop_all (λ ys. first (each_after look before ys)) xs i le) ∙ h

-- the fault of the use that was caught
abbrev pub at_use : Grammar → Rule → Result (Unit {0}) Use → Answer
at_use g r (Ok u) = Ok tt
at_use g r (Err use_) = first (use_faults g r use_)

one_more : (g : Grammar) (r : Rule) (u : Use) (us : Uses) (a : Answer) → a ≡ first (use_faults g r u)
    → first (flat_map (use_faults g r) us) ≡ at_use g r (sifted (is_faulty g r) us) →
    and_then a (first (flat_map (use_faults g r) us)) ≡ at_use g r (if is_err a then Err u else sifted (is_faulty g r) us)
one_more g r u us (Ok done) e h = h
one_more g r u us (Err fault) e h = e

pub first_of_uses : (g : Grammar) (r : Rule) (us : Uses)
    → first (flat_map (use_faults g r) us) ≡ at_use g r (sifted (is_faulty g r) us)
unfolding sifted
first_of_uses g r [] = refl
first_of_uses g r (u ∷ us) = first_append (use_faults g r u) (flat_map (use_faults g r) us) ∙ one_more g r u us (first (use_faults g r u)) refl (first_of_uses g r us)

-- what the walk answers, as the fault of the use at which it stopped
pub at_stop : (g : Grammar) (r : Rule) (us : Uses) (s : Result (Unit {0}) Use) → s ≡ sifted (is_faulty g r) us
    → at_use g r s ≡ first (flat_map (use_faults g r) us)
at_stop g r us s e = ap (at_use g r) e ∙ sym (first_of_uses g r us)

pub ruleset firsts = (first_append)
