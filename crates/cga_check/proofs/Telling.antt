-- What the rules of a symbol say, entry by entry.
use Rattle.std.proofs.Common.{◌≡◌, ℕ, List, [], ◌∷◌, ◌++◌, Bool, true, false, ◌&&◌, ◌||◌, cond, refl, sym, ap, ◌∙◌, Some, None, take, get_or, length, ◌<◌, ◌≤◌, ◌+◌, suc, arith}
use Rattle.std.specs.Prelude.{Option, find, unwrap_or}
use Rattle.std.specs.List.{list_any}
use Rattle.std.specs.Option.{option_map}
use Rattle.std.proofs.Math.Seq.{take-suc}
use Rattle.std.proofs.lemmas.List.Folds.{list_any-append}
use Rattle.cga_fraction.proofs.Door.{or-false, take-all as taken}
use Rattle.cga_word.specs.declared.target.Target.{Target}
use Rattle.cga_word.specs.declared.target.Target.TheVariants.{Noparent, Active}
use Rattle.cga_rule.specs.declared.grammar.Entry.{Entry}
use Rattle.cga_rule.specs.declared.grammar.Grammar.{Grammar}
use Rattle.cga_check.specs.Groups.{is_of, first_entry, priority_in, priority_of, group, group_asks, asks}
use Rattle.cga_check.specs.Said.{said, said_among, is_asking, with_rule}
use Rattle.cga_check.specs.declared.said.Said.{Said}
use Rattle.cga_check.proofs.Asked.{asked_is, none_passes}

abbrev in_all : List Entry → List ℕ → Entry → Said
in_all es symbol e = record { priority = e.priority; noparent = list_any (is_asking symbol Noparent) es; active = list_any (is_asking symbol Active) es }

-- ---- one entry more

last_found : {X : Type 0} (p : X → Bool) (xs : List X) (x : X) (b : Bool) → p x ≡ b
    → (find p xs ≡ None → find p (xs ++ x ∷ []) ≡ cond b (Some x) None)
last_found p [] x b is none = ap (λ c. cond c (Some x) None) is
last_found p (y ∷ xs) x b is none = by (p y) none (last_found p xs x b is)
  where
    by : (c : Bool) → cond c (Some y) (find p xs) ≡ None
        → (find p xs ≡ None → find p (xs ++ x ∷ []) ≡ cond b (Some x) None)
        → cond c (Some y) (find p (xs ++ x ∷ [])) ≡ cond b (Some x) None
    by true h more = absurd (cc)
    by false h more = more h

still_found : {X : Type 0} (p : X → Bool) (xs : List X) (x e : X) → find p xs ≡ Some e → find p (xs ++ x ∷ []) ≡ Some e
still_found p [] x e h = absurd (cc)
still_found p (y ∷ xs) x e h = by (p y) h (still_found p xs x e)
  where
    by : (c : Bool) → cond c (Some y) (find p xs) ≡ Some e → (find p xs ≡ Some e → find p (xs ++ x ∷ []) ≡ Some e)
        → cond c (Some y) (find p (xs ++ x ∷ [])) ≡ Some e
    by true h more = h
    by false h more = more h

or_last : (a b : Bool) → (a || (b || false)) ≡ (a || b)
or_last true b = refl
or_last false true = refl
or_last false false = refl

any_last : (symbol : List ℕ) (target : Target) (xs : List Entry) (x : Entry) (b : Bool) → is_of symbol x ≡ b
    → list_any (is_asking symbol target) (xs ++ x ∷ [])
    ≡ (list_any (is_asking symbol target) xs || (b && asks target x.rule))
any_last symbol target xs x b is =
    list_any-append (is_asking symbol target) xs (x ∷ [])
    ∙ (or_last (list_any (is_asking symbol target) xs) (is_of symbol x && asks target x.rule)
    ∙ ap (λ c. list_any (is_asking symbol target) xs || (c && asks target x.rule)) is)

-- an entry of another symbol says nothing
pub told_other : (symbol : List ℕ) (xs : List Entry) (x : Entry) → is_of symbol x ≡ false
    → said_among symbol (xs ++ x ∷ []) ≡ said_among symbol xs
unfolding said_among first_entry
told_other symbol xs x is = by (find (is_of symbol) xs) refl
  where
    same : (target : Target) → list_any (is_asking symbol target) (xs ++ x ∷ []) ≡ list_any (is_asking symbol target) xs
    same target =
        any_last symbol target xs x false is ∙ or-false (list_any (is_asking symbol target) xs)

    by : (first : Option Entry) → find (is_of symbol) xs ≡ first
        → option_map (in_all (xs ++ x ∷ []) symbol) (find (is_of symbol) (xs ++ x ∷ []))
        ≡ option_map (in_all xs symbol) (find (is_of symbol) xs)
    by None h = ap (option_map (in_all (xs ++ x ∷ []) symbol)) (last_found (is_of symbol) xs x false is h) ∙ sym (ap (option_map (in_all xs symbol)) h)
    by (Some e) h =
        ap (option_map (in_all (xs ++ x ∷ []) symbol)) (still_found (is_of symbol) xs x e h)
        ∙ ((λ i. Some (record { priority = e.priority; noparent = same Noparent i; active = same Active i }))
        ∙ sym (ap (option_map (in_all xs symbol)) h))

-- an entry of the symbol is one rule more
pub told_own : (symbol : List ℕ) (xs : List Entry) (x : Entry) → is_of symbol x ≡ true
    → said_among symbol (xs ++ x ∷ []) ≡ Some (with_rule (said_among symbol xs) x)
unfolding said_among first_entry
told_own symbol xs x is = by (find (is_of symbol) xs) refl
  where
    more : (target : Target) → list_any (is_asking symbol target) (xs ++ x ∷ [])
        ≡ (list_any (is_asking symbol target) xs || asks target x.rule)
    more target =
        any_last symbol target xs x true is

    alone : (target : Target) → find (is_of symbol) xs ≡ None
        → list_any (is_asking symbol target) (xs ++ x ∷ []) ≡ asks target x.rule
    alone target h =
        more target ∙ ap (λ b. b || asks target x.rule) (none_passes (asks target) symbol xs h)

    by : (first : Option Entry) → find (is_of symbol) xs ≡ first
        → option_map (in_all (xs ++ x ∷ []) symbol) (find (is_of symbol) (xs ++ x ∷ []))
        ≡ Some (with_rule (option_map (in_all xs symbol) (find (is_of symbol) xs)) x)
    by None h =
        ap (option_map (in_all (xs ++ x ∷ []) symbol)) (last_found (is_of symbol) xs x true is h)
        ∙ ((λ i. Some (record { priority = x.priority; noparent = alone Noparent h i; active = alone Active h i }))
        ∙ sym (ap (λ o. Some (with_rule (option_map (in_all xs symbol) o) x)) h))
    by (Some e) h =
        ap (option_map (in_all (xs ++ x ∷ []) symbol)) (still_found (is_of symbol) xs x e h)
        ∙ ((λ i. Some (record { priority = e.priority; noparent = more Noparent i; active = more Active i }))
        ∙ sym (ap (λ o. Some (with_rule (option_map (in_all xs symbol) o) x)) h))

-- ---- the walk

up_to : (es : List Entry) (i : ℕ) (x : Entry)
    → i < length es → x ≡ get_or es i x → take (i + 1) es ≡ take i es ++ x ∷ []
up_to es i x within at =
    let on : i + 1 ≡ suc i = omega arith in
    ap (λ n. take n es) on ∙ (take-suc es i x within ∙ ap (λ y. take i es ++ y ∷ []) (sym at))

pub walk_own : (symbol : List ℕ) (es : List Entry) (i : ℕ) (x : Entry) (before : Option Said) (after : Said)
    → i < length es → x ≡ get_or es i x → is_of symbol x ≡ true → before ≡ said_among symbol (take i es)
    → after ≡ with_rule before x
    → Some after ≡ said_among symbol (take (i + 1) es)
walk_own symbol es i x before after within at is kept made =
    ap Some (made ∙ ap (λ o. with_rule o x) kept) ∙ sym (ap (said_among symbol) (up_to es i x within at) ∙ told_own symbol (take i es) x is)

pub walk_other : (symbol : List ℕ) (es : List Entry) (i : ℕ) (x : Entry) (before : Option Said)
    → i < length es → x ≡ get_or es i x → is_of symbol x ≡ false → before ≡ said_among symbol (take i es)
    → before ≡ said_among symbol (take (i + 1) es)
walk_other symbol es i x before within at is kept =
    kept ∙ sym (ap (said_among symbol) (up_to es i x within at) ∙ told_other symbol (take i es) x is)

pub walk_end : (symbol : List ℕ) (es : List Entry) (i : ℕ) (told : Option Said) → length es ≤ i
    → told ≡ said_among symbol (take i es) → told ≡ said_among symbol es
walk_end symbol es i told end kept = kept ∙ ap (said_among symbol) (taken es i end)

pub walk_start : (symbol : List ℕ) → None ≡ said_among symbol []
unfolding said_among first_entry
walk_start symbol = refl

-- ---- what is found is what the group says

pub said_is : (g : Grammar) (symbol : List ℕ)
    → unwrap_or (said_among symbol g.rules) (record { priority = 0; noparent = false; active = false }) ≡ said g symbol
unfolding said said_among priority_of
said_is g symbol = by (first_entry g.rules symbol) refl
  where
    asked : (target : Target) → list_any (is_asking symbol target) g.rules ≡ group_asks (group g symbol) target
    asked target = asked_is target symbol g

    none : (target : Target) → first_entry g.rules symbol ≡ None → false ≡ group_asks (group g symbol) target
    none target h =
        sym (none_passes (asks target) symbol g.rules h) ∙ asked target

    by : (first : Option Entry) → first_entry g.rules symbol ≡ first
        → unwrap_or (option_map (in_all g.rules symbol) (first_entry g.rules symbol))
        (record { priority = 0; noparent = false; active = false })
        ≡ record { priority = unwrap_or (priority_in (first_entry g.rules symbol)) 0; noparent = group_asks (group g symbol) Noparent; active = group_asks (group g symbol) Active }
    by None h =
        ap (λ o. unwrap_or (option_map (in_all g.rules symbol) o) (record { priority = 0; noparent = false; active = false })) h
        ∙ ((λ i. record { priority = 0; noparent = none Noparent h i; active = none Active h i })
        ∙ sym (ap (λ o. record { priority = unwrap_or (priority_in o) 0; noparent = group_asks (group g symbol) Noparent; active = group_asks (group g symbol) Active }) h))
    by (Some e) h =
        ap (λ o. unwrap_or (option_map (in_all g.rules symbol) o) (record { priority = 0; noparent = false; active = false })) h
        ∙ ((λ i. record { priority = e.priority; noparent = asked Noparent i; active = asked Active i })
        ∙ sym (ap (λ o. record { priority = unwrap_or (priority_in o) 0; noparent = group_asks (group g symbol) Noparent; active = group_asks (group g symbol) Active }) h))
