-- Rules by rising id, with another priority, and attributes with another value have no new fault.
use Rattle.std.proofs.Common.{◌≡◌, ◌≢◌, ℕ, ◌+◌, suc, List, [], ◌∷◌, ◌++◌, length, take, drop, Bool, true, false, not}
use Rattle.std.proofs.Common.{◌||◌, nat_eq, nat_lt, refl, sym, ap, ◌∙◌, arith, zero-add, Option, Some, None, inl, inr}
use Rattle.std.proofs.Common.{take-append-drop, length-append}
use Rattle.std.specs.Prelude.{flat_map, find, insert}
use Rattle.std.specs.List.{AllByRecursion, list_any, prefix_len}
use Rattle.std.proofs.lemmas.Bool.Decides.{nat_tests}
use Rattle.std.proofs.lemmas.List.Elements.{recursion_from_All}
use Rattle.cga_rule.specs.declared.grammar.Attribute.{Attribute}
use Rattle.cga_rule.specs.declared.grammar.Entry.{Entry}
use Rattle.cga_rule.specs.declared.grammar.Grammar.{Grammar}
use Rattle.cga_rule.specs.declared.rule.Rule.{Rule}
use Rattle.cga_check.specs.declared.usage.Use.{Use}
use Rattle.cga_check.specs.declared.usage.Use.TheVariants.{Answer, Child, Parts, Named}
use Rattle.cga_check.specs.Uses.{rule_uses, Uses}
use Rattle.cga_check.specs.Groups.{is_of, first_entry}
use Rattle.cga_check.specs.Faults.{use_faults, child_faults, IsValid}
use Rattle.cga_check.specs.Validity.{Agrees}
use Rattle.cga_check.proofs.Door.{found_passes, none_left, none_right, symbols_agree}
use Rattle.cga_fraction.proofs.Door.{nat_lt-same as none_over}
use Rattle.cga_city.specs.Grammars.{rule_place, new_place, with_rule, with_rules, ranked}
use Rattle.cga_city.proofs.Sorting.{decide}
use Rattle.cga_city.proofs.Faultless.{put_in, weaker, zipped, nils, Apart, apart_back, IsFine, Differ, DifferFrom, faultless, valid_if}
use Rattle.std.proofs.lemmas.Bool.{or_right}

abbrev pub of : List Attribute → List Entry → Grammar
of attributes rules = record { attributes = attributes; rules = rules }

-- ---- what a rule uses

-- where the first rule of a symbol stood, there is one with as many parameters
abbrev pub KeepsFirst : List Entry → List Entry → Type 0
KeepsFirst rules new = (symbol : List ℕ) (f : Entry) → first_entry rules symbol ≡ Some f → (k : Entry) × (first_entry new symbol ≡ Some k) × (length k.rule.params ≡ length f.rule.params)

module _ (attributes : List Attribute) (rules new : List Entry) (keeps : KeepsFirst rules new) where
  child_kept : (id : ℕ) (symbol : List ℕ) (args : ℕ) (o : Option Entry) → first_entry rules symbol ≡ o
      → child_faults id symbol args o ≡ [] → child_faults id symbol args (first_entry new symbol) ≡ []
  child_kept id symbol args None at h = cc
  child_kept id symbol args (Some f) at h = let (k, there, same) = keeps symbol f at in rw (there, same) h

  use_kept : (r : Rule) (u : Use) → use_faults (of attributes rules) r u ≡ [] → use_faults (of attributes new) r u ≡ []
  use_kept r (Answer target) h = h
  use_kept r (Child symbol args) h = child_kept r.id symbol args (first_entry rules symbol) refl h
  use_kept r (Parts sizes bodies) h = h
  use_kept r (Named name) h = h

  uses_kept : (r : Rule) (us : Uses) → flat_map (use_faults (of attributes rules) r) us ≡ []
      → flat_map (use_faults (of attributes new) r) us ≡ []
  uses_kept r [] h = refl
  uses_kept r (u ∷ us) h = nils _ _ (use_kept r u (none_left (use_faults (of attributes rules) r u) _ h)) (uses_kept r us (none_right (use_faults (of attributes rules) r u) _ h))

  pub fine_kept : (e f : Entry) → f.rule ≡ e.rule → IsFine (of attributes rules) e → IsFine (of attributes new) f
  fine_kept e f same fine = record { own = rw same fine.own; used = rw same (uses_kept e.rule (rule_uses e.rule) fine.used) }

-- ---- one more rule

abbrev pub IsNew : ℕ → List Entry → Type 0
IsNew id rules = AllByRecursion (λ (x : Entry). x.rule.id ≢ id) rules

untaken : (a b : ℕ) → a ≢ b → not (nat_eq a b) ≡ true
untaken a b h = grind (arith, nat_tests)

all_passed : (id : ℕ) (rules : List Entry) → IsNew id rules
    → prefix_len (λ (x : Entry). not (nat_eq x.rule.id id)) rules ≡ length rules
all_passed id [] h = refl
all_passed id (x ∷ xs) h = let more = all_passed id xs h.1 in rw (untaken x.rule.id id h.0) (omega arith)

no_place : (id : ℕ) (rules : List Entry) → IsNew id rules → rule_place id rules ≡ None
no_place id rules h = rw (all_passed id rules h, none_over (length rules)) refl

pub new_rule : (e : Entry) (rules : List Entry) → IsNew e.rule.id rules
    → with_rule e rules ≡ insert rules (new_place e.rule.id rules) e
unfolding with_rule
new_rule e rules h = rw (no_place e.rule.id rules h) refl

are_new : (e : Entry) (rules : List Entry) → AllByRecursion (Apart e) rules → IsNew e.rule.id rules
are_new e rules h = weaker (Apart e) (λ (x : Entry). x.rule.id ≢ e.rule.id) (λ x k. k.0) rules h

put_differ : (xs ys : List Entry) (e : Entry) → AllByRecursion (Apart e) (xs ++ ys) → Differ (xs ++ ys)
    → Differ (xs ++ e ∷ ys)
put_differ [] ys e h d = (h, d)
put_differ (x ∷ xs) ys e h d = (put_in (Apart x) xs ys e (apart_back e x h.0) d.0, put_differ xs ys e h.1 d.1)

or_swap : (a b c : Bool) → (a || (b || c)) ≡ (b || (a || c))
or_swap true true c = refl
or_swap true false c = refl
or_swap false b c = refl

put_any : (p : Entry → Bool) (xs ys : List Entry) (e : Entry)
    → list_any p (xs ++ e ∷ ys) ≡ (p e || list_any p (xs ++ ys))
put_any p [] ys e = refl
put_any p (x ∷ xs) ys e = ap (λ t. p x || t) (put_any p xs ys e) ∙ or_swap (p x) (p e) (list_any p (xs ++ ys))

module _ (e : Entry) (rules : List Entry) (apart : AllByRecursion (Apart e) rules) where
  at : ℕ
  at = new_place e.rule.id rules

  one_all : (P : Entry → Type 0) → P e → AllByRecursion P rules → AllByRecursion P (with_rule e rules)
  one_all P h k = rw (new_rule e rules (are_new e rules apart)) (put_in P (take (new_place e.rule.id rules) rules)
      (drop (new_place e.rule.id rules) rules) e h (rw (take-append-drop (new_place e.rule.id rules) rules) k))

  one_differ : Differ rules → Differ (with_rule e rules)
  one_differ d =
      rw (new_rule e rules (are_new e rules apart))
      (put_differ (take (new_place e.rule.id rules) rules) (drop (new_place e.rule.id rules) rules) e
      (rw (take-append-drop (new_place e.rule.id rules) rules) apart) (rw (take-append-drop (new_place e.rule.id rules) rules) d))

  one_any : (p : Entry → Bool) → list_any p (with_rule e rules) ≡ (p e || list_any p rules)
  one_any p =
      rw (new_rule e rules (are_new e rules apart))
      (put_any p (take (new_place e.rule.id rules) rules) (drop (new_place e.rule.id rules) rules) e ∙ ap (λ xs. p e || list_any p xs) (take-append-drop (new_place e.rule.id rules) rules))

  one_length : length (with_rule e rules) ≡ suc (length rules)
  one_length =
      rw (new_rule e rules (are_new e rules apart))
      (length-append (take (new_place e.rule.id rules) rules) (e ∷ drop (new_place e.rule.id rules) rules) ∙ (
      let whole : length (take (new_place e.rule.id rules) rules) + length (drop (new_place e.rule.id rules) rules) ≡ length rules =
      sym (length-append (take (new_place e.rule.id rules) rules) (drop (new_place e.rule.id rules) rules)) ∙ ap length (take-append-drop (new_place e.rule.id rules) rules) in
      omega arith
      ))

-- ---- all rules

-- what rules keep that are put among others
pub record Keeps (rules more new : List Entry) : Type 1 where
  pub differ : Differ new
  pub each : (P : Entry → Type 0) → AllByRecursion P rules → AllByRecursion P more → AllByRecursion P new
  pub any : (p : Entry → Bool) → (list_any p rules || list_any p more) ≡ true → list_any p new ≡ true
  pub many : length new ≡ length rules + length more

or_nothing : (a : Bool) → (a || false) ≡ true → a ≡ true
or_nothing true h = refl
or_nothing false h = h

or_both : (a b c : Bool) → (a || (b || c)) ≡ true → ((b || a) || c) ≡ true
or_both true true c h = refl
or_both true false c h = refl
or_both false true c h = refl
or_both false false c h = h

pub among : (rules more : List Entry) → Differ rules → Differ more → DifferFrom rules more
    → Keeps rules more (with_rules rules more)
among rules [] d m from = record { differ = d; each = λ P h k. h; any = λ p h. or_nothing (list_any p rules) h; many = omega arith }
among rules (e ∷ more) d m from =
    let rest = among (with_rule e rules) more (one_differ e rules from.0 d) m.1
    (zipped (Apart e) (λ x. AllByRecursion (Apart x) rules) (λ x. AllByRecursion (Apart x) (with_rule e rules)) (λ x k l. one_all e rules from.0 (Apart x) (apart_back e x k) l) more m.0 from.1) in
    record {
      differ = rest.differ;
      each = λ P h k. rest.each P (one_all e rules from.0 P k.0 h) k.1;
      any = λ p h. rest.any p (rw (one_any e rules from.0 p) (or_both (list_any p rules) (p e) (list_any p more) h));
      many = rest.many ∙ rw (one_length e rules from.0) (omega arith);
    }

pub found_in : (p : Entry → Bool) (P : Entry → Type 0) (xs : List Entry) → list_any p xs ≡ true → AllByRecursion P xs
    → (k : Entry) × (find p xs ≡ Some k) × (p k ≡ true) × P k
found_in p P [] h all = cc
found_in p P (x ∷ xs) h all = elim (decide (p x)) [
  | inl t ↦ (x, rw t refl, t, all.0)
  | inr f ↦ (let (k, at, passes, holds) = found_in p P xs (rw f at h) all.1 in (k, rw f at, passes, holds))
]

any_found : (p : Entry → Bool) (xs : List Entry) (f : Entry) → find p xs ≡ Some f → list_any p xs ≡ true
any_found p [] f h = cc
any_found p (x ∷ xs) f h = elim (decide (p x)) [ inl t ↦ rw t refl | inr f ↦ rw f (any_found p xs _ (rw f at h)) ]

-- the first of a symbol stays where all members stay
pub first_kept : (g : Grammar) (new : List Entry) → IsValid g
    → ((P : Entry → Type 0) → AllByRecursion P g.rules → AllByRecursion P new)
    → ((p : Entry → Bool) → list_any p g.rules ≡ true → list_any p new ≡ true) → KeepsFirst g.rules new
unfolding first_entry
first_kept g new valid each any symbol f at =
    let here = found_passes (is_of symbol) g.rules f at in
    let agree = recursion_from_All (λ (e : Entry). is_of symbol e ≡ true → Agrees f e) g.rules (symbols_agree g valid symbol f at) in
    let (k, found, passes, agrees) = found_in (is_of symbol) (λ (e : Entry). is_of symbol e ≡ true → Agrees f e) new (any (is_of symbol) (any_found (is_of symbol) g.rules f at)) (each _ agree) in
    (k, found, (agrees passes).arity)

pub all_none : (rules : List Entry) → DifferFrom [] rules
all_none [] = tt
all_none (x ∷ xs) = (tt, all_none xs)

pub fine_all : (attributes : List Attribute) (rules new xs : List Entry) → KeepsFirst rules new
    → AllByRecursion (IsFine (of attributes rules)) xs → AllByRecursion (IsFine (of attributes new)) xs
fine_all attributes rules new xs keeps h = weaker (IsFine (of attributes rules)) (IsFine (of attributes new)) (λ e k. fine_kept attributes rules new keeps e e refl k) xs h

-- rules by rising id have no fault that they hadn't
pub ranked_valid : (g : Grammar) → IsValid g → IsValid (ranked g)
unfolding ranked
ranked_valid g valid =
    let f = faultless g valid in
    let k = among [] g.rules tt f.rules.0 (all_none g.rules) in
    let keeps = first_kept g (with_rules [] g.rules) valid (λ P h. k.each P tt h) k.any in
    valid_if (of g.attributes (with_rules [] g.rules)) (record {
      few_rules = rw (k.many ∙ zero-add (length g.rules)) f.few_rules;
      few_attributes = f.few_attributes;
      attributes = f.attributes;
      rules = (k.differ, k.each (IsFine (of g.attributes (with_rules [] g.rules))) tt (fine_all g.attributes g.rules (with_rules [] g.rules) g.rules keeps f.rules.1));
    })
