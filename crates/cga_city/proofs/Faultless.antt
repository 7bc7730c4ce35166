-- A grammar without a fault, in words that hold in any order of its rules.
use Rattle.std.proofs.Common.{◌≡◌, ◌≢◌, ℕ, List, [], ◌∷◌, ◌++◌, length, Bool, true, false, not, ◌&&◌, ◌||◌, nat_eq, nat_lt, refl, sym, ap, arith, Ok}
use Rattle.std.specs.Prelude.{flat_map}
use Rattle.std.specs.List.{AllByRecursion}
use Rattle.std.proofs.lemmas.Bool.Decides.{nat_tests}
use Rattle.std.proofs.lemmas.Slice.Eq.{bytes_eq-Decides}
use Rattle.cga_rule.specs.declared.check_fault.CheckFault.{CheckFault}
use Rattle.cga_rule.specs.declared.check_fault.CheckFault.TheVariants.{TooManyRules, TooManyAttributes, DoubleId, SplitPriority, BadProbability}
use Rattle.cga_rule.specs.declared.grammar.Entry.{Entry}
use Rattle.cga_rule.specs.declared.grammar.Grammar.{Grammar}
use Rattle.cga_check.specs.declared.checks.TheConstants.{MOST_RULES, MOST_ATTRIBUTES}
use Rattle.cga_check.specs.Uses.{rule_uses}
use Rattle.cga_check.specs.Groups.{is_of}
use Rattle.cga_check.specs.Probabilities.{are_probabilities}
use Rattle.cga_check.specs.Faults.{Faults, first, fault_if, each_after, attribute_faults, id_is_taken}
use Rattle.cga_check.specs.Faults.{splits_priority, differs_in_arity, symbol_faults, param_faults, head_faults}
use Rattle.cga_check.specs.Faults.{use_faults, rule_faults, faults, check_fault, IsValid}
use Rattle.cga_check.proofs.Door.{if_none, none_left, none_right, first_none as no_first}
use Rattle.cga_fraction.proofs.Door.{nat_eq_from_ne as untaken, or_false_first as or_left, or_false_second as or_right}
use Rattle.std.proofs.lemmas.Bool.{or_from as or_none}

-- ---- lists

module _ {X : Type 0} (P : X → Type 0) where
  pub put_in : (xs ys : List X) (e : X) → P e → AllByRecursion P (xs ++ ys) → AllByRecursion P (xs ++ e ∷ ys)
  put_in [] ys e h k = (h, k)
  put_in (x ∷ xs) ys e h k = (k.0, put_in xs ys e h k.1)

  pub front : (xs ys : List X) → AllByRecursion P (xs ++ ys) → AllByRecursion P xs
  front [] ys h = tt
  front (x ∷ xs) ys h = (h.0, front xs ys h.1)

  pub last : (xs : List X) (e : X) → AllByRecursion P (xs ++ e ∷ []) → P e
  last [] e h = h.0
  last (x ∷ xs) e h = last xs e h.1

  pub weaker : (Q : X → Type 0) → ((x : X) → P x → Q x) → (xs : List X) → AllByRecursion P xs → AllByRecursion Q xs
  weaker Q f [] h = tt
  weaker Q f (x ∷ xs) h = (f x h.0, weaker Q f xs h.1)

  pub zipped : (Q R : X → Type 0) → ((x : X) → P x → Q x → R x) → (xs : List X) → AllByRecursion P xs
      → AllByRecursion Q xs → AllByRecursion R xs
  zipped Q R f [] h k = tt
  zipped Q R f (x ∷ xs) h k = (f x h.0 k.0, zipped Q R f xs h.1 k.1)

pub nils : {A : Type 0} (xs ys : List A) → xs ≡ [] → ys ≡ [] → xs ++ ys ≡ []
nils [] ys e h = h
nils (x ∷ xs) ys e h = cc

pub if_false : (bad : Bool) (fault : CheckFault) → bad ≡ false → fault_if bad fault ≡ []
if_false true fault e = cc
if_false false fault e = refl

-- ---- two rules

-- their ids differ, and if they are of one symbol, they have its priority and its number of parameters
abbrev pub Apart : Entry → Entry → Type 0
Apart e x = (x.rule.id ≢ e.rule.id) × (x.rule.symbol ≡ e.rule.symbol → (x.priority ≡ e.priority) × (length x.rule.params ≡ length e.rule.params))

pub apart_back : (e x : Entry) → Apart e x → Apart x e
apart_back e x h = (λ s. h.0 (sym s), λ s. (sym (h.1 (sym s)).0, sym (h.1 (sym s)).1))

differ : (a b : ℕ) → nat_eq a b ≡ false → a ≢ b
differ a b h e = grind (arith, nat_tests)

same : (a b : ℕ) (t : Bool) → t ≡ true → (t && not (nat_eq a b)) ≡ false → a ≡ b
same a b true e h = grind (arith, nat_tests)
same a b false e h = cc

agreed : (a b : ℕ) (t : Bool) → (t ≡ true → a ≡ b) → (t && not (nat_eq a b)) ≡ false
agreed a b true h = let e = h refl in grind (arith, nat_tests)
agreed a b false h = refl

apart_all : (e : Entry) (before : List Entry) → id_is_taken before e.rule.id ≡ false → splits_priority before e ≡ false
    → differs_in_arity before e ≡ false → AllByRecursion (Apart e) before
apart_all e [] a b c = tt
apart_all e (x ∷ xs) a b c =
    let here : x.rule.symbol ≡ e.rule.symbol → is_of e.rule.symbol x ≡ true = (bytes_eq-Decides x.rule.symbol e.rule.symbol).1 in (
      (
        differ x.rule.id e.rule.id (or_left _ _ a),
        λ s. (
          same x.priority e.priority (is_of e.rule.symbol x) (here s) (or_left _ _ b),
          same (length x.rule.params) (length e.rule.params) (is_of e.rule.symbol x) (here s) (or_left _ _ c),
        ),
      ),
      apart_all e xs (or_right _ _ a) (or_right _ _ b) (or_right _ _ c),
    )

all_apart : (e : Entry) (before : List Entry) → AllByRecursion (Apart e) before
    → (id_is_taken before e.rule.id ≡ false) × (splits_priority before e ≡ false) × (differs_in_arity before e ≡ false)
all_apart e [] h = (refl, refl, refl)
all_apart e (x ∷ xs) h =
    let (taken, splits, differs) = all_apart e xs h.1 in
    let there : is_of e.rule.symbol x ≡ true → x.rule.symbol ≡ e.rule.symbol = (bytes_eq-Decides x.rule.symbol e.rule.symbol).0 in (
      or_none _ _ (untaken x.rule.id e.rule.id h.0.0) taken,
      or_none _ _ (agreed x.priority e.priority (is_of e.rule.symbol x) (λ t. (h.0.1 (there t)).0)) splits,
      or_none _ _ (agreed (length x.rule.params) (length e.rule.params) (is_of e.rule.symbol x) (λ t. (h.0.1 (there t)).1)) differs,
    )

-- ---- a rule by itself

abbrev pub own_faults : Grammar → Entry → Faults
own_faults g e = each_after (param_faults g e.rule.id) [] e.rule.params ++ fault_if (not (are_probabilities e.rule.alternatives)) (BadProbability e.rule.id)

abbrev pub used_faults : Grammar → Entry → Faults
used_faults g e = flat_map (use_faults g e.rule) (rule_uses e.rule)

pub record IsFine (g : Grammar) (e : Entry) : Type 0 where
  pub own : own_faults g e ≡ []
  pub used : used_faults g e ≡ []

fine_rule : (g : Grammar) (before : List Entry) (e : Entry) → rule_faults g before e ≡ []
    → AllByRecursion (Apart e) before × IsFine g e
unfolding rule_faults head_faults
fine_rule g before e h =
    let head = none_left (head_faults g before e) (used_faults g e) h in
    let symbols = none_left (symbol_faults before e) (own_faults g e) head in (
      apart_all e before
          (if_none _ _ (none_left (fault_if (id_is_taken before e.rule.id) (DoubleId e.rule.id)) _ symbols))
          (if_none _ _ (none_left (fault_if (splits_priority before e) (SplitPriority e.rule.id e.rule.symbol)) _
          (none_right (fault_if (id_is_taken before e.rule.id) (DoubleId e.rule.id)) _ symbols)))
          (if_none _ _ (none_right (fault_if (splits_priority before e) (SplitPriority e.rule.id e.rule.symbol)) _
          (none_right (fault_if (id_is_taken before e.rule.id) (DoubleId e.rule.id)) _ symbols))),
      record { own = none_right (symbol_faults before e) (own_faults g e) head; used = none_right (head_faults g before e) (used_faults g e) h },
    )

rule_fine : (g : Grammar) (before : List Entry) (e : Entry) → AllByRecursion (Apart e) before → IsFine g e
    → rule_faults g before e ≡ []
unfolding rule_faults head_faults
rule_fine g before e apart fine =
    let (taken, splits, differs) = all_apart e before apart in
    nils _ _ (nils _ _ (nils _ _ (if_false _ _ taken) (nils _ _ (if_false _ _ splits) (if_false _ _ differs))) fine.own) fine.used

-- ---- all rules

abbrev pub Differ : List Entry → Type 0
Differ [] = Unit {0}
Differ (x ∷ xs) = AllByRecursion (Apart x) xs × Differ xs

-- each of the later ones from all of the earlier ones
abbrev pub DifferFrom : List Entry → List Entry → Type 0
DifferFrom before xs = AllByRecursion (λ x. AllByRecursion (Apart x) before) xs

abbrev pub AreFine : Grammar → List Entry → Type 0
AreFine g rules = Differ rules × AllByRecursion (IsFine g) rules

fine_rules : (g : Grammar) (before xs : List Entry) → each_after (rule_faults g) before xs ≡ []
    → DifferFrom before xs × AreFine g xs
unfolding each_after
fine_rules g before [] h = (tt, (tt, tt))
fine_rules g before (x ∷ xs) h =
    let here = fine_rule g before x (none_left (rule_faults g before x) _ h) in
    let (from, more) = fine_rules g (before ++ x ∷ []) xs (none_right (rule_faults g before x) _ h) in (
      (here.0, weaker (λ y. AllByRecursion (Apart y) (before ++ x ∷ [])) (λ y. AllByRecursion (Apart y) before) (λ y k. front (Apart y) before (x ∷ []) k) xs from),
      (
        (weaker (λ y. AllByRecursion (Apart y) (before ++ x ∷ [])) (Apart x) (λ y k. apart_back y x (last (Apart y) before x k)) xs from, more.0),
        (here.1, more.1),
      ),
    )

pub pushed : (P : Entry → Type 0) (xs : List Entry) (e : Entry) → AllByRecursion P xs → P e
    → AllByRecursion P (xs ++ e ∷ [])
pushed P [] e h k = (k, tt)
pushed P (x ∷ xs) e h k = (h.0, pushed P xs e h.1 k)

rules_fine : (g : Grammar) (before xs : List Entry) → DifferFrom before xs → AreFine g xs
    → each_after (rule_faults g) before xs ≡ []
unfolding each_after
rules_fine g before [] from h = refl
rules_fine g before (x ∷ xs) from h =
    nils _ _ (rule_fine g before x from.0 h.1.0)
    (rules_fine g (before ++ x ∷ []) xs
    (zipped (Apart x) (λ y. AllByRecursion (Apart y) before) (λ y. AllByRecursion (Apart y) (before ++ x ∷ [])) (λ y k l. pushed (Apart y) before x l (apart_back x y k)) xs h.0.0 from.1)
    (h.0.1, h.1.1))

-- ---- grammars

pub record IsFaultless (g : Grammar) : Type 0 where
  pub few_rules : nat_lt MOST_RULES (length g.rules) ≡ false
  pub few_attributes : nat_lt MOST_ATTRIBUTES (length g.attributes) ≡ false
  pub attributes : each_after attribute_faults [] g.attributes ≡ []
  pub rules : AreFine g g.rules

from_none : (xs : List Entry) → DifferFrom [] xs
from_none [] = tt
from_none (x ∷ xs) = (tt, from_none xs)

pub faultless : (g : Grammar) → IsValid g → IsFaultless g
unfolding check_fault
faultless g valid =
    let all = no_first (faults g) valid in
    let counted = none_right (fault_if (nat_lt MOST_RULES (length g.rules)) TooManyRules) _ all in
    let named = none_right (fault_if (nat_lt MOST_ATTRIBUTES (length g.attributes)) TooManyAttributes) _ counted in
    record {
      few_rules = if_none _ _ (none_left (fault_if (nat_lt MOST_RULES (length g.rules)) TooManyRules) _ all);
      few_attributes = if_none _ _ (none_left (fault_if (nat_lt MOST_ATTRIBUTES (length g.attributes)) TooManyAttributes) _ counted);
      attributes = none_left (each_after attribute_faults [] g.attributes) _ named;
      rules = (fine_rules g [] g.rules (none_right (each_after attribute_faults [] g.attributes) _ named)).1;
    }

pub valid_if : (g : Grammar) → IsFaultless g → IsValid g
unfolding check_fault
valid_if g f =
    ap first (nils _ _ (if_false _ TooManyRules f.few_rules) (nils _ _ (if_false _ TooManyAttributes f.few_attributes) (nils _ _ f.attributes (rules_fine g [] g.rules (from_none g.rules) f.rules))))
