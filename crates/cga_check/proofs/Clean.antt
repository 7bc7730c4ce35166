-- A list of faults that is empty.
use Rattle.std.proofs.Common.{◌≡◌, List, [], ◌∷◌, ◌++◌, All, refl, Ok, Bool, true, false}
use Rattle.std.specs.Prelude.{flat_map}
use Rattle.std.proofs.lemmas.List.Elements.{All-nil, All-cons}
use Rattle.cga_rule.specs.declared.check_fault.CheckFault.{CheckFault}
use Rattle.cga_rule.specs.declared.grammar.Grammar.{Grammar}
use Rattle.cga_check.specs.Faults.{Faults, first, fault_if, each_after, faults, check_fault, rule_faults, attribute_faults, IsValid}

-- where two lists joined are empty, the first is
pub none_left : {A : Type 0} (xs ys : List A) → xs ++ ys ≡ [] → xs ≡ []
none_left [] ys e = refl
none_left (x ∷ xs) ys e = cc

-- where two lists joined are empty, the second is
pub none_right : {A : Type 0} (xs ys : List A) → xs ++ ys ≡ [] → ys ≡ []
none_right [] ys e = e
none_right (x ∷ xs) ys e = cc

-- where a test gives no fault, it is false
pub if_none : (bad : Bool) (fault : CheckFault) → fault_if bad fault ≡ [] → bad ≡ false
if_none true fault e = cc
if_none false fault e = refl

-- where no fault is first, there is none
pub first_none : (fs : Faults) → first fs ≡ Ok tt → fs ≡ []
first_none [] e = refl
first_none (f ∷ fs) e = cc

valid_faults : (g : Grammar) → IsValid g → faults g ≡ []
unfolding check_fault
valid_faults g valid = first_none (faults g) valid

pub valid_rules : (g : Grammar) → IsValid g → each_after (rule_faults g) [] g.rules ≡ []
valid_rules g valid = none_right (each_after attribute_faults [] g.attributes) _ (none_right _ _ (none_right _ _ (valid_faults g valid)))

pub each_clean : {A : Type 0} (look : List A → A → Faults) (before xs : List A) → each_after look before xs ≡ []
    → All (λ (x : A). (b : List A) × (look b x ≡ [])) xs
unfolding each_after
each_clean look before [] e = All-nil _
each_clean {A = A} look before (x ∷ xs) e =
    All-cons (λ (y : A). (b : List A) × (look b y ≡ [])) x xs (before, none_left (look before x) _ e) (each_clean look (before ++ x ∷ []) xs (none_right (look before x) _ e))

pub flat_clean : {A : Type 0} (f : A → Faults) (us : List A) → flat_map f us ≡ [] → All (λ (u : A). f u ≡ []) us
flat_clean f [] e = All-nil _
flat_clean {A = A} f (u ∷ us) e = All-cons (λ (v : A). f v ≡ []) u us (none_left (f u) _ e) (flat_clean f us (none_right (f u) _ e))
