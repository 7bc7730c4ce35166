-- The alternatives of a rule of a valid grammar cover all numbers.
use Rattle.std.proofs.Common.{◌≡◌, ℕ, ◌+◌, ◌*◌, ◌%◌, ◌^◌, ◌<◌, ◌≤◌, List, [], ◌∷◌, All, refl, subst, arith, Bool, true, false, nat_lt, if◌then◌else◌, Some, Ok, Err}
use Rattle.std.specs.Prelude.{IsSome, Result, Option}
use Rattle.std.specs.Int.{rotate_right, w32}
use Rattle.std.proofs.Math.Nat.{div-le_self, mod-lt, div-lt_iff_lt-mul}
use Rattle.std.proofs.lemmas.Nat.{or_of_32}
use Rattle.std.proofs.lemmas.List.Sums.{sum_by-cons}
use Rattle.std.proofs.lemmas.List.Elements.{All-head, All-tail, All-map, All-filter}
use Rattle.std.proofs.lemmas.Bool.Decides.{nat_tests}
use Rattle.cga_fraction.specs.Results.{and_then}
use Rattle.cga_word.specs.Seed.{word_of, shape_word_of}
use Rattle.cga_word.specs.declared.answers.Answers.{Answers}
use Rattle.cga_rule.specs.declared.grammar.Attribute.{Attribute}
use Rattle.cga_rule.specs.declared.grammar.Entry.{Entry}
use Rattle.cga_rule.specs.declared.item.Item.{Item}
use Rattle.cga_rule.specs.declared.rule.Alternative.{Alternative}
use Rattle.cga_rule.specs.declared.rule.Rule.{Rule}
use Rattle.cga_check.specs.Groups.{is_of, rules_of}
use Rattle.cga_check.specs.Probabilities as probabilities
use Rattle.cga_check.specs.Validity.{AddUp}
use Rattle.cga_check.proofs.Door.{by_id_all, probabilities_add_up}
use Rattle.cga_shape.specs.declared.shape.Shape.{Shape}
use Rattle.cga_shape.specs.declared.shape_fault.ShapeFault.{ShapeFault}
use Rattle.cga_expand.specs.declared.limits.TheConstants.{MILLIONTHS}
use Rattle.cga_expand.specs.Expand.{rules_by_id}
use Rattle.cga_expand.specs.Laws.{AlternativesCover}
use Rattle.cga_expand.specs.Rules.{chosen, optional_holds, known_to, drawn_number, millionths, picked}

-- ---- the number

rotated : (n by : ℕ) → n < 2 ^ 32 → rotate_right w32 n by < 2 ^ 32
rotated n by lt = or_of_32 _ _ (omega (arith, div-le_self n (2 ^ (by % 32)))) (mod-lt _ (omega arith))

word_small : (state stream n : ℕ) → word_of state stream n < 2 ^ 32
unfolding word_of
word_small state stream n = rotated _ _ (mod-lt _ (omega arith))

drawn_small : (shape : Shape) → drawn_number shape < MILLIONTHS
drawn_small shape =
    (div-lt_iff_lt-mul {k = 2 ^ 32} {x = shape_word_of shape.seed 0 * MILLIONTHS} {y = MILLIONTHS} (omega arith)).1
    (omega (arith, word_small shape.seed 0 0))

-- ---- the alternatives

found_step : (number before : ℕ) (a : Alternative) (more : Option (List Item)) (b : Bool) → (b ≡ false → IsSome more)
    → IsSome (if b then Some a.items else more)
found_step number before a more true rest = refl
found_step number before a more false rest = rest refl

same_millionths : (a : Alternative) → probabilities.millionths a.prob ≡ millionths a.prob
unfolding probabilities.millionths
same_millionths a = refl

covers : (number before : ℕ) (alternatives : List Alternative) → before ≤ number
    → number < before + probabilities.total alternatives → IsSome (picked number before alternatives)
covers number before [] le lt = absurd (omega arith)
covers number before (a ∷ more) le lt =
    found_step number before a _ (nat_lt number (before + millionths a.prob))
    (λ e. covers number (before + millionths a.prob) more (beyond e) (omega (arith, lt, same_millionths a, sum_by-cons (λ (x : Alternative). probabilities.millionths x.prob) a more)))
  where
    beyond : nat_lt number (before + millionths a.prob) ≡ false → before + millionths a.prob ≤ number
    beyond e = grind (arith, nat_tests)

-- ---- the rules

of_symbol : (P : Rule → Type 0) (entries : List Entry) (symbol : List ℕ) → All (λ (e : Entry). P e.rule) entries
    → All P (rules_of entries symbol)
unfolding rules_of
of_symbol P entries symbol h = All-map P (λ (e : Entry). e.rule) _ (All-filter (is_of symbol) (λ (e : Entry). P e.rule) entries h)

chosen_step : (P : Rule → Type 0) (x rule : Rule) (o : Result Bool ShapeFault) (more : Result Rule ShapeFault) → P x
    → (more ≡ Ok rule → P rule) → and_then o (λ holds. if holds then Ok x else more) ≡ Ok rule → P rule
chosen_step P x rule (Ok true) more p rest e = let same : x ≡ rule = cc in subst P same p
chosen_step P x rule (Ok false) more p rest e = rest e
chosen_step P x rule (Err fault) more p rest e = cc

chosen_all : (P : Rule → Type 0) (attributes : List Attribute) (shape : Shape) (answers : Answers) (rules : List Rule)
    (rule : Rule)
    → All P rules → chosen attributes shape answers rules ≡ Ok rule → P rule
chosen_all P attributes shape answers [] rule all e = cc
chosen_all P attributes shape answers (x ∷ xs) rule all e =
    chosen_step P x rule (optional_holds x.cond (known_to attributes shape x) answers)
    (chosen attributes shape answers xs) (All-head P x xs all) (chosen_all P attributes shape answers xs rule (All-tail P x xs all)) e

pub alternatives_cover : AlternativesCover
alternatives_cover grammar valid shape answers rule e =
    let P : Rule → Type 0 = λ (r : Rule). AddUp r.alternatives in
    let add : AddUp rule.alternatives = chosen_all P grammar.attributes shape answers
    (rules_by_id grammar shape.symbol) rule (by_id_all P _ (of_symbol P grammar.rules shape.symbol (probabilities_add_up grammar valid))) e in
    covers (drawn_number shape) 0 rule.alternatives (omega arith) (omega (arith, drawn_small shape, add.sum))
