-- What an accepted edit says of the lots' symbols.
use Rattle.std.proofs.Common.{◌≡◌, ℕ, List, [], ◌∷◌, Bool, true, false, not, ◌&&◌, ◌||◌, refl, ap, ◌∙◌, Result, Ok, Err, Option, Some, None, inl, inr}
use Rattle.std.specs.Prelude.{All, IsOk, is_err}
use Rattle.std.specs.List.{list_any}
use Rattle.std.specs.Option.{option_map_or}
use Rattle.std.proofs.lemmas.List.Elements.{All-nil, All-cons, All-head, All-tail}
use Rattle.cga_fraction.specs.Results.{and_then, err_if}
use Rattle.cga_check.specs.Groups.{is_of}
use Rattle.cga_rule.specs.declared.grammar.Entry.{Entry}
use Rattle.cga_rule.specs.declared.grammar.Grammar.{Grammar}
use Rattle.cga_shape.specs.declared.lot.Lot.{Lot}
use Rattle.cga_shape.specs.Root.{root_scope}
use Rattle.cga_city.specs.Grammars.{has_rule, has_parameters, is_plain, with_priority, prioritized}
use Rattle.cga_city.specs.Lots.{is_bad, rooted, accepted}
use Rattle.cga_city.proofs.Sorting.{decide}
pub use Rattle.cga_fraction.proofs.Door.{true_from_not as plain_if}
use Rattle.cga_fraction.proofs.Door.{true_from_not as not_false, err_if-ok as err_if_ok}

-- ---- what was done where nothing was refused

-- ---- lots

abbrev pub ArePlain : Grammar → List Lot → Type 0
ArePlain g lots = All (λ (lot : Lot). is_plain g lot.symbol ≡ true) lots

pub rooted_plain : (g : Grammar) (lots : List Lot) (u : Unit {0}) → rooted g lots ≡ Ok u → ArePlain g lots
rooted_plain g [] u h = All-nil (λ (lot : Lot). is_plain g lot.symbol ≡ true)
rooted_plain g (lot ∷ lots) u h =
    let k = err_if_ok (not (is_plain g lot.symbol)) _ (rooted g lots) u h in
    All-cons (λ (l : Lot). is_plain g l.symbol ≡ true) lot lots (not_false (is_plain g lot.symbol) k.0) (rooted_plain g lots u k.1)

bad_at : (a b t : Bool) → t ≡ true → (a || (b || t)) ≡ false → ⊥
bad_at true b t e h = cc
bad_at false true t e h = cc
bad_at false false t e h = cc

ok_if : {A F : Type 0} (r : Result A F) → is_err r ≡ false → IsOk r
ok_if (Ok x) h = refl
ok_if (Err e) h = cc

-- a lot that isn't bad has a root
pub good_root : (lot : Lot) → is_bad lot ≡ false → IsOk (root_scope lot)
good_root lot h = elim (decide (is_err (root_scope lot))) [
  | inl t ↦ absurd (bad_at _ _ _ t h)
  | inr f ↦ ok_if (root_scope lot) f
]

abbrev pub AreFit : List Lot → Type 0
AreFit lots = All (λ (lot : Lot). is_bad lot ≡ false) lots

pub accepted_good : (g : Grammar) (lots : List Lot) (u : Unit {0}) → accepted g lots ≡ Ok u
    → ArePlain g lots × AreFit lots
accepted_good g [] u h = (All-nil (λ (l : Lot). is_plain g l.symbol ≡ true), All-nil (λ (l : Lot). is_bad l ≡ false))
accepted_good g (lot ∷ lots) u h =
    let k = err_if_ok (not (is_plain g lot.symbol)) _ _ u h in
    let l = err_if_ok (is_bad lot) _ (accepted g lots) u k.1 in
    let more = accepted_good g lots u l.1 in
    (All-cons (λ (l : Lot). is_plain g l.symbol ≡ true) lot lots (not_false (is_plain g lot.symbol) k.0) more.0, All-cons (λ (l : Lot). is_bad l ≡ false) lot lots l.0 more.1)

-- and the other way round
pub good_accepted : (g : Grammar) (lots : List Lot) → ArePlain g lots → AreFit lots → accepted g lots ≡ Ok tt
good_accepted g [] plain fit = refl
good_accepted g (lot ∷ lots) plain fit =
    rw (All-head (λ (l : Lot). is_plain g l.symbol ≡ true) lot lots plain, All-head (λ (l : Lot). is_bad l ≡ false) lot lots fit)
    (good_accepted g lots (All-tail (λ (l : Lot). is_plain g l.symbol ≡ true) lot lots plain) (All-tail (λ (l : Lot). is_bad l ≡ false) lot lots fit))

-- ---- priorities

same_rule : (symbol : List ℕ) (priority : ℕ) (e : Entry) → (with_priority symbol priority e).rule ≡ e.rule
same_rule symbol priority e = elim (decide (is_of symbol e)) [ inl t ↦ rw t refl | inr f ↦ rw f refl ]

same_any : (test : Entry → Bool) → ((a b : Entry) → a.rule ≡ b.rule → test a ≡ test b)
    → (symbol : List ℕ) (priority : ℕ) (rules : List Entry)
    → list_any test (prioritized symbol priority rules) ≡ list_any test rules
same_any test alike symbol priority [] = refl
same_any test alike symbol priority (e ∷ rules) = rw (alike (with_priority symbol priority e) e (same_rule symbol priority e), same_any test alike symbol priority rules) refl

pub plain_priority : (g : Grammar) (symbol : List ℕ) (priority : ℕ) (name : List ℕ)
    → is_plain (record { attributes = g.attributes; rules = prioritized symbol priority g.rules }) name ≡ is_plain g
    name
plain_priority g symbol priority name =
    let a : has_rule (record { attributes = g.attributes; rules = prioritized symbol priority g.rules }) name ≡ has_rule g name =
    same_any (is_of name) (λ a b e. rw e refl) symbol priority g.rules in
    let b : has_parameters (record { attributes = g.attributes; rules = prioritized symbol priority g.rules }) name ≡ has_parameters g name =
    same_any _ (λ a b e. rw e refl) symbol priority g.rules in
    ap (λ (t : Bool). t && not (has_parameters (record { attributes = g.attributes; rules = prioritized symbol priority g.rules }) name)) a
    ∙ ap (λ (t : Bool). has_rule g name && not t) b
