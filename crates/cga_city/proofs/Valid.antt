-- The sources of a city are valid.
use Rattle.std.proofs.Common.{◌≡◌, ℕ, List, [], ◌∷◌, length, Bool, true, false, not, ◌&&◌, ◌||◌, nat_lt, refl, sym, subst, arith, Option}
use Rattle.std.specs.Prelude.{IsSome, IsOk}
use Rattle.std.specs.List.{AllByRecursion, list_any}
use Rattle.std.proofs.lemmas.Bool.Decides.{nat_tests}
use Rattle.std.proofs.lemmas.List.Elements.{All-weaker}
use Rattle.cga_rule.specs.declared.grammar.Entry.{Entry}
use Rattle.cga_rule.specs.declared.grammar.Grammar.{Grammar}
use Rattle.cga_check.specs.declared.usage.Use.TheVariants.{Child}
use Rattle.cga_check.specs.Groups.{is_of, first_entry}
use Rattle.cga_check.specs.Faults as grammars
use Rattle.cga_check.specs.Validity.{IsMet, Takes}
use Rattle.cga_check.proofs.Door.{takes}
use Rattle.cga_shape.specs.declared.lot.Lot.{Lot}
use Rattle.cga_shape.specs.declared.sources.Sources.{Sources}
use Rattle.cga_shape.specs.Root.{root_scope}
use Rattle.cga_expand.specs.Validity.{IsValid}
use Rattle.cga_city.specs.Grammars.{has_rule, has_parameters, is_plain}
use Rattle.cga_city.specs.Lots.{is_bad}
use Rattle.cga_city.specs.Inside.{AreSound}
use Rattle.cga_fraction.proofs.Door.{or_false_first, or_false_second}
use Rattle.cga_city.proofs.Plain.{good_root}
use Rattle.cga_city.proofs.Names.{names_differ}
use Rattle.cga_city.proofs.Ranked.{found_in}

none_any : (p : Entry → Bool) (xs : List Entry) → list_any p xs ≡ false → AllByRecursion (λ (x : Entry). p x ≡ false) xs
none_any p [] h = tt
none_any p (x ∷ xs) h = (or_false_first (p x) (list_any p xs) h, none_any p xs (or_false_second (p x) (list_any p xs) h))

has_one : (a b : Bool) → (a && not b) ≡ true → (a ≡ true) × (b ≡ false)
has_one true true h = cc
has_one true false h = (refl, refl)
has_one false b h = cc

takes_none : (t : Bool) (n : ℕ) → t ≡ true → (t && nat_lt 0 n) ≡ false → n ≡ 0
takes_none true n t h = grind (arith, nat_tests)
takes_none false n t h = cc

symbol_met : (g : Grammar) → grammars.IsValid g → (symbol : List ℕ) → is_plain g symbol ≡ true
    → IsMet g (Child symbol 0)
unfolding first_entry
symbol_met g valid symbol plain =
    let (has, plainly) = has_one (has_rule g symbol) (has_parameters g symbol) plain in
    let (k, at, passes, none) = found_in (is_of symbol) (λ (e : Entry). (is_of symbol e && nat_lt 0 (length e.rule.params)) ≡ false) g.rules has (none_any _ g.rules plainly) in
    (subst (λ (o : Option Entry). IsSome o) (sym at) refl, subst (λ (n : ℕ). Takes g symbol n) (takes_none (is_of symbol k) (length k.rule.params) passes none) (takes g valid symbol k at))

-- Sound sources are valid.
pub sound_valid : (s : Sources) → AreSound s → IsValid s
sound_valid s sound = record {
  grammar = sound.grammar;
  names = names_differ s.lots sound.names;
  symbols = All-weaker (λ (lot : Lot). is_plain s.grammar lot.symbol ≡ true)
      (λ (lot : Lot). IsMet s.grammar (Child lot.symbol 0)) (λ lot p. symbol_met s.grammar sound.grammar lot.symbol p) s.lots sound.plain;
  roots = All-weaker (λ (lot : Lot). is_bad lot ≡ false) (λ (lot : Lot). IsOk (root_scope lot)) good_root s.lots sound.good;
}
