-- What edits keep of sources.
use Rattle.std.proofs.Common.{◌≡◌, ℕ, suc, ◌<◌, ◌≤◌, List, [], ◌∷◌, ◌++◌, length, take, drop, true, false, not, Some}
use Rattle.std.proofs.Common.{None, Option, Result, Ok, Err, refl, subst, ◌∙◌, arith, nat_lt, length-append}
use Rattle.std.proofs.Common.{length-take, length-drop}
use Rattle.std.specs.Prelude.{slice_set, remove}
use Rattle.std.proofs.lemmas.List.Elements.{All-nil, All-cons, All-append, All-set, All-take, All-drop, All-weaker}
use Rattle.std.proofs.Math.ListN.{length-set}
use Rattle.std.proofs.lemmas.Bool.Decides.{nat_tests}
use Rattle.cga_check.specs.Faults.{check_fault, IsValid}
use Rattle.cga_rule.specs.declared.check_fault.CheckFault.{CheckFault}
use Rattle.cga_rule.specs.declared.grammar.Grammar.{Grammar}
use Rattle.cga_shape.specs.declared.lot.Lot.{Lot}
use Rattle.cga_shape.specs.declared.sources.Sources.{Sources}
use Rattle.cga_shape.specs.declared.edit.Edit.{Edit}
use Rattle.cga_shape.specs.declared.edit.Edit.TheVariants as edit
use Rattle.cga_shape.specs.declared.edit_refused.EditRefused.TheVariants.{NoRule, NoAttribute, NoSymbol, NoLot, BadLot, TooManyLots}
use Rattle.cga_city.specs.declared.limits.TheConstants.{MOST_LOTS}
use Rattle.cga_city.specs.Grammars.{IsRising, has_rule, is_plain, rule_place, ranked, attribute_place, prioritized}
use Rattle.cga_city.specs.Lots.{lot_place, is_bad, with_lot, finds_no_room, rooted, accepted}
use Rattle.cga_city.specs.Apply.{by_check, checked, with_grammar, with_checked, valued, repriced, changed}
use Rattle.cga_city.specs.City.{HasDistinctLots}
use Rattle.cga_city.specs.Inside.{AreSound}
use Rattle.cga_city.proofs.Names.{AreApart, apart_less, apart_set, apart_new}
use Rattle.cga_city.proofs.Ranked.{ranked_valid}
use Rattle.cga_city.proofs.Valued.{prioritized_valid, valued_valid}
use Rattle.cga_city.proofs.Rising.{with_rule_rises, ranked_rises, remove_rises, prioritized_rises}
use Rattle.cga_city.proofs.Plain.{ArePlain, AreFit, plain_if, rooted_plain, accepted_good, plain_priority}
use Rattle.cga_fraction.proofs.Door.{and_then-ok as and_then_ok, err_if-ok as err_if_ok, option_map_or-ok as map_or_ok}

by_check_ok : (r : Result (Unit {0}) CheckFault) (u : Unit {0}) → by_check r ≡ Ok u → r ≡ Ok tt
by_check_ok (Ok v) u h = refl
by_check_ok (Err fault) u h = cc

-- a grammar that was checked is valid
checked_valid : (g : Grammar) (u : Unit {0}) → checked g ≡ Ok u → IsValid g
checked_valid g u h = by_check_ok (check_fault g) u h

grammar_sound : (s new : Sources) (g : Grammar) → AreSound s → IsValid g → IsRising g.rules → with_grammar s g ≡ Ok new
    → AreSound new
grammar_sound s new g sound valid rising h =
    let (u, plain, made) = and_then_ok (rooted g s.lots) _ new h in
    let e : record { grammar = g; lots = s.lots; mode = s.mode } ≡ new = cc in
    subst AreSound e (record { grammar = valid; rising = rising; few = sound.few; names = sound.names; good = sound.good; plain = rooted_plain g s.lots u plain })

checked_sound : (s new : Sources) (g : Grammar) → AreSound s → IsRising g.rules → with_checked s g ≡ Ok new
    → AreSound new
checked_sound s new g sound rising h = let (u, valid, made) = and_then_ok (checked g) _ new h in grammar_sound s new g sound (checked_valid g u valid) rising made

-- ---- lots

abbrev IsFit : Lot → Type 0
IsFit lot = is_bad lot ≡ false

abbrev IsPlain : Grammar → Lot → Type 0
IsPlain g lot = is_plain g lot.symbol ≡ true

abbrev pub AreGood : Grammar → List Lot → Type 0
AreGood g lots = (length lots ≤ MOST_LOTS) × AreApart lots × AreFit lots × ArePlain g lots

less_good : (g : Grammar) (lots : List Lot) (i : ℕ) → AreGood g lots → AreGood g (remove lots i)
less_good g lots i (few, apart, roots, plain) =
    let left : length (remove lots i) ≤ length lots = omega (arith, length-append (take i lots) (drop (suc i) lots), length-take i lots, length-drop (suc i) lots) in (
      omega arith,
      apart_less lots i apart,
      All-append IsFit (take i lots) (drop (suc i) lots) (All-take IsFit i lots roots) (All-drop IsFit (suc i) lots roots),
      All-append (IsPlain g) (take i lots) (drop (suc i) lots) (All-take (IsPlain g) i lots plain) (All-drop (IsPlain g) (suc i) lots plain),
    )

set_good : (g : Grammar) (lots : List Lot) (lot : Lot) (i : ℕ) → lot_place lot.name lots ≡ Some i → is_bad lot ≡ false
    → is_plain g lot.symbol ≡ true
    → AreGood g lots → AreGood g (slice_set lots i lot)
set_good g lots lot i at root plain (few, apart, roots, others) =
    (omega (arith, length-set lots i lot), apart_set lots lot i at apart, All-set IsFit lots i lot root roots, All-set (IsPlain g) lots i lot plain others)

new_good : (g : Grammar) (lots : List Lot) (lot : Lot) → lot_place lot.name lots ≡ None → length lots < MOST_LOTS
    → is_bad lot ≡ false → is_plain g lot.symbol ≡ true
    → AreGood g lots → AreGood g (lots ++ lot ∷ [])
new_good g lots lot none room root plain (few, apart, roots, others) = (
  omega (arith, length-append lots (lot ∷ [])),
  apart_new lots lot none apart,
  All-append IsFit lots (lot ∷ []) roots (All-cons IsFit lot [] root (All-nil IsFit)),
  All-append (IsPlain g) lots (lot ∷ []) others (All-cons (IsPlain g) lot [] plain (All-nil (IsPlain g))),
)

lot_good : (g : Grammar) (lots : List Lot) (lot : Lot) (place : Option ℕ) → lot_place lot.name lots ≡ place
    → finds_no_room lot lots ≡ false → is_bad lot ≡ false
    → is_plain g lot.symbol ≡ true → AreGood g lots → AreGood g (with_lot lot lots)
lot_good g lots lot (Some i) at room root plain good = rw at (set_good g lots lot i at root plain good)
lot_good g lots lot None at room root plain good = rw at (new_good g lots lot at (has_room (length lots) (rw at at room)) root plain good)
  where
    has_room : (n : ℕ) → not (nat_lt n MOST_LOTS) ≡ false → n < MOST_LOTS
    has_room n h = grind (arith, nat_tests)

good : (s : Sources) → AreSound s → AreGood s.grammar s.lots
good s sound = (sound.few, sound.names, sound.good, sound.plain)

sound_of : (s : Sources) → IsValid s.grammar → IsRising s.grammar.rules → AreGood s.grammar s.lots → AreSound s
sound_of s valid rising (few, names, fit, plain) = record { grammar = valid; rising = rising; few = few; names = names; good = fit; plain = plain }

whole_sound : (s new other : Sources) → AreApart other.lots → changed s (edit.Whole other) ≡ Ok new → AreSound new
whole_sound s new other apart h =
    let (u, valid, rest) = and_then_ok (checked other.grammar) _ new h in
    let few = err_if_ok (nat_lt MOST_LOTS (length other.lots)) TooManyLots _ new rest in
    let (v, fits, made) = and_then_ok (accepted (ranked other.grammar) other.lots) _ new few.1 in
    let good = accepted_good (ranked other.grammar) other.lots v fits in
    let e : record { grammar = ranked other.grammar; lots = other.lots; mode = other.mode } ≡ new = cc in
    subst AreSound e (record {
      grammar = ranked_valid other.grammar (checked_valid other.grammar u valid);
      rising = ranked_rises other.grammar;
      few = at_most (length other.lots) few.0;
      names = apart;
      good = good.1;
      plain = good.0;
    })
  where
    at_most : (n : ℕ) → nat_lt MOST_LOTS n ≡ false → n ≤ MOST_LOTS
    at_most n h = grind (arith, nat_tests)

lot_sound : (s new : Sources) (lot : Lot) → AreSound s → changed s (edit.SetLot lot) ≡ Ok new → AreSound new
lot_sound s new lot sound h =
    let a = err_if_ok (not (is_plain s.grammar lot.symbol)) (NoSymbol lot.symbol) _ new h in
    let b = err_if_ok (is_bad lot) (BadLot lot.name) _ new a.1 in
    let c = err_if_ok (finds_no_room lot s.lots) TooManyLots _ new b.1 in
    let e : record { grammar = s.grammar; lots = with_lot lot s.lots; mode = s.mode } ≡ new = let made = c.1 in cc in
    subst AreSound e (sound_of _ sound.grammar sound.rising (lot_good s.grammar s.lots lot (lot_place lot.name s.lots) refl c.0 b.0 (plain_if (is_plain s.grammar lot.symbol) a.0) (good s sound)))

-- an edit that isn't refused keeps what lots are
pub changed_sound : (s new : Sources) (e : Edit) → AreSound s → HasDistinctLots e → changed s e ≡ Ok new → AreSound new
changed_sound s new (edit.Rules g) sound apart h = let (u, valid, made) = and_then_ok (checked g) _ new h in
    grammar_sound s new (ranked g) sound (ranked_valid g (checked_valid g u valid)) (ranked_rises g) made
changed_sound s new (edit.Put priority rule) sound apart h =
    checked_sound s new _ sound (with_rule_rises (record { priority = priority; rule = rule }) s.grammar.rules sound.rising) h
changed_sound s new (edit.Drop id) sound apart h = let (i, at, made) = map_or_ok _ (rule_place id s.grammar.rules)
    (NoRule id) new h in checked_sound s new _ sound (remove_rises s.grammar.rules i sound.rising) made
changed_sound s new (edit.SetAttribute name value) sound apart h =
    let (i, at, made) = map_or_ok _ (attribute_place name s.grammar.attributes) (NoAttribute name) new h in
    let e : valued s name value i ≡ new = cc in
    subst AreSound e (record { grammar = valued_valid s.grammar name value i at sound.grammar; rising = sound.rising; few = sound.few; names = sound.names; good = sound.good; plain = sound.plain })
changed_sound s new (edit.SetPriority symbol priority) sound apart h =
    let k = err_if_ok (not (has_rule s.grammar symbol)) (NoSymbol symbol) _ new h in
    let e : repriced s symbol priority ≡ new = let made = k.1 in cc in
    subst AreSound e (record {
      grammar = prioritized_valid symbol priority s.grammar sound.grammar;
      rising = prioritized_rises symbol priority s.grammar.rules sound.rising;
      few = sound.few;
      names = sound.names;
      good = sound.good;
      plain = All-weaker (IsPlain s.grammar)
          (IsPlain (record {
            attributes = s.grammar.attributes;
            rules = prioritized symbol priority
                s.grammar.rules;
          })) (λ (lot : Lot) p. plain_priority s.grammar symbol priority lot.symbol ∙ p) s.lots sound.plain;
    })
changed_sound s new (edit.SetLot lot) sound apart h = lot_sound s new lot sound h
changed_sound s new (edit.Unlot name) sound apart h =
    let (i, at, made) = map_or_ok _ (lot_place name s.lots) (NoLot name) new h in
    let e : record { grammar = s.grammar; lots = remove s.lots i; mode = s.mode } ≡ new = cc in
    subst AreSound e (sound_of _ sound.grammar sound.rising (less_good s.grammar s.lots i (good s sound)))
changed_sound s new (edit.SetOrder mode) sound apart h =
    let e : record { grammar = s.grammar; lots = s.lots; mode = mode } ≡ new = cc in
    subst AreSound e (record { grammar = sound.grammar; rising = sound.rising; few = sound.few; names = sound.names; good = sound.good; plain = sound.plain })
changed_sound s new (edit.Whole other) sound apart h = whole_sound s new other apart h
