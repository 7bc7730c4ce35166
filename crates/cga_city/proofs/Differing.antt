-- Which lots differ after an edit.
use Rattle.std.proofs.Common.{◌≡◌, ℕ, zero, suc, List, [], ◌∷◌, ◌++◌, length, Bool, true, false, not, ◌||◌, Option, Some, None, Result, Ok, slice_get, refl, sym, ap, ◌∙◌, subst, if◌then◌else◌}
use Rattle.std.specs.Prelude.{find, remove, slice_set, unwrap_or}
use Rattle.std.specs.Option.{option_map_or}
use Rattle.std.proofs.lemmas.Slice.Eq.{bytes_eq-Decides}
use Rattle.cga_check.specs.Groups as groups
use Rattle.cga_check.specs.Groups.{first_entry, is_of, priority_in}
use Rattle.cga_check.specs.Uses.{same_name}
use Rattle.cga_expand.specs.Derivation.{priority_of}
use Rattle.cga_fraction.proofs.Door.{None-not-Some as none_some, same_Some as some_same}
use Rattle.cga_rule.specs.declared.grammar.Entry.{Entry}
use Rattle.cga_rule.specs.declared.grammar.Grammar.{Grammar}
use Rattle.cga_shape.specs.declared.edit.Edit.{Edit}
use Rattle.cga_shape.specs.declared.edit.Edit.TheVariants as edit
use Rattle.cga_shape.specs.declared.edit_refused.EditRefused.TheVariants.{BadLot, NoAttribute, NoLot, NoSymbol, TooManyLots}
use Rattle.cga_shape.specs.declared.lot.Lot.{Lot}
use Rattle.cga_shape.specs.declared.sources.Sources.{Sources}
use Rattle.cga_update.specs.ChangedLots.{AreChanged, DifferAt}
use Rattle.cga_update.specs.declared.changed_lots.ChangedLots.{ChangedLots}
use Rattle.cga_update.specs.declared.changed_lots.ChangedLots.TheVariants as differ
use Rattle.cga_city.specs.Apply.{changed, repriced, valued}
use Rattle.cga_city.specs.Edited.{lots_of, priced}
use Rattle.cga_city.specs.Grammars.{attribute_place, has_rule, is_plain, prioritized, with_priority}
use Rattle.cga_city.specs.Lots.{finds_no_room, has_symbol, is_bad, lot_place, with_lot}
use Rattle.cga_city.proofs.Places.{Kept, all_kept, kept_less, kept_more, kept_set, less_kept, more_kept, set_kept, set_same}
use Rattle.cga_fraction.proofs.Door.{err_if-ok as err_if_ok, option_map_or-ok as map_or_ok}
use Rattle.cga_city.proofs.Valued.{same_rule}

-- ---- priorities

-- grammars of the same rules give the same
same_rules : (g h : Grammar) → g.rules ≡ h.rules → (symbol : List ℕ) → priority_of g symbol ≡ priority_of h symbol
unfolding priority_of groups.priority_of
same_rules g h same symbol = ap (λ (rules : List Entry). unwrap_or (priority_in (first_entry rules symbol)) 0) same

module _ (symbol other : List ℕ) (priority : ℕ) (apart : same_name other symbol ≡ false) where
  other_priority : (x : Entry) → is_of other x ≡ true → (with_priority symbol priority x).priority ≡ x.priority
  other_priority x is =
      let named : x.rule.symbol ≡ other = (bytes_eq-Decides x.rule.symbol other).0 is in
      let f : is_of symbol x ≡ false = rw named apart in rw f refl

  -- the first rule of another symbol has its priority
  first_other : (rules : List Entry) → priority_in (find (is_of other) (prioritized symbol priority rules))
      ≡ priority_in (find (is_of other) rules)
  first_other [] = refl
  first_other (x ∷ rules) = rw (same_rule symbol priority x) (by_test (is_of other x) refl (first_other rules))
    where
      by_test : (b : Bool) → is_of other x ≡ b
          → priority_in (find (is_of other) (prioritized symbol priority rules))
          ≡ priority_in (find (is_of other) rules)
          → priority_in (if b then Some (with_priority symbol priority x)
          else find (is_of other) (prioritized symbol priority rules))
          ≡ priority_in (if b then Some x else find (is_of other) rules)
      by_test true is more = ap Some (other_priority x is)
      by_test false is more = more

  other_stays : (g : Grammar) → priority_of g other
      ≡ priority_of (record { attributes = g.attributes; rules = prioritized symbol priority g.rules }) other
  unfolding priority_of groups.priority_of first_entry
  other_stays g = ap (λ (p : Option ℕ). unwrap_or p 0) (sym (first_other g.rules))

-- ---- lots

-- where each symbol of a lot has its priority by both grammars
by_places : (s new : Sources) (p q : Option ℕ) → Kept s.lots p new.lots q → Kept new.lots q s.lots p
    → ((i : ℕ) (lot : Lot) → slice_get s.lots i ≡ Some lot
    → priority_of s.grammar lot.symbol ≡ priority_of new.grammar lot.symbol)
    → ((i : ℕ) (lot : Lot) → slice_get new.lots i ≡ Some lot
    → priority_of new.grammar lot.symbol ≡ priority_of s.grammar lot.symbol)
    → DifferAt s new p q
by_places s new p q stay stood same again = record {
  stay = λ i lot at other. let w = stay i lot at other in (w.0, record { listed = w.1; other = w.2; priority = same i lot at });
  stood = λ i lot at other. let w = stood i lot at other in (w.0, record { listed = w.1; other = w.2; priority = again i lot at });
}

-- other lots by the same grammar
other_lots : (s : Sources) (lots : List Lot) (p q : Option ℕ) → Kept s.lots p lots q → Kept lots q s.lots p
    → DifferAt s (record { grammar = s.grammar; lots = lots; mode = s.mode }) p q
other_lots s lots p q stay stood = by_places s (record { grammar = s.grammar; lots = lots; mode = s.mode }) p q stay stood (λ i lot at. refl) (λ i lot at. refl)

-- the same lots by another grammar
same_lots : (s : Sources) (g : Grammar)
    → ((i : ℕ) (lot : Lot) → slice_get s.lots i ≡ Some lot
    → priority_of s.grammar lot.symbol ≡ priority_of g lot.symbol)
    → DifferAt s (record { grammar = g; lots = s.lots; mode = s.mode }) None None
same_lots s g same = by_places s (record { grammar = g; lots = s.lots; mode = s.mode }) None None (all_kept s.lots) (all_kept s.lots) same (λ i lot at. sym (same i lot at))

left_or : (a b : Bool) → a || b ≡ false → a ≡ false
left_or true b h = h
left_or false b h = refl

right_or : (a b : Bool) → a || b ≡ false → b ≡ false
right_or true b h = absurd (cc)
right_or false b h = h

none_has : (symbol : List ℕ) (lots : List Lot) → has_symbol symbol lots ≡ false → (i : ℕ) (lot : Lot)
    → slice_get lots i ≡ Some lot → same_name lot.symbol symbol ≡ false
none_has symbol [] none i lot at = none_some lot at
none_has symbol (x ∷ lots) none zero lot at =
    let same : x ≡ lot = some_same x lot at in
    ap (λ (l : Lot). same_name l.symbol symbol) (sym same) ∙ left_or (same_name x.symbol symbol) (has_symbol symbol lots) none
none_has symbol (x ∷ lots) none (suc i) lot at = none_has symbol lots (right_or (same_name x.symbol symbol) (has_symbol symbol lots) none) i lot at

by_priority : (s : Sources) (symbol : List ℕ) (priority : ℕ) (has : Bool) → has_symbol symbol s.lots ≡ has
    → AreChanged (if has then differ.All else differ.Nothing) s (repriced s symbol priority)
by_priority s symbol priority true is = tt
by_priority s symbol priority false is = same_lots s (repriced s symbol priority).grammar (λ i lot at. other_stays symbol lot.symbol priority (none_has symbol s.lots is i lot at) s.grammar)

by_lot : (s : Sources) (lot : Lot) (place : Option ℕ) → lot_place lot.name s.lots ≡ place
    → AreChanged (differ.One place (Some (unwrap_or place (length s.lots)))) s
    (record { grammar = s.grammar; lots = with_lot lot s.lots; mode = s.mode })
by_lot s lot (Some i) at = rw at (other_lots s (slice_set s.lots i lot) (Some i) (Some i) (set_kept s.lots i lot) (kept_set s.lots i lot))
by_lot s lot None at = rw at (other_lots s (s.lots ++ lot ∷ []) None (Some (length s.lots)) (more_kept s.lots lot) (kept_more s.lots lot))

-- an edit names each lot that differs
pub are_changed : (s new : Sources) (e : Edit) → changed s e ≡ Ok new → AreChanged (lots_of s e) s new
are_changed s new (edit.Rules g) h = tt
are_changed s new (edit.Put priority rule) h = tt
are_changed s new (edit.Drop id) h = tt
are_changed s new (edit.SetAttribute name value) h =
    let (i, at, made) = map_or_ok _ (attribute_place name s.grammar.attributes) (NoAttribute name) new h in
    let e : valued s name value i ≡ new = cc in
    subst (AreChanged differ.Nothing s) e (same_lots s (valued s name value i).grammar (λ i lot at. same_rules _ _ refl lot.symbol))
are_changed s new (edit.SetPriority symbol priority) h =
    let k = err_if_ok (not (has_rule s.grammar symbol)) (NoSymbol symbol) _ new h in
    let e : repriced s symbol priority ≡ new = let made = k.1 in cc in
    subst (AreChanged (priced s.lots symbol) s) e (by_priority s symbol priority (has_symbol symbol s.lots) refl)
are_changed s new (edit.SetLot lot) h =
    let a = err_if_ok (not (is_plain s.grammar lot.symbol)) (NoSymbol lot.symbol) _ new h in
    let b = err_if_ok (is_bad lot) (BadLot lot.name) _ new a.1 in
    let c = err_if_ok (finds_no_room lot s.lots) TooManyLots _ new b.1 in
    let e : record { grammar = s.grammar; lots = with_lot lot s.lots; mode = s.mode } ≡ new = let made = c.1 in cc in
    subst (AreChanged (lots_of s (edit.SetLot lot)) s) e (by_lot s lot (lot_place lot.name s.lots) refl)
are_changed s new (edit.Unlot name) h =
    let (i, at, made) = map_or_ok _ (lot_place name s.lots) (NoLot name) new h in
    let e : record { grammar = s.grammar; lots = remove s.lots i; mode = s.mode } ≡ new = cc in
    rw at (subst (AreChanged (differ.One (Some i) None) s) e (other_lots s (remove s.lots i) (Some i) None (less_kept s.lots i) (kept_less s.lots i)))
are_changed s new (edit.SetOrder mode) h = tt
are_changed s new (edit.Whole other) h = tt

-- ---- a lot that stands as it is

-- the lots with one that stands at its place are the lots
pub with_same : (lot : Lot) (lots : List Lot) (place : Option ℕ) → place ≡ lot_place lot.name lots
    → (i : ℕ) × (place ≡ Some i) × (slice_get lots i ≡ Some lot) → with_lot lot lots ≡ lots
with_same lot lots place is at =
    ap (λ (o : Option ℕ). option_map_or (λ i. slice_set lots i lot) o (lots ++ lot ∷ [])) (sym is ∙ at.1) ∙ set_same lots at.0 lot at.2
