-- The sources of every state that lines come to are spelled by lines.
use Rattle.std.proofs.Common.{◌≡◌, ℕ, suc, ◌≤◌, take, drop, length, List, [], ◌∷◌, ◌++◌, Bool, true, false, not, nat_lt, Option, Some, None, Ok, Err, subst, if◌then◌else◌}
use Rattle.std.proofs.lemmas.List.Elements.{All-nil, All-cons, All-append, All-set, All-take, All-drop, All-head, All-tail}
use Rattle.std.specs.List.{AllByRecursion, IsDistinct}
use Rattle.std.specs.Option.{option_map_or}
use Rattle.std.specs.Prelude.{All, bytes_eq, insert, remove, slice_set}
use Rattle.cga_check.specs.Groups.{is_of}
use Rattle.cga_city.specs.Apply.{Changed, apply, changed, checked, with_grammar, with_checked, valued, repriced, within}
use Rattle.cga_city.specs.Derived.{is_within}
use Rattle.cga_city.specs.Grammars.{attribute_place, has_rule, is_plain, new_place, prioritized, ranked, rule_place, with_priority, with_rule, with_rules}
use Rattle.cga_city.specs.Lots.{accepted, finds_no_room, is_bad, lot_place, names_of, rooted, with_lot}
use Rattle.cga_city.specs.declared.limits.TheConstants.{MOST_LOTS}
use Rattle.cga_parser.proofs.Door.{spelled}
use Rattle.cga_parser.specs.GrammarLines.{IsSaid, IsSpelled, rule_of}
use Rattle.cga_parser.specs.declared.block_line.BlockLine.TheVariants as says
use Rattle.cga_rule.specs.declared.grammar.Attribute.{Attribute}
use Rattle.cga_rule.specs.declared.grammar.Entry.{Entry}
use Rattle.cga_rule.specs.declared.grammar.Grammar.{Grammar}
use Rattle.cga_script.specs.CityLines.{CityTells}
use Rattle.cga_script.specs.DumpLines.{Differ, IsSaidLot, IsSpelledCity}
use Rattle.cga_script.specs.Lines.{Line}
use Rattle.cga_shape.specs.declared.edit.Edit.{Edit}
use Rattle.cga_shape.specs.declared.edit.Edit.TheVariants as edit
use Rattle.cga_shape.specs.declared.edit_refused.EditRefused.TheVariants.{NoRule, NoAttribute, NoSymbol, NoLot, BadLot, TooManyLots, OverBudget}
use Rattle.cga_shape.specs.declared.lot.Lot.{Lot}
use Rattle.cga_shape.specs.declared.sources.Sources.{Sources}
use Rattle.cga_syntax.specs.Lexemes.{is}
use Rattle.cga_syntax.specs.Limits.{last_priority}
use Rattle.cga_laws.specs.Dumped.{StatesAreSpelled}
use Rattle.cga_laws.specs.Undos.{state_after}
use Rattle.cga_laws.proofs.Kept.{AreKept, states_settled}
use Rattle.cga_laws.proofs.Said.{AreSaid, IsSaidEdit, command_said}
use Rattle.cga_laws.proofs.Undoing.{settled}
use Rattle.cga_fraction.proofs.Door.{and_then-ok, err_if-ok, option_map_or-ok}

-- ---- what was done where nothing was refused

within_ok : (budget : ℕ) (r : Changed) (new : Sources) → within budget r ≡ Ok new → r ≡ Ok new
within_ok budget (Ok made) new h = (err_if-ok (not (is_within budget made)) OverBudget (Ok made) new h).1
within_ok budget (Err e) new h = absurd (cc)

-- ---- lists as edits change them

module _ {X : Type 0} (P : X → Type 0) where
  all_less : (xs : List X) (i : ℕ) → All P xs → All P (remove xs i)
  all_less xs i h = All-append P (take i xs) (drop (suc i) xs) (All-take P i xs h) (All-drop P (suc i) xs h)

  all_more : (xs : List X) (i : ℕ) (x : X) → P x → All P xs → All P (insert xs i x)
  all_more xs i x p h = All-append P (take i xs) (x ∷ drop i xs) (All-take P i xs h) (All-cons P x (drop i xs) p (All-drop P i xs h))

  -- in the place of another, or as told where there is none
  all_placed : (xs other : List X) (o : Option ℕ) (x : X) → P x → All P xs → All P other
      → All P (option_map_or (λ i. slice_set xs i x) o other)
  all_placed xs other None x p h k = k
  all_placed xs other (Some i) x p h k = All-set P xs i x p h

module _ (P : Entry → Type 0) where
  all_ruled : (e : Entry) (rules : List Entry) → P e → All P rules → All P (with_rule e rules)
  unfolding with_rule
  all_ruled e rules p h =
      all_placed P rules (insert rules (new_place e.rule.id rules) e) (rule_place e.rule.id rules) e p h (all_more P rules (new_place e.rule.id rules) e p h)

  all_joined : (rules more : List Entry) → All P rules → All P more → All P (with_rules rules more)
  all_joined rules [] h k = h
  all_joined rules (e ∷ more) h k =
      all_joined (with_rule e rules) more (all_ruled e rules (All-head P e more k) h) (All-tail P e more k)

-- ---- grammars

abbrev SaysAttribute : Attribute → Type 0
SaysAttribute a = IsSaid (says.Attribute a)

abbrev SaysRule : Entry → Type 0
SaysRule e = IsSaid (rule_of e)

abbrev HasFew : Entry → Type 0
HasFew e = e.priority ≤ last_priority

ranked_spelled : (g : Grammar) → IsSpelled g → IsSpelled (ranked g)
unfolding ranked
ranked_spelled g h = record {
  attributes = h.attributes;
  rules = all_joined SaysRule [] g.rules (All-nil SaysRule) h.rules;
  priorities = all_joined HasFew [] g.rules (All-nil HasFew) h.priorities;
}

ruled_spelled : (g : Grammar) (e : Entry) → IsSpelled g → SaysRule e → HasFew e
    → IsSpelled (record { attributes = g.attributes; rules = with_rule e g.rules })
ruled_spelled g e h said few = record {
  attributes = h.attributes;
  rules = all_ruled SaysRule e g.rules said h.rules;
  priorities = all_ruled HasFew e g.rules few h.priorities;
}

less_spelled : (g : Grammar) (i : ℕ) → IsSpelled g
    → IsSpelled (record { attributes = g.attributes; rules = remove g.rules i })
less_spelled g i h = record {
  attributes = h.attributes;
  rules = all_less SaysRule g.rules i h.rules;
  priorities = all_less HasFew g.rules i h.priorities;
}

-- another priority is another number beside the same rule
module _ (symbol : List ℕ) (priority : ℕ) where
  priced_says : (b : Bool) (e : Entry) → SaysRule e
      → SaysRule (if b then record { priority = priority; rule = e.rule } else e)
  priced_says true e h = h
  priced_says false e h = h

  priced_few : (b : Bool) (e : Entry) → priority ≤ last_priority → HasFew e
      → HasFew (if b then record { priority = priority; rule = e.rule } else e)
  priced_few true e few h = few
  priced_few false e few h = h

  all_say : (rules : List Entry) → All SaysRule rules → All SaysRule (prioritized symbol priority rules)
  all_say [] h = All-nil SaysRule
  all_say (e ∷ rules) h =
      All-cons SaysRule (with_priority symbol priority e) (prioritized symbol priority rules) (priced_says (is_of symbol e) e (All-head SaysRule e rules h))
      (all_say rules (All-tail SaysRule e rules h))

  all_few : (rules : List Entry) → priority ≤ last_priority → All HasFew rules
      → All HasFew (prioritized symbol priority rules)
  all_few [] few h = All-nil HasFew
  all_few (e ∷ rules) few h =
      All-cons HasFew (with_priority symbol priority e) (prioritized symbol priority rules) (priced_few (is_of symbol e) e few (All-head HasFew e rules h))
      (all_few rules few (All-tail HasFew e rules h))

-- ---- edits

with_said : (s new : Sources) (g : Grammar) → AreSaid s → IsSpelled g → with_grammar s g ≡ Ok new → AreSaid new
with_said s new g said h made =
    let (u, fine, left) = and_then-ok (rooted g s.lots) _ new made in
    let e : record { grammar = g; lots = s.lots; mode = s.mode } ≡ new = cc in
    subst AreSaid e (record { grammar = h; lots = said.lots })

checked_said : (s new : Sources) (g : Grammar) → AreSaid s → IsSpelled g → with_checked s g ≡ Ok new → AreSaid new
checked_said s new g said h made = let (u, fine, left) = and_then-ok (checked g) _ new made in with_said s new g said h left

whole_said : (s new other : Sources) → AreSaid other → changed s (edit.Whole other) ≡ Ok new → AreSaid new
whole_said s new other said made =
    let (u, fine, a) = and_then-ok (checked other.grammar) _ new made in
    let b = (err_if-ok (nat_lt MOST_LOTS (length other.lots)) TooManyLots _ new a).1 in
    let (v, good, left) = and_then-ok (accepted (ranked other.grammar) other.lots) _ new b in
    let e : record { grammar = ranked other.grammar; lots = other.lots; mode = other.mode } ≡ new = cc in
    subst AreSaid e (record { grammar = ranked_spelled other.grammar said.grammar; lots = said.lots })

lot_said : (s new : Sources) (lot : Lot) → AreSaid s → IsSaidLot lot → changed s (edit.SetLot lot) ≡ Ok new
    → AreSaid new
lot_said s new lot said h made =
    let a = (err_if-ok (not (is_plain s.grammar lot.symbol)) (NoSymbol lot.symbol) _ new made).1 in
    let b = (err_if-ok (is_bad lot) (BadLot lot.name) _ new a).1 in
    let q = (err_if-ok (finds_no_room lot s.lots) TooManyLots _ new b).1 in
    let e : record { grammar = s.grammar; lots = with_lot lot s.lots; mode = s.mode } ≡ new = cc in
    subst AreSaid e (record {
      grammar = said.grammar;
      lots = all_placed IsSaidLot s.lots (s.lots ++ lot ∷ []) (lot_place lot.name s.lots) lot h said.lots
          (All-append IsSaidLot s.lots (lot ∷ []) said.lots (All-cons IsSaidLot lot [] h (All-nil IsSaidLot)));
    })

changed_said : (s new : Sources) (e : Edit) → AreSaid s → IsSaidEdit e → changed s e ≡ Ok new → AreSaid new
changed_said s new (edit.Rules g) said h made =
    let (u, fine, left) = and_then-ok (checked g) _ new made in with_said s new (ranked g) said (ranked_spelled g h) left
changed_said s new (edit.Put priority rule) said h made =
    checked_said s new _ said (ruled_spelled s.grammar (record { priority = priority; rule = rule }) said.grammar h.1 h.0) made
changed_said s new (edit.Drop id) said h made =
    let (i, there, left) = option_map_or-ok _ (rule_place id s.grammar.rules) (NoRule id) new made in
    checked_said s new _ said (less_spelled s.grammar i said.grammar) left
changed_said s new (edit.SetAttribute name value) said h made =
    let (i, there, left) = option_map_or-ok _ (attribute_place name s.grammar.attributes) (NoAttribute name) new made in
    let e : valued s name value i ≡ new = cc in
    subst AreSaid e (record {
      grammar = record {
        attributes = All-set SaysAttribute s.grammar.attributes i (record { name = name; value = value }) h said.grammar.attributes;
        rules = said.grammar.rules;
        priorities = said.grammar.priorities;
      };
      lots = said.lots;
    })
changed_said s new (edit.SetPriority symbol priority) said h made =
    let q = (err_if-ok (not (has_rule s.grammar symbol)) (NoSymbol symbol) _ new made).1 in
    let e : repriced s symbol priority ≡ new = cc in
    subst AreSaid e (record {
      grammar = record {
        attributes = said.grammar.attributes;
        rules = all_say symbol priority s.grammar.rules said.grammar.rules;
        priorities = all_few symbol priority s.grammar.rules h said.grammar.priorities;
      };
      lots = said.lots;
    })
changed_said s new (edit.SetLot lot) said h made = lot_said s new lot said h made
changed_said s new (edit.Unlot name) said h made =
    let (i, there, left) = option_map_or-ok _ (lot_place name s.lots) (NoLot name) new made in
    let e : record { grammar = s.grammar; lots = remove s.lots i; mode = s.mode } ≡ new = cc in
    subst AreSaid e (record { grammar = said.grammar; lots = all_less IsSaidLot s.lots i said.lots })
changed_said s new (edit.SetOrder mode) said h made =
    let e : record { grammar = s.grammar; lots = s.lots; mode = mode } ≡ new = cc in
    subst AreSaid e (record { grammar = said.grammar; lots = said.lots })
changed_said s new (edit.Whole other) said h made = whole_said s new other h made

applied_said : (budget : ℕ) (s new : Sources) (e : Edit) → AreSaid s → IsSaidEdit e → apply s e budget ≡ Ok new
    → AreSaid new
unfolding apply
applied_said budget s new e said h made = changed_said s new e said h (within_ok budget (changed s e) new made)

-- ---- lots of different names

others : (name : List ℕ) (lots : List Lot) → AllByRecursion (λ other. bytes_eq name other ≡ false) (names_of lots)
    → All (λ (k : Lot). is name k.name ≡ false) lots
others name [] h = All-nil (λ (k : Lot). is name k.name ≡ false)
others name (l ∷ lots) h = All-cons (λ (k : Lot). is name k.name ≡ false) l lots h.0 (others name lots h.1)

differ : (lots : List Lot) → IsDistinct bytes_eq (names_of lots) → Differ lots
unfolding Differ IsDistinct
differ [] h = tt
differ (l ∷ lots) h = (others l.name lots h.0, differ lots h.1)

-- ---- all lines

abbrev CitySpelled : Type 0
CitySpelled = (lines : List Line) (s : Sources) → CityTells lines (Ok s) → IsSpelledCity s

-- what a city block says is spelled by its lines, as the law of the dump has it
module _ (city : CitySpelled) where
  said_is_kept : AreKept (λ budget s. AreSaid s) IsSaidEdit
  said_is_kept = record {
    nothing = λ budget. record { grammar = record { attributes = All-nil SaysAttribute; rules = All-nil SaysRule; priorities = All-nil HasFew }; lots = All-nil IsSaidLot };
    done = applied_said;
    again = λ budget s said. said;
    command = command_said;
    rules = spelled;
    city = λ lines s tells. let k = city lines s tells in record { grammar = k.grammar; lots = k.lots };
  }

  pub states_are_spelled : StatesAreSpelled
  states_are_spelled decimals lines =
      let is = states_settled (λ budget s. AreSaid s) IsSaidEdit said_is_kept decimals lines in
      let sound = (settled decimals lines).now.sound in
      record { grammar = is.now.grammar; lots = is.now.lots; names = differ (state_after decimals lines).sources.lots sound.names }
