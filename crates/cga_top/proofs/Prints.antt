-- What edits leave of the rules can be printed.
use Rattle.std.proofs.Common.{◌≡◌, ℕ, suc, List, [], ◌∷◌, Bool, true, false, not, Option, Some, None, Result, Ok, Err, subst, take, drop}
use Rattle.std.specs.Prelude.{All, if◌then◌else◌, insert, remove, slice_set, nat_lt, length}
use Rattle.std.specs.Option.{option_map_or}
use Rattle.std.proofs.lemmas.List.Elements.{All-nil, All-cons, All-head, All-tail, All-set, All-append, All-take, All-drop}
use Rattle.cga_fraction.specs.Results.{and_then, err_if}
use Rattle.cga_rule.specs.declared.grammar.Entry.{Entry}
use Rattle.cga_rule.specs.declared.grammar.Grammar.{Grammar}
use Rattle.cga_shape.specs.declared.edit.Edit.{Edit}
use Rattle.cga_shape.specs.declared.edit.Edit.TheVariants as edit
use Rattle.cga_shape.specs.declared.edit_refused.EditRefused.{EditRefused}
use Rattle.cga_shape.specs.declared.edit_refused.EditRefused.TheVariants as cause
use Rattle.cga_shape.specs.declared.sources.Sources.{Sources}
use Rattle.cga_syntax.specs.GrammarText.{ArePrintable}
use Rattle.cga_syntax.specs.Pieces.{rule_pieces}
use Rattle.cga_syntax.specs.Printing.{printed, HaveTexts}
use Rattle.cga_check.specs.Groups.{is_of}
use Rattle.cga_city.specs.Grammars.{with_rule, with_rules, rule_place, new_place, ranked, with_priority, prioritized, attribute_place, has_rule, is_plain}
use Rattle.cga_city.specs.Lots.{lot_place, rooted, accepted, with_lot, is_bad, finds_no_room}
use Rattle.cga_city.specs.Derived.{is_within}
use Rattle.cga_city.specs.Apply.{Changed, apply, changed, within, checked, with_grammar, ruled, valued, repriced}
use Rattle.cga_top.specs.Written.{IsWritten}

-- ---- entries

abbrev Prints : Entry → Type 0
Prints e = HaveTexts (printed (rule_pieces e.rule))

all_inserted : (es : List Entry) (i : ℕ) (e : Entry) → Prints e → All Prints es → All Prints (insert es i e)
all_inserted es i e p ps = All-append Prints (take i es) (e ∷ drop i es) (All-take Prints i es ps) (All-cons Prints e (drop i es) p (All-drop Prints i es ps))

all_removed : (es : List Entry) (i : ℕ) → All Prints es → All Prints (remove es i)
all_removed es i ps = All-append Prints (take i es) (drop (suc i) es) (All-take Prints i es ps) (All-drop Prints (suc i) es ps)

by_place : (es : List Entry) (e : Entry) (place : Option ℕ) (other : ℕ) → Prints e → All Prints es
    → All Prints (option_map_or (λ i. slice_set es i e) place (insert es other e))
by_place es e None other p ps = all_inserted es other e p ps
by_place es e (Some i) other p ps = All-set Prints es i e p ps

with_one : (e : Entry) (es : List Entry) → Prints e → All Prints es → All Prints (with_rule e es)
unfolding with_rule
with_one e es p ps = by_place es e (rule_place e.rule.id es) (new_place e.rule.id es) p ps

with_all : (es more : List Entry) → All Prints es → All Prints more → All Prints (with_rules es more)
with_all es [] ps qs = ps
with_all es (e ∷ more) ps qs = with_all (with_rule e es) more (with_one e es (All-head Prints e more qs) ps) (All-tail Prints e more qs)

all_ranked : (g : Grammar) → All Prints g.rules → All Prints (ranked g).rules
unfolding ranked
all_ranked g ps = with_all [] g.rules (All-nil Prints) ps

one_repriced : (symbol : List ℕ) (priority : ℕ) (e : Entry) (b : Bool) → Prints e
    → Prints (if b then record { priority = priority; rule = e.rule } else e)
one_repriced symbol priority e true p = p
one_repriced symbol priority e false p = p

all_repriced : (symbol : List ℕ) (priority : ℕ) (es : List Entry) → All Prints es
    → All Prints (prioritized symbol priority es)
all_repriced symbol priority [] ps = All-nil Prints
all_repriced symbol priority (e ∷ es) ps =
    All-cons Prints (with_priority symbol priority e) (prioritized symbol priority es)
    (one_repriced symbol priority e (is_of symbol e) (All-head Prints e es ps)) (all_repriced symbol priority es (All-tail Prints e es ps))

-- ---- sources

abbrev Keeps : Changed → Type 0
Keeps (Ok new) = ArePrintable new.grammar.rules
Keeps (Err refused) = Unit {0}

after : {A : Type 0} (r : Result A EditRefused) (f : A → Changed) → ((x : A) → Keeps (f x)) → Keeps (and_then r f)
after (Ok x) f each = each x
after (Err e) f each = tt

unless : (b : Bool) (e : EditRefused) (r : Changed) → Keeps r → Keeps (err_if b e r)
unless true e r k = tt
unless false e r k = k

found : (place : Option ℕ) (f : ℕ → Changed) (e : EditRefused) → ((i : ℕ) → Keeps (f i))
    → Keeps (option_map_or f place (Err e))
found None f e each = tt
found (Some i) f e each = each i

regrammared : (s : Sources) (g : Grammar) → ArePrintable g.rules → Keeps (with_grammar s g)
regrammared s g ps = after (rooted g s.lots) (λ u. Ok (record s { grammar = g })) (λ u. ps)

reruled : (s : Sources) (rules : List Entry) → All Prints rules → Keeps (ruled s rules)
reruled s rules ps = after (checked (record { attributes = s.grammar.attributes; rules = rules }))
    (λ u. with_grammar s (record { attributes = s.grammar.attributes; rules = rules }))
    (λ u. regrammared s (record { attributes = s.grammar.attributes; rules = rules }) ps)

changed_keeps : (s : Sources) (e : Edit) → ArePrintable s.grammar.rules → IsWritten e → Keeps (changed s e)
changed_keeps s (edit.Rules g) ps w = after (checked g) (λ u. with_grammar s (ranked g)) (λ u. regrammared s (ranked g) (all_ranked g w))
changed_keeps s (edit.Put priority rule) ps w = reruled s (with_rule (record { priority = priority; rule = rule })
    s.grammar.rules) (with_one (record { priority = priority; rule = rule }) s.grammar.rules w ps)
changed_keeps s (edit.Drop id) ps w = found (rule_place id s.grammar.rules)
    (λ i. ruled s (remove s.grammar.rules i)) (cause.NoRule id) (λ i. reruled s (remove s.grammar.rules i) (all_removed s.grammar.rules i ps))
changed_keeps s (edit.SetAttribute name value) ps w = found (attribute_place name s.grammar.attributes) (λ i. Ok (valued s name value i)) (cause.NoAttribute name) (λ i. ps)
changed_keeps s (edit.SetPriority symbol priority) ps w = unless (not (has_rule s.grammar symbol))
    (cause.NoSymbol symbol) (Ok (repriced s symbol priority)) (all_repriced symbol priority s.grammar.rules ps)
changed_keeps s (edit.SetLot lot) ps w =
    let last : Changed = Ok (record s { lots = with_lot lot s.lots }) in
    unless (not (is_plain s.grammar lot.symbol)) (cause.NoSymbol lot.symbol) (err_if (is_bad lot) (cause.BadLot lot.name) (err_if (finds_no_room lot s.lots) cause.TooManyLots last))
    (unless (is_bad lot) (cause.BadLot lot.name) (err_if (finds_no_room lot s.lots) cause.TooManyLots last) (unless (finds_no_room lot s.lots) cause.TooManyLots last ps))
changed_keeps s (edit.Unlot name) ps w = found (lot_place name s.lots) (λ i. Ok (record s { lots = remove s.lots i })) (cause.NoLot name) (λ i. ps)
changed_keeps s (edit.SetOrder mode) ps w = ps
changed_keeps s (edit.Whole other) ps w =
    let last : Unit {0} → Changed = λ u. Ok (record other { grammar = ranked other.grammar }) in
    let more : Changed = and_then (accepted (ranked other.grammar) other.lots) last in
    after (checked other.grammar) (λ u. err_if (nat_lt 4096 (length other.lots)) cause.TooManyLots more)
    (λ u. unless (nat_lt 4096 (length other.lots)) cause.TooManyLots more (after (accepted (ranked other.grammar) other.lots) last (λ v. all_ranked other.grammar w.printable)))

within_keeps : (budget : ℕ) (r : Changed) → Keeps r → Keeps (within budget r)
within_keeps budget (Ok new) k = unless (not (is_within budget new)) cause.OverBudget (Ok new) k
within_keeps budget (Err e) k = tt

apply_keeps : (s : Sources) (e : Edit) (budget : ℕ) → ArePrintable s.grammar.rules → IsWritten e
    → Keeps (apply s e budget)
unfolding apply
apply_keeps s e budget ps w = within_keeps budget (changed s e) (changed_keeps s e ps w)

-- an accepted edit of what can be printed leaves what can be printed
pub applied_prints : (s new : Sources) (e : Edit) (budget : ℕ) → apply s e budget ≡ Ok new
    → ArePrintable s.grammar.rules → IsWritten e → ArePrintable new.grammar.rules
applied_prints s new e budget is ps w = subst Keeps is (apply_keeps s e budget ps w)
