-- The text of a grammar that some lines say is read back.
use Rattle.std.proofs.Common.{ℕ, ◌<◌, ◌≤◌, ◌^◌, ◌&&◌, nat_eq, Bool, true, false, List, [], ◌∷◌, length, map, Option, Some, None, Ok, arith, sym, subst, if◌then◌else◌}
use Rattle.std.specs.List.{All}
use Rattle.std.proofs.lemmas.List.Elements.{All-head, All-tail, All-nil, All-cons}
use Rattle.cga_syntax.specs.GrammarText.{has, priorities, ArePrintable}
use Rattle.cga_syntax.specs.Pieces.{rule_pieces}
use Rattle.cga_syntax.specs.Printing.{printed, HaveTexts}
use Rattle.cga_rule.specs.declared.grammar.Attribute.{Attribute}
use Rattle.cga_rule.specs.declared.grammar.Entry.{Entry}
use Rattle.cga_rule.specs.declared.grammar.Grammar.{Grammar}
use Rattle.cga_parser.specs.declared.block_line.BlockLine.{BlockLine}
use Rattle.cga_parser.specs.declared.block_line.BlockLine.TheVariants as says
use Rattle.cga_parser.specs.Blocks.{block_pieces}
use Rattle.cga_form.specs.Lines.{Line}
use Rattle.cga_form.specs.BlockTells.{Say}
use Rattle.cga_parser.specs.BlockTells.{BlockTells, attributes_of, entries_from, grammar_of, GrammarTells}
use Rattle.cga_parser.specs.GrammarLines.{all_from, with_id, by_id, rule_of, section, said_of, line_text, given, IsSaid, IsSpelled, IsInside, AreShort, ReadsBack}
use Rattle.cga_parser.proofs.GrammarLines.{whole_text, said_grammar}
use Rattle.cga_parser.proofs.LinesBack.{attribute_back, attribute_inside, priority_back, priority_inside, rule_back, rule_inside, id_bound, priority_bound}
use Rattle.cga_parser.proofs.Printable.{line_prints}
use Rattle.cga_parser.proofs.Ranked.{Every, every_join, every_from, IsBounded, ranked}

-- ---- what some line says

abbrev SaysAttribute : Attribute → Type 0
SaysAttribute a = IsSaid (says.Attribute a)

abbrev SaysRule : Entry → Type 0
SaysRule e = IsSaid (rule_of e)

abbrev HasFew : Entry → Type 0
HasFew e = e.priority ≤ 65535

attributes_are : (lines : List Line) (all : List (Option BlockLine)) → Say block_pieces lines all
    → All SaysAttribute (attributes_of all)
unfolding Say attributes_of
attributes_are [] [] h = All-nil SaysAttribute
attributes_are (l ∷ ls) [] h = absurd h
attributes_are [] (said ∷ all) h = absurd h
attributes_are (l ∷ ls) (None ∷ all) h = attributes_are ls all h.1
attributes_are (l ∷ ls) (Some (says.Attribute a) ∷ all) h = All-cons SaysAttribute a (attributes_of all) (l, h.0) (attributes_are ls all h.1)
attributes_are (l ∷ ls) (Some (says.Priority q) ∷ all) h = attributes_are ls all h.1
attributes_are (l ∷ ls) (Some (says.Rule r) ∷ all) h = attributes_are ls all h.1
attributes_are (l ∷ ls) (Some says.End ∷ all) h = attributes_are ls all h.1

rules_are : (p : ℕ) (lines : List Line) (all : List (Option BlockLine)) → Say block_pieces lines all
    → All SaysRule (entries_from p all)
unfolding Say entries_from
rules_are p [] [] h = All-nil SaysRule
rules_are p (l ∷ ls) [] h = absurd h
rules_are p [] (said ∷ all) h = absurd h
rules_are p (l ∷ ls) (None ∷ all) h = rules_are p ls all h.1
rules_are p (l ∷ ls) (Some (says.Attribute a) ∷ all) h = rules_are p ls all h.1
rules_are p (l ∷ ls) (Some (says.Priority q) ∷ all) h = rules_are q ls all h.1
rules_are p (l ∷ ls) (Some (says.Rule r) ∷ all) h = All-cons SaysRule (record { priority = p; rule = r }) (entries_from p all) (l, h.0) (rules_are p ls all h.1)
rules_are p (l ∷ ls) (Some says.End ∷ all) h = rules_are p ls all h.1

few_are : (p : ℕ) (lines : List Line) (all : List (Option BlockLine)) → p ≤ 65535 → Say block_pieces lines all
    → All HasFew (entries_from p all)
unfolding Say entries_from
few_are p [] [] b h = All-nil HasFew
few_are p (l ∷ ls) [] b h = absurd h
few_are p [] (said ∷ all) b h = absurd h
few_are p (l ∷ ls) (None ∷ all) b h = few_are p ls all b h.1
few_are p (l ∷ ls) (Some (says.Attribute a) ∷ all) b h = few_are p ls all b h.1
few_are p (l ∷ ls) (Some (says.Priority q) ∷ all) b h = let f = priority_bound q l h.0 in few_are q ls all (omega arith) h.1
few_are p (l ∷ ls) (Some (says.Rule r) ∷ all) b h = All-cons HasFew (record { priority = p; rule = r }) (entries_from p all) b (few_are p ls all b h.1)
few_are p (l ∷ ls) (Some says.End ∷ all) b h = few_are p ls all b h.1

said_spelled : (lines : List Line) (all : List (Option BlockLine)) → Say block_pieces lines all
    → IsSpelled (grammar_of all)
said_spelled lines all h = record { attributes = attributes_are lines all h; rules = rules_are 1 lines all h; priorities = few_are 1 lines all (omega arith) h }

-- a grammar that lines tell is spelled by lines
pub spelled : (lines : List Line) (grammar : Grammar) → GrammarTells lines (Ok grammar) → IsSpelled grammar
spelled lines grammar h = subst IsSpelled (sym h.2) (said_spelled lines h.0 h.1)

every_of : {A : Type 0} (P : A → Type 0) (xs : List A) → All P xs → Every P xs
every_of P [] h = tt
every_of P (x ∷ xs) h = (All-head P x xs h, every_of P xs (All-tail P x xs h))

-- ---- the printed lines

module _ (P : Entry → Type 0) where
  taken_all : (e : Entry) (t : Bool) → P e → Every P (if t then e ∷ [] else [])
  taken_all e true h = (h, tt)
  taken_all e false h = tt

  id_all : (es : List Entry) (p id : ℕ) → Every P es → Every P (with_id es p id)
  id_all [] p id h = tt
  id_all (e ∷ es) p id h =
      every_join P (if nat_eq e.priority p && nat_eq e.rule.id id then e ∷ [] else []) (with_id es p id) (taken_all e (nat_eq e.priority p && nat_eq e.rule.id id) h.0) (id_all es p id h.1)

-- what holds of each line of an attribute, a priority and a rule
module _ (P : BlockLine → Type 0) (attribute : (a : Attribute) → SaysAttribute a → P (says.Attribute a)) (priority : (p : ℕ) → p < 2 ^ 16 → P (says.Priority p)) where
  attributes_all : (as' : List Attribute) → Every SaysAttribute as' → Every P (map says.Attribute as')
  attributes_all [] h = tt
  attributes_all (a ∷ as') h = (attribute a h.0, attributes_all as' h.1)

  rules_all : (es : List Entry) → Every (λ e. P (rule_of e)) es → Every P (map rule_of es)
  rules_all [] h = tt
  rules_all (e ∷ es) h = (h.0, rules_all es h.1)

  section_all : (es : List Entry) (p : ℕ) (t : Bool) → p < 2 ^ 16 → Every (λ e. P (rule_of e)) es
      → Every P (if t then says.Priority p ∷ map rule_of (by_id es p) else [])
  section_all es p true b h = (priority p b, rules_all (by_id es p) (every_from (λ e. P (rule_of e)) (with_id es p) 0 (2 ^ 32) (λ id l. id_all (λ e. P (rule_of e)) es p id h)))
  section_all es p false b h = tt

  said_all : (g : Grammar) → Every SaysAttribute g.attributes → Every (λ e. P (rule_of e)) g.rules → Every P (said_of g)
  said_all g a r =
      every_join P (map says.Attribute g.attributes) (all_from (section g.rules) 0 (2 ^ 16)) (attributes_all g.attributes a)
      (every_from P (section g.rules) 0 (2 ^ 16) (λ p l. section_all g.rules p (has (priorities g.rules) p) (omega arith) r))

abbrev IsTold : BlockLine → Type 0
IsTold b = BlockTells (given b) (Ok (Some b))

abbrev IsShort : Entry → Type 0
IsShort e = length (line_text (rule_of e)) ≤ 4096

rules_told : (es : List Entry) → Every SaysRule es → AreShort es → Every (λ e. IsTold (rule_of e)) es
rules_told [] h s = tt
rules_told (e ∷ es) h s = (rule_back e.rule h.0.0 h.0.1 (All-head IsShort e es s), rules_told es h.1 (All-tail IsShort e es s))

rules_inside : (es : List Entry) → Every SaysRule es → Every (λ e. IsInside (rule_of e)) es
rules_inside [] h = tt
rules_inside (e ∷ es) h = (rule_inside e.rule h.0.0 h.0.1, rules_inside es h.1)

all_of : (P : BlockLine → Type 0) (bs : List BlockLine) → Every P bs → All P bs
all_of P [] h = All-nil P
all_of P (b ∷ bs) h = All-cons P b bs h.0 (all_of P bs h.1)

say : (bs : List BlockLine) → Every IsTold bs → Say block_pieces (map given bs) (map Some bs)
unfolding Say
say [] h = tt
say (b ∷ bs) h = (h.0, say bs h.1)

bounded : (es : List Entry) → Every SaysRule es → Every HasFew es → Every IsBounded es
bounded [] h k = tt
bounded (e ∷ es) h k = let f = k.0 in ((omega arith, id_bound e.rule h.0.0 h.0.1), bounded es h.1 k.1)

rules_print : (es : List Entry) → Every SaysRule es → ArePrintable es
rules_print [] h = All-nil (λ (e : Entry). HaveTexts (printed (rule_pieces e.rule)))
rules_print (e ∷ es) h = All-cons (λ (e : Entry). HaveTexts (printed (rule_pieces e.rule))) e es (line_prints h.0.0 e.rule h.0.1) (rules_print es h.1)

module _ (g : Grammar) (attributes : Every SaysAttribute g.attributes) (rules : Every SaysRule g.rules) where
  said_inside : All IsInside (said_of g)
  said_inside = all_of IsInside (said_of g) (said_all IsInside (λ a h. attribute_inside a h.0 h.1) priority_inside g attributes (rules_inside g.rules rules))

  said_told : AreShort g.rules → Every IsTold (said_of g)
  said_told s = said_all IsTold (λ a h. attribute_back a h.0 h.1) priority_back g attributes (rules_told g.rules rules s)

-- the text of a grammar that lines spell is read back as it
pub grammar_back : (grammar : Grammar) → IsSpelled grammar → ReadsBack grammar
grammar_back g h =
    let a = every_of SaysAttribute g.attributes h.attributes in
    let r = every_of SaysRule g.rules h.rules in
    record {
      printable = rules_print g.rules r;
      text = whole_text g;
      inside = said_inside g a r;
      told = λ s. (map Some (said_of g), say (said_of g) (said_told g a r s), said_grammar g);
      same = ranked g.rules (bounded g.rules r (every_of HasFew g.rules h.priorities));
    }
