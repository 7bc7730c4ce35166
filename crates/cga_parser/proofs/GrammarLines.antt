-- The lines of the text of a grammar, and what they say.
use Rattle.std.proofs.Common.{◌≡◌, ℕ, zero, suc, ◌+◌, ◌^◌, ◌&&◌, nat_eq, Bool, true, false, List, [], ◌∷◌, ◌++◌, map, append_assoc, Option, Some, arith, ap, sym, ◌∙◌, refl, codes, if◌then◌else◌}
use Rattle.std.proofs.lemmas.Bool.Decides.{nat_tests}
use Rattle.cga_syntax.specs.GrammarText.{line, attribute_lines, rule_line, each_from, has, priorities, rules_with, priority_section, section_at, grammar_text}
use Rattle.cga_rule.specs.declared.grammar.Attribute.{Attribute}
use Rattle.cga_rule.specs.declared.grammar.Entry.{Entry}
use Rattle.cga_rule.specs.declared.grammar.Grammar.{Grammar}
use Rattle.cga_parser.specs.declared.block_line.BlockLine.{BlockLine}
use Rattle.cga_parser.specs.declared.block_line.BlockLine.TheVariants as says
use Rattle.cga_parser.specs.BlockTells.{attributes_of, entries_from, grammar_of}
use Rattle.cga_parser.specs.GrammarLines.{all_from, with_id, by_id, by_rank, rule_of, section, said_of, line_text, lines_text}
use Rattle.cga_parser.proofs.Ranked.{Every, every_join, every_from, none_from}
use Rattle.std.proofs.lemmas.Bool.{or_parts as parts}
use Rattle.std.proofs.Common.{append-nil as nil_right}

-- ---- the text

lines_join : (xs ys : List BlockLine) → lines_text (xs ++ ys) ≡ lines_text xs ++ lines_text ys
lines_join [] ys = refl
lines_join (b ∷ xs) ys = ap (λ z. line (line_text b) ++ z) (lines_join xs ys) ∙ sym (append_assoc (line (line_text b)) (lines_text xs) (lines_text ys))

attributes_text : (as' : List Attribute) → lines_text (map says.Attribute as') ≡ attribute_lines as'
attributes_text [] = refl
attributes_text (a ∷ as') = ap (λ z. line (line_text (says.Attribute a)) ++ z) (attributes_text as')

rules_join : (xs ys : List Entry) → map rule_of (xs ++ ys) ≡ map rule_of xs ++ map rule_of ys
rules_join [] ys = refl
rules_join (e ∷ xs) ys = ap (λ z. rule_of e ∷ z) (rules_join xs ys)

rules_text : (xs ys : List Entry)
    → lines_text (map rule_of (xs ++ ys)) ≡ lines_text (map rule_of xs) ++ lines_text (map rule_of ys)
rules_text xs ys = ap lines_text (rules_join xs ys) ∙ lines_join (map rule_of xs) (map rule_of ys)

abbrev taken : Entry → Bool → List Entry
taken e t = if t then e ∷ [] else []

taken_text : (e : Entry) (t : Bool) → lines_text (map rule_of (taken e t)) ≡ (if t then rule_line e.rule else [])
taken_text e true = nil_right (rule_line e.rule)
taken_text e false = refl

id_text : (es : List Entry) (p id : ℕ) → lines_text (map rule_of (with_id es p id)) ≡ rules_with es p id
id_text [] p id = refl
id_text (e ∷ es) p id =
    rules_text (taken e (nat_eq e.priority p && nat_eq e.rule.id id)) (with_id es p id)
    ∙ ap (λ z. z ++ lines_text (map rule_of (with_id es p id))) (taken_text e (nat_eq e.priority p && nat_eq e.rule.id id))
    ∙ ap (λ z. (if nat_eq e.priority p && nat_eq e.rule.id id then rule_line e.rule else []) ++ z) (id_text es p id)

ids_text : (es : List Entry) (p from n : ℕ)
    → lines_text (map rule_of (all_from (with_id es p) from n)) ≡ each_from (rules_with es p) from n
unfolding all_from each_from
ids_text es p from zero = refl
ids_text es p from (suc n) =
    rules_text (with_id es p from) (all_from (with_id es p) (from + 1) n)
    ∙ ap (λ z. z ++ lines_text (map rule_of (all_from (with_id es p) (from + 1) n))) (id_text es p from)
    ∙ ap (λ z. rules_with es p from ++ z) (ids_text es p (from + 1) n)

section_by : (es : List Entry) (p : ℕ) (t : Bool)
    → lines_text (if t then says.Priority p ∷ map rule_of (by_id es p) else []) ≡
    (if t then priority_section es p else [])
section_by es p true = ap (λ z. line (line_text (says.Priority p)) ++ z) (ids_text es p 0 (2 ^ 32))
section_by es p false = refl

sections_text : (es : List Entry) (from n : ℕ)
    → lines_text (all_from (section es) from n) ≡ each_from (section_at es) from n
unfolding all_from each_from
sections_text es from zero = refl
sections_text es from (suc n) =
    lines_join (section es from) (all_from (section es) (from + 1) n)
    ∙ ap (λ z. z ++ lines_text (all_from (section es) (from + 1) n)) (section_by es from (has (priorities es) from))
    ∙ ap (λ z. section_at es from ++ z) (sections_text es (from + 1) n)

said_text : (g : Grammar)
    → lines_text (said_of g) ≡ attribute_lines g.attributes ++ each_from (section_at g.rules) 0 (2 ^ 16)
said_text g =
    lines_join (map says.Attribute g.attributes) (all_from (section g.rules) 0 (2 ^ 16))
    ∙ ap (λ z. z ++ lines_text (all_from (section g.rules) 0 (2 ^ 16))) (attributes_text g.attributes)
    ∙ ap (λ z. attribute_lines g.attributes ++ z) (sections_text g.rules 0 (2 ^ 16))

pub whole_text : (g : Grammar) → grammar_text g ≡ line (codes "rules") ++ (lines_text (said_of g) ++ line (codes "end"))
whole_text g =
    ap (λ z. codes "rules\n" ++ z)
    (sym (ap (λ z. z ++ codes "end\n") (said_text g) ∙ append_assoc (attribute_lines g.attributes) (each_from (section_at g.rules) 0 (2 ^ 16)) (codes "end\n")))

-- ---- what the lines say

abbrev somes : List BlockLine → List (Option BlockLine)
somes bs = map Some bs

attributes_first : (as' : List Attribute) (rest : List BlockLine)
    → attributes_of (somes (map says.Attribute as' ++ rest)) ≡ as' ++ attributes_of (somes rest)
unfolding attributes_of
attributes_first [] rest = refl
attributes_first (a ∷ as') rest = ap (λ z. a ∷ z) (attributes_first as' rest)

no_attribute : (es : List Entry) (rest : List BlockLine)
    → attributes_of (somes (map rule_of es ++ rest)) ≡ attributes_of (somes rest)
unfolding attributes_of
no_attribute [] rest = refl
no_attribute (e ∷ es) rest = no_attribute es rest

section_none : (es : List Entry) (p : ℕ) (rest : List BlockLine) (t : Bool)
    → attributes_of (somes ((if t then says.Priority p ∷ map rule_of (by_id es p) else []) ++ rest)) ≡ attributes_of
    (somes rest)
unfolding attributes_of
section_none es p rest true = no_attribute (by_id es p) rest
section_none es p rest false = refl

sections_none : (es : List Entry) (from n : ℕ) → attributes_of (somes (all_from (section es) from n)) ≡ []
unfolding all_from attributes_of
sections_none es from zero = refl
sections_none es from (suc n) = section_none es from (all_from (section es) (from + 1) n) (has (priorities es) from) ∙ sections_none es (from + 1) n

entries_first : (q : ℕ) (as' : List Attribute) (rest : List BlockLine)
    → entries_from q (somes (map says.Attribute as' ++ rest)) ≡ entries_from q (somes rest)
unfolding entries_from
entries_first q [] rest = refl
entries_first q (a ∷ as') rest = entries_first q as' rest

abbrev HasPriority : ℕ → Entry → Type 0
HasPriority p e = e.priority ≡ p

rules_said : (p : ℕ) (es : List Entry) (rest : List BlockLine) → Every (HasPriority p) es
    → entries_from p (somes (map rule_of es ++ rest)) ≡ es ++ entries_from p (somes rest)
unfolding entries_from
rules_said p [] rest h = refl
rules_said p (e ∷ es) rest h = ap (λ z. record { priority = z; rule = e.rule } ∷ entries_from p (somes (map rule_of es ++ rest))) (sym h.0) ∙ ap (λ z. e ∷ z) (rules_said p es rest h.1)

eq_of : (a b : ℕ) (t : Bool) → (nat_eq a b && t) ≡ true → a ≡ b
eq_of a b true h = grind (arith, nat_tests)
eq_of a b false h = grind (arith, nat_tests)

taken_has : (e : Entry) (p : ℕ) (t : Bool) → (t ≡ true → e.priority ≡ p) → Every (HasPriority p) (taken e t)
taken_has e p true h = (h refl, tt)
taken_has e p false h = tt

id_has : (es : List Entry) (p id : ℕ) → Every (HasPriority p) (with_id es p id)
id_has [] p id = tt
id_has (e ∷ es) p id =
    every_join (HasPriority p) (taken e (nat_eq e.priority p && nat_eq e.rule.id id)) (with_id es p id)
    (taken_has e p (nat_eq e.priority p && nat_eq e.rule.id id) (eq_of e.priority p (nat_eq e.rule.id id))) (id_has es p id)

id_none : (es : List Entry) (p id : ℕ) → has (priorities es) p ≡ false → with_id es p id ≡ []
id_none [] p id h = refl
id_none (e ∷ es) p id h =
    let a = parts (nat_eq e.priority p) (has (priorities es) p) h in
    ap (λ t. taken e (t && nat_eq e.rule.id id) ++ with_id es p id) a.0 ∙ id_none es p id a.1

-- the lines of a priority say its entries
section_said : (es : List Entry) (p q : ℕ) (rest : List BlockLine) (t : Bool) → has (priorities es) p ≡ t →
    (r : ℕ) × (entries_from q (somes ((if t then says.Priority p ∷ map rule_of (by_id es p) else []) ++ rest)) ≡ by_id es p ++ entries_from r (somes rest))
unfolding entries_from
section_said es p q rest true h = (p, rules_said p (by_id es p) rest (every_from (HasPriority p) (with_id es p) 0 (2 ^ 32) (λ id l. id_has es p id)))
section_said es p q rest false h = (q, ap (λ z. z ++ entries_from q (somes rest)) (sym (none_from (with_id es p) 0 (2 ^ 32) (λ id. id_none es p id h))))

sections_said : (es : List Entry) (q from n : ℕ)
    → entries_from q (somes (all_from (section es) from n)) ≡ all_from (by_id es) from n
unfolding all_from entries_from
sections_said es q from zero = refl
sections_said es q from (suc n) =
    let h = section_said es from q (all_from (section es) (from + 1) n) (has (priorities es) from) refl in
    h.1 ∙ ap (λ z. by_id es from ++ z) (sections_said es h.0 (from + 1) n)

pub said_grammar : (g : Grammar)
    → ◌≡◌ {A = Grammar} (record { attributes = g.attributes; rules = by_rank g.rules }) (grammar_of (somes (said_of g)))
said_grammar g =
    let rest : List BlockLine = all_from (section g.rules) 0 (2 ^ 16) in
    let a : attributes_of (somes (said_of g)) ≡ g.attributes = attributes_first g.attributes rest ∙ ap (λ z. g.attributes ++ z) (sections_none g.rules 0 (2 ^ 16)) ∙ nil_right g.attributes in
    let e : entries_from 1 (somes (said_of g)) ≡ by_rank g.rules = entries_first 1 g.attributes rest ∙ sections_said g.rules 1 0 (2 ^ 16) in
    ap (λ z. record { attributes = z; rules = by_rank g.rules }) (sym a) ∙ ap (λ z. record { attributes = attributes_of (somes (said_of g)); rules = z }) (sym e)
