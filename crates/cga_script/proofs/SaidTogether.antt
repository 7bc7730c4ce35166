-- What the lines of a dump say together.
use Rattle.std.proofs.Common.{◌≡◌, ℕ, ◌+◌, false, List, [], ◌∷◌, ◌++◌, append_assoc, map, Option, Some, None, ap, sym, ◌∙◌, refl, if◌then◌else◌}
use Rattle.std.specs.List.{All}
use Rattle.std.proofs.lemmas.List.Elements.{All-head, All-tail, All-cons, All-nil, All-append}
use Rattle.cga_rule.specs.declared.grammar.Grammar.{Grammar}
use Rattle.cga_syntax.specs.Lexemes.{is}
use Rattle.cga_parser.specs.BlockTells.{attributes_of, entries_from, grammar_of}
use Rattle.cga_parser.specs.declared.block_line.BlockLine.{BlockLine}
use Rattle.cga_parser.specs.declared.block_line.BlockLine.TheVariants as says
use Rattle.cga_shape.specs.declared.lot.Lot.{Lot}
use Rattle.cga_shape.specs.declared.sources.Sources.{Sources}
use Rattle.cga_word.specs.declared.mode.Mode.{Mode}
use Rattle.cga_word.specs.declared.mode.Mode.TheVariants as mode
use Rattle.cga_script.specs.declared.city_line.CityLine.{CityLine}
use Rattle.cga_script.specs.declared.city_line.CityLine.TheVariants as line
use Rattle.cga_script.specs.CityLines.{rules_part, with_lot, lots_after, mode_after}
use Rattle.cga_script.specs.DumpLines.{Differ}
use Rattle.std.proofs.Common.{append-nil as nil_right}

abbrev pub wrap : Option BlockLine → Option CityLine
wrap None = None
wrap (Some b) = Some (line.Block b)

abbrev pub lot_said : Lot → Option CityLine
lot_said l = Some (line.Lot l)

-- what the lines say after the order
abbrev pub rest_said : List (Option BlockLine) → List Lot → List (Option CityLine)
rest_said all lots = map wrap all ++ map lot_said lots

no_attributes : (ls : List Lot) → attributes_of (map rules_part (map lot_said ls)) ≡ []
unfolding attributes_of
no_attributes [] = refl
no_attributes (l ∷ ls) = no_attributes ls

attributes_same : (all : List (Option BlockLine)) (ls : List Lot)
    → attributes_of (map rules_part (rest_said all ls)) ≡ attributes_of all
unfolding attributes_of
attributes_same [] ls = no_attributes ls
attributes_same (None ∷ all) ls = attributes_same all ls
attributes_same (Some (says.Attribute a) ∷ all) ls = ap (λ z. a ∷ z) (attributes_same all ls)
attributes_same (Some (says.Priority p) ∷ all) ls = attributes_same all ls
attributes_same (Some (says.Rule r) ∷ all) ls = attributes_same all ls
attributes_same (Some says.End ∷ all) ls = attributes_same all ls

no_entries : (q : ℕ) (ls : List Lot) → entries_from q (map rules_part (map lot_said ls)) ≡ []
unfolding entries_from
no_entries q [] = refl
no_entries q (l ∷ ls) = no_entries q ls

entries_same : (q : ℕ) (all : List (Option BlockLine)) (ls : List Lot)
    → entries_from q (map rules_part (rest_said all ls)) ≡ entries_from q all
unfolding entries_from
entries_same q [] ls = no_entries q ls
entries_same q (None ∷ all) ls = entries_same q all ls
entries_same q (Some (says.Attribute a) ∷ all) ls = entries_same q all ls
entries_same q (Some (says.Priority p) ∷ all) ls = entries_same p all ls
entries_same q (Some (says.Rule r) ∷ all) ls = ap (λ z. record { priority = q; rule = r } ∷ z) (entries_same q all ls)
entries_same q (Some says.End ∷ all) ls = entries_same q all ls

pub grammar_same : (m : Mode) (all : List (Option BlockLine)) (ls : List Lot)
    → grammar_of (map rules_part (Some (line.Order m) ∷ rest_said all ls)) ≡ grammar_of all
unfolding attributes_of entries_from
grammar_same m all ls =
    ap (λ z. record { attributes = z; rules = entries_from 1 (map rules_part (rest_said all ls)) }) (attributes_same all ls)
    ∙ ap (λ z. record { attributes = attributes_of all; rules = z }) (entries_same 1 all ls)

lots_skip : (acc : List Lot) (all : List (Option BlockLine)) (rest : List (Option CityLine))
    → lots_after acc (map wrap all ++ rest) ≡ lots_after acc rest
unfolding lots_after
lots_skip acc [] rest = refl
lots_skip acc (None ∷ all) rest = lots_skip acc all rest
lots_skip acc (Some b ∷ all) rest = lots_skip acc all rest

-- no lot of the list has the name
abbrev Apart : List Lot → Lot → Type 0
Apart acc l = All (λ (k : Lot). is k.name l.name ≡ false) acc

added : (l : Lot) (acc : List Lot) → Apart acc l → with_lot l acc ≡ acc ++ l ∷ []
unfolding with_lot
added l [] h = refl
added l (k ∷ acc) h =
    ap (λ t. if t then l ∷ acc else k ∷ with_lot l acc) (All-head (λ (k : Lot). is k.name l.name ≡ false) k acc h)
    ∙ ap (λ z. k ∷ z) (added l acc (All-tail (λ (k : Lot). is k.name l.name ≡ false) k acc h))

still_apart : (l : Lot) (acc ls : List Lot) → All (Apart acc) ls → All (λ (k : Lot). is l.name k.name ≡ false) ls
    → All (Apart (acc ++ l ∷ [])) ls
still_apart l acc [] h k = All-nil (Apart (acc ++ l ∷ []))
still_apart l acc (x ∷ ls) h k =
    All-cons (Apart (acc ++ l ∷ [])) x ls
    (All-append (λ (k : Lot). is k.name x.name ≡ false) acc (l ∷ []) (All-head (Apart acc) x ls h)
    (All-cons (λ (k : Lot). is k.name x.name ≡ false) l [] (All-head (λ (k : Lot). is l.name k.name ≡ false) x
    ls k) (All-nil (λ (k : Lot). is k.name x.name ≡ false))))
    (still_apart l acc ls (All-tail (Apart acc) x ls h) (All-tail (λ (k : Lot). is l.name k.name ≡ false) x ls k))

lots_same : (acc ls : List Lot) → Differ ls → All (Apart acc) ls → lots_after acc (map lot_said ls) ≡ acc ++ ls
unfolding lots_after Differ
lots_same acc [] d h = sym (nil_right acc)
lots_same acc (l ∷ ls) d h =
    ap (λ z. lots_after z (map lot_said ls)) (added l acc (All-head (Apart acc) l ls h))
    ∙ lots_same (acc ++ l ∷ []) ls d.1 (still_apart l acc ls (All-tail (Apart acc) l ls h) d.0)
    ∙ append_assoc acc (l ∷ []) ls

all_apart : (ls : List Lot) → All (Apart []) ls
all_apart [] = All-nil (Apart [])
all_apart (l ∷ ls) = All-cons (Apart []) l ls (All-nil (λ (k : Lot). is k.name l.name ≡ false)) (all_apart ls)

pub lots_are : (m : Mode) (all : List (Option BlockLine)) (ls : List Lot) → Differ ls
    → lots_after [] (Some (line.Order m) ∷ rest_said all ls) ≡ ls
unfolding lots_after
lots_are m all ls d = lots_skip [] all (map lot_said ls) ∙ lots_same [] ls d (all_apart ls)

mode_lots : (m : Mode) (ls : List Lot) → mode_after m (map lot_said ls) ≡ m
unfolding mode_after
mode_lots m [] = refl
mode_lots m (l ∷ ls) = mode_lots m ls

mode_rest : (m : Mode) (all : List (Option BlockLine)) (ls : List Lot) → mode_after m (rest_said all ls) ≡ m
unfolding mode_after
mode_rest m [] ls = mode_lots m ls
mode_rest m (None ∷ all) ls = mode_rest m all ls
mode_rest m (Some b ∷ all) ls = mode_rest m all ls

pub mode_is : (m : Mode) (all : List (Option BlockLine)) (ls : List Lot)
    → mode_after mode.Breadth (Some (line.Order m) ∷ rest_said all ls) ≡ m
unfolding mode_after
mode_is m all ls = mode_rest m all ls

pub three_same : (g h : Grammar) (ls ks : List Lot) (m n : Mode) → g ≡ h → ls ≡ ks → m ≡ n
    → ◌≡◌ {A = Sources} (record { grammar = g; lots = ls; mode = m }) (record { grammar = h; lots = ks; mode = n })
three_same g h ls ks m n a b c = ap (λ z. record { grammar = z; lots = ls; mode = m }) a
    ∙ ap (λ z. record { grammar = h; lots = z; mode = m }) b ∙ ap (λ z. record { grammar = h; lots = ks; mode = z }) c
