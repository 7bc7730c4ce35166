-- What the lines of a city say may be dumped, and is read back.
use Rattle.std.proofs.Common.{◌≡◌, Bool, true, false, List, [], ◌∷◌, map, Option, Some, None, Ok, refl, sym, subst, if◌then◌else◌}
use Rattle.std.specs.List.{All}
use Rattle.std.proofs.lemmas.List.Elements.{All-head, All-tail, All-cons, All-nil}
use Rattle.cga_syntax.specs.Lexemes.{is}
use Rattle.cga_syntax.specs.declared.lexeme.Lexeme.TheVariants as lexeme
use Rattle.cga_form.specs.BlockTells.{Say}
use Rattle.cga_form.specs.Lines.{Line}
use Rattle.cga_form.proofs.Door.{word_is}
use Rattle.cga_parser.proofs.Door.{spelled}
use Rattle.cga_parser.specs.BlockTells.{grammar_of}
use Rattle.cga_shape.specs.declared.lot.Lot.{Lot}
use Rattle.cga_shape.specs.declared.sources.Sources.{Sources}
use Rattle.cga_script.specs.declared.city_line.CityLine.{CityLine}
use Rattle.cga_script.specs.declared.city_line.CityLine.TheVariants as line
use Rattle.cga_script.specs.CityLines.{city_pieces, rules_part, with_lot, lots_after, CityTells}
use Rattle.cga_script.specs.DumpLines.{IsSaidLot, Differ, IsSpelledCity}
use Rattle.cga_script.proofs.Said.{rule_lines}

module _ (P : Lot → Type 0) (x : Lot) (p : P x) where
  placed_all : (t : Bool) (y : Lot) (acc more : List Lot) → P y → All P acc → All P more
      → All P (if t then x ∷ acc else y ∷ more)
  placed_all true y acc more q k m = All-cons P x acc p k
  placed_all false y acc more q k m = All-cons P y more q m

  with_all : (acc : List Lot) → All P acc → All P (with_lot x acc)
  unfolding with_lot
  with_all [] k = All-cons P x [] p (All-nil P)
  with_all (y ∷ acc) k = placed_all (is y.name x.name) y acc (with_lot x acc) (All-head P y acc k) (All-tail P y acc k) (with_all acc (All-tail P y acc k))

lots_said : (lines : List Line) (all : List (Option CityLine)) → Say city_pieces lines all → (acc : List Lot)
    → All IsSaidLot acc → All IsSaidLot (lots_after acc all)
unfolding Say lots_after
lots_said [] [] h acc k = k
lots_said [] (a ∷ all) h acc k = absurd h
lots_said (l ∷ lines) [] h acc k = absurd h
lots_said (l ∷ lines) (None ∷ all) h acc k = lots_said lines all h.1 acc k
lots_said (l ∷ lines) (Some (line.Block b) ∷ all) h acc k = lots_said lines all h.1 acc k
lots_said (l ∷ lines) (Some (line.Order m) ∷ all) h acc k = lots_said lines all h.1 acc k
lots_said (l ∷ lines) (Some (line.Lot x) ∷ all) h acc k = lots_said lines all h.1 (with_lot x acc) (with_all IsSaidLot x (l, h.0) acc k)

-- ---- names

abbrev OtherName : Lot → Lot → Type 0
OtherName l k = is l.name k.name ≡ false

one_name : (y x : Lot) → is y.name x.name ≡ true → y.name ≡ x.name
one_name y x e = let q : lexeme.Name y.name ≡ lexeme.Name x.name = word_is x.name (lexeme.Name y.name) e in cc

renamed : (y x : Lot) (acc : List Lot) → y.name ≡ x.name → All (OtherName y) acc → All (OtherName x) acc
renamed y x acc e h = subst (λ n. All (λ (k : Lot). is n k.name ≡ false) acc) e h

differ_by : (x y : Lot) (acc more : List Lot) (t : Bool) → is y.name x.name ≡ t → All (OtherName y) acc → Differ acc
    → (is y.name x.name ≡ false → All (OtherName y) more) → Differ more → Differ (if t then x ∷ acc else y ∷ more)
unfolding Differ
differ_by x y acc more true e h d g m = (renamed y x acc (one_name y x e) h, d)
differ_by x y acc more false e h d g m = (g e, m)

differ_with : (x : Lot) (acc : List Lot) → Differ acc → Differ (with_lot x acc)
unfolding Differ with_lot
differ_with x [] d = (All-nil (OtherName x), tt)
differ_with x (y ∷ acc) d =
    differ_by x y acc (with_lot x acc) (is y.name x.name) refl d.0 d.1 (λ e. with_all (OtherName y) x e acc d.0) (differ_with x acc d.1)

lots_differ : (all : List (Option CityLine)) (acc : List Lot) → Differ acc → Differ (lots_after acc all)
unfolding lots_after
lots_differ [] acc d = d
lots_differ (None ∷ all) acc d = lots_differ all acc d
lots_differ (Some (line.Block b) ∷ all) acc d = lots_differ all acc d
lots_differ (Some (line.Order m) ∷ all) acc d = lots_differ all acc d
lots_differ (Some (line.Lot x) ∷ all) acc d = lots_differ all (with_lot x acc) (differ_with x acc d)

none_differ : Differ []
unfolding Differ
none_differ = tt

pub city_spelled : (lines : List Line) (s : Sources) → CityTells lines (Ok s) → IsSpelledCity s
city_spelled lines s h =
    let ls = rule_lines lines h.0 h.1 in
    subst IsSpelledCity (sym h.2)
    (record {
      grammar = spelled ls.0 (grammar_of (map rules_part h.0)) (map rules_part h.0, ls.1, refl);
      lots = lots_said lines h.0 h.1 [] (All-nil IsSaidLot);
      names = lots_differ h.0 [] none_differ;
    })
