-- What is kept of the lots of a city, and of its sources.
use Rattle.std.proofs.Common.{◌≡◌, ℕ, zero, suc, ◌+◌, ◌<◌, ◌≤◌, Bool, true, false, List, [], ◌∷◌, ◌++◌, length, length-append, take, Option, Some, None, Ok, refl, ap, sym, ◌∙◌, arith, if◌then◌else◌}
use Rattle.std.proofs.lemmas.List.{length-set, take-take, take_all, take-append-le}
use Rattle.std.specs.Prelude.{slice_set}
use Rattle.cga_syntax.specs.Lexemes.{is}
use Rattle.cga_form.specs.Lines.{Line}
use Rattle.cga_parser.specs.Kept.{kept}
use Rattle.cga_rule.specs.declared.grammar.Grammar.{Grammar}
use Rattle.cga_shape.specs.declared.lot.Lot.{Lot}
use Rattle.cga_shape.specs.declared.sources.Sources.{Sources}
use Rattle.cga_script.specs.CityLines.{with_lot, lots_after, kept_with, sources_of, kept_sources, CityKept, CityTells}
use Rattle.cga_script.specs.declared.city_line.CityLine.{CityLine}
use Rattle.cga_script.specs.declared.city_line.CityLine.TheVariants as line
use Rattle.cga_script.specs.Places.{lot_index}
use Rattle.cga_script.proofs.LotPlaces.{behind, placed}

-- ---- one more lot

with_by : (n : ℕ) (lot l : Lot) (ls few more : List Lot) (t : Bool) → take n few ≡ take n more
    → take (suc n) (if t then lot ∷ take n ls else l ∷ few) ≡ take (suc n) (if t then lot ∷ ls else l ∷ more)
with_by n lot l ls few more true e = ap (λ z. lot ∷ z) (take-take n n ls (omega arith))
with_by n lot l ls few more false e = ap (λ z. l ∷ z) e

-- those that aren't kept change nothing of the others
take_with : (n : ℕ) (lot : Lot) (ls : List Lot) → take n (with_lot lot (take n ls)) ≡ take n (with_lot lot ls)
unfolding with_lot
take_with zero lot ls = refl
take_with (suc n) lot [] = refl
take_with (suc n) lot (l ∷ ls) = with_by n lot l ls (with_lot lot (take n ls)) (with_lot lot ls) (is l.name lot.name) (take_with n lot ls)

pub kept_more : (lots : List Lot) (said : Option CityLine)
    → kept_with (take 4097 lots) said ≡ take 4097 (lots_after lots (said ∷ []))
unfolding lots_after
kept_more lots (Some (line.Block b)) = refl
kept_more lots (Some (line.Order m)) = refl
kept_more lots (Some (line.Lot l)) = take_with 4097 l lots
kept_more lots None = refl

-- ---- the same where it is known which place it takes

module _ (most : ℕ) (lot : Lot) (lots : List Lot) where
  pub known_kept : (i : ℕ) → lot_index lot.name lots ≡ Some i → length lots ≤ most
      → slice_set lots i lot ≡ take most (with_lot lot lots)
  known_kept i e few =
      let same : length (with_lot lot lots) ≡ length lots = ap length (sym (placed lot lots i e)) ∙ length-set lots i lot in
      placed lot lots i e ∙ sym (take_all most (with_lot lot lots) (omega arith))

  pub new_kept : lot_index lot.name lots ≡ None → length lots < most → lots ++ lot ∷ [] ≡ take most (with_lot lot lots)
  new_kept e room =
      let long = length-append lots (lot ∷ []) in
      sym (take_all most (lots ++ lot ∷ []) (omega (arith, long))) ∙ ap (take most) (behind lot lots e)

  pub full_kept : lot_index lot.name lots ≡ None → length lots ≤ most → most ≤ length lots
      → lots ≡ take most (with_lot lot lots)
  full_kept e few many =
      sym (take_all most lots few) ∙ sym (take-append-le most lots (lot ∷ []) many) ∙ ap (take most) (behind lot lots e)

-- ---- sources

abbrev FewStay : Type 0
FewStay = (g : Grammar) → length g.rules ≤ 513 → length g.attributes ≤ 129 → kept g ≡ g

-- sources without one too many are left as they are
pub all_kept : FewStay → (s : Sources) → length s.grammar.rules ≤ 513 → length s.grammar.attributes ≤ 129
    → length s.lots ≤ 4097 → kept_sources s ≡ s
all_kept few s r a l =
    ap (λ z. record { grammar = z; lots = take 4097 s.lots; mode = s.mode }) (few s.grammar r a)
    ∙ ap (λ z. record { grammar = s.grammar; lots = z; mode = s.mode }) (take_all 4097 s.lots l)

-- what a reader gives is what the lines tell, cut
pub told_whole : (lines : List Line) (given : Sources) → CityKept lines (Ok given)
    → (whole : Sources) × CityTells lines (Ok whole) × (given ≡ kept_sources whole)
told_whole lines given h = (sources_of h.0, (h.0, h.1, refl), h.2)
