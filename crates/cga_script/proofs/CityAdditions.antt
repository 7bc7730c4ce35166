-- What one more line of a city adds.
use Rattle.std.proofs.Common.{◌≡◌, List, [], ◌∷◌, ◌++◌, map, take, Option, Some, None, Result, Ok, Err, OnOk, refl, ap, sym, ◌∙◌, subst}
use Rattle.std.proofs.lemmas.List.{map-append}
use Rattle.cga_parser.specs.BlockTells as rule_lines
use Rattle.cga_shape.specs.declared.lot.Lot.{Lot}
use Rattle.cga_word.specs.declared.mode.Mode.{Mode}
use Rattle.cga_word.specs.declared.mode.Mode.TheVariants.{Breadth}
use Rattle.cga_script.specs.declared.city_line.CityLine.{CityLine}
use Rattle.cga_script.specs.declared.city_line.CityLine.TheVariants as line
use Rattle.cga_script.specs.declared.city_gathered.CityGathered.{CityGathered}
use Rattle.cga_script.specs.CityLines.{rules_part, with_lot, lots_after, mode_after, kept_with, Adds, Holds}
use Rattle.cga_script.proofs.KeptLots.{kept_more}

lots_more : (lots : List Lot) (all : List (Option CityLine)) (said : Option CityLine)
    → lots_after lots (all ++ said ∷ []) ≡ lots_after (lots_after lots all) (said ∷ [])
unfolding lots_after
lots_more lots [] said = refl
lots_more lots (Some (line.Block b) ∷ all) said = lots_more lots all said
lots_more lots (Some (line.Order m) ∷ all) said = lots_more lots all said
lots_more lots (Some (line.Lot l) ∷ all) said = lots_more (with_lot l lots) all said
lots_more lots (None ∷ all) said = lots_more lots all said

mode_more : (mode : Mode) (all : List (Option CityLine)) (said : Option CityLine)
    → mode_after mode (all ++ said ∷ []) ≡ mode_after (mode_after mode all) (said ∷ [])
unfolding mode_after
mode_more mode [] said = refl
mode_more mode (Some (line.Block b) ∷ all) said = mode_more mode all said
mode_more mode (Some (line.Order m) ∷ all) said = mode_more m all said
mode_more mode (Some (line.Lot l) ∷ all) said = mode_more mode all said
mode_more mode (None ∷ all) said = mode_more mode all said

pub holds_more : {T E : Type 0} (r : Result T E) (old new : CityGathered) (said : Option CityLine)
    → OnOk r (Adds old said new) → (all : List (Option CityLine)) → Holds old all
    → OnOk r (Holds new (all ++ said ∷ []))
holds_more (Ok x) old new said a all h = (
  subst (λ z. rule_lines.Holds new.rules z) (sym (map-append rules_part all (said ∷ []))) (a.rules (map rules_part all) h.0),
  a.lots ∙ ap (λ z. kept_with z said) h.1 ∙ kept_more (lots_after [] all) said ∙ ap (take 4097) (sym (lots_more [] all said)),
  a.mode ∙ ap (λ z. mode_after z (said ∷ [])) h.2 ∙ sym (mode_more Breadth all said),
)
holds_more (Err e) old new said a all h = a
