-- What one more line adds.
use Rattle.std.proofs.Common.{◌≡◌, ◌≤◌, ℕ, List, [], ◌∷◌, ◌++◌, length, take, Option, Some, None, Result, Ok, Err, OnOk, refl, ap, sym, ◌∙◌, arith}
use Rattle.cga_parser.specs.declared.block_line.BlockLine.{BlockLine}
use Rattle.cga_parser.specs.declared.block_line.BlockLine.TheVariants as line
use Rattle.cga_parser.specs.declared.gathered.Gathered.{Gathered}
use Rattle.cga_parser.specs.BlockTells.{attributes_of, entries_from, priority_after, Adds, Holds}
use Rattle.cga_parser.specs.Kept.{with_room}
use Rattle.cga_parser.proofs.Kept.{kept_more}

attributes_more : (all : List (Option BlockLine)) (said : Option BlockLine)
    → attributes_of (all ++ said ∷ []) ≡ attributes_of all ++ attributes_of (said ∷ [])
unfolding attributes_of
attributes_more [] said = refl
attributes_more (Some (line.Attribute a) ∷ all) said = ap (λ z. a ∷ z) (attributes_more all said)
attributes_more (Some (line.Priority p) ∷ all) said = attributes_more all said
attributes_more (Some (line.Rule r) ∷ all) said = attributes_more all said
attributes_more (Some line.End ∷ all) said = attributes_more all said
attributes_more (None ∷ all) said = attributes_more all said

entries_more : (p : ℕ) (all : List (Option BlockLine)) (said : Option BlockLine)
    → entries_from p (all ++ said ∷ []) ≡ entries_from p all ++ entries_from (priority_after p all) (said ∷ [])
unfolding entries_from priority_after
entries_more p [] said = refl
entries_more p (Some (line.Attribute a) ∷ all) said = entries_more p all said
entries_more p (Some (line.Priority q) ∷ all) said = entries_more q all said
entries_more p (Some (line.Rule r) ∷ all) said = ap (λ z. record { priority = p; rule = r } ∷ z) (entries_more p all said)
entries_more p (Some line.End ∷ all) said = entries_more p all said
entries_more p (None ∷ all) said = entries_more p all said

priority_more : (p : ℕ) (all : List (Option BlockLine)) (said : Option BlockLine)
    → priority_after p (all ++ said ∷ []) ≡ priority_after (priority_after p all) (said ∷ [])
unfolding priority_after
priority_more p [] said = refl
priority_more p (Some (line.Attribute a) ∷ all) said = priority_more p all said
priority_more p (Some (line.Priority q) ∷ all) said = priority_more q all said
priority_more p (Some (line.Rule r) ∷ all) said = priority_more p all said
priority_more p (Some line.End ∷ all) said = priority_more p all said
priority_more p (None ∷ all) said = priority_more p all said

few_attributes : (said : Option BlockLine) → length (attributes_of (said ∷ [])) ≤ 1
unfolding attributes_of
few_attributes (Some (line.Attribute a)) = omega arith
few_attributes (Some (line.Priority p)) = omega arith
few_attributes (Some (line.Rule r)) = omega arith
few_attributes (Some line.End) = omega arith
few_attributes None = omega arith

few_entries : (p : ℕ) (said : Option BlockLine) → length (entries_from p (said ∷ [])) ≤ 1
unfolding entries_from
few_entries p (Some (line.Attribute a)) = omega arith
few_entries p (Some (line.Priority q)) = omega arith
few_entries p (Some (line.Rule r)) = omega arith
few_entries p (Some line.End) = omega arith
few_entries p None = omega arith

pub holds_more : {T E : Type 0} (r : Result T E) (old new : Gathered) (said : Option BlockLine)
    → OnOk r (Adds old said new) → (all : List (Option BlockLine)) → Holds old all
    → OnOk r (Holds new (all ++ said ∷ []))
holds_more (Ok x) old new said a all h = (
  a.attributes ∙ ap (λ z. with_room 129 z (attributes_of (said ∷ []))) h.0
      ∙ kept_more 129 (attributes_of all) (attributes_of (said ∷ [])) (few_attributes said)
      ∙ ap (take 129) (sym (attributes_more all said)),
  a.rules ∙ ap (λ z. with_room 513 z (entries_from old.priority (said ∷ []))) h.1
      ∙ kept_more 513 (entries_from 1 all) (entries_from old.priority (said ∷ [])) (few_entries old.priority said)
      ∙ ap (λ z. take 513 (entries_from 1 all ++ entries_from z (said ∷ []))) h.2
      ∙ ap (take 513) (sym (entries_more 1 all said)),
  a.priority ∙ ap (λ z. priority_after z (said ∷ [])) h.2 ∙ sym (priority_more 1 all said),
)
holds_more (Err e) old new said a all h = a
