use Rattle.std.proofs.Common.{◌≡◌, ◌∙◌, ℕ, List, Option, Some, None, Result, Ok, Err, refl, sym, ap}
use Rattle.cga_shape.specs.declared.edit.Edit.{Edit}
use Rattle.cga_shape.specs.declared.edit.Edit.TheVariants.{Whole}
use Rattle.cga_shape.specs.declared.edit_refused.EditRefused.{EditRefused}
use Rattle.cga_shape.specs.declared.edit_refused.EditRefused.TheVariants.{NoMemory}
use Rattle.cga_shape.specs.declared.sources.Sources.{Sources}
use Rattle.cga_script.specs.DumpLines.{in_order}
use Rattle.cga_script.specs.Dumps.{least_long, unless_long, dump_text_of}
use Rattle.cga_city.specs.Apply.{apply}
use Rattle.cga_city.specs.City.{CityState, EditGives}
use Rattle.cga_parser.specs.GrammarLines.{by_rank}
use Rattle.cga_laws.specs.Dumped.{Sets}
use Rattle.cga_top.proofs.Door.{city_is}
use Rattle.cga_laws.proofs.laws.dumps_are_set_back.Goals as goal

text_is : (o : Option ℕ) (whole text : List ℕ) → unless_long o whole ≡ Ok text → text ≡ whole
text_is None whole text e = cc
text_is (Some id) whole text e = absurd (cc)

sets : (s : Sources) (e : Edit) (budget : ℕ) (old new : CityState) (result : Result (Unit {0}) EditRefused) (before after : ℕ)
    → apply old.sources e budget ≡ Ok s → old.budget ≡ budget
    → EditGives old e result new before after → Sets s result new
sets s e budget old new (Ok u) before after at same h =
    let k : Ok new.sources ≡ Ok s = sym h.applied ∙ ap (apply old.sources e) same ∙ at in cc
sets s e budget old new (Err NoMemory) before after at same h = refl
sets s e budget old new (Err refused) before after at same h =
    let k : Err refused ≡ Ok s = sym h.cause ∙ ap (apply old.sources e) same ∙ at in absurd (cc)

pub returns : goal.returns
returns c = λ s budget text spelled sound fit at.
    let back = c.dump_reads_back.ensures.back s spelled in
    record {
      lines = text_is (least_long s.grammar.rules) (dump_text_of s) text at ∙ back.text;
      inside = back.inside;
      told = back.told text at;
      only = λ t h. let k : Ok t ≡ Ok (in_order s) = city_is _ (Ok t) h ∙ sym (city_is _ (Ok (in_order s)) (back.told text at)) in cc;
      distinct = sound.names;
      set = λ old new result before after same h. sets s (Whole (in_order s)) budget old new result before after (c.whole_sets_them.ensures old.sources s (by_rank s.grammar.rules) budget sound fit back.same) same h;
    }
