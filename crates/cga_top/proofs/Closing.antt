-- What a reader gives of a block does what the lines tell, and can be printed.
use Rattle.std.proofs.Common.{◌≡◌, ◌∙◌, ap, refl, sym, subst, ℕ, List, Result, Ok, Err}
use Rattle.std.proofs.lemmas.List.Elements.{All-take}
use Rattle.cga_fraction.specs.Results.{and_then}
use Rattle.cga_form.specs.declared.block_fault.BlockFault.{BlockFault}
use Rattle.cga_form.specs.Lines.{Line}
use Rattle.cga_parser.specs.BlockTells.{grammar_of, GrammarKept}
use Rattle.cga_rule.specs.declared.grammar.Entry.{Entry}
use Rattle.cga_rule.specs.declared.grammar.Grammar.{Grammar}
use Rattle.cga_script.specs.CityLines.{sources_of, CityKept}
use Rattle.cga_shape.specs.declared.edit.Edit.{Edit}
use Rattle.cga_shape.specs.declared.edit.Edit.TheVariants as edit
use Rattle.cga_shape.specs.declared.sources.Sources.{Sources}
use Rattle.cga_syntax.specs.Pieces.{rule_pieces}
use Rattle.cga_syntax.specs.Printing.{printed, HaveTexts}
use Rattle.cga_form.specs.declared.block_reader.BlockReader.{BlockReader}
use Rattle.cga_parser.specs.declared.gathered.Gathered.{Gathered}
use Rattle.cga_script.specs.declared.city_gathered.CityGathered.{CityGathered}
use Rattle.cga_top.specs.Blocks.{RulesRead, SourcesRead}
use Rattle.cga_top.specs.Replies.{applied, budget_of, changed, closed, edited, ended, noted_by}
use Rattle.cga_top.specs.Session.{IsOpenAs}
use Rattle.cga_top.specs.State.{Block, of_rules, of_city, of_asset, of_judge, State}
use Rattle.cga_top.specs.declared.open_block.OpenBlock.TheVariants as opened
use Rattle.cga_top.specs.Told.{grammar_told, sources_told}
use Rattle.cga_top.specs.TooMany.{DoesAs, RulesGiveSame, CityGivesSame}
use Rattle.cga_top.specs.Written.{IsWritten}
use Rattle.cga_top.proofs.Apart.{kept_differ}
use Rattle.cga_top.proofs.Asks.{rules_is, rules_written, city_is, city_written}

abbrev Prints : Entry → Type 0
Prints e = HaveTexts (printed (rule_pieces e.rule))

-- edits that give the same do the same
same_done : (s : State) (a b : Edit) → applied s a ≡ applied s b → edited s a ≡ edited s b
same_done s a b e = ap (changed s (noted_by s.version s.kept s.sources)) e

-- ---- a block of rules

ruled : Result Grammar BlockFault → Result Edit BlockFault
ruled told = and_then told (λ grammar. Ok (edit.Rules grammar))

pub rules_closed : ((s : Sources) (budget : ℕ) (g : Grammar) → RulesGiveSame s budget g)
    → (lines : List Line) (given : Grammar) → GrammarKept lines (Ok given)
    → DoesAs (grammar_told lines) (Ok (edit.Rules given))
unfolding ruled
rules_closed same lines given h = λ s.
    let whole : Grammar = grammar_of h.0 in
    ap (λ (g : Grammar). edited s (edit.Rules g)) h.2
    ∙ same_done s _ (edit.Rules whole) (same s.sources (budget_of s.version) whole)
    ∙ ap (λ (t : Result Grammar BlockFault). closed s (ruled t)) (rules_is lines (Ok whole) (h.0, h.1, refl))

pub rules_faulty : (lines : List Line) (fault : BlockFault) → GrammarKept lines (Err fault)
    → DoesAs (grammar_told lines) (Err fault)
unfolding ruled
rules_faulty lines fault h = λ s. ap (λ (t : Result Grammar BlockFault). closed s (ruled t)) (rules_is lines (Err fault) h)

pub rules_printed : (lines : List Line) (given : Grammar) → GrammarKept lines (Ok given) → IsWritten (edit.Rules given)
rules_printed lines given h =
    let whole : Grammar = grammar_of h.0 in
    subst (λ (g : Grammar). IsWritten (edit.Rules g)) (sym h.2) (All-take Prints 513 whole.rules (rules_written lines whole (h.0, h.1, refl)))

-- ---- a block of a whole city

cited : Result Sources BlockFault → Result Edit BlockFault
cited told = and_then told (λ sources. Ok (edit.Whole sources))

pub city_closed : ((s : Sources) (budget : ℕ) (other : Sources) → CityGivesSame s budget other)
    → (lines : List Line) (given : Sources) → CityKept lines (Ok given)
    → DoesAs (sources_told lines) (Ok (edit.Whole given))
unfolding cited
city_closed same lines given h = λ s.
    let whole : Sources = sources_of h.0 in
    ap (λ (x : Sources). edited s (edit.Whole x)) h.2
    ∙ same_done s _ (edit.Whole whole) (same s.sources (budget_of s.version) whole)
    ∙ ap (λ (t : Result Sources BlockFault). closed s (cited t)) (city_is lines (Ok whole) (h.0, h.1, refl))

pub city_faulty : (lines : List Line) (fault : BlockFault) → CityKept lines (Err fault)
    → DoesAs (sources_told lines) (Err fault)
unfolding cited
city_faulty lines fault h = λ s. ap (λ (t : Result Sources BlockFault). closed s (cited t)) (city_is lines (Err fault) h)

pub city_printed : (lines : List Line) (given : Sources) → CityKept lines (Ok given) → IsWritten (edit.Whole given)
city_printed lines given h =
    let whole : Sources = sources_of h.0 in
    let all = city_written lines whole (h.0, h.1, refl) in
    subst (λ (x : Sources). IsWritten (edit.Whole x)) (sym h.2)
    (record { printable = All-take Prints 513 whole.grammar.rules all.printable; names = kept_differ 4097 whole.lots all.names })

-- ---- the end of a block

pub rules_ended : (s : State) (b : Block) (reader : BlockReader Gathered) (made : Result Edit BlockFault)
    → IsOpenAs b (opened.Rules reader)
    → ((lines : List Line) → RulesRead reader lines → DoesAs (grammar_told lines) made) → closed s made ≡ ended s b
rules_ended s (of_rules lines) reader made is does = does lines is s
rules_ended s (of_city lines) reader made is does = absurd is
rules_ended s (of_asset name lines) reader made is does = absurd is
rules_ended s (of_judge lines) reader made is does = absurd is

pub city_ended : (s : State) (b : Block) (reader : BlockReader CityGathered) (made : Result Edit BlockFault)
    → IsOpenAs b (opened.City reader)
    → ((lines : List Line) → SourcesRead reader lines → DoesAs (sources_told lines) made) → closed s made ≡ ended s b
city_ended s (of_rules lines) reader made is does = absurd is
city_ended s (of_city lines) reader made is does = does lines is s
city_ended s (of_asset name lines) reader made is does = absurd is
city_ended s (of_judge lines) reader made is does = absurd is
