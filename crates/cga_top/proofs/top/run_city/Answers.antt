use Rattle.std.proofs.Common.{◌∙◌, ap, Result, Err}
use Rattle.clap.specs.Words.{fault_of}
use Rattle.cga_words.specs.Words.{command_app, decimals_of, town_of}
use Rattle.cga_words.specs.declared.wanted.Wanted.{Wanted}
use Rattle.cga_words.specs.declared.words_fault.WordsFault.{WordsFault}
use Rattle.cga_words.proofs.Door.{plain_says}
use Rattle.cga_top.specs.Outside.{outside_of}
use Rattle.cga_top.proofs.Given.{unbegun_run}
use Rattle.cga_top.proofs.top.run_city.Goals as goal

pub returns-in-Err-Usage-clause-plain : goal.returns-in-Err-Usage-clause-plain
returns-in-Err-Usage-clause-plain g c = λ name first decimals town fits words.
    let says = plain_says name first decimals town fits in
    absurd (c.in-Err-Usage.ensures.usage (ap (λ (w : WordsFault). let r : Result Wanted WordsFault = Err w in r) c.in-Err-Usage.field-0-is) (ap (fault_of command_app) words ∙ says.pass))

pub returns-in-Err-NoMemory-clause-plain : goal.returns-in-Err-NoMemory-clause-plain
returns-in-Err-NoMemory-clause-plain g c = λ name first decimals town fits words.
    let says = plain_says name first decimals town fits in
    (λ e. cc, ap decimals_of words ∙ says.decimals_are, ap town_of words ∙ says.town_is)

pub returns-in-Some-clause-plain : goal.returns-in-Some-clause-plain
returns-in-Some-clause-plain g c = λ name first decimals town fits words.
    let says = plain_says name first decimals town fits in
    (c.run_town.ensures.used, ap decimals_of words ∙ says.decimals_are, ap town_of words ∙ says.town_is)

pub returns-in-None-clause-plain : goal.returns-in-None-clause-plain
returns-in-None-clause-plain g c = λ name first decimals town fits words.
    let says = plain_says name first decimals town fits in
    (c.run_silent.ensures.used, ap decimals_of words ∙ says.decimals_are, ap town_of words ∙ says.town_is)

pub returns-in-Err-NoMemory-clause-means : goal.returns-in-Err-NoMemory-clause-means
returns-in-Err-NoMemory-clause-means g c =
    unbegun_run _ _ (outside_of g.S.Source g.K.Sink c.args.script.now c.args.out.now c.args.expansions.now)
