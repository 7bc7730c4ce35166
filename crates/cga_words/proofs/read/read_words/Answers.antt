use Rattle.std.proofs.Common.{◌≡◌, ◌≢◌, ◌∙◌, ap, ap₂, rules, ℕ, [], Option, inl, map, string_bytes}
use Rattle.std.specs.Prelude.{Result, Ok, unwrap_or}
use Rattle.clap.specs.Words.{fault_of}
use Rattle.cga_words.specs.Words.{command_app, decimals_of, town_of}
use Rattle.cga_words.specs.declared.wanted.Wanted.{Wanted}
use Rattle.cga_words.specs.declared.words_fault.WordsFault.{WordsFault}
use Rattle.cga_words.proofs.Says.{plain_says}
use Rattle.cga_words.proofs.read.read_words.Goals as goal

pub returns-in-Err-2-clause-plain : goal.returns-in-Err-2-clause-plain
returns-in-Err-2-clause-plain c = λ name first decimals town fits words.
    let some : fault_of command_app (map string_bytes c.args.words.now) ≢ [] = search rules in
    absurd (some (ap (fault_of command_app) words ∙ (plain_says name first decimals town fits).pass))

pub returns-in-Ok-clause-plain : goal.returns-in-Ok-clause-plain
returns-in-Ok-clause-plain c = λ name first decimals town fits words.
    let says = plain_says name first decimals town fits in
    let some : c.decimals_in.result ≡ unwrap_or decimals 6 = c.decimals_in.ensures.value _ c.in-Ok.ensures.ok.1 ∙ ap decimals_of words ∙ says.decimals_are in
    let lots : c.town_in.result ≡ town = c.town_in.ensures.value _ c.in-Ok.ensures.ok.1 ∙ ap town_of words ∙ says.town_is in
    inl (ap₂ (λ (n : ℕ) (o : Option ℕ). let w : Wanted = record { decimals = n; town = o } in let r : Result Wanted WordsFault = Ok w in r) some lots)
