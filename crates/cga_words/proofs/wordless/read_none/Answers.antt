use Rattle.std.proofs.Common.{◌≢◌, ◌∙◌, [], ap, map, rules, string_bytes}
use Rattle.clap.specs.Words.{fault_of}
use Rattle.cga_words.specs.Words.{wordless_app}
use Rattle.cga_words.proofs.Plain.{alone_passes}
use Rattle.cga_words.proofs.wordless.read_none.Goals as goal

pub returns-in-Err-2-clause-alone : goal.returns-in-Err-2-clause-alone
returns-in-Err-2-clause-alone c = λ name words.
    let some : fault_of wordless_app (map string_bytes c.args.words.now) ≢ [] = search rules in
    λ e. some (ap (fault_of wordless_app) words ∙ alone_passes name)
