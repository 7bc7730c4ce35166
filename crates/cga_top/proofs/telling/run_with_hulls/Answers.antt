use Rattle.std.proofs.Common.{◌≡◌, ◌∙◌, ap, Result, Err, ℕ, true, None}
use Rattle.cga_words.specs.Words.{IsTownless, decimals_of}
use Rattle.cga_words.specs.declared.words_fault.WordsFault.{WordsFault}
use Rattle.cga_words.proofs.Door.{plain_townless, townless_says}
use Rattle.cga_top.specs.Outside.{outside_of}
use Rattle.cga_top.proofs.Silent.{unbegun_means}
use Rattle.cga_top.proofs.telling.run_with_hulls.Goals as goal

pub returns-in-Err-Usage-clause-plain : goal.returns-in-Err-Usage-clause-plain
returns-in-Err-Usage-clause-plain g c = λ name decimals few words.
    absurd (c.in-Err-Usage.ensures.usage (ap (λ (w : WordsFault). let r : Result ℕ WordsFault = Err w in r) c.in-Err-Usage.field-0-is) (plain_townless _ name decimals few words))

pub returns-in-Err-NoMemory-clause-plain : goal.returns-in-Err-NoMemory-clause-plain
returns-in-Err-NoMemory-clause-plain g c = λ name decimals few words. (λ e. cc, townless_says _ name decimals few words)

pub returns-clause-plain : goal.returns-clause-plain
returns-clause-plain g c = λ name decimals few words. (c.told_of.ensures.used, townless_says _ name decimals few words)

pub returns-in-Err-NoMemory-clause-means : goal.returns-in-Err-NoMemory-clause-means
returns-in-Err-NoMemory-clause-means g c =
    unbegun_means _ (outside_of g.S.Source g.K.Sink c.args.script.now c.args.out.now c.args.expansions.now)
