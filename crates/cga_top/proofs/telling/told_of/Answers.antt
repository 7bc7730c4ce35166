use Rattle.std.proofs.Common.{◌≡◌, ◌++◌, List, ℕ, subst}
use Rattle.std.specs.Prelude.{IfSome}
use Rattle.std.specs.Io.KnownBytes.{Appends}
use Rattle.cga_words.specs.declared.status.Status.TheVariants.{Done}
use Rattle.cga_top.specs.Hulls.{IsToldOf}
use Rattle.cga_top.specs.Outside.{outside_of}
use Rattle.cga_top.specs.Output.{output_of}
use Rattle.cga_top.proofs.Silent.{unbegun_means}
use Rattle.cga_top.proofs.telling.told_of.Goals as goal

pub returns-clause-told : goal.returns-clause-told
returns-clause-told g c =
    subst (λ (d : ℕ). c.run_and_tell-status.result ≡ Done → IfSome (g.S.Source.left c.args.script.now) (λ bytes. (text : List ℕ) × IsToldOf d bytes text
    × Appends (g.K.Sink.held c.args.out.now) (g.K.Sink.held c.run_and_tell-status.new.out) (output_of d bytes ++ text))) c.in-Ok.ensures.start.decimals c.run_and_tell-status.ensures.told

pub returns-in-Err-clause-means : goal.returns-in-Err-clause-means
returns-in-Err-clause-means g c =
    unbegun_means _ (outside_of g.S.Source g.K.Sink c.args.script.now c.args.out.now c.args.expansions.now)
