use Rattle.std.proofs.Common.{subst}
use Rattle.std.specs.Io.KnownBytes.{Appends}
use Rattle.cga_top.specs.Prefixes.{AppendsSome}
use Rattle.cga_top.specs.Prints.{in_lots}
use Rattle.cga_top.proofs.Effects.{some_after, some_more}
use Rattle.cga_top.proofs.Known.{appends_more}
use Rattle.cga_top.proofs.LotTexts.{text_parts}
use Rattle.cga_top.proofs.print_lots.write_text.Goals as goal

pub returns-in-Err-clause-err : goal.returns-in-Err-clause-err
returns-in-Err-clause-err g c =
    let parts = text_parts (g.M.Meshes.mesh_of c.args.meshes.now) c.args.session.now.decimals c.args.lots.now (in_lots c.args.session.now.city c.args.lots.now) in
    subst (AppendsSome (g.K.Sink.held c.args.out.now) (g.K.Sink.held c.write.new.out)) parts (some_more _ _ _ _ c.in-Err.ensures.err)

pub returns-in-Ok-write_lots-clause-ok : goal.returns-in-Ok-write_lots-clause-ok
returns-in-Ok-write_lots-clause-ok g c =
    let parts = text_parts (g.M.Meshes.mesh_of c.args.meshes.now) c.args.session.now.decimals c.args.lots.now (in_lots c.args.session.now.city c.args.lots.now) in
    subst (Appends (g.K.Sink.held c.args.out.now) (g.K.Sink.held c.write_lots.new.out)) parts
    (appends_more _ (g.K.Sink.held c.write.new.out) _ _ _ c.in-Ok.ensures.ok c.in-Ok-write_lots.ensures.ok)

pub returns-in-Err-write_lots-clause-err : goal.returns-in-Err-write_lots-clause-err
returns-in-Err-write_lots-clause-err g c =
    let parts = text_parts (g.M.Meshes.mesh_of c.args.meshes.now) c.args.session.now.decimals c.args.lots.now (in_lots c.args.session.now.city c.args.lots.now) in
    subst (AppendsSome (g.K.Sink.held c.args.out.now) (g.K.Sink.held c.write_lots.new.out)) parts
    (some_after _ (g.K.Sink.held c.write.new.out) _ _ _ c.in-Ok.ensures.ok c.in-Err-write_lots.ensures.err)
