use Rattle.std.proofs.Common.{◌≡◌, ◌++◌, ◌∙◌, List, ℕ, ap, subst, sym}
use Rattle.std.specs.Io.KnownBytes.{Appends}
use Rattle.cga_obj.specs.Lots.{instances_text, lot_text}
use Rattle.cga_shape.specs.declared.drawn.Drawn.{Drawn}
use Rattle.cga_top.specs.Prefixes.{AppendsSome}
use Rattle.cga_top.specs.Prints.{in_lot}
use Rattle.cga_top.proofs.Effects.{some_after, some_more}
use Rattle.cga_top.proofs.Known.{appends_more, appends_some}
use Rattle.cga_top.proofs.LotTexts.{lot_parts}
use Rattle.cga_top.proofs.print_lots.write_lot.Goals as goal

pub returns-in-Err-write-clause-err : goal.returns-in-Err-write-clause-err
returns-in-Err-write-clause-err g c =
    let drawn = in_lot c.args.session.now.city c.args.lot in
    let parts = lot_parts (g.M.Meshes.mesh_of c.args.meshes.now) c.args.session.now.decimals c.args.before c.args.lot c.in-Ok.text drawn c.in-Ok.ensures in
    subst (AppendsSome (g.K.Sink.held c.args.out.now) (g.K.Sink.held c.write.new.out)) parts
    (some_more _ _ c.in-Ok.text _ (subst (AppendsSome (g.K.Sink.held c.args.out.now) (g.K.Sink.held c.write.new.out)) c.as_slice.ensures c.in-Err-write.ensures.err))

pub returns-in-Err-lot_instances-clause-err : goal.returns-in-Err-lot_instances-clause-err
returns-in-Err-lot_instances-clause-err g c =
    let drawn = in_lot c.args.session.now.city c.args.lot in
    let parts = lot_parts (g.M.Meshes.mesh_of c.args.meshes.now) c.args.session.now.decimals c.args.before c.args.lot c.in-Ok.text drawn c.in-Ok.ensures in
    subst (AppendsSome (g.K.Sink.held c.args.out.now) (g.K.Sink.held c.write.new.out)) parts
    (some_more _ _ c.in-Ok.text _ (appends_some _ _ c.in-Ok.text (subst (Appends (g.K.Sink.held c.args.out.now) (g.K.Sink.held c.write.new.out)) c.as_slice.ensures c.in-Ok-write.ensures.ok)))

pub returns-in-Ok-write_instances-clause-ok : goal.returns-in-Ok-write_instances-clause-ok
returns-in-Ok-write_instances-clause-ok g c =
    let drawn = in_lot c.args.session.now.city c.args.lot in
    let decimals = c.args.session.now.decimals in
    let parts = lot_parts (g.M.Meshes.mesh_of c.args.meshes.now) decimals c.args.before c.args.lot c.in-Ok.text drawn c.in-Ok.ensures in
    let same = ap (λ (d : ℕ). instances_text (g.M.Meshes.mesh_of c.args.meshes.now) d c.args.before c.as_slice-2.result.now) c.get-decimals.ensures.value
    ∙ ap (instances_text (g.M.Meshes.mesh_of c.args.meshes.now) decimals c.args.before) (c.as_slice-2.ensures ∙ c.in-Ok-lot_instances.ensures.value) in
    subst (Appends (g.K.Sink.held c.args.out.now) (g.K.Sink.held c.write_instances.new.out)) parts
    (appends_more _ (g.K.Sink.held c.write.new.out) _ c.in-Ok.text _
    (subst (Appends (g.K.Sink.held c.args.out.now) (g.K.Sink.held c.write.new.out)) c.as_slice.ensures c.in-Ok-write.ensures.ok)
    (subst (Appends (g.K.Sink.held c.write.new.out) (g.K.Sink.held c.write_instances.new.out)) same c.in-Ok-write_instances.ensures.ok))

pub returns-clause-err : goal.returns-clause-err
returns-clause-err g c =
    let drawn = in_lot c.args.session.now.city c.args.lot in
    let decimals = c.args.session.now.decimals in
    let parts = lot_parts (g.M.Meshes.mesh_of c.args.meshes.now) decimals c.args.before c.args.lot c.in-Ok.text drawn c.in-Ok.ensures in
    let same = ap (λ (d : ℕ). instances_text (g.M.Meshes.mesh_of c.args.meshes.now) d c.args.before c.as_slice-2.result.now) c.get-decimals.ensures.value
    ∙ ap (instances_text (g.M.Meshes.mesh_of c.args.meshes.now) decimals c.args.before) (c.as_slice-2.ensures ∙ c.in-Ok-lot_instances.ensures.value) in
    subst (AppendsSome (g.K.Sink.held c.args.out.now) (g.K.Sink.held c.write_instances.new.out)) parts
    (some_after _ (g.K.Sink.held c.write.new.out) _ c.in-Ok.text _
    (subst (Appends (g.K.Sink.held c.args.out.now) (g.K.Sink.held c.write.new.out)) c.as_slice.ensures c.in-Ok-write.ensures.ok)
    (subst (AppendsSome (g.K.Sink.held c.write.new.out) (g.K.Sink.held c.write_instances.new.out)) same c.in-Err-write_instances.ensures.err))
