use Rattle.std.proofs.Common.{◌≡◌, ◌∙◌, [], arith, rules, subst, sym}
use Rattle.std.proofs.lemmas.List.{nil_from_length}
use Rattle.std.proofs.lemmas.List.Elements.{All-drop}
use Rattle.std.specs.Prelude.{IsOk}
use Rattle.std.specs.Io.KnownBytes.{Appends}
use Rattle.cga_shape.specs.declared.drawn.Drawn.{Drawn}
use Rattle.cga_solid.specs.Solids.{check_solid_of}
use Rattle.cga_obj.specs.Lots.{AreSolid}
use Rattle.cga_top.specs.Prefixes.{AppendsSome}
use Rattle.cga_top.proofs.Faults.{faults_since}
use Rattle.cga_top.proofs.LotTexts.{comes_all, comes_on, comes_some, counted_all, unwritten}
use Rattle.cga_top.proofs.print_lots.write_instances.Goals as goal

pub returns-in-Err-clause-err : goal.returns-in-Err-clause-err
returns-in-Err-clause-err g c = unwritten (g.M.Meshes.mesh_of c.args.meshes.now) c.args.decimals c.args.before c.loop-rest.after _ _ _ _ c.loop-rest.invariant.come

pub returns-in-Err-write-clause-err : goal.returns-in-Err-write-clause-err
returns-in-Err-write-clause-err g c =
    let s = c.split_at.ensures in
    comes_some (g.M.Meshes.mesh_of c.args.meshes.now) c.args.decimals c.args.before c.loop-rest.after c.in-Ok.made.1 _ _ _ _ _ _ _ _ c.in-Ok.made.0 c.loop-rest.invariant.come s.front s.back c.in-Ok.ensures.text
    (subst (AppendsSome (g.K.Sink.held c.loop-rest.out) (g.K.Sink.held c.write.new.out)) c.as_slice.ensures c.in-Err-write.ensures.err)

pub loop-rest-preserved : goal.loop-rest-preserved
loop-rest-preserved g c =
    let s = c.split_at.ensures in
    let inv = c.loop-rest.invariant in
    record {
      come = comes_on (g.M.Meshes.mesh_of c.args.meshes.now) c.args.decimals c.args.before c.loop-rest.after c.in-Ok.made.1 _ _ _ _ _ _ _ _ c.in-Ok.made.0 inv.come s.front s.back c.in-Ok.ensures.text c.in-Ok.ensures.count
          (subst (Appends (g.K.Sink.held c.loop-rest.out) (g.K.Sink.held c.write.new.out)) c.as_slice.ensures c.in-Ok-write.ensures.ok);
      solid = subst AreSolid (sym s.back) (All-drop (λ (d : Drawn). IsOk (check_solid_of d.primitive d.scope)) c.min.result c.loop-rest.rest.now inv.solid);
      room = omega (arith, c.in-Ok.ensures.room, s.front_len, s.back_len, inv.room);
      calm = c.in-Ok-write.ensures.faults ∙ inv.calm;
    }

pub returns-clause-ok : goal.returns-clause-ok
returns-clause-ok g c =
    let none : c.loop-rest.rest.now ≡ [] = nil_from_length _ (search rules) in
    comes_all (g.M.Meshes.mesh_of c.args.meshes.now) c.args.decimals c.args.before c.loop-rest.after _ _ _ _ c.loop-rest.invariant.come none

pub returns-clause-count : goal.returns-clause-count
returns-clause-count g c =
    let none : c.loop-rest.rest.now ≡ [] = nil_from_length _ (search rules) in
    counted_all (g.M.Meshes.mesh_of c.args.meshes.now) c.args.decimals c.args.before c.loop-rest.after _ _ _ _ c.loop-rest.invariant.come none
