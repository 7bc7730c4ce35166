use Rattle.std.proofs.Common.{◌≡◌, ◌++◌, ◌+◌, ◌*◌, ◌^◌, ◌≤◌, take, drop}
use Rattle.cga_obj.specs.Lots.{instances_text, vertices_in}
use Rattle.cga_obj.proofs.obj.push_instances.Given as goal

-- the text so far, then that of what is left
abbrev pub invariant-loop-instance : goal.invariant-loop-instance
invariant-loop-instance g l = record {
  text : l.text ++ instances_text (g.M.Meshes.mesh_of l.meshes) l.decimals l.after (drop l.instance-index l.drawn) ≡ l.fn.text ++ instances_text (g.M.Meshes.mesh_of l.meshes) l.decimals l.before l.drawn;
  count : l.after ≡ l.before + vertices_in (g.M.Meshes.mesh_of l.meshes) (take l.instance-index l.drawn);
  room : l.after ≤ l.before + l.instance-index * 2 ^ 64;
}
