use Rattle.std.proofs.Common.{◌≡◌, ◌++◌, ◌+◌, ◌*◌, ◌^◌, ◌≤◌, drop, length}
use Rattle.std.specs.List.{IsDistinct}
use Rattle.std.specs.Prelude.{bytes_eq}
use Rattle.cga_obj.specs.Lots.{AreSolid, StandsBy, lots_text}
use Rattle.cga_obj.proofs.obj.push_lots.Given as goal

-- the text so far, then that of the lots that are left over what is left of the drawn
abbrev pub invariant-loop-lot : goal.invariant-loop-lot
invariant-loop-lot g l = record {
  text : l.text ++ lots_text (g.M.Meshes.mesh_of l.meshes) l.decimals l.rest l.before (drop l.lot-index l.lots) ≡ l.fn.text ++ lots_text (g.M.Meshes.mesh_of l.meshes) l.decimals l.drawn 0 l.lots;
  order : StandsBy (drop l.lot-index l.lots) l.rest;
  distinct : IsDistinct bytes_eq (drop l.lot-index l.lots);
  solid : AreSolid l.rest;
  room : l.before + length l.rest * 2 ^ 64 + 2 ^ 64 ≤ 2 ^ 128;
}
