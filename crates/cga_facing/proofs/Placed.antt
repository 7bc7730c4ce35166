-- What a mesh that is given was made of: corners, each of them placed.
use Rattle.std.proofs.Common.{◌≡◌, ℕ, zero, suc, List, [], ◌∷◌, false, refl, subst, sym, ◌∙◌, Ok, Some}
use Rattle.std.specs.Prelude.{slice_get}
use Rattle.cga_fraction.proofs.Door.{None-not-Some, and_then-ok, err_if-ok, same_Ok, same_Some}
use Rattle.cga_word.specs.declared.primitive.Primitive.{Primitive}
use Rattle.cga_frame.specs.Scope.{Scope, world_point}
use Rattle.cga_frame.specs.declared.point.Point.{Point}
use Rattle.cga_solid.specs.Corners.{corners_of}
use Rattle.cga_solid.specs.Solids.{all_placed, form_of, lacks_size, mesh_in, mesh_of, placed, vertices_of}
use Rattle.cga_solid.specs.declared.solid_mesh.SolidMesh.{SolidMesh}
use Rattle.cga_solid.proofs.Door.{placed_is}

-- each vertex is the corner at its place, placed
at_first : (s : Scope) (c : Point) (cs vs : List Point) → all_placed s (c ∷ cs) ≡ Ok vs
    → (v : Point) × (rest : List Point)
    × (world_point s.at s.frame c ≡ v) × (all_placed s cs ≡ Ok rest) × (vs ≡ v ∷ rest)
at_first s c cs vs h =
    let a = and_then-ok (placed s c) _ vs h in
    let b = and_then-ok (all_placed s cs) _ vs a.2 in
    (a.0, b.0, placed_is s c a.0 a.1, b.1, sym (same_Ok (a.0 ∷ b.0) vs b.2))

pub placed_at : (s : Scope) (cs vs : List Point) (k : ℕ) (v : Point) → all_placed s cs ≡ Ok vs → slice_get vs k ≡ Some v
    → (c : Point) × (slice_get cs k ≡ Some c) × (world_point s.at s.frame c ≡ v)
placed_at s [] vs k v h g =
    let e : [] ≡ vs = same_Ok [] vs h in
    None-not-Some v (subst (λ (l : List Point). slice_get l k ≡ Some v) (sym e) g)
placed_at s (c ∷ cs) vs zero v h g =
    let f = at_first s c cs vs h in
    let e = subst (λ (l : List Point). slice_get l 0 ≡ Some v) f.4 g in
    (c, refl, f.2 ∙ same_Some f.0 v e)
placed_at s (c ∷ cs) vs (suc k) v h g =
    let f = at_first s c cs vs h in
    let e = subst (λ (l : List Point). slice_get l (suc k) ≡ Some v) f.4 g in
    placed_at s cs f.1 k v f.3 e

pub record IsMade (kind : Primitive) (s : Scope) (mesh : SolidMesh) : Type 0 where
  pub some : lacks_size kind s.size ≡ false
  pub corners : List Point
  pub made : corners_of (form_of kind s.size) s.size ≡ Ok corners
  pub vertices : List Point
  pub placed : all_placed s corners ≡ Ok vertices
  pub same : mesh_in (form_of kind s.size) vertices ≡ mesh

pub mesh_is : (kind : Primitive) (s : Scope) (mesh : SolidMesh) → mesh_of kind s ≡ Ok mesh → IsMade kind s mesh
unfolding mesh_of
mesh_is kind s mesh h =
    let n = err_if-ok (lacks_size kind s.size) _ _ mesh h in
    let a = and_then-ok (vertices_of (form_of kind s.size) s) _ mesh n.1 in
    let b = and_then-ok (corners_of (form_of kind s.size) s.size) _ a.0 a.1 in
    record { some = n.0; corners = b.0; made = b.1; vertices = a.0; placed = b.2; same = same_Ok _ mesh a.2 }
