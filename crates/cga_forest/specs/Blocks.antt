-- A forest with hulls over runs of its roots.
use Rattle.std.specs.Prelude.{◌≡◌, ◌≢◌, ℕ, Option, Some, slice_get}
use Rattle.cga_kept_hulls.specs.declared.blocks.Blocks.{Blocks}
use Rattle.cga_kept_hulls.specs.declared.hulls.Hulls.{Hulls}
use Rattle.cga_marked.specs.Map.{Named, ids}
use Rattle.cga_forest.specs.Tree.{ForestView, IsForest, hulls_at}
use Rattle.cga_kept_hulls.specs.Blocks.{IsHeld}

-- the hulls of the root at the place, if one is there, are held
abbrev pub IsCovered : Blocks → Named → (ℕ → Option Hulls) → ℕ → Type 0
IsCovered blocks roots H place = (c : ℕ) (h : Hulls) → slice_get (ids roots) place ≡ Some c → H c ≡ Some h → IsHeld blocks place h

abbrev pub AreCovered : Blocks → Named → (ℕ → Option Hulls) → Type 0
AreCovered blocks roots H = (place : ℕ) → IsCovered blocks roots H place

-- all but those of the one root
abbrev pub AreCoveredBut : Option ℕ → Blocks → Named → (ℕ → Option Hulls) → Type 0
AreCoveredBut root blocks roots H = (place c : ℕ) (h : Hulls) → root ≢ Some c → slice_get (ids roots) place ≡ Some c → H c ≡ Some h → IsHeld blocks place h

-- a forest, with blocks over its roots
pub record IsWithBlocks (v : ForestView) (blocks : Blocks) : Type 0 where
  pub forest : IsForest v
  pub covered : AreCovered blocks v.roots (hulls_at v)
