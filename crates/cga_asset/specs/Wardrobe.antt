-- Assets, and the symbols that they dress.
use Rattle.std.specs.Prelude.{◌≡◌, ℕ, ◌&&◌, Bool, not, is_some, nat_le, List, [], length, Option, Some, None, Result, Ok, Err, if◌then◌else◌}
use Rattle.std.specs.BTreeMap.{insert_entry, is_at}
use Rattle.std.specs.Cmp.Lexicographic.{slice_cmp}
use Rattle.std.specs.Map.{lookup, remove_entry}
use Rattle.std.specs.Ordering.{nat_cmp}
use Rattle.std.specs.declared.cmp.Ordering.{Ordering}
use Rattle.cga_solid.specs.declared.solid_mesh.SolidMesh.{SolidMesh}
use Rattle.cga_asset.specs.declared.wardrobe_fault.WardrobeFault.{WardrobeFault}
use Rattle.cga_asset.specs.declared.wardrobe_fault.WardrobeFault.TheVariants.{TooManyAssets, NoAsset, TooManyDresses, NoMemory}

-- both by the bytes of the names
pub record WardrobeView : Type 0 where
  pub assets : List (List ℕ × SolidMesh)
  pub dresses : List (List ℕ × List ℕ)

abbrev pub empty : WardrobeView
empty = record { assets = []; dresses = [] }

abbrev pub by_bytes : List ℕ → List ℕ → Ordering
by_bytes = slice_cmp nat_cmp

abbrev pub found : {X : Type 0} → List ℕ → List (List ℕ × X) → Option X
found name entries = lookup (is_at (by_bytes name)) entries

abbrev pub has : {X : Type 0} → List ℕ → List (List ℕ × X) → Bool
has name entries = is_some (found name entries)

-- an asset more, or another one of its name
abbrev pub with_asset : WardrobeView → List ℕ → SolidMesh → Result WardrobeView WardrobeFault
with_asset w name asset =
    if nat_le 64 (length w.assets) && not (has name w.assets) then Err TooManyAssets
    else Ok (record { assets = insert_entry by_bytes w.assets name asset; dresses = w.dresses })

-- a symbol dressed, or dressed otherwise
abbrev pub dressed : WardrobeView → List ℕ → List ℕ → Result WardrobeView WardrobeFault
dressed w symbol name =
    if not (has name w.assets) then Err (NoAsset name)
    else if nat_le 512 (length w.dresses) && not (has symbol w.dresses) then Err TooManyDresses
    else Ok (record { assets = w.assets; dresses = insert_entry by_bytes w.dresses symbol name })

abbrev pub undressed : WardrobeView → List ℕ → WardrobeView
undressed w symbol = record { assets = w.assets; dresses = remove_entry (is_at (by_bytes symbol)) w.dresses }

abbrev pub asset_named : WardrobeView → Option (List ℕ) → Option SolidMesh
asset_named w None = None
asset_named w (Some name) = found name w.assets

-- the asset that a symbol is drawn as
abbrev pub worn : WardrobeView → List ℕ → Option SolidMesh
worn w symbol = asset_named w (found symbol w.dresses)

-- the new wardrobe, or the refusal and the old one; after want of memory the old one
abbrev pub Gives : Result WardrobeView WardrobeFault → WardrobeView → Result (Unit {0}) WardrobeFault → WardrobeView
    → Type 0
Gives r old (Ok u) new = r ≡ Ok new
Gives r old (Err NoMemory) new = new ≡ old
Gives r old (Err fault) new = (r ≡ Err fault) × (new ≡ old)
