-- What a log of nodes that came and went makes of the nodes of each symbol.
use Rattle.std.specs.Prelude.{◌≡◌, ℕ, List, [], ◌∷◌, Bool, true, false, ◌&&◌, nat_eq, if◌then◌else◌}
use Rattle.std.specs.List.{list_any}
use Rattle.cga_check.specs.Uses.{same_name}
use Rattle.cga_depend.specs.Pairs.{DependentsView, nodes_in}
use Rattle.cga_depend.specs.declared.log.Pairing.{Pairing}
use Rattle.cga_depend.specs.declared.log.Pairing.TheVariants.{Created, Removed}

abbrev pub is_pair : List ℕ → ℕ → List ℕ → ℕ → Bool
is_pair symbol id s c = same_name symbol s && nat_eq id c

-- whether node c is one of symbol s after an entry, where it was or wasn't before
abbrev pub noted : Pairing → List ℕ → ℕ → Bool → Bool
noted (Created symbol id) s c was = if is_pair symbol id s c then true else was
noted (Removed symbol id) s c was = if is_pair symbol id s c then false else was

-- whether node c is one of symbol s after all entries
unfoldable pub noted_all : List Pairing → List ℕ → ℕ → Bool → Bool
noted_all [] s c was = was
noted_all (x ∷ xs) s c was = noted_all xs s c (noted x s c was)

-- ---- what the dependents list

-- the node is listed under the symbol
abbrev pub lists : DependentsView → List ℕ → ℕ → Bool
lists d symbol c = list_any (nat_eq c) (nodes_in d symbol)

-- a node is listed after the log where it is by what the log says
abbrev pub IsApplied : List Pairing → DependentsView → DependentsView → Type 0
IsApplied log old new = (s : List ℕ) (c : ℕ) → lists new s c ≡ noted_all log s c (lists old s c)
