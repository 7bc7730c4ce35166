-- What is read and written at the place of a symbol.
use Rattle.std.proofs.Common.{◌≡◌, ℕ, zero, suc, List, [], ◌∷◌, Bool, true, false, cond, sym, ap, ◌∙◌, Some, slice_get, refl, nat_eq}
use Rattle.std.specs.Prelude.{unwrap_or, if◌then◌else◌}
use Rattle.std.specs.Cmp.{nat_eq_equiv}
use Rattle.std.specs.Cmp.Lexicographic.{lists_equiv}
use Rattle.std.specs.Map.{lookup, values_of}
use lib.Pointwise.{pointwise, bytes_decides}
use Rattle.indexmap.specs.IndexMap.{IndexMap, IsUnique, set_value_at, with_value_at}
use Rattle.indexmap.proofs.CallerLemmas.{updates-with_value_at}
use Rattle.cga_fraction.proofs.Door.{None-not-Some as none_some, same_Some as some_same}
use Rattle.cga_check.specs.Uses.{same_name}
use Rattle.cga_depend.specs.Pairs.{IsAt, under, with_node}

abbrev Entries : Type 0
Entries = List (List ℕ × List ℕ)

value_at : (es : Entries) (i : ℕ) (k v : List ℕ) → slice_get es i ≡ Some (k, v) → slice_get (values_of es) i ≡ Some v
value_at [] i k v h = none_some (k, v) h
value_at (e ∷ es) zero k v h = ap (λ (p : List ℕ × List ℕ). Some p.1) (some_same e (k, v) h)
value_at (e ∷ es) (suc i) k v h = value_at es i k v h

same_written : (es : Entries) (i : ℕ) (k v : List ℕ) → slice_get es i ≡ Some (k, v) → set_value_at es i v ≡ es
same_written [] i k v h = refl
same_written (e ∷ es) zero k v h = ap (λ (p : List ℕ × List ℕ). (e.0, p.1) ∷ es) (sym (some_same e (k, v) h))
same_written (e ∷ es) (suc i) k v h = ap (λ l. e ∷ l) (same_written es i k v h)

module _ (es : Entries) (place : ℕ) (symbol : List ℕ) (at : IsAt es place symbol) where
  -- the nodes of the symbol are read
  pub read : (known : List ℕ) → Some known ≡ slice_get (values_of es) place → known ≡ under es symbol
  read known is =
      some_same known at.nodes (is ∙ value_at es place symbol at.nodes at.at) ∙ sym (ap (λ o. unwrap_or o []) at.found)

  -- and change nothing where they are written back
  pub unwritten : set_value_at es place (under es symbol) ≡ es
  unwritten =
      ap (λ o. set_value_at es place (unwrap_or o [])) at.found ∙ same_written es place symbol at.nodes at.at

module _ {S : Type 0} (m : IndexMap (List ℕ) (List ℕ) S) (place : ℕ) (symbol : List ℕ) (w : List ℕ) (unique : IsUnique (pointwise nat_eq) m) (at : IsAt m.entries place symbol) where
  -- other nodes are written
  pub written : (s : List ℕ)
      → under (with_value_at m place w).entries s ≡ (if same_name symbol s then w else under m.entries s)
  written s = by (same_name symbol s) ((updates-with_value_at m place w (lists_equiv nat_eq_equiv) unique symbol at.nodes at.at).0 s)
    where
      by : (b : Bool)
          → lookup (same_name s) (with_value_at m place w).entries ≡ cond b (Some w) (lookup (same_name s) m.entries)
          → under (with_value_at m place w).entries s ≡ (if b then w else under m.entries s)
      by true u = ap (λ o. unwrap_or o []) u
      by false u = ap (λ o. unwrap_or o []) u

  pub written_here : under (with_value_at m place w).entries symbol ≡ w
  written_here = written symbol ∙ ap (λ b. if b then w else under m.entries symbol) ((bytes_decides symbol symbol).1 refl)

  -- with one more
  pub one_more : (node : ℕ) → w ≡ with_node (under m.entries symbol) node → (s : List ℕ)
      → under (with_value_at m place w).entries s ≡
      (if same_name symbol s then with_node (under m.entries s) node else under m.entries s)
  one_more node is s = by (same_name symbol s) refl (written s)
    where
      by : (b : Bool) → same_name symbol s ≡ b
          → under (with_value_at m place w).entries s ≡ (if b then w else under m.entries s)
          → under (with_value_at m place w).entries s ≡
          (if b then with_node (under m.entries s) node else under m.entries s)
      by true e u = u ∙ (is ∙ ap (λ n. with_node (under m.entries n) node) ((bytes_decides symbol s).0 e))
      by false e u = u
