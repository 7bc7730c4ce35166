-- The last node of the mark that asks, by the entries of the dependents.
use Rattle.std.proofs.Common.{◌≡◌, inl, inr, ℕ, List, [], ◌∷◌, refl, sym, ap, subst, slice_get, Option, Some, Bool, true, false}
use Rattle.std.specs.Prelude.{IsSome, unwrap_or, if◌then◌else◌}
use Rattle.std.specs.Map.{lookup}
use lib.Pointwise.{bytes_decides}
use Rattle.cga_word.specs.declared.mode.Mode.{Mode}
use Rattle.cga_check.specs.Uses.{same_name}
use Rattle.cga_depend.specs.Asking.{asks_in}
use Rattle.cga_depend.specs.Pairs.{DependentsView, under}
use Rattle.cga_order.specs.Chain.{Chain}
use Rattle.cga_order.specs.World.{Among, is_instance}
use Rattle.cga_rule.specs.declared.grammar.Grammar.{Grammar}
use Rattle.cga_forest.specs.View.{Seen}
use Rattle.cga_forest.specs.Tree.{ForestView, marked_at, node_at}
use Rattle.cga_queue.specs.Agenda.{Chains}
use Rattle.cga_queue.specs.Last.{IsBound, IsUpTo, chain_at}
use Rattle.cga_queue.specs.declared.last.Last.{Last}
use Rattle.cga_update.specs.Last.{IsTold}
use Rattle.cga_update.specs.Queue.{chains_of}
use Rattle.cga_order.proofs.Door.{Among-index as among_at}

-- ---- the entry of a symbol in the dependents

entry_first : (name : List ℕ) (c : ℕ) (e : List ℕ × List ℕ) (entries : List (List ℕ × List ℕ))
    → (Among c (under entries name) → (nodes : List ℕ) × Among (name, nodes) entries × Among c nodes)
    → (b : Bool) → same_name name e.0 ≡ b → Among c (under (e ∷ entries) name)
    → (nodes : List ℕ) × Among (name, nodes) (e ∷ entries) × Among c nodes
entry_first name c e entries more true is h =
    let same : name ≡ e.0 = (bytes_decides name e.0).0 is in
    (e.1, inl (λ i. (sym same i, e.1)), subst (Among c) (ap (λ b. unwrap_or (if b then Some e.1 else lookup (same_name name) entries) []) is) h)
entry_first name c e entries more false is h =
    let w = more (subst (Among c) (ap (λ b. unwrap_or (if b then Some e.1 else lookup (same_name name) entries) []) is) h) in
    (w.0, inr w.1, w.2)

pub entry_of : (name : List ℕ) (c : ℕ) (entries : List (List ℕ × List ℕ)) → Among c (under entries name)
    → (nodes : List ℕ) × Among (name, nodes) entries × Among c nodes
entry_of name c [] h = absurd h
entry_of name c (e ∷ entries) h = entry_first name c e entries (entry_of name c entries) (same_name name e.0) refl h

-- the nodes of an entry come no later than the last, if its symbol asks
abbrev pub EntryUpTo : Mode → Chains → Grammar → Grammar → Option ℕ → List ℕ × List ℕ → Type 0
EntryUpTo mode D old new last e =
    asks_in old new e.0 ≡ true → (c : ℕ) (x : Chain) → Among c e.1 → D c ≡ Some x → IsUpTo mode (chain_at D last) x

pub told_of : (mode : Mode) (v : ForestView) (d : DependentsView) (old new : Grammar) (last : Option ℕ) (known : Last)
    → ((i : ℕ) (e : List ℕ × List ℕ) → slice_get d.nodes i ≡ Some e → EntryUpTo mode (chains_of v) old new last e)
    → ((x : Chain) → IsUpTo mode (chain_at (chains_of v) last) x → IsBound mode known x)
    → IsTold mode v d old new known
told_of mode v d old new last known each bound symbol c x asks among is =
    let entry = entry_of symbol c d.nodes among in
    let at = among_at d.nodes (symbol, entry.0) entry.1 in
    bound x (each at.0 (symbol, entry.0) at.1 asks c x entry.2 is)
