-- What is on the agenda when an update begins.
use Rattle.std.specs.Prelude.{◌≡◌, ◌⊎◌, ℕ, List, Some}
use Rattle.cga_rule.specs.declared.grammar.Grammar.{Grammar}
use Rattle.cga_depend.specs.Pairs.{DependentsView, nodes_in}
use Rattle.cga_expand.specs.Derivation.{priority_of}
use Rattle.cga_expand.specs.Settings.{setting_of}
use Rattle.cga_order.specs.World.{Among}
use Rattle.cga_forest.specs.View.{Seen}
use Rattle.cga_forest.specs.Tree.{ForestView, node_at}
use Rattle.cga_queue.specs.Agenda.{AgendaView, HasAll}
use Rattle.cga_update.specs.Queue.{chains_of}

-- where one of the nodes is of the symbol, its priority is the old one
abbrev pub KeepsPriority : Grammar → Grammar → List ℕ → List ℕ → Type 0
KeepsPriority old new nodes symbol = (c : ℕ) → Among c nodes → priority_of old symbol ≡ priority_of new symbol

-- each symbol that has a node has its old priority
abbrev pub KeepsPriorities : Grammar → Grammar → DependentsView → Type 0
KeepsPriorities old new d = (symbol : List ℕ) → KeepsPriority old new (nodes_in d symbol) symbol

-- any node at all
abbrev pub IsAny : ℕ → Type 0
IsAny c = Unit {0}

module _ (v : ForestView) where
  -- the second is the parent of the first
  abbrev pub IsParent : ℕ → ℕ → Type 0
  IsParent c p = (d : Seen) × (node_at v c ≡ Some d) × (d.parent ≡ Some p)

  -- it is the parent of one of these
  abbrev pub IsParentOf : List ℕ → ℕ → Type 0
  IsParentOf nodes p = (c : ℕ) × Among c nodes × IsParent c p

  -- these nodes of a symbol are on it, or its setting is the old one
  abbrev pub IsChangedFor : Grammar → Grammar → List ℕ → List ℕ → AgendaView → Type 0
  IsChangedFor old new nodes symbol a =
      HasAll (chains_of v) (λ c. Among c nodes) a ⊎ (setting_of old symbol ≡ setting_of new symbol)

  -- their parents are, or its priority is the old one
  abbrev pub IsPricedFor : Grammar → Grammar → List ℕ → List ℕ → AgendaView → Type 0
  IsPricedFor old new nodes symbol a =
      HasAll (chains_of v) (IsParentOf nodes) a ⊎ (priority_of old symbol ≡ priority_of new symbol)
