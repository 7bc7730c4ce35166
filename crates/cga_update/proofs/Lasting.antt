-- No node of the mark that asks comes later than the last: when the work begins, and after each turn.
use Rattle.std.proofs.Common.{◌≡◌, ◌⊎◌, inl, inr, ℕ, List, refl, sym, ap, ◌∙◌, subst, Some, None, Bool, true, false}
use Rattle.std.specs.Prelude.{IsSome, is_some, if◌then◌else◌}
use Rattle.std.proofs.lemmas.Bool.{or_left, or_right}
use Rattle.cga_fraction.proofs.Door.{cases_Option as option_cases, eq_or_ne as nat_cases}
use Rattle.cga_word.specs.declared.mode.Mode.{Mode}
use Rattle.cga_check.specs.Said.{asks_any, said}
use Rattle.cga_depend.specs.Pairs.{DependentsView}
use Rattle.cga_order.specs.World.{is_instance}
use Rattle.cga_rule.specs.declared.grammar.Grammar.{Grammar}
use Rattle.cga_shape.specs.declared.sources.Sources.{Sources}
use Rattle.cga_forest.specs.declared.node_change.NodeChange.{NodeChange}
use Rattle.cga_forest.specs.Node.{chain_kept}
use Rattle.cga_forest.specs.View.{Seen}
use Rattle.cga_forest.specs.Tree.{ForestView, marked_at, node_at}
use Rattle.cga_queue.specs.Agenda.{AgendaView}
use Rattle.cga_depend.specs.Asking.{asks_in}
use Rattle.cga_queue.specs.Last.{IsBound}
use Rattle.cga_queue.specs.declared.last.Last.{Last}
use Rattle.cga_update.specs.Edit.{asks_by}
use Rattle.cga_update.specs.Last.{AskersAreUpTo, IsTold}
use Rattle.cga_update.proofs.Beginning.{city, listed_under, was_there}
use Rattle.cga_update.proofs.DueNodes.{due_is}
use Rattle.cga_update.proofs.Facts.{said_asks}
use Rattle.cga_update.proofs.Moves.{some_one}
use Rattle.cga_update.proofs.Rooting.{IsRooted}

module _ {old new : Sources} {first v : ForestView} {d : DependentsView} {removed created : List NodeChange}
    {a : AgendaView} (start : IsRooted old new first v d removed created a) (mode : Mode) (last : Last)
    (told : IsTold mode v d old.grammar new.grammar last) where
  marked_there : (c : ℕ) (x : Seen) → node_at v c ≡ Some x → IsSome (marked_at v c) → node_at first c ≡ Some x
  marked_there c x at marked = elim (was_there start c x at (node_at first c) refl) [
    | inl none ↦ (let z : false ≡ true = ap is_some (sym (start.roots.marked c ∙ none)) ∙ marked in absurd (cc))
    | inr vc ↦ vc
  ]

  asking : (c : ℕ) (x : Seen) → node_at first c ≡ Some x → is_instance x.node.kind ≡ false
      → (x.node.asks ≡ true) ⊎ (asks_by new.grammar x.node.shape ≡ true)
      → asks_in old.grammar new.grammar x.node.shape.symbol ≡ true
  asking c x vc inner (inl was) = or_left (asks_any (said old.grammar x.node.shape.symbol))
      (asks_any (said new.grammar x.node.shape.symbol)) (said_asks old.grammar x.node.shape ∙ (sym ((city start).asking c x vc inner) ∙ was))
  asking c x vc inner (inr is) = or_right (asks_any (said old.grammar x.node.shape.symbol)) (asks_any (said new.grammar x.node.shape.symbol)) (said_asks new.grammar x.node.shape ∙ is)

  -- when the work begins
  pub first_up_to : AskersAreUpTo mode last new.grammar v
  first_up_to c x at marked inner asks =
      let vc = marked_there c x at marked in
      told x.node.shape.symbol c (chain_kept x.node) (asking c x vc inner asks) (listed_under start c x vc inner) (due_is (node_at v c) x at inner)

-- after a turn: V and T are the nodes before and after it, and e is the node, of which kind, answers and asking may differ
module _ (v w : ForestView) (g : Grammar) (id : ℕ) (e now : Seen) (here : node_at v id ≡ Some e)
    (there : node_at w id ≡ Some now) (gone : ℕ → Bool) (rest : (c : ℕ) (d : Seen) → (c ≡ id → ⊥)
    → node_at v c ≡ Some d → node_at w c ≡ (if gone c then None else Some d))
    (inner : is_instance e.node.kind ≡ false) (chain : chain_kept now.node ≡ chain_kept e.node)
    (asks : now.node.asks ≡ true → asks_by g e.node.shape ≡ true) (shape : now.node.shape ≡ e.node.shape)
    (marks : (c : ℕ) → marked_at w c ≡ marked_at v c) (unmarked : (c : ℕ) → node_at v c ≡ None
    → IsSome (node_at w c) → marked_at v c ≡ None) (mode : Mode) (last : Last) (up : AskersAreUpTo mode last g v) where
  still_marked : (c : ℕ) → IsSome (marked_at w c) → IsSome (marked_at v c)
  still_marked c marked = subst IsSome (marks c) marked

  -- a node that stays is the same
  stays : (c : ℕ) (x d : Seen) → (b : Bool) → gone c ≡ b → node_at w c ≡ (if gone c then None else Some x)
      → node_at w c ≡ Some d → x ≡ d
  stays c x d true f r at = let z : None ≡ Some d = sym (r ∙ ap (λ h. if h then None else Some x) f) ∙ at in cc
  stays c x d false f r at = some_one (node_at w c) x d (r ∙ ap (λ h. if h then None else Some x) f) at

  itself : (c : ℕ) (d : Seen) → c ≡ id → node_at w c ≡ Some d → IsSome (marked_at w c)
      → (d.node.asks ≡ true) ⊎ (asks_by g d.node.shape ≡ true) → IsBound mode last (chain_kept d.node)
  itself c d same at marked asked =
      let is : now ≡ d = some_one (node_at w c) now d (ap (node_at w) same ∙ there) at in
      let by : asks_by g e.node.shape ≡ true = elim asked [
        | inl a ↦ asks (ap (λ (k : Seen). k.node.asks) is ∙ a)
        | inr a ↦ sym (ap (asks_by g) shape) ∙ (ap (λ (k : Seen). asks_by g k.node.shape) is ∙ a)
      ] in
      subst (λ (k : Seen). IsBound mode last (chain_kept k.node)) is (subst (IsBound mode last) (sym chain)
      (up id e here (subst (λ k. IsSome (marked_at v k)) same (still_marked c marked)) inner (inr by)))

  pub turn_up_to : AskersAreUpTo mode last g w
  turn_up_to c d at marked solid asked = elim (nat_cases c id) [
    | inl same ↦ itself c d same at marked asked
    | inr other ↦ elim (option_cases (node_at v c)) [
      | inl none ↦
          let z : false ≡ true = ap is_some (sym (unmarked c none (ap is_some at))) ∙ still_marked c marked in
          absurd (cc)
      | inr p ↦
          let is = stays c p.0 d (gone c) refl (rest c p.0 other p.1) at in
          up c d (p.1 ∙ ap Some is) (still_marked c marked) solid asked
    ]
  ]
