-- Nodes that are put on an agenda for one thing of a list after the other.
use Rattle.std.proofs.Common.{◌≡◌, ◌<◌, ◌≤◌, ◌+◌, ℕ, zero, suc, List, [], ◌∷◌, length, sym, ap, ◌∙◌, subst, inl, inr, Some, arith}
use Rattle.std.specs.Prelude.{slice_get}
use Rattle.cga_fraction.proofs.Door.{None-not-Some, lt-length_from_slice_get as within, lt_or_eq_below_suc as below_or, same_Some}
use Rattle.cga_order.specs.World.{Among}
use Rattle.cga_order.proofs.Door.{Among-index}
use Rattle.cga_queue.specs.Agenda.{AgendaView, Chains, Grows, HasAll}
use Rattle.cga_queue.proofs.OnIt.{grows_by, grows_on}

pub among_from : {X : Type 0} (xs : List X) (j : ℕ) (x : X) → slice_get xs j ≡ Some x → Among x xs
among_from [] j x h = None-not-Some x h
among_from (y ∷ xs) zero x h = inl (same_Some y x h)
among_from (y ∷ xs) (suc j) x h = inr (among_from xs j x h)

-- the node is one that is told of one of the things
abbrev pub OfOne : {X : Type 0} → (X → ℕ → Type 0) → List X → ℕ → Type 0
OfOne {X} P xs c = (x : X) × Among x xs × P x c

-- what was on it of such nodes is on it when it grows
pub all_kept : (D : Chains) (P Q : ℕ → Type 0) (a b : AgendaView) → Grows D Q a b → HasAll D P a → HasAll D P b
all_kept D P Q a b g has c p here = g.kept c (has c p here)

-- P tells the nodes of a thing
module _ {X : Type 0} (D : Chains) (P : X → ℕ → Type 0) (xs : List X) where
  -- the nodes of the first n are on it
  abbrev pub HasFirst : ℕ → AgendaView → Type 0
  HasFirst n a = (j : ℕ) (x : X) → j < n → slice_get xs j ≡ Some x → HasAll D (P x) a

  module _ (n : ℕ) (x : X) (a b : AgendaView) (at : slice_get xs n ≡ Some x) (more : Grows D (P x) a b) where
    -- what grew by nodes of the list has, with those of one of its things more
    pub one_grows : (first : AgendaView) → Grows D (OfOne P xs) first a → Grows D (OfOne P xs) first b
    one_grows first g =
        grows_on D (OfOne P xs) first a b g (grows_by D (P x) (OfOne P xs) a b (λ c p. (x, among_from xs n x at, p)) more)

    -- with the nodes of the next thing on it, those of one more are
    pub first_more : HasAll D (P x) b → HasFirst n a → HasFirst (n + 1) b
    first_more own has j y lt e = elim (below_or n j lt) [
      | inl l ↦ all_kept D (P y) (P x) a b more (has j y l e)
      | inr s ↦ subst (λ z. HasAll D (P z) b) (same_Some x y (sym at ∙ (ap (slice_get xs) (sym s) ∙ e))) own
    ]

  -- where the nodes of as many things as the list has are on it, all of its nodes are
  pub first_all : (n : ℕ) (a : AgendaView) → length xs ≤ n → HasFirst n a → HasAll D (OfOne P xs) a
  first_all n a whole has c p here =
      let w = Among-index xs p.0 p.1 in
      let below = within xs w.0 p.0 w.1 in has w.0 p.0 (omega (arith, below, whole)) w.1 c p.2 here
