-- An example for the loop: a lot comes where there was none, and its root has no children.
use Rattle.std.specs.Prelude.{◌≡◌, ℕ, List, [], ◌∷◌, Bool, true, false, Ok}
use Rattle.cga_word.specs.declared.mode.Mode.TheVariants.{Breadth}
use Rattle.cga_order.specs.declared.placed.Kind.TheVariants.{Waiting, Done}
use Rattle.cga_agenda.specs.Edit.{Side, Edit}
use Rattle.cga_agenda.specs.Loop.{LoopState, Turns, IsIdle, IsReady}

-- a side with these roots, in which nothing is asked
abbrev pub side : List ℕ → Side ℕ ℕ ℕ ℕ ℕ
side roots = record {
  roots = roots;
  sees = λ n m. false;
  answers = λ n existing waiting. 0;
  setting = λ n. 0;
  expand = λ n a. Ok [];
}

-- from no lot to one
abbrev pub one_lot : Edit ℕ ℕ ℕ ℕ ℕ
one_lot = record {
  mode = Breadth;
  chain = λ n. record { lot = []; path = []; priorities = 0 ∷ [] };
  old = side [];
  new = side (0 ∷ []);
  renew = λ c. c;
}

-- the root waits on the agenda, and then it is done
abbrev pub state_when : Bool → LoopState ℕ ℕ ℕ ℕ
state_when false = record {
  nodes = record { shape = 0; kind = Waiting; answers = 0 } ∷ [];
  queued = λ n. true;
  gone = [];
  come = [];
}
state_when true = record {
  nodes = record { shape = 0; kind = Done; answers = 0 } ∷ [];
  queued = λ n. false;
  gone = [];
  come = [];
}

-- what a worker on it means, once it is done or before
abbrev pub means_one_lot : Bool → Edit ℕ ℕ ℕ ℕ ℕ → LoopState ℕ ℕ ℕ ℕ → Type 0
means_one_lot done edit state = (edit ≡ one_lot) × (state ≡ state_when done)

-- the loop may begin, has one turn, and is idle then
pub record ALotComes : Type 0 where
  pub ready : IsReady one_lot [] (state_when false) 1
  pub turn : Turns one_lot (state_when false) (state_when true) 0 1 0
  pub idle : IsIdle one_lot (state_when true) (state_when true) 1 1
