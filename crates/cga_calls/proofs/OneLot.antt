-- What a worker over a town of one lot tells.
use Rattle.std.proofs.Common.{◌≡◌, ℕ, ◌+◌, Bool, true, false, refl, sym, subst, Some, None, length}
use Rattle.cga_agenda.specs.Work.{StandOnce}
use Rattle.cga_agenda.specs.Loop.{LoopState, Turns, IsIdle, TellsEach, Counts}
use Rattle.cga_agenda.specs.OneLot.{one_lot, state_when, means_one_lot}
use Rattle.cga_agenda.proofs.Door.{turn_from}

-- of its one turn, and then
pub turn_tells : (calls : ℕ) → TellsEach (means_one_lot false) (means_one_lot true) calls (calls + 1) (Some 0)
turn_tells calls edit before (e, b) = (
  state_when true,
  (e, refl),
  subst (λ x. Turns x before (state_when true) calls (calls + 1) 0) (sym e)
      (subst (λ x. Turns one_lot x (state_when true) calls (calls + 1) 0) (sym b) (turn_from calls)),
)

pub idle_tells : (calls : ℕ) → TellsEach (means_one_lot true) (means_one_lot true) calls calls None
idle_tells calls edit before (e, b) = (
  before,
  (e, b),
  subst (λ x. IsIdle x before before calls calls) (sym e)
      (subst (λ x. IsIdle one_lot x x calls calls) (sym b) (record { same = refl; none_queued = λ n k a h. refl; no_call = refl })),
)

pub one_stands : (done : Bool) → Counts (means_one_lot done) 1
one_stands done edit state (e, b) = subst (λ (x : LoopState ℕ ℕ ℕ ℕ). (1 ≡ length x.nodes) × StandOnce x.nodes) (sym b) (size done)
  where
    size : (done : Bool) → (1 ≡ length (state_when done).nodes) × StandOnce (state_when done).nodes
    size false = (refl, (λ i. i, tt))
    size true = (refl, (λ i. i, tt))
