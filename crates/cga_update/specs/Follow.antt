-- What the agenda becomes after the turn of a node whose children were replaced.
use Rattle.std.specs.Prelude.{◌≡◌, ◌⊎◌, ℕ, Bool, true, false}
use Rattle.cga_word.specs.declared.mode.Mode.{Mode}
use Rattle.cga_forest.specs.declared.change.Change.{Change}
use Rattle.cga_forest.specs.Tree.{ForestView}
use Rattle.cga_queue.specs.Agenda.{AgendaView, ComesAfter, Grows, HasAll}
use Rattle.cga_queue.specs.Remembered.{AreOn, RememberedView}
use Rattle.cga_update.specs.Askers.{IsAsker, IsLasting, IsOneOf}
use Rattle.cga_update.specs.Queue.{chains_of}

-- what came is on it; and so is, unless nobody is looked for, each later one that was there at the mark, asks and meets
-- what went or came; and nothing else than came or comes later, beside what was on it
pub record IsFollowed (v : ForestView) (of : ℕ) (change : Change) (nobody : Bool) (old new : AgendaView) : Type 0 where
  pub grows : Grows (chains_of v) (λ c. IsOneOf change.created c ⊎ ComesAfter (chains_of v) old.mode of c) old new
  pub created : HasAll (chains_of v) (IsOneOf change.created) new
  pub met_removed : nobody ≡ false
      → HasAll (chains_of v) (λ c. IsAsker v change.removed c × ComesAfter (chains_of v) old.mode of c) new
  pub met_created : nobody ≡ false
      → HasAll (chains_of v) (λ c. IsAsker v change.created c × ComesAfter (chains_of v) old.mode of c) new

-- each of the mark that asks and comes later than the node is on it
abbrev pub HasLaters : ForestView → ℕ → Mode → AgendaView → Type 0
HasLaters v of mode a = HasAll (chains_of v) (λ c. IsLasting v c × ComesAfter (chains_of v) mode of c) a

-- nothing else than comes later was put on it; and where all who ask are queued now and weren't, each of the mark is
pub record IsRested (v : ForestView) (of : ℕ) (before after : RememberedView) (was now : Bool) (old new : AgendaView) : Type 0 where
  pub grows : Grows (chains_of v) (ComesAfter (chains_of v) old.mode of) old new
  pub remembered : AreOn (chains_of v) before old → AreOn (chains_of v) after new
  pub all : AreOn (chains_of v) before old → now ≡ true → (was ≡ true) ⊎ HasLaters v of old.mode new
