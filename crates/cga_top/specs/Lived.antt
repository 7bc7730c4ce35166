-- How far a run has come.
use Rattle.std.specs.Prelude.{◌≡◌, ℕ, List, [], ◌∷◌, ◌++◌, Option}
use Rattle.std.specs.Io.KnownBytes.{Appends}
use Rattle.cga_script.specs.Lines.{Line}
use Rattle.cga_top.specs.Changed.{no_changes}
use Rattle.cga_top.specs.Effect.{HasSpent}
use Rattle.cga_top.specs.Output.{effect_of_all}
use Rattle.cga_top.specs.Prefixes.{AppendsSome}
use Rattle.cga_top.specs.Replies.{at_end}
use Rattle.cga_top.specs.Session.{IsAt}
use Rattle.cga_top.specs.State.{State}
use Rattle.cga_top.specs.Turns.{HaveChanged, Talk, LineChanges, lines_in, text_by}
use Rattle.cga_top.specs.declared.session.Session.{Session}

-- the session has come to the state, and what lines changed is forgotten
pub record IsHere (s : State) (session : Session) : Type 0 where
  pub at : IsAt s session
  pub forgot : session.city.changes ≡ no_changes

-- lines were done: the session has come to their state, they were replied to and told, and their works expanded so much
pub record Lived (told : Talk) (s : State) (lines : List Line) (session : Session) (old new : Option (List ℕ)) (before after : ℕ) : Type 0 where
  pub turns : List LineChanges
  pub lines_are : lines_in turns ≡ lines
  pub changed : HaveChanged s turns
  pub here : IsHere (effect_of_all s lines).state session
  pub written : Appends old new (text_by told s turns)
  pub spent : HasSpent (effect_of_all s lines).works before after

-- the first of the lines were done, and some of what is told of them was written
pub record Begun (told : Talk) (s : State) (lines : List Line) (old new : Option (List ℕ)) : Type 0 where
  pub turns : List LineChanges
  pub left : List Line
  pub lines_are : lines_in turns ++ left ≡ lines
  pub changed : HaveChanged s turns
  pub written : AppendsSome old new (text_by told s turns)

-- some of the lines were done, and these are left
pub record Underway (told : Talk) (s : State) (all left : List Line) (session : Session) (old new : Option (List ℕ)) (before after : ℕ) : Type 0 where
  pub done : List Line
  pub lived : Lived told s done session old new before after
  pub both : done ++ left ≡ all

-- the last lines were done, and then the end
pub record Finished (told : Talk) (s : State) (lines : List Line) (session : Session) (old new : Option (List ℕ)) (before after : ℕ) : Type 0 where
  pub turns : List LineChanges
  pub lines_are : lines_in turns ≡ lines
  pub changed : HaveChanged s turns
  pub at : IsAt (effect_of_all s lines).state session
  pub written : Appends old new (text_by told s turns ++ (at_end (effect_of_all s lines).state).reply)
  pub spent : HasSpent (effect_of_all s lines).works before after

-- nothing while lines are left
abbrev pub behind_all : List Line → List ℕ → List ℕ
behind_all [] text = text
behind_all (line ∷ lines) text = []

-- some of what is told of them, and of the end, was written
pub record Unfinished (told : Talk) (s : State) (lines : List Line) (old new : Option (List ℕ)) : Type 0 where
  pub turns : List LineChanges
  pub left : List Line
  pub lines_are : lines_in turns ++ left ≡ lines
  pub changed : HaveChanged s turns
  pub written : AppendsSome old new
      (text_by told s turns ++ behind_all left (at_end (effect_of_all s lines).state).reply)
