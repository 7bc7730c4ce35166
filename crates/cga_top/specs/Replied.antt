-- A line was done, and its reply was written.
use Rattle.std.specs.Prelude.{ℕ, List, Option}
use Rattle.std.specs.Io.KnownBytes.{Appends}
use Rattle.cga_shape.specs.declared.changes.Changes.{Changes}
use Rattle.cga_top.specs.Effect.{Effect}
use Rattle.cga_top.specs.Session.{Did}
use Rattle.cga_top.specs.declared.session.Session.{Session}

pub record Replied (e : Effect) (was : Changes) (session : Session) (old new : Option (List ℕ)) (before after : ℕ) : Type 0 where
  pub reply : List ℕ
  pub did : Did e was session reply before after
  pub written : Appends old new reply
