-- The ranges of what is found.
use Rattle.std.specs.Prelude.{◌≡◌, ℕ, Some, pos}
use Rattle.clap.specs.Words.{Text, one_text}
use Rattle.clap.specs.Lexer.{without_minus}
use Rattle.clap.specs.Values.{IsSignedIn}
use Rattle.clap.specs.declared.parser.matches.Found.{Found}

-- what is found for the option writes a number between two
abbrev pub IsFoundIn : Text → ℕ → ℕ → Found → Type 0
IsFoundIn id low high f = (t : Text) → one_text f id ≡ Some t → (u : Text) × (t ≡ without_minus u) × IsSignedIn (pos low) (pos high) u
