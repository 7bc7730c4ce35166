-- The command before its options.
use Rattle.std.proofs.Common.{◌≡◌, ◌∙◌, ap, ap₂, sym, subst, true, List, [], Result, Ok, Err}
use Rattle.std.specs.Prelude.{IfOk, IfErr}
use Rattle.clap.specs.Words.{App, Text, Kinds, FailsBy, HasKind, HasMatchesOf, app_of, new_app, is_simple, fault_of, matches_of, rows_of, found_of}
use Rattle.clap.specs.declared.error.Error.{Error}
use Rattle.clap.specs.declared.parser.matches.ArgMatches.{ArgMatches}
use Rattle.clap.specs.declared.builder.command.Command.TheViews.{out-Command as fields_of}
use Rattle.clap.specs.Simple.{on_top, app_of_fields, Shape}
use Rattle.clap.specs.declared.builder.command.Command.{Command}
use Rattle.clap.specs.declared.builder.command.Command.TheOpen.{Command-F}
use Rattle.cga_words.specs.Words.{app_named}

pub bare_of : (name : Text) (a b c : Command) → fields_of b ≡ record (fields_of a) { disable_help_flag = true }
    → fields_of c ≡ record (fields_of b) { disable_version_flag = true } → app_of a ≡ new_app name
    → app_of c ≡ app_named name
bare_of name a b c e f n =
    ap app_of_fields (f ∙ ap (λ (x : Command-F Command). record x { disable_version_flag = true }) e)
    ∙ ap (on_top (λ (s : Shape). record s { disable_help_flag = true; disable_version_flag = true })) n

-- an error has one of the kinds
pub kinds_of_err : {T : Type 0} (some kinds : Kinds) (r : Result T Error) → some ≡ kinds → FailsBy some r
    → IfErr r (λ e. HasKind kinds e)
kinds_of_err {T} some kinds (Ok x) same h = tt
kinds_of_err {T} some kinds (Err e) same h = subst (λ (k : Kinds). HasKind k e) same h

-- what holds of what is found gives more of it
pub if_ok : {T E : Type 0} {P Q : T → Type 0} (r : Result T E) → IfOk r P → ((m : T) → P m → Q m) → IfOk r Q
if_ok (Ok m) h f = f m h
if_ok (Err e) h f = tt

-- where there is none, there is no kind, and the matches are those of the words
pub matches_of_ok : (a b : App) (words texts : List Text) (r : Result ArgMatches Error) → a ≡ b → words ≡ texts
    → is_simple b ≡ true → FailsBy (fault_of a words) r → IfOk r (λ m. HasMatchesOf a words m)
    → IfOk r (λ m. (fault_of b texts ≡ []) × (rows_of (found_of m) ≡ matches_of b texts))
matches_of_ok a b words texts (Err e) p q s h k = tt
matches_of_ok a b words texts (Ok m) p q s h k = (ap₂ fault_of (sym p) (sym q) ∙ h, (k (ap is_simple p ∙ s)).0 ∙ ap₂ matches_of p q)
