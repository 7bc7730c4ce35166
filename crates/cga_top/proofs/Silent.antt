-- Where nothing is told, the replies alone are written.
use Rattle.std.proofs.Common.{◌≡◌, ◌∙◌, ℕ, List, [], ◌∷◌, ◌++◌, Option, Some, None, refl, sym, ap, subst, append_assoc}
use Rattle.std.proofs.lemmas.List.{append-nil}
use Rattle.std.specs.Prelude.{IfSome}
use Rattle.std.specs.Io.KnownBytes.{Appends}
use Rattle.cga_script.specs.Lines.{Line}
use Rattle.cga_words.specs.declared.status.Status.{Status}
use Rattle.cga_words.specs.declared.status.Status.TheVariants.{Done, Usage, ReadFault, WriteFault, TooLong, NoMemory}
use Rattle.cga_top.specs.Effect.{Effect}
use Rattle.cga_top.specs.Lived.{behind_all}
use Rattle.cga_top.specs.Outside.{Outside}
use Rattle.cga_top.specs.Output.{effect_of_all, output_of, replies_of}
use Rattle.cga_top.specs.Prefixes.{AppendsSome}
use Rattle.cga_top.specs.Replies.{effect}
use Rattle.cga_top.specs.State.{State, start}
use Rattle.cga_top.specs.Statuses.{StatusMeans, WritesPrefix, WritesReplies}
use Rattle.cga_top.specs.Talks.{SaysAll, SaysSome, TalkMeans, TalksLines, TalksPrefix}
use Rattle.cga_top.specs.Turns.{Talk, LineChanges, all_lines, end_of, lines_in, text_by}
use Rattle.cga_top.proofs.Effects.{all_append, all_more, all_none, some_more}
use Rattle.cga_top.proofs.Ends.{none_means}
use Rattle.cga_top.proofs.WholeScript.{output_is}

abbrev pub nothing_told : Talk
nothing_told = λ changes. []

replies_are : (s : State) (turns : List LineChanges)
    → text_by nothing_told s turns ≡ (effect_of_all s (lines_in turns)).reply
replies_are s [] = ap (λ (e : Effect). e.reply) (sym (all_none s))
replies_are s (x ∷ xs) =
    let reply : List ℕ = (effect s x.line).reply in
    let more : List ℕ = text_by nothing_told (effect s x.line).state xs in
    ap (λ (r : List ℕ). r ++ more) (append-nil reply)
    ∙ ap (λ (r : List ℕ). reply ++ r) (replies_are (effect s x.line).state xs)
    ∙ ap (λ (e : Effect). e.reply) (sym (all_more s x.line (lines_in xs)))

-- the replies to all lines, and to the end
all_replies : (d : ℕ) (bytes : List ℕ) (turns : List LineChanges) → lines_in turns ≡ all_lines bytes
    → text_by nothing_told (start d) turns ++ end_of d bytes ≡ output_of d bytes
all_replies d bytes turns are =
    ap (λ (r : List ℕ). r ++ end_of d bytes) (replies_are (start d) turns ∙ ap (λ (l : List Line). (effect_of_all (start d) l).reply) are)
    ∙ output_is d bytes

pub writes_all : (d : ℕ) (bytes : List ℕ) (a c : Option (List ℕ)) → SaysAll nothing_told d bytes a c
    → Appends a c (output_of d bytes)
writes_all d bytes a c p = subst (Appends a c) (all_replies d bytes p.turns p.lines) p.written

some_replies : (d : ℕ) (bytes : List ℕ) (a c : Option (List ℕ)) (turns : List LineChanges) (left : List Line)
    → lines_in turns ++ left ≡ all_lines bytes
    → AppendsSome a c (text_by nothing_told (start d) turns ++ behind_all left (end_of d bytes))
    → AppendsSome a c (output_of d bytes)
some_replies d bytes a c turns [] e some =
    subst (AppendsSome a c) (all_replies d bytes turns (sym (append-nil (lines_in turns)) ∙ e)) some
some_replies d bytes a c turns (line ∷ left) e some =
    let s : State = start d in
    let end : List ℕ = end_of d bytes in
    let first : Effect = effect_of_all s (lines_in turns) in
    let later : Effect = effect_of_all first.state (line ∷ left) in
    let whole : output_of d bytes ≡ first.reply ++ (later.reply ++ end) =
    sym (output_is d bytes) ∙ ap (λ (l : List Line). (effect_of_all s l).reply ++ end) (sym e)
    ∙ ap (λ (t : Effect). t.reply ++ end) (all_append s (lines_in turns) (line ∷ left)) ∙ append_assoc first.reply later.reply end in
    let begun : AppendsSome a c first.reply = subst (AppendsSome a c) (append-nil (text_by nothing_told s turns) ∙ replies_are s turns) some in
    subst (AppendsSome a c) (sym whole) (some_more a c first.reply (later.reply ++ end) begun)

pub writes_some : (d : ℕ) (bytes : List ℕ) (a c : Option (List ℕ)) → SaysSome nothing_told d bytes a c
    → AppendsSome a c (output_of d bytes)
writes_some d bytes a c p = some_replies d bytes a c p.turns p.left p.lines p.written

writes_lines : (d : ℕ) (read : List ℕ) (old new : Outside) → TalksLines nothing_told d read old new
    → WritesReplies d read old new
unfolding replies_of
writes_lines d read old new p = record {
  gave = p.gave;
  replies = subst (Appends old.held new.held) (replies_are (start d) p.turns ∙ ap (λ (l : List Line). (effect_of_all (start d) l).reply) p.lines) p.written;
  spent = p.spent;
}

pub known_more : (P Q : List ℕ → Type 0) (known : Option (List ℕ)) → IfSome known P
    → ((bytes : List ℕ) → P bytes → Q bytes) → IfSome known Q
known_more P Q None p each = tt
known_more P Q (Some bytes) p each = each bytes p

writes_prefix : (d : ℕ) (old new : Outside) → TalksPrefix nothing_told d old new → WritesPrefix d old new
writes_prefix d old new p = record {
  read = p.read;
  gave = p.gave;
  begins = writes_some d p.read old.held new.held p.begins;
  of_all = known_more (λ bytes. SaysSome nothing_told d bytes old.held new.held) (λ bytes. AppendsSome old.held new.held (output_of d bytes)) old.left p.of_all
      (λ bytes some. writes_some d bytes old.held new.held some);
}

pub status_means : (d : ℕ) (status : Status) (old new : Outside) → TalkMeans nothing_told d status old new
    → StatusMeans d status old new
status_means d Done old new m = (
  m.0,
  m.1,
  m.2,
  (
    m.3.0,
    m.3.1,
    m.3.2,
    record { few = m.3.3.few; output = writes_all d m.3.0 old.held new.held m.3.3.says; spent = m.3.3.spent },
  ),
)
status_means d ReadFault old new m = (m.0, m.1, m.2, (m.3.0, m.3.1, writes_lines d m.3.0 old new m.3.2))
status_means d WriteFault old new m = (m.0, writes_prefix d old new m.1)
status_means d TooLong old new m = (m.0, m.1, (m.2.0, m.2.1, m.2.2, writes_lines d m.2.0 old new m.2.3))
status_means d NoMemory old new m = (m.0, writes_prefix d old new m.1)
status_means d Usage old new m = m

-- nothing was begun, for want of memory
pub unbegun_means : (d : ℕ) (o : Outside) → StatusMeans d NoMemory o o
unbegun_means d o = status_means d NoMemory o o (none_means nothing_told d o)
