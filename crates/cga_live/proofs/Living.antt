-- What a run comes to that tells the changes behind each reply.
use Rattle.std.proofs.Common.{◌≡◌, ◌∙◌, ℕ, List, [], ◌∷◌, ◌++◌, Option, refl, ap, subst}
use Rattle.std.specs.Prelude.{IfSome}
use Rattle.std.specs.Io.KnownBytes.{Appends}
use Rattle.cga_obj.specs.Delta.{delta_text_of}
use Rattle.cga_script.specs.Lines.{Line}
use Rattle.cga_top.proofs.Door.{known_more, none_means, of_left, output_is}
use Rattle.cga_top.specs.Outside.{Outside}
use Rattle.cga_top.specs.Output.{effect_of_all, output_of}
use Rattle.cga_top.specs.Replies.{effect}
use Rattle.cga_top.specs.State.{State, start}
use Rattle.cga_top.specs.Talks.{SaysAll, SaysSome, TalkMeans, TalksAll, TalksLines, TalksPrefix}
use Rattle.cga_top.specs.Turns.{HaveChanged, LineChanges, end_of}
use Rattle.cga_words.specs.declared.status.Status.{Status}
use Rattle.cga_words.specs.declared.status.Status.TheVariants.{Done, NoMemory, ReadFault, TooLong, Usage, WriteFault}
use Rattle.cga_live.proofs.Balanced.{IsUnbegun, line_balances, start_unbegun, still_unbegun}
use Rattle.cga_live.proofs.Turns.{follows, replies_all}
use Rattle.cga_live.specs.Live.{AreTold, IsLiveOf, replies_of, text_of}
use Rattle.cga_live.specs.Means.{LiveMeans, TellsAll, TellsLines, TellsPrefix, TellsSome}

told_all : (s : State) → IsUnbegun s → (turns : List LineChanges) → HaveChanged s turns → AreTold s turns
told_all s un [] p = tt
told_all s un (turn ∷ turns) p = (
  record { changed = p.0; balance = line_balances s turn.line un turn.changes p.0 },
  told_all (effect s turn.line).state (still_unbegun s turn.line un) turns p.1,
)

told_start : (d : ℕ) (turns : List LineChanges) → HaveChanged (start d) turns → AreTold (start d) turns
told_start d turns p = told_all (start d) (start_unbegun d) turns p

live_of : (d : ℕ) (bytes : List ℕ) (a c : Option (List ℕ)) → SaysAll delta_text_of d bytes a c
    → (text : List ℕ) × IsLiveOf d bytes text × Appends a c text
live_of d bytes a c p =
    let told : AreTold (start d) p.turns = told_start d p.turns p.changed in
    let output : replies_of (start d) p.turns ++ end_of d bytes ≡ output_of d bytes =
    ap (λ (r : List ℕ). r ++ end_of d bytes) (replies_all (start d) p.turns ∙ ap (λ (l : List Line). (effect_of_all (start d) l).reply) p.lines) ∙ output_is d bytes in
    let text : List ℕ = text_of (start d) p.turns ++ end_of d bytes in
    let live : IsLiveOf d bytes text = record { turns = p.turns; lines = p.lines; told = told; whole = refl; output = output; follows = follows d p.turns told } in
    (text, live, p.written)

tells_all : (d : ℕ) (bytes : List ℕ) (old new : Outside) → TalksAll delta_text_of d bytes old new
    → TellsAll d bytes old new
tells_all d bytes old new p =
    let live = live_of d bytes old.held new.held p.says in
    record { few = p.few; text = live.0; live = live.1; written = live.2; spent = p.spent }

tells_some : (d : ℕ) (bytes : List ℕ) (old new : Outside) → SaysSome delta_text_of d bytes old.held new.held
    → TellsSome d bytes old new
tells_some d bytes old new p = record { turns = p.turns; left = p.left; lines = p.lines; told = told_start d p.turns p.changed; written = p.written }

tells_lines : (d : ℕ) (read : List ℕ) (old new : Outside) → TalksLines delta_text_of d read old new
    → TellsLines d read old new
tells_lines d read old new p = record {
  gave = p.gave;
  turns = p.turns;
  lines = p.lines;
  told = told_start d p.turns p.changed;
  written = p.written;
  spent = p.spent;
}

tells_prefix : (d : ℕ) (old new : Outside) → TalksPrefix delta_text_of d old new → TellsPrefix d old new
tells_prefix d old new p = record {
  read = p.read;
  gave = p.gave;
  begins = tells_some d p.read old new p.begins;
  of_all = known_more (λ bytes. SaysSome delta_text_of d bytes old.held new.held) (λ bytes. TellsSome d bytes old new) old.left p.of_all
      (λ bytes some. tells_some d bytes old new some);
}

pub live_means : (d : ℕ) (status : Status) (old new : Outside) → TalkMeans delta_text_of d status old new
    → LiveMeans d status old new
live_means d Done old new m = (m.0, m.1, m.2, (m.3.0, m.3.1, m.3.2, tells_all d m.3.0 old new m.3.3))
live_means d ReadFault old new m = (m.0, m.1, m.2, (m.3.0, m.3.1, tells_lines d m.3.0 old new m.3.2))
live_means d WriteFault old new m = (m.0, tells_prefix d old new m.1)
live_means d TooLong old new m = (m.0, m.1, (m.2.0, m.2.1, m.2.2, tells_lines d m.2.0 old new m.2.3))
live_means d NoMemory old new m = (m.0, tells_prefix d old new m.1)
live_means d Usage old new m = m

-- nothing was begun, for want of memory
pub unbegun_means : (d : ℕ) (o : Outside) → LiveMeans d NoMemory o o
unbegun_means d o = live_means d NoMemory o o (none_means delta_text_of d o)

-- ---- the headline

pub live_headline : (d : ℕ) (status : Status) (old new : Outside) → LiveMeans d status old new → status ≡ Done
    → IfSome old.left (λ bytes. (text : List ℕ) × IsLiveOf d bytes text × Appends old.held new.held text)
live_headline d status old new means done =
    let all = subst (λ (s : Status). LiveMeans d s old new) done means in
    of_left (λ bytes. (text : List ℕ) × IsLiveOf d bytes text × Appends old.held new.held text) old.left new.left
    all.3.0 all.3.1.taken all.3.2 (all.3.3.text, all.3.3.live, all.3.3.written)

-- likewise of what was given
pub live_given : (d : ℕ) (status : Status) (old new : Outside) → LiveMeans d status old new → status ≡ Done
    → (bytes : List ℕ) × (text : List ℕ) × (new.given ≡ old.given ++ bytes) × IsLiveOf d bytes text
    × Appends old.held new.held text
live_given d status old new means done =
    let all = subst (λ (s : Status). LiveMeans d s old new) done means in
    (all.3.0, all.3.3.text, all.3.1.given, all.3.3.live, all.3.3.written)
