-- What all lines of a script do, and what is told of its first bytes.
use Rattle.std.proofs.Common.{◌≡◌, ◌∙◌, ℕ, ◌+◌, List, [], ◌∷◌, ◌++◌, take, drop, Option, Some, None, refl, sym, ap, subst, append_assoc}
use Rattle.std.proofs.lemmas.List.{take-append-drop}
use Rattle.std.specs.Prelude.{IfSome}
use Rattle.std.specs.Io.KnownBytes.{Appends, Consumes}
use Rattle.cga_script.proofs.Door.{last_kept, lines_append, nothing_kept}
use Rattle.cga_script.specs.Lines.{Line, clipped, cut, lines_of}
use Rattle.cga_script.specs.Pending.{Pending, kept_of, ready_line}
use Rattle.cga_script.specs.declared.ending.Ending.TheVariants.{End}
use Rattle.cga_top.specs.Effect.{Effect, HasSpent, followed_by}
use Rattle.cga_top.specs.Lived.{Begun, Finished, Lived, Unfinished, behind_all}
use Rattle.cga_top.specs.Output.{effect_of_all, effect_of_script, last_line, output_of}
use Rattle.cga_top.specs.Prefixes.{AppendsSome}
use Rattle.cga_top.specs.Reads.{limit}
use Rattle.cga_top.specs.Replies.{at_end}
use Rattle.cga_top.specs.State.{State, start}
use Rattle.cga_top.specs.Talks.{SaysAll, SaysSome}
use Rattle.cga_top.specs.Turns.{Talk, LineChanges, all_lines, end_of, last_of, text_by}
use Rattle.cga_top.specs.declared.session.Session.{Session}
use Rattle.cga_top.proofs.Effects.{all_append, all_none, followed_assoc, some_after, some_more, spent_more}
use Rattle.cga_top.proofs.Known.{appends_more}
use Rattle.cga_top.proofs.Lived.{begun_rest, both_and_left, both_changed, both_lines, both_text, line_effect}

-- ---- the last line

pub line_at_end : (rest : List ℕ) (p : Pending) (kept : List ℕ) → p ≡ record { kept = kept; ending = End }
    → kept ≡ kept_of rest → (kept ≡ [] → ⊥) → ready_line p ∷ [] ≡ last_of rest
line_at_end [] p kept e k some = absurd (some k)
line_at_end (byte ∷ bytes) p kept e k some = ap (λ (l : Line). l ∷ []) (ap ready_line e ∙ ap clipped k ∙ last_kept (byte ∷ bytes))

pub no_line_at_end : (rest kept : List ℕ) → kept ≡ kept_of rest → kept ≡ [] → last_of rest ≡ []
no_line_at_end [] kept k none = refl
no_line_at_end (byte ∷ bytes) kept k none = absurd (nothing_kept byte bytes (sym k ∙ none))

-- ---- all lines of a script

last_is : (s : State) (rest : List ℕ) → last_line s rest ≡ effect_of_all s (last_of rest)
last_is s [] = sym (all_none s)
last_is s (byte ∷ bytes) = sym (line_effect s (clipped (byte ∷ bytes)))

-- what all lines do, and then the end
whole_effect : ℕ → List ℕ → Effect
whole_effect d bytes = let e = effect_of_all (start d) (all_lines bytes) in followed_by e (at_end e.state)

script_is : (d : ℕ) (bytes : List ℕ) → effect_of_script d bytes ≡ whole_effect d bytes
unfolding whole_effect
script_is d bytes =
    let s : State = start d in
    let first : Effect = effect_of_all s (lines_of bytes) in
    let rest : List ℕ = (cut bytes).rest in
    let last : Effect = effect_of_all first.state (last_of rest) in
    ap (λ (t : Effect). followed_by first (followed_by t (at_end t.state))) (last_is first.state rest)
    ∙ sym (followed_assoc first last (at_end last.state))
    ∙ ap (λ (t : Effect). followed_by t (at_end t.state)) (sym (all_append s (lines_of bytes) (last_of rest)))

-- the replies alone are the output
pub output_is : (d : ℕ) (bytes : List ℕ)
    → (effect_of_all (start d) (all_lines bytes)).reply ++ end_of d bytes ≡ output_of d bytes
unfolding output_of whole_effect
output_is d bytes = ap (λ (t : Effect). t.reply) (sym (script_is d bytes))

spent_all : (d : ℕ) (bytes : List ℕ) (i j : ℕ) → HasSpent (effect_of_all (start d) (all_lines bytes)).works i j
    → HasSpent (effect_of_script d bytes).works i j
unfolding whole_effect
spent_all d bytes i j h =
    let e : Effect = effect_of_all (start d) (all_lines bytes) in
    subst (λ (t : Effect). HasSpent t.works i j) (sym (script_is d bytes)) (spent_more e.works (at_end e.state).works i j j h refl)

-- the lines of a script begin with those of its first bytes
first_lines : (x y : List ℕ) → (more : List Line) × (all_lines (x ++ y) ≡ lines_of x ++ more)
first_lines x y =
    let later : List Line = lines_of (kept_of (cut x).rest ++ y) in
    let last : List Line = last_of (cut (x ++ y)).rest in
    (later ++ last, ap (λ (l : List Line). l ++ last) (lines_append x y) ∙ append_assoc (lines_of x) later last)

-- the state of all lines
abbrev pub last_state : ℕ → List ℕ → State
last_state d bytes = (effect_of_all (effect_of_all (start d) (lines_of bytes)).state (last_of (cut bytes).rest)).state

pub state_is : (d : ℕ) (bytes : List ℕ) → last_state d bytes ≡ (effect_of_script d bytes).state
unfolding whole_effect
state_is d bytes =
    ap (λ (t : Effect). t.state) (sym (all_append (start d) (lines_of bytes) (last_of (cut bytes).rest)))
    ∙ ap (λ (t : Effect). t.state) (sym (script_is d bytes))

-- ---- what was told

-- the lines that an LF ends and the last one, and the end
module _ (told : Talk) (d : ℕ) (bytes : List ℕ) where
  abbrev lines : List Line
  lines = lines_of bytes

  abbrev rest : List Line
  rest = last_of (cut bytes).rest

  abbrev mid_state : State
  mid_state = (effect_of_all (start d) lines).state

  end_is : (at_end (effect_of_all mid_state rest).state).reply ≡ end_of d bytes
  end_is = ap (λ (t : Effect). (at_end t.state).reply) (sym (all_append (start d) lines rest))

  -- all of it
  pub says_all : (session next : Session) (a b c : Option (List ℕ)) (i j k : ℕ)
      → Lived told (start d) lines session a b i j → Finished told mid_state rest next b c j k
      → SaysAll told d bytes a c × HasSpent (effect_of_script d bytes).works i k
  says_all session next a b c i j k p q =
      let turns : List LineChanges = p.turns ++ q.turns in
      let end : List ℕ = (at_end (effect_of_all mid_state rest).state).reply in
      let first : List ℕ = text_by told (start d) p.turns in
      let second : List ℕ = text_by told mid_state q.turns in
      let same : first ++ (second ++ end) ≡ text_by told (start d) turns ++ end_of d bytes =
      sym (append_assoc first second end)
      ∙ ap (λ (t : List ℕ). t ++ end) (both_text told (start d) lines rest p.turns q.turns p.lines_are)
      ∙ ap (λ (t : List ℕ). text_by told (start d) turns ++ t) end_is in
      let e : Effect = effect_of_all (start d) lines in
      let f : Effect = effect_of_all mid_state rest in
      let spent : HasSpent (effect_of_all (start d) (all_lines bytes)).works i k =
      subst (λ (t : Effect). HasSpent t.works i k) (sym (all_append (start d) lines rest)) (spent_more e.works f.works i j k p.spent q.spent) in
      let says : SaysAll told d bytes a c = record {
        turns = turns;
        lines = both_lines told (start d) lines rest p.turns q.turns p.lines_are q.lines_are;
        changed = both_changed told (start d) lines rest p.turns q.turns p.lines_are p.changed q.changed;
        written = subst (Appends a c) same (appends_more a b c first (second ++ end) p.written q.written);
      } in
      (says, spent_all d bytes i k spent)

  -- some of it
  pub says_some : (session : Session) (a b c : Option (List ℕ)) (i j : ℕ)
      → Lived told (start d) lines session a b i j → Unfinished told mid_state rest b c → SaysSome told d bytes a c
  says_some session a b c i j p q =
      let turns : List LineChanges = p.turns ++ q.turns in
      let end : List ℕ = (at_end (effect_of_all mid_state rest).state).reply in
      let first : List ℕ = text_by told (start d) p.turns in
      let second : List ℕ = text_by told mid_state q.turns in
      let same : first ++ (second ++ behind_all q.left end) ≡ text_by told (start d) turns ++ behind_all q.left (end_of d bytes) =
      sym (append_assoc first second (behind_all q.left end)) ∙ ap (λ (t : List ℕ). t ++ behind_all q.left end) (both_text told (start d) lines rest p.turns q.turns p.lines_are)
      ∙ ap (λ (t : List ℕ). text_by told (start d) turns ++ behind_all q.left t) end_is in
      record {
        turns = turns;
        left = q.left;
        lines = both_and_left told (start d) lines rest p.turns q.turns p.lines_are q.left q.lines_are;
        changed = both_changed told (start d) lines rest p.turns q.turns p.lines_are p.changed q.changed;
        written = subst (AppendsSome a c) same (some_after a b c first (second ++ behind_all q.left end) p.written q.written);
      }

-- some of what is told of the first bytes
pub says_first : (told : Talk) (d : ℕ) (bytes x y : List ℕ) (a c : Option (List ℕ)) → bytes ≡ x ++ y
    → Begun told (start d) (lines_of x) a c → SaysSome told d bytes a c
says_first told d bytes x y a c e p =
    let more = first_lines x y in
    let b : Begun told (start d) (lines_of x ++ more.0) a c = begun_rest told (start d) (lines_of x) more.0 a c p in
    record {
      turns = b.turns;
      left = b.left;
      lines = b.lines_are ∙ sym more.1 ∙ ap all_lines (sym e);
      changed = b.changed;
      written = some_more a c (text_by told (start d) b.turns) (behind_all b.left (end_of d bytes)) b.written;
    }

pub says_known : (told : Talk) (d : ℕ) (script left : Option (List ℕ)) (read : List ℕ) (a c : Option (List ℕ))
    → Consumes script left read → Begun told (start d) (lines_of (take limit read)) a c
    → IfSome script (λ bytes. SaysSome told d bytes a c)
says_known told d None left read a c taken p = tt
says_known told d (Some bytes) None read a c taken p = absurd taken
says_known told d (Some bytes) (Some later) read a c taken p =
    says_first told d bytes (take limit read) (drop limit read ++ later) a c
    (taken ∙ ap (λ (r : List ℕ). r ++ later) (sym (take-append-drop limit read)) ∙ append_assoc (take limit read) (drop limit read) later) p

-- likewise of what is told of what was read
pub says_read : (told : Talk) (d : ℕ) (read : List ℕ) (a c : Option (List ℕ))
    → Begun told (start d) (lines_of (take limit read)) a c → SaysSome told d read a c
says_read told d read a c p = says_first told d read (take limit read) (drop limit read) a c (sym (take-append-drop limit read)) p
