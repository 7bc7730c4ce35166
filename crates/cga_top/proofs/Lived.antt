-- Lines that were done, one after another.
use Rattle.std.proofs.Common.{◌≡◌, ◌∙◌, ℕ, List, [], ◌∷◌, ◌++◌, Bool, true, Option, None, refl, sym, ap, subst, append_assoc}
use Rattle.std.proofs.lemmas.List.{append-nil}
use Rattle.std.specs.Io.KnownBytes.{Appends, Keeps}
use Rattle.cga_script.specs.Ends.{is_blank_line}
use Rattle.cga_script.specs.Lines.{Line}
use Rattle.cga_script.specs.Pending.{Pending, ready_line}
use Rattle.cga_shape.specs.declared.changes.Changes.{Changes}
use Rattle.cga_top.specs.Changed.{HasChanged, no_changes}
use Rattle.cga_top.specs.Effect.{Effect, HasSpent, followed_by, silent}
use Rattle.cga_top.specs.Lived.{Begun, Finished, IsHere, Lived, Underway, Unfinished, behind_all}
use Rattle.cga_top.specs.Output.{effect_of_all}
use Rattle.cga_top.specs.Prefixes.{AppendsSome}
use Rattle.cga_top.specs.Replies.{at_end, effect}
use Rattle.cga_top.specs.Session.{Did, IsAt, IsOpen}
use Rattle.cga_top.specs.State.{State}
use Rattle.cga_top.specs.Turns.{HaveChanged, Talk, LineChanges, after, lines_in, text_by}
use Rattle.cga_top.specs.declared.session.Session.{Session}
use Rattle.cga_top.proofs.Effects.{all_append, all_more, all_none, followed_silent, some_after, some_more, some_nothing, spent_more}
use Rattle.cga_top.proofs.Known.{appends_all, appends_more, appends_nothing}
use Rattle.cga_top.proofs.Outsides.{effect_blank, none_open}
use Rattle.cga_top.proofs.LineByLine.{changed_more, lines_both, text_more}

abbrev pub line_of : List ℕ → Bool → Line
line_of bytes long = record { bytes = bytes; long = long }

-- turns after turns
module _ (told : Talk) (s : State) (xs ys : List Line) (first second : List LineChanges) (are : lines_in first ≡ xs) where
  state_is : after s first ≡ (effect_of_all s xs).state
  state_is = ap (λ (lines : List Line). (effect_of_all s lines).state) are

  pub both_lines : lines_in second ≡ ys → lines_in (first ++ second) ≡ xs ++ ys
  both_lines then = lines_both first second ∙ ap (λ (l : List Line). l ++ lines_in second) are ∙ ap (λ (l : List Line). xs ++ l) then

  pub both_and_left : (left : List Line) → lines_in second ++ left ≡ ys → lines_in (first ++ second) ++ left ≡ xs ++ ys
  both_and_left left then =
      ap (λ (l : List Line). l ++ left) (lines_both first second ∙ ap (λ (l : List Line). l ++ lines_in second) are)
      ∙ append_assoc xs (lines_in second) left ∙ ap (λ (l : List Line). xs ++ l) then

  pub both_changed : HaveChanged s first → HaveChanged (effect_of_all s xs).state second
      → HaveChanged s (first ++ second)
  both_changed p q = changed_more s first second p (subst (λ (t : State). HaveChanged t second) (sym state_is) q)

  pub both_text : text_by told s first ++ text_by told (effect_of_all s xs).state second ≡ text_by told s
      (first ++ second)
  both_text = sym (text_more told s first second ∙ ap (λ (t : State). text_by told s first ++ text_by told t second) state_is)

pub lived_nothing : (told : Talk) (s : State) (session : Session) (a : Option (List ℕ)) (i : ℕ) → IsHere s session
    → Lived told s [] session a a i i
lived_nothing told s session a i here = record {
  turns = [];
  lines_are = refl;
  changed = tt;
  here = subst (λ (e : Effect). IsHere e.state session) (sym (all_none s)) here;
  written = appends_nothing a;
  spent = subst (λ (e : Effect). HasSpent e.works i i) (sym (all_none s)) refl;
}

pub lived_more : (told : Talk) (s : State) (xs ys : List Line) (old new : Session) (a b c : Option (List ℕ)) (i j k : ℕ)
    → Lived told s xs old a b i j → Lived told (effect_of_all s xs).state ys new b c j k
    → Lived told s (xs ++ ys) new a c i k
lived_more told s xs ys old new a b c i j k p q =
    let e : Effect = effect_of_all s xs in
    let f : Effect = effect_of_all e.state ys in
    record {
      turns = p.turns ++ q.turns;
      lines_are = both_lines told s xs ys p.turns q.turns p.lines_are q.lines_are;
      changed = both_changed told s xs ys p.turns q.turns p.lines_are p.changed q.changed;
      here = subst (λ (t : Effect). IsHere t.state new) (sym (all_append s xs ys)) q.here;
      written = subst (Appends a c) (both_text told s xs ys p.turns q.turns p.lines_are) (appends_more a b c (text_by told s p.turns) (text_by told e.state q.turns) p.written q.written);
      spent = subst (λ (t : Effect). HasSpent t.works i k) (sym (all_append s xs ys)) (spent_more e.works f.works i j k p.spent q.spent);
    }

-- ---- some of what is told

pub begun_none : (told : Talk) (s : State) (lines : List Line) (a : Option (List ℕ)) → Begun told s lines a a
begun_none told s lines a = record { turns = []; left = lines; lines_are = refl; changed = tt; written = some_nothing a [] }

pub begun_all : (told : Talk) (s : State) (lines : List Line) (session : Session) (a b c : Option (List ℕ)) (i j : ℕ)
    → Lived told s lines session a b i j → Keeps b c → Begun told s lines a c
begun_all told s lines session a b c i j p keeps = record {
  turns = p.turns;
  left = [];
  lines_are = append-nil (lines_in p.turns) ∙ p.lines_are;
  changed = p.changed;
  written = appends_all a b c (text_by told s p.turns) p.written keeps;
}

pub begun_rest : (told : Talk) (s : State) (xs ys : List Line) (a c : Option (List ℕ)) → Begun told s xs a c
    → Begun told s (xs ++ ys) a c
begun_rest told s xs ys a c p = record {
  turns = p.turns;
  left = p.left ++ ys;
  lines_are = sym (append_assoc (lines_in p.turns) p.left ys) ∙ ap (λ (l : List Line). l ++ ys) p.lines_are;
  changed = p.changed;
  written = p.written;
}

pub begun_more : (told : Talk) (s : State) (xs ys : List Line) (old : Session) (a b c : Option (List ℕ)) (i j : ℕ)
    → Lived told s xs old a b i j → Begun told (effect_of_all s xs).state ys b c → Begun told s (xs ++ ys) a c
begun_more told s xs ys old a b c i j p q = record {
  turns = p.turns ++ q.turns;
  left = q.left;
  lines_are = both_and_left told s xs ys p.turns q.turns p.lines_are q.left q.lines_are;
  changed = both_changed told s xs ys p.turns q.turns p.lines_are p.changed q.changed;
  written = subst (AppendsSome a c) (both_text told s xs ys p.turns q.turns p.lines_are)
      (some_after a b c (text_by told s p.turns) (text_by told (effect_of_all s xs).state q.turns) p.written q.written);
}

-- ---- one line

-- the line that is ready, by what is told of it
pub same_line : (p : Pending) (bytes : List ℕ) (long : Bool) → bytes ≡ (ready_line p).bytes
    → long ≡ (ready_line p).long → line_of bytes long ≡ ready_line p
same_line p bytes long b l = ap (λ (x : List ℕ). line_of x long) b ∙ ap (line_of (ready_line p).bytes) l

pub line_effect : (s : State) (line : Line) → effect_of_all s (line ∷ []) ≡ effect s line
line_effect s line = all_more s line [] ∙ ap (followed_by (effect s line)) (all_none (effect s line).state) ∙ followed_silent (effect s line)

module _ (told : Talk) (s : State) (line : Line) (old mid : Session) (reply : List ℕ) (i j : ℕ)
    (forgot : old.city.changes ≡ no_changes) (did : Did (effect s line) old.city.changes mid reply i j) where
  -- a line was done, and its reply and what it changed were written
  pub lived_line : (new : Session) (a b c : Option (List ℕ)) → Appends a b reply
      → Appends b c (told mid.city.changes) → IsAt (effect s line).state new → new.city.changes ≡ no_changes
      → Lived told s (line ∷ []) new a c i j
  lived_line new a b c first then at none =
      let changes : Changes = mid.city.changes in
      let text : List ℕ = (effect s line).reply ++ told changes in
      let has : HasChanged (effect s line).works changes = did.changed forgot in
      record {
        turns = record { line = line; changes = changes } ∷ [];
        lines_are = refl;
        changed = (has, tt);
        here = subst (λ (e : Effect). IsHere e.state new) (sym (line_effect s line)) (record { at = at; forgot = none });
        written = subst (Appends a c) (sym (append-nil text)) (appends_more a b c (effect s line).reply (told changes) (subst (Appends a b) did.reply first) then);
        spent = subst (λ (e : Effect). HasSpent e.works i j) (sym (line_effect s line)) did.spent;
      }

  -- some of it was written
  begun_text : (a c : Option (List ℕ)) → AppendsSome a c ((effect s line).reply ++ told mid.city.changes)
      → Begun told s (line ∷ []) a c
  begun_text a c some =
      let changes : Changes = mid.city.changes in
      let has : HasChanged (effect s line).works changes = did.changed forgot in
      record {
        turns = record { line = line; changes = changes } ∷ [];
        left = [];
        lines_are = refl;
        changed = (has, tt);
        written = subst (AppendsSome a c) (sym (append-nil ((effect s line).reply ++ told changes))) some;
      }

  pub begun_reply : (a c : Option (List ℕ)) → AppendsSome a c reply → Begun told s (line ∷ []) a c
  begun_reply a c some = begun_text a c (some_more a c (effect s line).reply (told mid.city.changes) (subst (AppendsSome a c) did.reply some))

  pub begun_change : (a b c : Option (List ℕ)) → Appends a b reply → AppendsSome b c (told mid.city.changes)
      → Begun told s (line ∷ []) a c
  begun_change a b c first some = begun_text a c (some_after a b c (effect s line).reply (told mid.city.changes) (subst (Appends a b) did.reply first) some)

-- a blank line outside of a block was passed over
pub lived_blank : (told : Talk) (s : State) (line : Line) (session : Session) (a : Option (List ℕ)) (i : ℕ)
    → told no_changes ≡ [] → IsHere s session → session.block ≡ None → is_blank_line line ≡ true
    → Lived told s (line ∷ []) session a a i i
lived_blank told s line session a i quiet here none blank =
    let closed = none_open s.block (subst (IsOpen s.block) none here.at.block) in
    let same : effect s line ≡ silent s = effect_blank s line closed blank in
    let all : effect_of_all s (line ∷ []) ≡ silent s = line_effect s line ∙ same in
    let empty : ((effect s line).reply ++ told no_changes) ++ [] ≡ [] =
    append-nil _ ∙ ap (λ (e : Effect). e.reply ++ told no_changes) same ∙ quiet in
    record {
      turns = record { line = line; changes = no_changes } ∷ [];
      lines_are = refl;
      changed = (subst (λ (e : Effect). HasChanged e.works no_changes) (sym same) refl, tt);
      here = subst (λ (e : Effect). IsHere e.state session) (sym all) here;
      written = subst (Appends a a) (sym empty) (appends_nothing a);
      spent = subst (λ (e : Effect). HasSpent e.works i i) (sym all) refl;
    }

-- ---- the lines of a piece

pub begins : (told : Talk) (s : State) (all : List Line) (session : Session) (a : Option (List ℕ)) (i : ℕ)
    → IsHere s session
    → Underway told s all all session a a i i
begins told s all session a i here = record { done = []; lived = lived_nothing told s session a i here; both = refl }

pub goes_on : (told : Talk) (s : State) (all left more : List Line) (session : Session) (a b : Option (List ℕ))
    (i j : ℕ)
    → left ≡ more → Underway told s all left session a b i j → Underway told s all more session a b i j
goes_on told s all left more session a b i j e p = subst (λ (l : List Line). Underway told s all l session a b i j) e p

module _ (told : Talk) (s : State) (all left more : List Line) (line : Line) (session : Session) (a b c : Option (List ℕ)) (i j : ℕ)
    (e : left ≡ line ∷ more) (p : Underway told s all left session a b i j) where
  so_far : (p.done ++ line ∷ []) ++ more ≡ all
  so_far = append_assoc p.done (line ∷ []) more ∙ ap (λ (l : List Line). p.done ++ l) (sym e) ∙ p.both

  pub one_more : (new : Session) (k : ℕ) → ((t : State) → IsHere t session → Lived told t (line ∷ []) new b c j k)
      → Underway told s all more new a c i k
  one_more new k each = record {
    done = p.done ++ line ∷ [];
    lived = lived_more told s p.done (line ∷ []) session new a b c i j k p.lived (each (effect_of_all s p.done).state p.lived.here);
    both = so_far;
  }

  pub one_begun : ((t : State) → IsHere t session → Begun told t (line ∷ []) b c) → Begun told s all a c
  one_begun each =
      subst (λ (l : List Line). Begun told s l a c) so_far
      (begun_rest told s (p.done ++ line ∷ []) more a c (begun_more told s p.done (line ∷ []) session a b c i j p.lived (each (effect_of_all s p.done).state p.lived.here)))

pub all_done : (told : Talk) (s : State) (all left : List Line) (session : Session) (a b : Option (List ℕ)) (i j : ℕ)
    → left ≡ []
    → Underway told s all left session a b i j → Lived told s all session a b i j
all_done told s all left session a b i j none p =
    subst (λ (l : List Line). Lived told s l session a b i j) (sym (append-nil p.done) ∙ ap (λ (l : List Line). p.done ++ l) (sym none) ∙ p.both) p.lived

-- ---- the end of a script

pub finished : (told : Talk) (s : State) (lines : List Line) (session : Session) (a b c : Option (List ℕ)) (i j : ℕ)
    → Lived told s lines session a b i j → ((t : State) → IsAt t session → Appends b c (at_end t).reply)
    → Finished told s lines session a c i j
finished told s lines session a b c i j p end = record {
  turns = p.turns;
  lines_are = p.lines_are;
  changed = p.changed;
  at = p.here.at;
  written = appends_more a b c (text_by told s p.turns) (at_end (effect_of_all s lines).state).reply p.written (end (effect_of_all s lines).state p.here.at);
  spent = p.spent;
}

pub unfinished_line : (told : Talk) (s : State) (lines : List Line) (a c : Option (List ℕ)) → Begun told s lines a c
    → Unfinished told s lines a c
unfinished_line told s lines a c p = record {
  turns = p.turns;
  left = p.left;
  lines_are = p.lines_are;
  changed = p.changed;
  written = some_more a c (text_by told s p.turns) (behind_all p.left (at_end (effect_of_all s lines).state).reply) p.written;
}

pub unfinished_end : (told : Talk) (s : State) (lines : List Line) (session : Session) (a b c : Option (List ℕ))
    (i j : ℕ)
    → Lived told s lines session a b i j → ((t : State) → IsAt t session → AppendsSome b c (at_end t).reply)
    → Unfinished told s lines a c
unfinished_end told s lines session a b c i j p end = record {
  turns = p.turns;
  left = [];
  lines_are = append-nil (lines_in p.turns) ∙ p.lines_are;
  changed = p.changed;
  written = some_after a b c (text_by told s p.turns) (at_end (effect_of_all s lines).state).reply p.written (end (effect_of_all s lines).state p.here.at);
}

-- all was written, and a flush keeps it
pub finished_some : (told : Talk) (s : State) (lines : List Line) (session : Session) (a b c : Option (List ℕ))
    (i j : ℕ) → Finished told s lines session a b i j → Keeps b c → Unfinished told s lines a c
finished_some told s lines session a b c i j p keeps = record {
  turns = p.turns;
  left = [];
  lines_are = append-nil (lines_in p.turns) ∙ p.lines_are;
  changed = p.changed;
  written = appends_all a b c (text_by told s p.turns ++ (at_end (effect_of_all s lines).state).reply) p.written keeps;
}
