-- Former sources that lines write.
use Rattle.std.proofs.Common.{◌≡◌, ◌∙◌, ℕ, zero, suc, ◌-◌, List, [], ◌∷◌, ◌++◌, length, take, drop, Bool, true, false, Option, Some, None, Result, ap, subst}
use Rattle.std.specs.Prelude.{All, slice_get, nat_lt, if◌then◌else◌}
use Rattle.std.proofs.lemmas.List.Elements.{All-nil, All-cons, All-append, All-take, All-drop, All-head, All-tail}
use Rattle.cga_shape.specs.declared.sources.Sources.{Sources}
use Rattle.cga_undo.specs.History.{Kept, Step, latest, undone, redone, turned, turned_step, back_to, StepGives}
use Rattle.cga_top.specs.Written.{AreWritten}

one : (s : Sources) → AreWritten s → All AreWritten (s ∷ [])
one s w = All-cons AreWritten s [] w (All-nil AreWritten)

trimmed : (b : Bool) (list : List Sources) → All AreWritten list → All AreWritten (if b then drop 1 list else list)
trimmed true list ws = All-drop AreWritten 1 list ws
trimmed false list ws = ws

pub noted_written : (past : List Sources) (before : Sources) → All AreWritten past → AreWritten before
    → All AreWritten (latest (past ++ before ∷ []))
noted_written past before ws w = trimmed (nat_lt 16 (length (past ++ before ∷ []))) (past ++ before ∷ []) (All-append AreWritten past (before ∷ []) ws (one before w))

pub more_written : (list : List Sources) (s : Sources) → All AreWritten list → AreWritten s
    → All AreWritten (list ++ s ∷ [])
more_written list s ws w = All-append AreWritten list (s ∷ []) ws (one s w)

pub fewer_written : (n : ℕ) (list : List Sources) → All AreWritten list → All AreWritten (take n list)
fewer_written n list ws = All-take AreWritten n list ws

pub one_written : (list : List Sources) (i : ℕ) (s : Sources) → slice_get list i ≡ Some s → All AreWritten list
    → AreWritten s
one_written [] i s e ws = absurd (let bad : None ≡ Some s = e in cc)
one_written (x ∷ xs) zero s e ws = let same : x ≡ s = cc in subst AreWritten same (All-head AreWritten x xs ws)
one_written (x ∷ xs) (suc i) s e ws = one_written xs i s e (All-tail AreWritten x xs ws)

-- ---- steps

-- what an undo leaves
abbrev pub left_by : Kept → Sources → Kept
left_by kept now = record { past = take (length kept.past - 1) kept.past; future = kept.future ++ now ∷ [] }

pub undone_some : (kept : Kept) (now last : Sources) → slice_get kept.past (length kept.past - 1) ≡ Some last
    → undone kept now ≡ Some (record { taken = last; left = left_by kept now })
unfolding undone
undone_some kept now last e = ap (back_to kept now) e

pub undone_none : (kept : Kept) (now : Sources) → slice_get kept.past (length kept.past - 1) ≡ None
    → undone kept now ≡ None
unfolding undone
undone_none kept now e = ap (back_to kept now) e

pub redone_some : (kept : Kept) (now last : Sources) → slice_get kept.future (length kept.future - 1) ≡ Some last
    → redone kept now ≡ Some (record { taken = last; left = turned (left_by (turned kept) now) })
redone_some kept now last e = ap turned_step (undone_some (turned kept) now last e)

pub redone_none : (kept : Kept) (now : Sources) → slice_get kept.future (length kept.future - 1) ≡ None
    → redone kept now ≡ None
redone_none kept now e = ap turned_step (undone_none (turned kept) now e)

-- what was kept after a step that takes some sources
pub kept_after : (step : Option Step) (some : Step) (old : Kept) (now : Sources) (result : Result Sources Sources)
    (new : Kept)
    → step ≡ Some some → StepGives step old now result new → new ≡ some.left
kept_after (Some s) some old now result new e g = let same : s ≡ some = cc in g.1 ∙ ap (λ (x : Step). x.left) same
kept_after None some old now result new e g = absurd (let bad : None ≡ Some some = e in cc)
