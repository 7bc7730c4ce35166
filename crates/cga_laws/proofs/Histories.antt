-- Histories: what an edit, an undo and a redo leave to be taken back.
use Rattle.std.proofs.Common.{◌≡◌, ℕ, ◌-◌, List, [], ◌∷◌, ◌++◌, length, length-append, take, Bool, true, false, Option, Some, None, Result, Ok, Err, refl, sym, ap, subst, ◌∙◌, arith}
use Rattle.std.specs.Prelude.{drop, nat_lt, slice_get, if◌then◌else◌}
use Rattle.cga_script.specs.declared.refused.Refused.{Refused}
use Rattle.cga_script.specs.declared.version.Version.{Version}
use Rattle.cga_script.specs.declared.version.Version.TheVariants.{Two}
use Rattle.cga_shape.specs.declared.edit.Edit.TheVariants as edit
use Rattle.cga_shape.specs.declared.edit_refused.EditRefused.{EditRefused}
use Rattle.cga_shape.specs.declared.sources.Sources.{Sources}
use Rattle.cga_top.specs.Effect.{Work}
use Rattle.cga_top.specs.Replies.{applied, changed, noted_by, stepped}
use Rattle.cga_top.specs.Replies.{begun, touched_by}
use Rattle.cga_top.specs.State.{State}
use Rattle.cga_undo.specs.History.{Kept, Step, latest, noted, undone, redone, turned, turned_step, back_to}
use Rattle.cga_laws.specs.Restoring.{IsDone}

-- ---- histories

-- the sources that a step takes
abbrev pub Takes : Sources → Option Step → Type 0
Takes x o = (left : Kept) × (o ≡ Some (record { taken = x; left = left }))

at_end : (xs : List Sources) (x : Sources) → slice_get (xs ++ x ∷ []) (length xs) ≡ Some x
at_end [] x = refl
at_end (y ∷ xs) x = at_end xs x

last_of : (xs : List Sources) (x : Sources) → slice_get (xs ++ x ∷ []) (length (xs ++ x ∷ []) - 1) ≡ Some x
last_of xs x =
    let n : length (xs ++ x ∷ []) - 1 ≡ length xs = omega (arith, length-append xs (x ∷ [])) in
    ap (slice_get (xs ++ x ∷ [])) n ∙ at_end xs x

-- what was left last is taken
pub undone_last : (kept : Kept) (now : Sources) (xs : List Sources) (x : Sources) → kept.past ≡ xs ++ x ∷ []
    → Takes x (undone kept now)
unfolding undone
undone_last kept now xs x e =
    let k : slice_get kept.past (length kept.past - 1) ≡ Some x = ap (λ (p : List Sources). slice_get p (length p - 1)) e ∙ last_of xs x in
    (record { past = take (length kept.past - 1) kept.past; future = kept.future ++ now ∷ [] }, ap (back_to kept now) k)

trimmed_last : (b : Bool) (y : Sources) (ys : List Sources) (x : Sources)
    → (zs : List Sources) × ((if b then drop 1 (y ∷ (ys ++ x ∷ [])) else y ∷ (ys ++ x ∷ [])) ≡ zs ++ x ∷ [])
trimmed_last true y ys x = (ys, refl)
trimmed_last false y ys x = (y ∷ ys, refl)

latest_last : (xs : List Sources) (x : Sources) → (zs : List Sources) × (latest (xs ++ x ∷ []) ≡ zs ++ x ∷ [])
latest_last [] x = ([], refl)
latest_last (y ∷ ys) x = trimmed_last (nat_lt 16 (length (y ∷ (ys ++ x ∷ [])))) y ys x

noted_takes : (kept : Kept) (before now : Sources) → Takes before (undone (noted kept before) now)
noted_takes kept before now =
    let l = latest_last kept.past before in undone_last (noted kept before) now l.0 before l.1

pub by_version : (v : Version) (kept : Kept) (before now : Sources) → v ≡ Two
    → Takes before (undone (noted_by v kept before) now)
by_version v kept before now two =
    subst (λ w. Takes before (undone (noted_by w kept before) now)) (sym two) (noted_takes kept before now)

-- a redo leaves the current sources to be taken back, and an undo leaves them to be taken again
redo_left : (kept : Kept) (now : Sources) (o : Option Sources) (step : Step)
    → turned_step (back_to (turned kept) now o) ≡ Some step → step.left.past ≡ kept.past ++ now ∷ []
redo_left kept now None step e = absurd (cc)
redo_left kept now (Some last) step e =
    let q : record { taken = last; left = record { past = kept.past ++ now ∷ []; future = take (length kept.future - 1) kept.future } } ≡ step = cc in
    ap (λ (z : Step). z.left.past) (sym q)

pub redone_left : (kept : Kept) (now : Sources) (step : Step) → redone kept now ≡ Some step
    → step.left.past ≡ kept.past ++ now ∷ []
unfolding undone
redone_left kept now step e = redo_left kept now (slice_get kept.future (length kept.future - 1)) step e

undo_left : (kept : Kept) (now : Sources) (o : Option Sources) (step : Step) → back_to kept now o ≡ Some step
    → step.left.future ≡ kept.future ++ now ∷ []
undo_left kept now None step e = absurd (cc)
undo_left kept now (Some last) step e =
    let q : record { taken = last; left = record { past = take (length kept.past - 1) kept.past; future = kept.future ++ now ∷ [] } } ≡ step = cc in
    ap (λ (z : Step). z.left.future) (sym q)

pub undone_left : (kept : Kept) (now : Sources) (step : Step) → undone kept now ≡ Some step
    → step.left.future ≡ kept.future ++ now ∷ []
unfolding undone
undone_left kept now step e = undo_left kept now (slice_get kept.past (length kept.past - 1)) step e

pub redone_last : (kept : Kept) (now : Sources) (xs : List Sources) (x : Sources) → kept.future ≡ xs ++ x ∷ []
    → Takes x (redone kept now)
redone_last kept now xs x e =
    let l = undone_last (turned kept) now xs x e in (turned l.0, ap turned_step l.1)

-- ---- the state behind an edit

-- other sources, another history and another number
abbrev pub moved : State → Sources → Kept → ℕ → State
moved s new kept n = record s { fresh = false; sources = new; kept = kept; number = n }

-- a step, made of its history and its sources, takes back what was there
abbrev Stepping : Type 0
Stepping = Kept → Sources → Option Step

pub record LeadsBack (s u : State) (step : Stepping) : Type 0 where
  pub new : Sources
  pub kept : Kept
  pub number : ℕ
  pub is : u ≡ moved s new kept number
  pub takes : Takes s.sources (step kept new)

pub not_done : (works : List Work) → works ≡ [] → IsDone works → ⊥
not_done works e h = let bad : IsDone [] = subst IsDone e h in bad

module _ (s : State) (step : Stepping) where
  pub changed_leads : (kept : Kept) → ((new : Sources) → Takes s.sources (step kept new))
      → (made : Result Sources EditRefused)
      → IsDone (changed (begun s) kept made).works → LeadsBack s (changed (begun s) kept made).state step
  changed_leads kept takes (Ok new) h =
      record { new = new; kept = kept; number = touched_by (begun s) new; is = refl; takes = takes new }
  changed_leads kept takes (Err cause) h = absurd (let bad : false ≡ true = h in cc)

  pub stepped_leads : (none : Refused) (o : Option Step)
      → ((x : Step) → o ≡ Some x → (new : Sources) → Takes s.sources (step x.left new))
      → IsDone (stepped (begun s) none o).works → LeadsBack s (stepped (begun s) none o).state step
  stepped_leads none None takes h = absurd h
  stepped_leads none (Some x) takes h = changed_leads x.left (takes x refl) (applied (begun s) (edit.Whole x.taken)) h
