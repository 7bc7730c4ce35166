-- Roots that come and go, and the steps back.
use Rattle.std.proofs.Common.{◌≡◌, ℕ, zero, suc, ◌+◌, ◌-◌, ◌<◌, ◌≤◌, List, [], ◌∷◌, ◌++◌, length, take, swap, refl, sym, ap, subst, ◌∙◌, arith, Option, Some, None, slice_get}
use Rattle.std.specs.List.{position_or_len}
use Rattle.std.specs.List.Sorted.{IsPermutation}
use Rattle.std.specs.Prelude.{Result, Ok, IfOk, OnOk}
use Rattle.std.specs.Map.{lookup}
use Rattle.std.proofs.lemmas.List.{take-take, length-take-le}
use Rattle.std.proofs.lemmas.List.Edits.{length-swap}
use Rattle.std.proofs.lemmas.Option.{get_or_from_slice_get}
use Rattle.indexmap.specs.IndexMap.{insert_entry}
use Rattle.indexmap.specs.Layout.{length-set_value_at}
use Rattle.cga_marked.specs.declared.step.Step.{Step}
use Rattle.cga_marked.specs.declared.step.Step.TheVariants.{Created, Removed}
use Rattle.cga_marked.specs.Map.{KeepsPlaces, Named, Shelf, IsUndoable, AreUndoable, listed, names, ids, put_back, same_name, undo, undone}
use Rattle.cga_marked.proofs.Swaps.{swap_kept, swap_twice, take_brought, take_swap, brought_out}
use Rattle.cga_marked.proofs.Names.{IsPut, is_put, place_after, at_front, front_at}

-- ---- steps

pub undone_push : (xs : List Step) (x : Step) (s : Shelf) → undone (xs ++ x ∷ []) s ≡ undone xs (undo x s)
unfolding undone
undone_push [] x s = refl
undone_push (y ∷ xs) x s = ap (undo y) (undone_push xs x s)

pub undoable_push : (xs : List Step) (x : Step) (s : Shelf) → AreUndoable xs (undo x s) → IsUndoable x s
    → AreUndoable (xs ++ x ∷ []) s
unfolding AreUndoable undone
undoable_push [] x s a h = (h, tt)
undoable_push (y ∷ xs) x s a h = (subst (IsUndoable y) (sym (undone_push xs x s)) a.0, undoable_push xs x s a.1 h)

pub undoable_pop : (xs : List Step) (x : Step) (s : Shelf) → AreUndoable (xs ++ x ∷ []) s
    → IsUndoable x s × AreUndoable xs (undo x s)
unfolding AreUndoable undone
undoable_pop [] x s a = (a.0, tt)
undoable_pop (y ∷ xs) x s a = let w = undoable_pop xs x s a.1 in (w.0, (subst (IsUndoable y) (undone_push xs x s) a.0, w.1))

-- a step that is noted leads back to where its undoing leads
pub noted : (xs : List Step) (x : Step) (old new : Shelf) → undo x new ≡ old → undone (xs ++ x ∷ []) new ≡ undone xs old
noted xs x old new h = undone_push xs x new ∙ ap (undone xs) h

pub noted_ready : (xs : List Step) (x : Step) (old new : Shelf) → undo x new ≡ old → IsUndoable x new
    → AreUndoable xs old → AreUndoable (xs ++ x ∷ []) new
noted_ready xs x old new h can ready = undoable_push xs x new (subst (AreUndoable xs) (sym h) ready) can

-- the names that are there lie within the entries, also once a step is taken back
undo_within : (x : Step) (s : Shelf) → IsUndoable x s → (undo x s).shown ≤ length (undo x s).entries
undo_within (Created place None gap) s h =
    let m = length-swap s.entries gap (s.shown - 1) in
    let n = length-swap (swap s.entries gap (s.shown - 1)) (s.shown - 1) place in
    let l = length-take-le (length (swap (swap s.entries gap (s.shown - 1)) (s.shown - 1) place) - 1) (swap (swap s.entries gap (s.shown - 1)) (s.shown - 1) place) (omega arith) in
    let a = h.1 in let b = h.2 in omega (arith, m, n, l, a, b)
undo_within (Created place (Some id) gap) s h =
    let m = length-swap s.entries gap (s.shown - 1) in
    let n = length-swap (swap s.entries gap (s.shown - 1)) (s.shown - 1) place in
    let l = length-set_value_at (swap (swap s.entries gap (s.shown - 1)) (s.shown - 1) place) place id in
    let a = h.1 in let b = h.2 in omega (arith, m, n, l, a, b)
undo_within (Removed place) s h =
    let n = length-swap s.entries place s.shown in
    let b = h.1 in omega (arith, n, b)

pub undone_within : (xs : List Step) (s : Shelf) → s.shown ≤ length s.entries → AreUndoable xs s
    → (undone xs s).shown ≤ length (undone xs s).entries
unfolding AreUndoable undone
undone_within [] s w a = w
undone_within (x ∷ xs) s w a = undo_within x (undone xs s) a.0

-- from the old shelf to the new one, whose first steps are the old ones
pub record IsNoted (old new : Shelf) (steps more : List Step) : Type 0 where
  pub within : new.shown ≤ length new.entries
  pub ready : AreUndoable more new
  pub former : undone more new ≡ undone steps old

-- ---- a name comes

-- the name is not among those that are there, and put has the id under it: at its place it had the former id, or none
pub record Comes (s : Shelf) (put : Named) (name : List ℕ) (id place : ℕ) (former : Option ℕ) : Type 0 where
  pub stands : IsPut s.entries put name id place former
  pub within : s.shown ≤ length s.entries
  pub behind : s.shown ≤ place

pub comes : (s : Shelf) (put : Named) (name : List ℕ) (id place : ℕ) (former : Option ℕ)
    → put ≡ insert_entry same_name s.entries name id → place ≡ position_or_len (same_name name) (names s.entries)
    → former ≡ lookup (same_name name) s.entries → s.shown ≤ length s.entries
    → lookup (same_name name) (listed s) ≡ None → Comes s put name id place former
comes s put name id place former e i o within free = record {
  stands = rw (e, i, o) (is_put s.entries name id);
  within = within;
  behind = subst (λ k. s.shown ≤ k) (sym i) (place_after s.entries name s.shown within free);
}

module _ (s : Shelf) (put : Named) (name : List ℕ) (id place : ℕ) (former : Option ℕ) (c : Comes s put name id place former) (gap : ℕ) (low : gap ≤ s.shown) where
  abbrev brought : Named
  brought = swap put s.shown place

  abbrev filled : Named
  filled = swap brought gap s.shown

  abbrev pushed_shelf : Shelf
  pushed_shelf = record { entries = filled; shown = s.shown + 1 }

  long : s.shown < length brought
  long = let n = length-swap put s.shown place in let w = c.stands.within in let a = c.behind in omega (arith, n, w, a)

  push_listed : take (s.shown + 1) filled ≡ swap (listed s ++ (name, id) ∷ []) gap s.shown
  push_listed =
      take_swap brought (s.shown + 1) gap s.shown (name, id) (omega (arith, low)) (omega arith) (omega (arith, long))
      ∙ ap (λ l. swap l gap s.shown) (take_brought put s.shown place (name, id) c.behind c.stands.within
      (sym (get_or_from_slice_get put place (name, id) (name, id) c.stands.here)) ∙ ap (λ l. l ++ (name, id) ∷ []) (c.stands.front s.shown c.behind))

  push_undone : undo (Created place former gap) pushed_shelf ≡ s
  push_undone =
      let less : s.shown + 1 - 1 ≡ s.shown = omega arith in
      let w = c.stands.within in
      let same : put_back former place (swap (swap filled gap (s.shown + 1 - 1)) (s.shown + 1 - 1) place) ≡ s.entries =
      ap (λ k. put_back former place (swap (swap filled gap k) k place)) less ∙ ap (λ l. put_back former place (swap l s.shown place)) (swap_twice brought gap s.shown (omega (arith, low, long)) long)
      ∙ ap (put_back former place) (swap_twice put s.shown place (let a = c.behind in omega (arith, w, a)) w) ∙ c.stands.back in
      λ i. record { entries = same i; shown = less i }

  push_undoable : IsUndoable (Created place former gap) pushed_shelf
  push_undoable =
      let n = length-swap put s.shown place in
      let m = length-swap brought gap s.shown in
      let w = c.stands.within in
      let a = c.behind in
      (omega (arith, low), omega (arith, a), omega (arith, n, m, w), λ none. c.stands.last none ∙ sym n ∙ sym m)

  pub pushed : (steps : List Step) → AreUndoable steps s
      → IsNoted s pushed_shelf steps (steps ++ Created place former gap ∷ [])
      × (take (s.shown + 1) filled ≡ swap (listed s ++ (name, id) ∷ []) gap s.shown)
  pushed steps ready =
      let n = length-swap put s.shown place in
      let m = length-swap brought gap s.shown in
      let w = c.stands.within in
      let a = c.behind in (
        record {
          within = omega (arith, n, m, w, a);
          ready = noted_ready steps (Created place former gap) s pushed_shelf push_undone push_undoable ready;
          former = noted steps (Created place former gap) s pushed_shelf push_undone;
        },
        push_listed,
      )

-- ---- a name goes

module _ (es : Named) (shown i : ℕ) (name : List ℕ) (c : ℕ) (lt : i < shown) (within : shown ≤ length es) (at : slice_get es i ≡ Some (name, c)) where
  abbrev left : Named
  left = swap es i (shown - 1)

  more : shown - 1 + 1 ≡ shown
  more = omega (arith, lt)

  pub out_listed : IsPermutation (take shown es) ((name, c) ∷ take (shown - 1) left)
  out_listed = subst (λ n. IsPermutation (take n es) ((name, c) ∷ take (shown - 1) left)) more
      (brought_out es i (shown - 1) (name, c) (omega (arith, lt)) (omega (arith, lt, within)) (sym (get_or_from_slice_get es i (name, c) (name, c) at)))

  pub out_kept : KeepsPlaces i (take shown es) (take (shown - 1) left)
  out_kept k e n g =
      let f = at_front left (shown - 1) k e g in
      let low = f.0 in
      front_at es shown k e (omega (arith, low)) (swap_kept es i (shown - 1) k e (omega (arith, lt, within)) (omega (arith, lt, within)) n (λ q. absurd (omega (arith, low, q))) f.1)

  pub out_undone : undo (Removed i) (record { entries = left; shown = shown - 1 }) ≡ record { entries = es; shown = shown }
  out_undone =
      let same = swap_twice es i (shown - 1) (omega (arith, lt, within)) (omega (arith, lt, within)) in
      λ k. record { entries = same k; shown = more k }

  pub out_undoable : IsUndoable (Removed i) (record { entries = left; shown = shown - 1 })
  out_undoable = let n = length-swap es i (shown - 1) in (omega (arith, lt), omega (arith, n, lt, within))

-- ---- the ids of the first so many

pub ids_front : (es : Named) (n i : ℕ) → i < n → slice_get (ids (take n es)) i ≡ slice_get (ids es) i
ids_front es zero i h = absurd (omega (arith, h))
ids_front [] (suc n) i h = refl
ids_front (e ∷ es) (suc n) zero h = refl
ids_front (e ∷ es) (suc n) (suc i) h = ids_front es n i (omega (arith, h))

pub settled_listed : (es : Named) (n : ℕ) → take n (take n es) ≡ take n es
settled_listed es n = take-take n n es (omega arith)

-- ---- what a call that can't fail gave

pub if_ok : {A E : Type 0} (r : Result A E) (x : A) (P : A → Type 0) → r ≡ Ok x → IfOk r P → P x
if_ok r x P e h = subst (λ o. IfOk o P) e h

pub on_ok : {A E P : Type 0} (r : Result A E) (x : A) → r ≡ Ok x → OnOk r P → P
on_ok {A} {E} {P} r x e h = subst (λ o. OnOk o P) e h

-- ---- no steps

none_ready : (s : Shelf) → AreUndoable [] s
unfolding AreUndoable
none_ready s = tt

pub no_steps_ready : (xs : List Step) (s : Shelf) → xs ≡ [] → AreUndoable xs s
no_steps_ready xs s e = subst (λ l. AreUndoable l s) (sym e) (none_ready s)

pub no_steps : (xs : List Step) (s : Shelf) → xs ≡ [] → undone xs s ≡ s
unfolding undone
no_steps xs s e = ap (λ l. undone l s) e

pub no_steps_listed : (xs : List Step) (s : Shelf) → xs ≡ [] → listed (undone xs s) ≡ listed s
no_steps_listed xs s e = ap listed (no_steps xs s e)

pub taken_out : (es new : Named) (shown i : ℕ) (name : List ℕ) (c : ℕ) (steps more : List Step)
    → shown ≤ length es → slice_get (take shown es) i ≡ Some (name, c) → new ≡ swap es i (shown - 1)
    → AreUndoable steps (record { entries = es; shown = shown }) → more ≡ steps ++ Removed i ∷ []
    → IsNoted (record { entries = es; shown = shown }) (record { entries = new; shown = shown - 1 }) steps more
    × IsPermutation (take shown es) ((name, c) ∷ take (shown - 1) new)
    × KeepsPlaces i (take shown es) (take (shown - 1) new)
taken_out es new shown i name c steps more within at moved ready noting =
    let f = at_front es shown i (name, c) at in
    let back = out_undone es shown i name c f.0 within f.1 in
    let n = length-swap es i (shown - 1) in
    rw (moved, noting) (
      record {
        within = omega (arith, n, within);
        ready = noted_ready steps (Removed i) (record { entries = es; shown = shown })
            (record { entries = swap es i (shown - 1); shown = shown - 1 }) back (out_undoable es shown i name c f.0 within f.1) ready;
        former = noted steps (Removed i) (record { entries = es; shown = shown }) (record { entries = swap es i (shown - 1); shown = shown - 1 }) back;
      },
      out_listed es shown i name c f.0 within f.1,
      out_kept es shown i name c f.0 within f.1,
    )

-- each step back brings at most one name
undo_room : (x : Step) (s : Shelf) → (undo x s).shown ≤ s.shown + 1
undo_room (Created place former gap) s = omega arith
undo_room (Removed place) s = omega arith

pub undone_room : (xs : List Step) (s : Shelf) → (undone xs s).shown ≤ s.shown + length xs
unfolding undone
undone_room [] s = omega arith
undone_room (x ∷ xs) s =
    let a = undo_room x (undone xs s) in
    let b = undone_room xs s in omega (arith, a, b)

pub none_left : (xs : List Step) → length xs ≤ 0 → xs ≡ []
none_left [] h = refl
none_left (x ∷ xs) h = absurd (omega (arith, h))
