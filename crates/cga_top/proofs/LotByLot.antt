-- The text of the lots' boxes, lot by lot.
use Rattle.std.proofs.Common.{◌≡◌, ℕ, zero, suc, ◌≤◌, arith, length, drop, List, [], ◌∷◌, ◌++◌, Some, refl, sym, ap, ◌∙◌, subst, append_assoc, slice_get}
use Rattle.std.proofs.lemmas.List.{append-nil}
use Rattle.cga_frame.specs.Box.{Box}
use Rattle.cga_shape.specs.declared.lot.Lot.{Lot}
use Rattle.cga_expand.specs.Children.{Member}
use Rattle.cga_city.specs.Hulls.{IsHullOf}
use Rattle.cga_top.specs.Hulls.{hull_line, IsHullText}

-- with what is told of the lots from a place on, the text tells of all
abbrev pub Continues : List Member → List Lot → ℕ → List ℕ → Type 0
Continues list lots place text = (rest : List ℕ) → IsHullText list (drop place lots) rest → IsHullText list lots (text ++ rest)

pub begins : (list : List Member) (lots : List Lot) (text : List ℕ) → text ≡ [] → Continues list lots 0 text
begins list lots text none rest h = subst (λ t. IsHullText list lots (t ++ rest)) (sym none) h

drop_at : (lots : List Lot) (place : ℕ) (lot : Lot) → slice_get lots place ≡ Some lot
    → drop place lots ≡ lot ∷ drop (suc place) lots
drop_at [] place lot at = cc
drop_at (x ∷ lots) zero lot at = let same : x ≡ lot = cc in ap (λ y. y ∷ lots) same
drop_at (x ∷ lots) (suc place) lot at = drop_at lots place lot at

past : (lots : List Lot) (place : ℕ) → length lots ≤ place → drop place lots ≡ []
past [] zero h = refl
past [] (suc place) h = refl
past (x ∷ lots) zero h = absurd (omega arith)
past (x ∷ lots) (suc place) h = past lots place (omega arith)

pub goes_on : (list : List Member) (lots : List Lot) (place next : ℕ) (text told : List ℕ) (lot : Lot) (box : Box)
    → slice_get lots place ≡ Some lot → IsHullOf lot.name list box
    → told ≡ text ++ hull_line lot.name box → next ≡ suc place → Continues list lots place text
    → Continues list lots next told
goes_on list lots place next text told lot box at is wrote one so_far rest h =
    let line = hull_line lot.name box in
    let after : IsHullText list (drop (suc place) lots) rest = subst (λ n. IsHullText list (drop n lots) rest) one h in
    let whole : IsHullText list (drop place lots) (line ++ rest) = subst (λ ls. IsHullText list ls (line ++ rest)) (sym (drop_at lots place lot at)) (box, rest, is, after, refl) in
    subst (IsHullText list lots) (sym (ap (λ t. t ++ rest) wrote ∙ append_assoc text line rest)) (so_far (line ++ rest) whole)

pub ends : (list : List Member) (lots : List Lot) (place : ℕ) (text told : List ℕ) → length lots ≤ place → told ≡ text
    → Continues list lots place text → IsHullText list lots told
ends list lots place text told h is so_far =
    subst (IsHullText list lots) (append-nil text ∙ sym is) (so_far [] (subst (λ ls. IsHullText list ls []) (sym (past lots place h)) refl))
