-- Faces whose numbers are looked at in the end.
use Rattle.std.proofs.Common.{◌≡◌, ℕ, ◌+◌, ◌≤◌, ◌<◌, List, [], ◌∷◌, ◌++◌, length, get_or, drop, refl, sym, ◌∙◌, ap, arith, Bool, true, false, cond}
use Rattle.std.specs.Prelude.{Option, Some, None, Result, Ok, Err, nat_le, not}
use Rattle.std.proofs.lemmas.List.{drop_more, drop_all}
use Rattle.cga_fraction.specs.Results.{and_then}
use Rattle.cga_solid.specs.declared.solid_mesh.SolidMesh.{SolidMesh}
use Rattle.cga_asset.specs.Lines.{added, fits, most_faces, with_face}
use Rattle.cga_asset.specs.Pending.{pending, unless_faulty}
use Rattle.cga_asset.specs.declared.fault.AssetFault.{AssetFault}
use Rattle.cga_asset.specs.declared.fault.AssetFault.TheVariants.{BadFace, TooManyFaces}
use Rattle.cga_asset.specs.declared.asset_line.AssetLine.TheVariants.{Face}

abbrev Checked : Type 0
Checked = Result (Unit {0}) AssetFault

-- a face that fits, then those that are left
pub one_face : (total : ℕ) (faces : List (List ℕ)) (lines : List ℕ) (i : ℕ) (f : List ℕ) (all : Checked)
    → i < length faces → i < length lines → get_or faces i f ≡ f → fits total f ≡ true
    → pending total (drop i faces) (drop i lines) ≡ all → pending total (drop (i + 1) faces) (drop (i + 1) lines) ≡ all
one_face total faces lines i f all h k at e so =
    let a : drop i faces ≡ f ∷ drop (i + 1) faces = drop_more faces i f h ∙ ap (λ (x : List ℕ). x ∷ drop (i + 1) faces) at in
    let b : drop i lines ≡ get_or lines i 0 ∷ drop (i + 1) lines = drop_more lines i 0 k in
    let c : pending total (drop i faces) (drop i lines) ≡ pending total (f ∷ drop (i + 1) faces) (get_or lines i 0 ∷ drop (i + 1) lines) =
    ap (λ (x : List (List ℕ)). pending total x (drop i lines)) a ∙ ap (λ (x : List ℕ). pending total (f ∷ drop (i + 1) faces) x) b in
    let d : pending total (f ∷ drop (i + 1) faces) (get_or lines i 0 ∷ drop (i + 1) lines) ≡ pending total (drop (i + 1) faces) (drop (i + 1) lines) =
    ap (λ (x : Bool). cond x (pending total (drop (i + 1) faces) (drop (i + 1) lines)) (Err (BadFace (get_or lines i 0)))) e in
    sym d ∙ (sym c ∙ so)

-- and one that doesn't
pub bad_face : (total : ℕ) (faces : List (List ℕ)) (lines : List ℕ) (i : ℕ) (f : List ℕ) (all : Checked)
    → i < length faces → i < length lines → get_or faces i f ≡ f → fits total f ≡ false
    → pending total (drop i faces) (drop i lines) ≡ all → Err (BadFace (get_or lines i 0)) ≡ all
bad_face total faces lines i f all h k at e so =
    let a : drop i faces ≡ f ∷ drop (i + 1) faces = drop_more faces i f h ∙ ap (λ (x : List ℕ). x ∷ drop (i + 1) faces) at in
    let b : drop i lines ≡ get_or lines i 0 ∷ drop (i + 1) lines = drop_more lines i 0 k in
    let c : pending total (drop i faces) (drop i lines) ≡ pending total (f ∷ drop (i + 1) faces) (get_or lines i 0 ∷ drop (i + 1) lines) =
    ap (λ (x : List (List ℕ)). pending total x (drop i lines)) a ∙ ap (λ (x : List ℕ). pending total (f ∷ drop (i + 1) faces) x) b in
    let d : pending total (f ∷ drop (i + 1) faces) (get_or lines i 0 ∷ drop (i + 1) lines) ≡ Err (BadFace (get_or lines i 0)) =
    ap (λ (x : Bool). cond x (pending total (drop (i + 1) faces) (drop (i + 1) lines)) (Err (BadFace (get_or lines i 0)))) e in
    sym d ∙ (sym c ∙ so)

none_left : (total : ℕ) (faces : List (List ℕ)) → pending total faces [] ≡ Ok tt
none_left total [] = refl
none_left total (f ∷ fs) = refl

-- no line is left
pub no_line : (total : ℕ) (faces : List (List ℕ)) (lines : List ℕ) (i : ℕ) (all : Checked) → length lines ≤ i
    → pending total (drop i faces) (drop i lines) ≡ all → Ok tt ≡ all
no_line total faces lines i all h so = sym (none_left total (drop i faces)) ∙ (ap (λ (x : List ℕ). pending total (drop i faces) x) (sym (drop_all i lines h)) ∙ so)

-- one face more at the end
pending_push : (total : ℕ) (faces : List (List ℕ)) (lines : List ℕ) (f : List ℕ) (n : ℕ) → length faces ≡ length lines
    → pending total (faces ++ f ∷ []) (lines ++ n ∷ []) ≡ and_then (pending total faces lines)
    (λ u. cond (fits total f) (Ok tt) (Err (BadFace n)))
pending_push total [] [] f n e = refl
pending_push total [] (l ∷ ls) f n e = absurd (omega (arith, e))
pending_push total (x ∷ xs) [] f n e = absurd (omega (arith, e))
pending_push total (x ∷ xs) (l ∷ ls) f n e =
    elim (fits total x) as (λ (b : Bool). cond b (pending total (xs ++ f ∷ []) (ls ++ n ∷ [])) (Err (BadFace l))
    ≡ and_then (cond b (pending total xs ls) (Err (BadFace l))) (λ u. cond (fits total f) (Ok tt) (Err (BadFace n)))) [
      | true ↦ pending_push total xs ls f n (omega (arith, e))
      | false ↦ refl
    ]

abbrev faces_fault : ℕ → ℕ → Option AssetFault
faces_fault faces n = cond (nat_le most_faces faces) (Some (TooManyFaces n)) None

-- a face is read, and kept with its line even where there is no room for it
pub face_added : (total n : ℕ) (m : SolidMesh) (lines : List ℕ) (f : List ℕ) → length m.faces ≡ length lines
    → and_then (pending total (m.faces ++ f ∷ []) (lines ++ n ∷ []))
    (λ u. unless_faulty (faces_fault (length m.faces) n) (with_face m f))
    ≡ and_then (and_then (pending total m.faces lines) (λ u. Ok m)) (λ a. added total n a (Face (Some f)))
face_added total n m lines f e =
    let after : Checked → Result SolidMesh AssetFault = λ (p : Checked). and_then p (λ u. unless_faulty (faces_fault (length m.faces) n) (with_face m f)) in
    ap after (pending_push total m.faces lines f n e)
    ∙ elim (pending total m.faces lines) as (λ (p : Checked). after
    (and_then p (λ u. cond (fits total f) (Ok tt) (Err (BadFace n)))) ≡ and_then (and_then p (λ u. Ok m)) (λ a. added total n a (Face (Some f)))) [
      | Err x ↦ refl
      | Ok u ↦
          elim (fits total f) as (λ (b : Bool). after (cond b (Ok tt) (Err (BadFace n))) ≡ cond (not b)
          (Err (BadFace n)) (cond (nat_le most_faces (length m.faces)) (Err (TooManyFaces n)) (Ok (with_face m f)))) [
            | false ↦ refl
            | true ↦
                elim (nat_le most_faces (length m.faces)) as (λ (b : Bool). unless_faulty (cond b (Some (TooManyFaces n)) None) (with_face m f) ≡ cond b (Err (TooManyFaces n)) (Ok (with_face m f))) [
                  | true ↦ refl
                  | false ↦ refl
                ]
          ]
    ]
