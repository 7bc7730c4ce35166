-- Lines read one after the other.
use Rattle.std.proofs.Common.{◌≡◌, ℕ, suc, ◌+◌, List, [], ◌∷◌, ◌++◌, length, refl, sym, ◌∙◌, ap, arith, Bool, true, false, cond, length-append}
use Rattle.std.specs.Prelude.{Option, Some, None, Result, Ok, Err, unwrap_or, not, ◌&&◌}
use Rattle.std.proofs.lemmas.List.Sums.{sum_by_push}
use Rattle.cga_form.specs.Lines.{Line, is_long}
use Rattle.cga_fraction.specs.Results.{and_then}
use Rattle.cga_solid.specs.declared.solid_mesh.SolidMesh.{SolidMesh}
use Rattle.cga_asset.specs.Lines.{added, asset_of, begins_vertex, counted, is_vertex_line, no_mesh, said_of, unless_faceless, vertex_lines, with_line, with_lines}
use Rattle.cga_asset.specs.Words.{words_of}
use Rattle.cga_asset.specs.Pending.{pending, unless_faulty}
use Rattle.cga_asset.specs.Reader.{StandsFor, outcome}
use Rattle.cga_asset.specs.declared.fault.AssetFault.{AssetFault}
use Rattle.cga_asset.specs.declared.fault.AssetFault.TheVariants.{LineTooLong}
use Rattle.cga_asset.specs.declared.reader.AssetReader.{AssetReader}
use Rattle.cga_asset.specs.declared.asset_line.AssetLine.{AssetLine}

abbrev Made : Type 0
Made = Result SolidMesh AssetFault

abbrev Checked : Type 0
Checked = Result (Unit {0}) AssetFault

as_it_is : (r : Made) → and_then r (λ b. Ok b) ≡ r
as_it_is (Ok a) = refl
as_it_is (Err e) = refl

-- one line more
one_line : (total n : ℕ) (a : SolidMesh) (ls : List Line) (l : Line)
    → with_lines total n a (ls ++ l ∷ []) ≡ and_then (with_lines total n a ls)
    (λ b. with_line total (counted (n + length ls)) b l)
one_line total n a [] l = as_it_is (with_line total (counted n) a l) ∙ ap (λ (k : ℕ). with_line total (counted k) a l) (omega arith)
one_line total n a (x ∷ ls) l =
    elim (with_line total (counted n) a x) as (λ (r : Made). and_then r
    (λ b. with_lines total (n + 1) b (ls ++ l ∷ [])) ≡ and_then
    (and_then r (λ b. with_lines total (n + 1) b ls)) (λ b. with_line total (counted (n + suc (length ls))) b l)) [
      | Ok b ↦ one_line total (n + 1) b ls l ∙ ap (λ (k : ℕ). and_then (with_lines total (n + 1) b ls) (λ c. with_line total (counted k) c l)) (omega arith)
      | Err e ↦ refl
    ]

next_number : (k n m : ℕ) → n ≡ counted k → m ≡ counted (n + 1) → m ≡ counted (1 + k)
next_number k n m e f = omega (arith, e, f)

length_more : (lines : List Line) (l : Line) → 1 + length lines ≡ length (lines ++ l ∷ [])
length_more lines l = omega (arith, length-append lines (l ∷ []))

-- the reader was given one line more
pub next_line : (r s : AssetReader) (lines : List Line) (l : Line) → StandsFor r lines → s.lines ≡ counted (r.lines + 1)
    → s.vertex_lines ≡ cond (is_vertex_line l) (counted (r.vertex_lines + 1)) r.vertex_lines
    → length s.mesh.faces ≡ length s.face_lines
    → ((total : ℕ) → outcome s total ≡ and_then (outcome r total) (λ a. with_line total s.lines a l))
    → StandsFor s (lines ++ l ∷ [])
next_line r s lines l h number vertices paired gives = record {
  number = next_number (length lines) r.lines s.lines h.number number ∙ ap counted (length_more lines l);
  vertices = vertices ∙ more (is_vertex_line l) refl;
  paired = paired;
  gives = λ total.
      one_line total 1 no_mesh lines l
      ∙ (ap (λ (r : Made). and_then r (λ b. with_line total (counted (1 + length lines)) b l)) (h.gives total)
      ∙ (ap (λ (k : ℕ). and_then (outcome r total) (λ b. with_line total k b l)) (sym (next_number (length lines) r.lines s.lines h.number number)) ∙ sym (gives total)));
}
  where
    more : (b : Bool) → is_vertex_line l ≡ b
        → cond (is_vertex_line l) (counted (r.vertex_lines + 1)) r.vertex_lines ≡ vertex_lines (lines ++ l ∷ [])
    more true e =
        let push = sum_by_push (λ (x : Line). cond (is_vertex_line x) 1 0) lines l in
        let one : ◌≡◌ {A = ℕ} (cond (is_vertex_line l) 1 0) 1 = rw e refl in
        rw e (omega (arith, h.vertices, push, one))
    more false e =
        let push = sum_by_push (λ (x : Line). cond (is_vertex_line x) 1 0) lines l in
        let none : ◌≡◌ {A = ℕ} (cond (is_vertex_line l) 1 0) 0 = rw e refl in
        rw e (omega (arith, h.vertices, push, none))

too_long : (total n : ℕ) (a : SolidMesh) (l : Line) → is_long l ≡ true → with_line total n a l ≡ Err (LineTooLong n)
unfolding with_line
too_long total n a l e = ap (λ (b : Bool). cond {A = Made} b (Err (LineTooLong n)) (added total n a (said_of (length a.vertices) (words_of l.bytes)))) e

short : (total n : ℕ) (a : SolidMesh) (l : Line) → is_long l ≡ false
    → with_line total n a l ≡ added total n a (said_of (length a.vertices) (words_of l.bytes))
unfolding with_line
short total n a l e = ap (λ (b : Bool). cond {A = Made} b (Err (LineTooLong n)) (added total n a (said_of (length a.vertices) (words_of l.bytes)))) e

-- a long line is the first faulty one, or an earlier one is
long_line : (p : Checked) (kept : Option AssetFault) (m : SolidMesh) (total n : ℕ) (l : Line) → is_long l ≡ true
    → and_then p (λ u. unless_faulty (Some (unwrap_or kept (LineTooLong n))) m) ≡ and_then
    (and_then p (λ u. unless_faulty kept m)) (λ a. with_line total n a l)
long_line (Err e) kept m total n l long = refl
long_line (Ok u) None m total n l long = sym (too_long total n m l long)
long_line (Ok u) (Some f) m total n l long = refl

-- an earlier line is faulty
later_line : (p : Checked) (kept : Option AssetFault) (m : SolidMesh) (total n : ℕ) (l : Line) (f : AssetFault)
    → kept ≡ Some f
    → and_then p (λ u. unless_faulty kept m) ≡ and_then (and_then p (λ u. unless_faulty kept m))
    (λ a. with_line total n a l)
later_line (Err e) kept m total n l f is = refl
later_line (Ok u) None m total n l f is = absurd (cc)
later_line (Ok u) (Some g) m total n l f is = refl

-- no line was faulty so far
said_line : (p : Checked) (kept : Option AssetFault) (m : SolidMesh) (total n : ℕ) (l : Line) (s : AssetLine)
    → is_long l ≡ false → kept ≡ None → s ≡ said_of (length m.vertices) (words_of l.bytes)
    → and_then (and_then p (λ u. unless_faulty kept m)) (λ a. added total n a s) ≡ and_then
    (and_then p (λ u. unless_faulty kept m)) (λ a. with_line total n a l)
said_line (Err e) kept m total n l s long is said = refl
said_line (Ok u) None m total n l s long is said = ap (added total n m) said ∙ sym (short total n m l long)
said_line (Ok u) (Some g) m total n l s long is said = refl

-- which lines count as vertices
none_long : (l : Line) → is_long l ≡ true → is_vertex_line l ≡ false
none_long l e = ap (λ (b : Bool). not b && begins_vertex (words_of l.bytes)) e

by_word : (l : Line) → is_long l ≡ false → is_vertex_line l ≡ begins_vertex (words_of l.bytes)
by_word l e = ap (λ (b : Bool). not b && begins_vertex (words_of l.bytes)) e

-- one vertex line more, or not
abbrev next_count : Bool → ℕ → ℕ
next_count b n = cond b (counted (n + 1)) n

-- what a reader comes to, by its parts
made_by : ℕ → SolidMesh → List ℕ → Option AssetFault → Made
made_by total m lines kept = and_then (pending total m.faces lines) (λ u. unless_faulty kept m)

made_is : (r : AssetReader) (total : ℕ) → outcome r total ≡ made_by total r.mesh r.face_lines r.fault
unfolding made_by
made_is r total = refl

made_alike : (total : ℕ) (m m' : SolidMesh) (l l' : List ℕ) (k k' : Option AssetFault) → m ≡ m' → l ≡ l' → k ≡ k'
    → made_by total m l k ≡ made_by total m' l' k'
made_alike total m m' l l' k k' a b c = λ i. made_by total (a i) (b i) (c i)

pub long_read : (r s : AssetReader) (lines : List Line) (l : Line) → is_long l ≡ true → StandsFor r lines
    → s.lines ≡ counted (r.lines + 1) → s.vertex_lines ≡ r.vertex_lines → s.mesh ≡ r.mesh → s.face_lines ≡ r.face_lines
    → s.fault ≡ Some (unwrap_or r.fault (LineTooLong s.lines)) → StandsFor s (lines ++ l ∷ [])
unfolding made_by
long_read r s lines l long h number vertices mesh face_lines fault =
    next_line r s lines l h number
    (vertices ∙ sym (ap (λ (b : Bool). next_count b r.vertex_lines) (none_long l long)))
    (ap (λ (m : SolidMesh). length m.faces) mesh ∙ (h.paired ∙ ap (λ (k : List ℕ). length k) (sym face_lines)))
    (λ total. made_alike total s.mesh r.mesh s.face_lines r.face_lines s.fault (Some (unwrap_or r.fault (LineTooLong s.lines))) mesh face_lines fault
    ∙ long_line (pending total r.mesh.faces r.face_lines) r.fault r.mesh total s.lines l long)

pub later_read : (r s : AssetReader) (lines : List Line) (l : Line) (f : AssetFault) → is_long l ≡ false
    → StandsFor r lines → s.lines ≡ counted (r.lines + 1)
    → s.vertex_lines ≡ next_count (begins_vertex (words_of l.bytes)) r.vertex_lines → s.mesh ≡ r.mesh
    → s.face_lines ≡ r.face_lines
    → s.fault ≡ r.fault → r.fault ≡ Some f → StandsFor s (lines ++ l ∷ [])
unfolding made_by
later_read r s lines l f long h number vertices mesh face_lines fault is =
    next_line r s lines l h number
    (vertices ∙ sym (ap (λ (b : Bool). next_count b r.vertex_lines) (by_word l long)))
    (ap (λ (m : SolidMesh). length m.faces) mesh ∙ (h.paired ∙ ap (λ (k : List ℕ). length k) (sym face_lines)))
    (λ total. made_alike total s.mesh r.mesh s.face_lines r.face_lines s.fault r.fault mesh face_lines fault
    ∙ later_line (pending total r.mesh.faces r.face_lines) r.fault r.mesh total s.lines l f is)

pub said_read : (r s : AssetReader) (lines : List Line) (l : Line) (said : AssetLine) → is_long l ≡ false
    → StandsFor r lines → s.lines ≡ counted (r.lines + 1)
    → s.vertex_lines ≡ next_count (begins_vertex (words_of l.bytes)) r.vertex_lines → r.fault ≡ None
    → said ≡ said_of (length r.mesh.vertices) (words_of l.bytes) → length s.mesh.faces ≡ length s.face_lines
    → ((total : ℕ) → outcome s total ≡ and_then (outcome r total) (λ a. added total s.lines a said))
    → StandsFor s (lines ++ l ∷ [])
said_read r s lines l said long h number vertices none is paired gives =
    next_line r s lines l h number (vertices ∙ sym (ap (λ (b : Bool). next_count b r.vertex_lines) (by_word l long))) paired
    (λ total. gives total ∙ said_line (pending total r.mesh.faces r.face_lines) r.fault r.mesh total s.lines l said long none is)

-- the end
pub at_end : (r : AssetReader) (lines : List Line) → StandsFor r lines
    → asset_of lines ≡ and_then (outcome r r.vertex_lines) unless_faceless
unfolding asset_of
at_end r lines h = ap (λ (made : Made). and_then made unless_faceless) (h.gives (vertex_lines lines) ∙ ap (outcome r) (sym h.vertices))

pub end_faulty : (r : AssetReader) (lines : List Line) (f : AssetFault) → StandsFor r lines
    → Err f ≡ pending r.vertex_lines r.mesh.faces r.face_lines → Err f ≡ asset_of lines
end_faulty r lines f h e =
    ap (λ (p : Checked). and_then (and_then p (λ u. unless_faulty r.fault r.mesh)) unless_faceless) e ∙ sym (at_end r lines h)

pub end_whole : (r : AssetReader) (lines : List Line) (made : Made) → StandsFor r lines
    → Ok tt ≡ pending r.vertex_lines r.mesh.faces r.face_lines
    → made ≡ and_then (unless_faulty r.fault r.mesh) unless_faceless → made ≡ asset_of lines
end_whole r lines made h e f =
    f ∙ (ap (λ (p : Checked). and_then (and_then p (λ u. unless_faulty r.fault r.mesh)) unless_faceless) e ∙ sym (at_end r lines h))
