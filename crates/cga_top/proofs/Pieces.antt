-- The lines of a piece, one after another.
use Rattle.std.proofs.Common.{◌≡◌, ℕ, ◌≢◌, List, [], ◌∷◌, ◌++◌, length, drop, refl, sym, ap, subst, ◌∙◌}
use Rattle.std.proofs.lemmas.List.{append-nil}
use Rattle.std.proofs.Math.Seq.{drop-length}
use Rattle.std.proofs.lemmas.List.Elements.{All-nil}
use Rattle.cga_script.specs.Lines.{IsOneLine, cut, lines_of}
use Rattle.cga_script.specs.Pending.{IsBlankFront, Pending, kept_of}
use Rattle.cga_script.specs.declared.ending.Ending.{Ending}
use Rattle.cga_script.specs.declared.ending.Ending.TheVariants.{Open}
use Rattle.cga_script.proofs.Door.{kept_one, kept_twice, no_lines, rest_of_part}
use Rattle.cga_top.specs.KeptPart.{IsKeptPart}

-- where nothing is kept
pub blank_first : (kept rest more : List ℕ) (n : ℕ) → kept ≡ [] → more ≡ drop n rest → (f : IsBlankFront rest n)
    → lines_of (kept ++ rest) ≡ f.line ∷ lines_of (kept ++ more)
blank_first kept rest more n none d f =
    ap (λ (k : List ℕ). lines_of (k ++ rest)) none ∙ f.lines ∙ ap (λ (m : List ℕ). f.line ∷ lines_of m) (sym d)
    ∙ ap (λ (k : List ℕ). f.line ∷ lines_of (k ++ more)) (sym none)

pub blank_left : (kept rest more : List ℕ) (n : ℕ) → kept ≡ [] → more ≡ drop n rest → IsBlankFront rest n
    → kept_of (cut (kept ++ more)).rest ≡ kept_of (cut (kept ++ rest)).rest
blank_left kept rest more n none d f =
    ap (λ (k : List ℕ). kept_of (cut (k ++ more)).rest) none ∙ ap (λ (m : List ℕ). kept_of (cut m).rest) d
    ∙ ap kept_of (sym f.rest) ∙ ap (λ (k : List ℕ). kept_of (cut (k ++ rest)).rest) (sym none)

-- the line that is read is empty again
pub part_cleared : (p : Pending) → p ≡ record { kept = []; ending = Open } → IsKeptPart p
part_cleared p e = subst IsKeptPart (sym e) (record { open_line = refl; one = All-nil (λ (b : ℕ). b ≢ 10); short = refl })

-- What is kept of a line is a part of one line.
pub part_kept : (p : Pending) (part : List ℕ) → p ≡ record { kept = kept_of part; ending = Open } → IsOneLine part
    → IsKeptPart p
part_kept p part e one = subst IsKeptPart (sym e) (record { open_line = refl; one = kept_one part one; short = kept_twice part })

-- after a line that an LF ended
pub left_cleared : (p : Pending) (now more : List ℕ) → p ≡ record { kept = []; ending = Open }
    → (cut now).rest ≡ (cut more).rest → kept_of (cut (p.kept ++ more)).rest ≡ kept_of (cut now).rest
left_cleared p now more e same = ap (λ (q : Pending). kept_of (cut (q.kept ++ more)).rest) e ∙ ap kept_of (sym same)

-- after a piece with no LF, of which nothing is left
pub left_kept : (p : Pending) (part more : List ℕ) → p ≡ record { kept = kept_of part; ending = Open } → more ≡ []
    → IsOneLine part → kept_of (cut (p.kept ++ more)).rest ≡ kept_of (cut part).rest
left_kept p part more e none one =
    ap (λ (q : Pending). kept_of (cut (q.kept ++ more)).rest) e
    ∙ ap (λ (m : List ℕ). kept_of (cut (kept_of part ++ m)).rest) none ∙ ap (λ (m : List ℕ). kept_of (cut m).rest) (append-nil (kept_of part))
    ∙ ap kept_of (rest_of_part (kept_of part) (kept_one part one)) ∙ kept_twice part ∙ ap kept_of (sym (rest_of_part part one))

-- A part of a line with nothing behind it ends no line.
pub lines_kept_none : (p : Pending) (part more : List ℕ) → p ≡ record { kept = kept_of part; ending = Open } → more ≡ []
    → IsOneLine part → lines_of part ≡ lines_of (p.kept ++ more)
lines_kept_none p part more e none one =
    no_lines part one ∙ sym (ap (λ (q : Pending). lines_of (q.kept ++ more)) e
    ∙ ap (λ (m : List ℕ). lines_of (kept_of part ++ m)) none ∙ ap lines_of (append-nil (kept_of part)) ∙ no_lines (kept_of part) (kept_one part one))

-- Nothing is left behind the end.
pub nothing_left : (rest more : List ℕ) (n : ℕ) → n ≡ length rest → more ≡ drop n rest → more ≡ []
nothing_left rest more n e d = d ∙ ap (λ (k : ℕ). drop k rest) e ∙ drop-length rest

-- all of the piece was fed
pub no_more_lines : (kept rest : List ℕ) → rest ≡ [] → IsOneLine kept → lines_of (kept ++ rest) ≡ []
no_more_lines kept rest none one = ap (λ (r : List ℕ). lines_of (kept ++ r)) none ∙ ap lines_of (append-nil kept) ∙ no_lines kept one

-- Where all of a piece was fed, what is kept is the rest of all.
pub no_more_left : (p : Pending) (rest all : List ℕ) → rest ≡ [] → IsKeptPart p
    → kept_of (cut (p.kept ++ rest)).rest ≡ kept_of (cut all).rest
    → p ≡ record { kept = kept_of (cut all).rest; ending = Open }
no_more_left p rest all none part e =
    let same : p.kept ≡ kept_of (cut all).rest = sym part.short ∙ ap kept_of (sym (rest_of_part p.kept part.one))
    ∙ ap (λ (r : List ℕ). kept_of (cut r).rest) (sym (append-nil p.kept) ∙ ap (λ (r : List ℕ). p.kept ++ r) (sym none)) ∙ e in
    ap (λ (e : Ending). record { kept = p.kept; ending = e }) part.open_line ∙ ap (λ (k : List ℕ). record { kept = k; ending = Open }) same
