-- What a piece does to the lines that are read.
use Rattle.std.proofs.Common.{◌≡◌, ◌≢◌, ℕ, suc, ◌+◌, ◌-◌, ◌<◌, ◌≤◌, List, [], ◌∷◌, ◌++◌, length, take, drop, get_or, map, refl, sym, ap, ap₂, subst, ◌∙◌, arith, append_assoc, drop-cons, Bool, true}
use Rattle.std.specs.Prelude.{◌↔◌, IsFalse}
use Rattle.std.proofs.Math.Seq.{take-nil}
use Rattle.std.proofs.lemmas.List.{take-append-drop}
use Rattle.std.proofs.lemmas.List.Elements.{All-append}
use Rattle.cga_script.specs.Lines.{Cut, cut, IsOneLine, Line, clipped, without_cr, lines_of}
use Rattle.cga_script.specs.Ends.{is_blank_line}
use Rattle.cga_script.specs.Pending.{Pending, IsBlankFront, IsPart, kept_of, ready_line}
use Rattle.cga_script.specs.declared.ending.Ending.TheVariants.{Open, Lf, End}
use Rattle.cga_script.proofs.Cuts.{kept_one, cut_line, cut_part, line_kept, last_kept, lines_kept, kept_again, take_twice}

abbrev IsByte : ℕ → Type 0
IsByte b = b ≢ 10

split_lf : (bytes : List ℕ) (n : ℕ) → 0 < n → n ≤ length bytes → get_or bytes (n - 1) 0 ≡ 10
    → bytes ≡ take (n - 1) bytes ++ 10 ∷ drop n bytes
split_lf bytes n some most lf =
    let e : suc (n - 1) ≡ n = omega arith in
    sym (take-append-drop (n - 1) bytes) ∙ ap (λ (d : List ℕ). take (n - 1) bytes ++ d)
    (drop-cons bytes (n - 1) 0 (omega arith) ∙ ap₂ (λ (b : ℕ) (d : List ℕ). b ∷ d) lf (ap (λ (k : ℕ). drop k bytes) e))

-- a piece that ends a line
pub record TakesLine (now more : List ℕ) (line : Line) : Type 0 where
  pub lines : lines_of now ≡ line ∷ lines_of more
  pub left : (cut now).rest ≡ (cut more).rest

-- where the first LF of a piece ends the line that is kept, that line comes first, and then those behind it
pub takes_line : (kept rest more : List ℕ) (n : ℕ) (p : Pending) → IsOneLine kept → 0 < n → n ≤ length rest
    → get_or rest (n - 1) 0 ≡ 10 → IsOneLine (take (n - 1) rest) → more ≡ drop n rest
    → p ≡ record { kept = kept_of (kept ++ take (n - 1) rest); ending = Lf }
    → TakesLine (kept ++ rest) more (ready_line p)
takes_line kept rest more n p one some most lf part others is =
    let line : List ℕ = kept ++ take (n - 1) rest in
    let split : kept ++ rest ≡ line ++ 10 ∷ more = ap (λ (r : List ℕ). kept ++ r) (split_lf rest n some most lf)
    ∙ sym (append_assoc kept (take (n - 1) rest) (10 ∷ drop n rest)) ∙ ap (λ (d : List ℕ). line ++ 10 ∷ d) (sym others) in
    let cut_is = ap cut split ∙ cut_line line more (All-append IsByte kept (take (n - 1) rest) one part) in
    record {
      lines = ap (λ (c : Cut). map (λ (l : List ℕ). clipped (without_cr l)) c.lines) cut_is ∙ ap (λ (l : Line). l ∷ lines_of more) (sym (line_kept line) ∙ sym (ap ready_line is));
      left = ap (λ (c : Cut). c.rest) cut_is;
    }

-- a piece that begins with a line and its LF
pub begins_line : (piece : List ℕ) (end : ℕ) → end < length piece → get_or piece end 0 ≡ 10 → IsOneLine (take end piece)
    → TakesLine piece (drop (end + 1) piece) (clipped (without_cr (take end piece)))
begins_line piece end within lf one =
    let back : end + 1 - 1 ≡ end = omega arith in
    let split : piece ≡ take end piece ++ 10 ∷ drop (end + 1) piece = rw back at (split_lf piece (end + 1) (omega arith) (omega arith) (rw back lf)) in
    let cut_is = ap cut split ∙ cut_line (take end piece) (drop (end + 1) piece) one in
    record {
      lines = ap (λ (c : Cut). map (λ (l : List ℕ). clipped (without_cr l)) c.lines) cut_is;
      left = ap (λ (c : Cut). c.rest) cut_is;
    }

-- and is blank
pub blank_begins : (piece : List ℕ) (end taken : ℕ) → end < length piece → get_or piece end 0 ≡ 10
    → IsOneLine (take end piece) → is_blank_line (clipped (without_cr (take end piece))) ≡ true → taken ≡ end + 1
    → IsBlankFront piece taken
blank_begins piece end taken within lf one blank is =
    let t = begins_line piece end within lf one in
    subst (IsBlankFront piece) (sym is) (record { line = clipped (without_cr (take end piece)); blank = blank; lines = t.lines; rest = t.left })

-- a piece with no LF
pub no_lines : (part : List ℕ) → IsOneLine part → lines_of part ≡ []
no_lines part one = ap (λ (c : Cut). map (λ (l : List ℕ). clipped (without_cr l)) c.lines) (cut_part part one)

-- a part without an LF is all rest
pub rest_of_part : (part : List ℕ) → IsOneLine part → (cut part).rest ≡ part
rest_of_part part one = ap (λ (c : Cut). c.rest) (cut_part part one)

-- what is kept of what is kept is all of that
pub kept_twice : (part : List ℕ) → kept_of (kept_of part) ≡ kept_of part
kept_twice part = take_twice 4098 4098 part (omega arith)

-- two parts without an LF have none when joined
pub one_more : (kept part : List ℕ) → IsOneLine kept → IsOneLine part → IsOneLine (kept ++ part)
one_more kept part a b = All-append IsByte kept part a b

-- a piece that has an LF completes the line that is read
pub cuts_line : (rest piece : List ℕ) (old new : Pending) (end : ℕ) → IsPart rest old → end < length piece
    → get_or piece end 0 ≡ 10 → IsOneLine (take end piece)
    → new ≡ record { kept = kept_of (old.kept ++ take end piece); ending = Lf }
    → lines_of (rest ++ piece) ≡ ready_line new ∷ lines_of (drop (end + 1) piece)
cuts_line rest piece old new end part within lf one is =
    let kept : old.kept ≡ kept_of rest = ap (λ (p : Pending). p.kept) part.kept in
    let back : end + 1 - 1 ≡ end = omega arith in
    let taken : new ≡ record { kept = kept_of (kept_of rest ++ take (end + 1 - 1) piece); ending = Lf } = rw (back, ← kept) is in
    sym (lines_kept rest piece part.one)
    ∙ (takes_line (kept_of rest) piece (drop (end + 1) piece) (end + 1) new (kept_one rest part.one) (omega arith) (omega arith) (rw back lf) (rw back one) refl taken).lines

-- a piece with no LF goes on with it
pub goes_on : (rest piece : List ℕ) (old new : Pending) → IsPart rest old → IsOneLine piece
    → new ≡ record { kept = kept_of (old.kept ++ piece); ending = Open }
    → (lines_of (rest ++ piece) ≡ []) × IsPart (rest ++ piece) new
goes_on rest piece old new part one is =
    let kept : old.kept ≡ kept_of rest = ap (λ (p : Pending). p.kept) part.kept in
    let both = one_more rest piece part.one one in (
      no_lines (rest ++ piece) both,
      record {
        one = both;
        kept = is ∙ ap (λ (k : List ℕ). record { kept = kept_of (k ++ piece); ending = Open })
            kept ∙ ap (λ (k : List ℕ). record { kept = k; ending = Open }) (kept_again 4098 rest piece);
      },
    )

-- of a part with a byte something is kept
pub nothing_kept : (byte : ℕ) (bytes : List ℕ) → kept_of (byte ∷ bytes) ≡ [] → ⊥
nothing_kept byte bytes e = let bad : byte ∷ take 4097 bytes ≡ [] = e in cc

none_kept : (rest : List ℕ) → (kept_of rest ≡ []) ↔ (rest ≡ [])
none_kept [] = (λ e. refl, λ e. take-nil 4098)
none_kept (byte ∷ bytes) = (λ e. absurd (nothing_kept byte bytes e), λ e. cc)

-- the line that the script's end leaves
pub ends_line : (rest : List ℕ) (old new : Pending) (ready : Bool) → IsPart rest old → (IsFalse ready ↔ (old.kept ≡ []))
    → new ≡ record { kept = old.kept; ending = End } → (IsFalse ready ↔ (rest ≡ [])) × (ready_line new ≡ clipped rest)
ends_line rest old new ready part exact is =
    let kept : old.kept ≡ kept_of rest = ap (λ (p : Pending). p.kept) part.kept in (
      (λ none. (none_kept rest).0 (sym kept ∙ exact.0 none), λ none. exact.1 (kept ∙ (none_kept rest).1 none)),
      ap ready_line is ∙ ap clipped kept ∙ last_kept rest,
    )
