-- How a list of bytes is cut into lines, piece by piece.
use Rattle.std.proofs.Common.{◌≡◌, ◌≢◌, ℕ, zero, suc, ◌-◌, ◌<◌, ◌≤◌, ◌⊎◌, inl, inr, List, [], ◌∷◌, ◌++◌, length, take, drop, map, subst, refl, sym, ap, ◌∙◌, arith, true, false, Bool}
use Rattle.std.specs.Prelude.{nat_eq, nat_lt, bytes_eq, if◌then◌else◌}
use Rattle.std.proofs.lemmas.Bool.Decides.{nat_tests}
use Rattle.std.proofs.lemmas.List.Elements.{All-head, All-tail, All-cons, All-nil, All-take}
use Rattle.std.proofs.lemmas.List.{take-append-le, take-append-drop, length-take-le, append-nil}
use Rattle.std.proofs.Math.Seq.{take-nil}
use Rattle.std.proofs.lemmas.List.{map-append}
use Rattle.cga_script.specs.Lines.{Cut, cut, before_first, IsOneLine, Line, clipped, without_cr, lines_of}
use Rattle.cga_script.specs.Pending.{kept_of}
use Rattle.cga_fraction.proofs.Door.{le_or_ge}

at_lf : (x : ℕ) (xs : List ℕ) → x ≡ 10 → cut (x ∷ xs) ≡ record { lines = [] ∷ (cut xs).lines; rest = (cut xs).rest }
unfolding cut
at_lf x xs e = rw e refl

at_other : (x : ℕ) (xs : List ℕ) → x ≢ 10 → cut (x ∷ xs) ≡ before_first x (cut xs).lines (cut xs).rest
unfolding cut
at_other x xs e = let no : nat_eq x 10 ≡ false = grind (arith, nat_tests) in rw no refl

-- a cut after bytes with no LF
abbrev pub after_part : List (List ℕ) → List ℕ → List ℕ → Cut
after_part [] rest r = record { lines = []; rest = r ++ rest }
after_part (line ∷ lines) rest r = record { lines = (r ++ line) ∷ lines; rest = rest }

before_after_part : (x : ℕ) (ended : List (List ℕ)) (rest r : List ℕ)
    → before_first x (after_part ended rest r).lines (after_part ended rest r).rest ≡ after_part ended rest (x ∷ r)
before_after_part x [] rest r = refl
before_after_part x (line ∷ lines) rest r = refl

nothing_before : (ended : List (List ℕ)) (rest : List ℕ)
    → ◌≡◌ {A = Cut} (record { lines = ended; rest = rest }) (after_part ended rest [])
nothing_before [] rest = refl
nothing_before (line ∷ lines) rest = refl

pub cut_after : (r ys : List ℕ) → IsOneLine r → cut (r ++ ys) ≡ after_part (cut ys).lines (cut ys).rest r
cut_after [] ys all = nothing_before (cut ys).lines (cut ys).rest
cut_after (x ∷ xs) ys all =
    at_other x (xs ++ ys) (All-head (λ y. y ≢ 10) x xs all)
    ∙ ap (λ (c : Cut). before_first x c.lines c.rest) (cut_after xs ys (All-tail (λ y. y ≢ 10) x xs all))
    ∙ before_after_part x (cut ys).lines (cut ys).rest xs

-- a line that an LF ends
pub cut_line : (r ys : List ℕ) → IsOneLine r
    → cut (r ++ 10 ∷ ys) ≡ record { lines = r ∷ (cut ys).lines; rest = (cut ys).rest }
cut_line r ys all = cut_after r (10 ∷ ys) all ∙ ap (λ (c : Cut). after_part c.lines c.rest r) (at_lf 10 ys refl)
    ∙ ap (λ (l : List ℕ). record { lines = l ∷ (cut ys).lines; rest = (cut ys).rest }) (append-nil r)

pub cut_part : (r : List ℕ) → IsOneLine r → cut r ≡ record { lines = []; rest = r }
unfolding cut
cut_part r all = ap cut (sym (append-nil r)) ∙ cut_after r [] all ∙ ap (λ (l : List ℕ). record { lines = []; rest = l }) (append-nil r)

-- a cut goes on from its rest
abbrev goes_on : Cut → List ℕ → Cut
goes_on c ys = record { lines = c.lines ++ (cut (c.rest ++ ys)).lines; rest = (cut (c.rest ++ ys)).rest }

before_goes_on : (x : ℕ) (ended : List (List ℕ)) (rest ys : List ℕ) → x ≢ 10
    → before_first x (ended ++ (cut (rest ++ ys)).lines) (cut (rest ++ ys)).rest ≡ goes_on (before_first x ended rest)
    ys
before_goes_on x [] rest ys other = sym (at_other x (rest ++ ys) other)
before_goes_on x (line ∷ lines) rest ys other = refl

lf_or_other : (n : ℕ) → (n ≡ 10) ⊎ (n ≢ 10)
lf_or_other n = elim (nat_eq n 10) as (λ b. (nat_eq n 10 ≡ b) → (n ≡ 10) ⊎ (n ≢ 10)) [ true ↦ λ e. inl (grind (arith, nat_tests)) | false ↦ λ e. inr (grind (arith, nat_tests)) ] refl

start_goes_on : (ys : List ℕ) → cut ys ≡ goes_on (cut []) ys
unfolding cut
start_goes_on ys = refl

pub cut_append : (xs ys : List ℕ) → cut (xs ++ ys) ≡ goes_on (cut xs) ys
cut_append [] ys = start_goes_on ys
cut_append (x ∷ xs) ys = elim (lf_or_other x) [
  | inl e ↦ at_lf x (xs ++ ys) e ∙ ap (λ (c : Cut). record { lines = [] ∷ c.lines; rest = c.rest }) (cut_append xs ys) ∙ sym (ap (λ (c : Cut). goes_on c ys) (at_lf x xs e))
  | inr other ↦ at_other x (xs ++ ys) other ∙ ap (λ (c : Cut). before_first x c.lines c.rest) (cut_append xs ys)
      ∙ before_goes_on x (cut xs).lines (cut xs).rest ys other ∙ sym (ap (λ (c : Cut). goes_on c ys) (at_other x xs other))
]

-- the rest is one line
before_is_one : (x : ℕ) (ended : List (List ℕ)) (rest : List ℕ) → x ≢ 10 → IsOneLine rest
    → IsOneLine (before_first x ended rest).rest
before_is_one x [] rest other all = All-cons (λ (b : ℕ). b ≢ 10) x rest other all
before_is_one x (line ∷ lines) rest other all = all

no_rest : IsOneLine (cut []).rest
unfolding cut
no_rest = All-nil (λ (b : ℕ). b ≢ 10)

-- the rest behind the last LF has none
pub rest_is_one : (xs : List ℕ) → IsOneLine (cut xs).rest
rest_is_one [] = no_rest
rest_is_one (x ∷ xs) = elim (lf_or_other x) [
  | inl e ↦ subst (λ (c : Cut). IsOneLine c.rest) (sym (at_lf x xs e)) (rest_is_one xs)
  | inr other ↦ subst (λ (c : Cut). IsOneLine c.rest) (sym (at_other x xs other)) (before_is_one x (cut xs).lines (cut xs).rest other (rest_is_one xs))
]

pub take_all : (n : ℕ) (r : List ℕ) → length r ≤ n → take n r ≡ r
take_all n [] h = take-nil n
take_all zero (x ∷ xs) h = absurd (omega arith)
take_all (suc n) (x ∷ xs) h = ap (λ (t : List ℕ). x ∷ t) (take_all n xs (omega arith))

pub take_twice : (m n : ℕ) (r : List ℕ) → m ≤ n → take m (take n r) ≡ take m r
take_twice m n r le = elim (le_or_ge n (length r)) [
  | inl short ↦ let e = length-take-le n r short in sym (take-append-le m (take n r) (drop n r) (omega (arith, e))) ∙ ap (take m) (take-append-drop n r)
  | inr all ↦ ap (take m) (take_all n r all)
]

-- what is kept tells all that is asked
pub kept_again : (n : ℕ) (r s : List ℕ) → take n (take n r ++ s) ≡ take n (r ++ s)
kept_again n r s = elim (le_or_ge n (length r)) [
  | inl le ↦ let e = length-take-le n r le in take-append-le n (take n r) s (omega (arith, e)) ∙ take_twice n n r (omega arith) ∙ sym (take-append-le n r s le)
  | inr ge ↦ ap (λ (t : List ℕ). take n (t ++ s)) (take_all n r ge)
]

-- a line of so many bytes is long, whatever ends it
without_cr_cases : (z : List ℕ) → (without_cr z ≡ z) ⊎ (without_cr z ≡ take (length z - 1) z)
without_cr_cases z = elim (bytes_eq (drop (length z - 1) z) (13 ∷ [])) as (λ b.
    (((if b then take (length z - 1) z else z) ≡ z)
    ⊎ ((if b then take (length z - 1) z else z) ≡ take (length z - 1) z))) [ true ↦ inr refl | false ↦ inl refl ]

clipped_long : (z : List ℕ) → 4096 < length z → clipped z ≡ record { bytes = take 4096 z; long = true }
clipped_long z h = let e : nat_lt 4096 (length z) ≡ true = grind (arith, nat_tests) in ap (λ (b : Bool). record { bytes = take 4096 z; long = b }) e

line_long : (z : List ℕ) → 4098 ≤ length z → clipped (without_cr z) ≡ record { bytes = take 4096 z; long = true }
line_long z h = elim (without_cr_cases z) [
  | inl e ↦ ap clipped e ∙ clipped_long z (omega arith)
  | inr e ↦ let n = length-take-le (length z - 1) z (omega arith) in
      ap clipped e ∙ clipped_long (take (length z - 1) z) (omega (arith, n)) ∙ ap (λ (t : List ℕ). record { bytes = t; long = true }) (take_twice 4096 (length z - 1) z (omega arith))
]

pub line_kept : (x : List ℕ) → clipped (without_cr (kept_of x)) ≡ clipped (without_cr x)
line_kept x = elim (le_or_ge 4098 (length x)) [
  | inl le ↦ let n = length-take-le 4098 x le in line_long (take 4098 x) (omega (arith, n))
      ∙ ap (λ (t : List ℕ). record { bytes = t; long = true }) (take_twice 4096 4098 x (omega arith)) ∙ sym (line_long x le)
  | inr ge ↦ ap (λ (t : List ℕ). clipped (without_cr t)) (take_all 4098 x ge)
]

-- the line read from what is kept of some bytes is the line read from all of them
pub last_kept : (x : List ℕ) → clipped (kept_of x) ≡ clipped x
last_kept x = elim (le_or_ge 4098 (length x)) [
  | inl le ↦ let n = length-take-le 4098 x le in clipped_long (take 4098 x) (omega (arith, n))
      ∙ ap (λ (t : List ℕ). record { bytes = t; long = true }) (take_twice 4096 4098 x (omega arith)) ∙ sym (clipped_long x (omega arith))
  | inr ge ↦ ap clipped (take_all 4098 x ge)
]

-- the lines after a part that is kept are those after the part
abbrev as_lines : List (List ℕ) → List Line
as_lines ended = map (λ line. clipped (without_cr line)) ended

after_part_kept : (ended : List (List ℕ)) (rest r : List ℕ)
    → (as_lines (after_part ended rest (kept_of r)).lines ≡ as_lines (after_part ended rest r).lines)
    × (kept_of (after_part ended rest (kept_of r)).rest ≡ kept_of (after_part ended rest r).rest)
after_part_kept [] rest r = (refl, kept_again 4098 r rest)
after_part_kept (line ∷ lines) rest r = (
  ap (λ (l : Line). l ∷ as_lines lines) (sym (line_kept (kept_of r ++ line))
      ∙ ap (λ (t : List ℕ). clipped (without_cr t)) (kept_again 4098 r line) ∙ line_kept (r ++ line)),
  refl,
)

-- what is kept of a part without an LF has none
pub kept_one : (r : List ℕ) → IsOneLine r → IsOneLine (kept_of r)
kept_one r all = All-take (λ (b : ℕ). b ≢ 10) 4098 r all

pub lines_kept : (r ys : List ℕ) → IsOneLine r → lines_of (kept_of r ++ ys) ≡ lines_of (r ++ ys)
lines_kept r ys all = ap (λ (c : Cut). as_lines c.lines) (cut_after (kept_of r) ys (kept_one r all))
    ∙ (after_part_kept (cut ys).lines (cut ys).rest r).0 ∙ ap (λ (c : Cut). as_lines c.lines) (sym (cut_after r ys all))

pub rest_kept : (r ys : List ℕ) → IsOneLine r → kept_of (cut (kept_of r ++ ys)).rest ≡ kept_of (cut (r ++ ys)).rest
rest_kept r ys all = ap (λ (c : Cut). kept_of c.rest) (cut_after (kept_of r) ys (kept_one r all))
    ∙ (after_part_kept (cut ys).lines (cut ys).rest r).1 ∙ ap (λ (c : Cut). kept_of c.rest) (sym (cut_after r ys all))

-- one more piece: the lines so far, then those that it ends
pub lines_append : (read piece : List ℕ)
    → lines_of (read ++ piece) ≡ lines_of read ++ lines_of (kept_of (cut read).rest ++ piece)
lines_append read piece =
    ap (λ (c : Cut). as_lines c.lines) (cut_append read piece)
    ∙ map-append (λ line. clipped (without_cr line)) (cut read).lines (cut ((cut read).rest ++ piece)).lines
    ∙ ap (λ (ls : List Line). lines_of read ++ ls) (sym (lines_kept (cut read).rest piece (rest_is_one read)))

-- after one more piece, what is kept of the rest follows from the piece and what was kept of the rest before
pub kept_append : (read piece : List ℕ)
    → kept_of (cut (kept_of (cut read).rest ++ piece)).rest ≡ kept_of (cut (read ++ piece)).rest
kept_append read piece = rest_kept (cut read).rest piece (rest_is_one read) ∙ ap (λ (c : Cut). kept_of c.rest) (sym (cut_append read piece))
