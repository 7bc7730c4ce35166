-- A reader of a change has then what is drawn then.
use Rattle.std.proofs.Common.{◌≡◌, ◌∙◌, ℕ, ◌+◌, ◌-◌, ◌≤◌, List, [], ◌∷◌, ◌++◌, refl, sym, ap, subst, arith, Bool, true, false, cond, map, Option, Some}
use Rattle.std.specs.Prelude.{bytes_eq, codes, count_by, if◌then◌else◌, IsSomeAnd}
use Rattle.std.specs.Option.{option_and_then}
use Rattle.std.proofs.lemmas.List.Sums.{sum_by-cons}
use Rattle.std.proofs.lemmas.Slice.Eq.{bytes_eq-Decides}
use Rattle.cga_fraction.proofs.Door.{nat_eq_from_ne}
use Rattle.cga_shape.specs.declared.changes.Changes.{Changes}
use Rattle.cga_shape.specs.declared.drawn.Drawn.{Drawn}
use Rattle.cga_obj.specs.DeltaLaws.{Has, LeadsTo, ReadersFollow}
use Rattle.cga_obj.specs.DeltaReader.{Having, less_one, read_lines, taken, with_one}
use Rattle.cga_obj.specs.Delta.{delta_lines, drawn_text, if_any, signed_line, told_lines}

abbrev minus : List ℕ
minus = codes "- "

abbrev plus : List ℕ
plus = codes "+ "

-- how often instances have a line
abbrev often : List ℕ → List Drawn → ℕ
often line list = count_by (λ d. bytes_eq line (drawn_text d)) list

often_more : (line : List ℕ) (d : Drawn) (ds : List Drawn)
    → often line (d ∷ ds) ≡ cond (bytes_eq line (drawn_text d)) 1 0 + often line ds
often_more line d ds = sum_by-cons (λ (d : Drawn). cond (bytes_eq line (drawn_text d)) 1 0) d ds

-- ---- one line

less : (b : Bool) (n m : ℕ) → cond b 1 0 + m ≤ n → n ≡ (if b then n - 1 else n) + cond b 1 0
less true n m h = omega (arith, h)
less false n m h = omega arith

more : (b : Bool) (n : ℕ) → (if b then n + 1 else n) ≡ n + cond b 1 0
more true n = refl
more false n = omega arith

-- what is there is taken away
take_there : (line : List ℕ) (mine : Having) → (mine line ≡ 0 → ⊥) → taken line mine ≡ Some (less_one line mine)
take_there line mine some = rw (nat_eq_from_ne (mine line) 0 some) refl

first_there : (d : Drawn) (ds : List Drawn) (mine : Having) → ((line : List ℕ) → often line (d ∷ ds) ≤ mine line)
    → mine (drawn_text d) ≡ 0 → ⊥
first_there d ds mine there none =
    let text = drawn_text d in
    let count : Bool → ℕ = λ b. cond b 1 0 in
    let own : count (bytes_eq text text) ≡ count true = ap count ((bytes_eq-Decides text text).1 refl) in
    let all = there text in
    let one = often_more text d ds in
    omega (arith, own, all, one, none)

-- ---- what goes

module _ (rest : List (List ℕ)) where
  goes : (ds : List Drawn) (mine : Having) → ((line : List ℕ) → often line ds ≤ mine line)
      → (now : Having) × (read_lines (map (signed_line minus) ds ++ rest) mine ≡ read_lines rest now)
      × ((line : List ℕ) → mine line ≡ now line + often line ds)
  goes [] mine there = (mine, refl, λ line. omega arith)
  goes (d ∷ ds) mine there =
      let text = drawn_text d in
      let next = less_one text mine in
      let step : (line : List ℕ) → mine line ≡ next line + cond (bytes_eq line text) 1 0
      = λ line. less (bytes_eq line text) (mine line) (often line ds) (subst (λ (n : ℕ). n ≤ mine line) (often_more line d ds) (there line)) in
      let left : (line : List ℕ) → often line ds ≤ next line
      = λ line. let a = there line in let b = often_more line d ds in let e = step line in omega (arith, a, b, e) in
      let all = goes ds next left in (
        all.0,
        ap (option_and_then (λ (m : Having). read_lines (map (signed_line minus) ds ++ rest) m)) (take_there text mine (first_there d ds mine there)) ∙ all.1,
        λ line. let a = step line in let b = all.2 line in let e = often_more line d ds in omega (arith, a, b, e),
      )

-- ---- what comes

comes : (ds : List Drawn) (mine : Having)
    → (now : Having) × (read_lines (map (signed_line plus) ds) mine ≡ Some now)
    × ((line : List ℕ) → now line ≡ mine line + often line ds)
comes [] mine = (mine, refl, λ line. omega arith)
comes (d ∷ ds) mine =
    let text = drawn_text d in
    let next = with_one text mine in
    let all = comes ds next in (
      all.0,
      all.1,
      λ line. let a = more (bytes_eq line text) (mine line) in let b = all.2 line in let e = often_more line d ds in omega (arith, a, b, e),
    )

-- ---- a whole change

module _ (old new : List Drawn) (c : Changes) (leads : LeadsTo old new c) (mine : Having) (has : Has mine old) where
  there : (line : List ℕ) → often line c.gone ≤ mine line
  there line = let a = has line in let b = leads.there (λ d. bytes_eq line (drawn_text d)) in omega (arith, a, b)

  told : IsSomeAnd (read_lines (told_lines c) mine) (λ now. Has now new)
  told =
      let created-lines = map (signed_line plus) c.come in
      let removed = goes created-lines c.gone mine there in
      let created = comes c.come removed.0 in
      let whole : read_lines (told_lines c) mine ≡ Some created.0 = removed.1 ∙ created.1 in
      subst (λ (o : Option Having). IsSomeAnd o (λ now. Has now new)) (sym whole)
      (λ line.
      let a = has line in let b = removed.2 line in let e = created.2 line in
      let f = leads.balance (λ d. bytes_eq line (drawn_text d)) in
      omega (arith, a, b, e, f))

  unchanged : c.gone ≡ [] → c.come ≡ [] → Has mine new
  unchanged gone come = λ line.
      let a = has line in let f = leads.balance (λ d. bytes_eq line (drawn_text d)) in
      let b = ap (often line) gone in let e = ap (often line) come in
      omega (arith, a, b, e, f)

by_some : (P : List (List ℕ) → Type 0) (gone come : List Drawn) (lines : List (List ℕ)) → P lines
    → (gone ≡ [] → come ≡ [] → P []) → P (if_any gone come lines)
by_some P [] [] lines p none = none refl refl
by_some P [] (d ∷ ds) lines p none = p
by_some P (d ∷ ds) come lines p none = p

pub readers_follow : ReadersFollow
unfolding delta_lines
readers_follow old new c leads mine has =
    by_some (λ (lines : List (List ℕ)). IsSomeAnd (read_lines lines mine) (λ now. Has now new)) c.gone c.come (told_lines c)
    (told old new c leads mine has) (unchanged old new c leads mine has)
