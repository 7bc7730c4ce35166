-- Printed tokens, joined.
use Rattle.std.proofs.Common.{◌≡◌, ℕ, ◌+◌, ◌-◌, ◌<◌, ◌≤◌, List, [], ◌∷◌, ◌++◌, length, map, take, drop, get_or, append_assoc, refl, ap, sym, ◌∙◌, arith, Bool, true, false, nat_le, if◌then◌else◌}
use Rattle.std.proofs.lemmas.Bool.Decides.{nat_tests}
use Rattle.std.proofs.lemmas.List.{length-map, take_all}
use Rattle.cga_lexer.specs.declared.sign.Sign.TheVariants as s
use Rattle.cga_syntax.specs.declared.keyword.Keyword.TheVariants as k
use Rattle.std.proofs.lemmas.List.{at_drop_more}
use Rattle.cga_syntax.specs.Pieces.{Piece, Pieces, never, sign, keyword, concat, after_each, separated, preceded, nonempty, arguments, at_most, body_of}
use Rattle.cga_syntax.specs.Printing.{printed_piece, printed, printed_on}
use Rattle.cga_syntax.specs.declared.print.mark.Mark.{Mark}
use Rattle.std.proofs.Common.{append-nil as nil_right}

pub on_join : (ms : List Mark) (ps qs : List Piece) → printed_on ms (ps ++ qs) ≡ printed_on (printed_on ms ps) qs
on_join ms [] qs = refl
on_join ms (p ∷ ps) qs = on_join (ms ++ printed_piece p) ps qs

pub on_is : (ms : List Mark) (ps : List Piece) → printed_on ms ps ≡ ms ++ printed ps
on_is ms [] = sym (nil_right ms)
on_is ms (p ∷ ps) = on_is (ms ++ printed_piece p) ps ∙ append_assoc ms (printed_piece p) (printed ps)

-- a turn of a loop over what is printed
pub each_on : {A : Type 0} (w : A → Pieces) (ms : List Mark) (xs : List A) (i : ℕ) (x : A) (now out : List Mark)
    → i < length xs → x ≡ get_or xs i x →
    printed_on ms (concat (map w (drop i xs))) ≡ out → now ≡ printed_on ms (w x) → printed_on now (concat (map w (drop (i + 1) xs))) ≡ out
each_on w ms xs i x now out lt is before e =
    ap (λ z. printed_on z (concat (map w (drop (i + 1) xs)))) e
    ∙ sym (on_join ms (w x) (concat (map w (drop (i + 1) xs))))
    ∙ ap (λ y. printed_on ms (w y ++ concat (map w (drop (i + 1) xs)))) is
    ∙ sym (at_drop_more (λ r. printed_on ms (concat (map w r))) xs i x lt)
    ∙ before

-- the same where each stands after a token
module _ {A : Type 0} (p : Piece) (w : A → Pieces) where
  pub after_on : (ms : List Mark) (xs : List A) (i : ℕ) (x : A)
      (middle now out : List Mark)
      → i < length xs → x ≡ get_or xs i x →
      printed_on ms (after_each p (map w (drop i xs))) ≡ out → middle ≡ ms ++ printed_piece p → now ≡ printed_on middle (w x) →
      printed_on now (after_each p (map w (drop (i + 1) xs))) ≡ out
  after_on ms xs i x middle now out lt is before m e =
      ap (λ z. printed_on z (after_each p (map w (drop (i + 1) xs)))) (e ∙ ap (λ z. printed_on z (w x)) m)
      ∙ sym (on_join (ms ++ printed_piece p) (w x) (after_each p (map w (drop (i + 1) xs))))
      ∙ ap (λ y. printed_on ms (p ∷ (w y ++ after_each p (map w (drop (i + 1) xs))))) is
      ∙ sym (at_drop_more (λ r. printed_on ms (after_each p (map w r))) xs i x lt)
      ∙ before

-- ---- lists with tokens between

-- what is left of a list whose members have a token between them, where some came before or none did
abbrev pub spread : Piece → Bool → List Pieces → Pieces
spread p some [] = []
spread p true (ps ∷ pss) = p ∷ (ps ++ after_each p pss)
spread p false (ps ∷ pss) = ps ++ after_each p pss

pub spread_first : (p : Piece) (ms : List Mark) (pss : List Pieces)
    → printed_on ms (spread p false pss) ≡ printed_on ms (separated p pss [])
spread_first p ms [] = sym (nil_right ms)
spread_first p ms (ps ∷ pss) = ap (λ z. printed_on ms (ps ++ z)) (sym (nil_right (after_each p pss)))

spread_later : (p : Piece) (pss : List Pieces) → spread p true pss ≡ after_each p pss
spread_later p [] = refl
spread_later p (ps ∷ pss) = refl

spread_step : (p : Piece) (some : Bool) (ms middle now : List Mark) (ps : Pieces) (pss : List Pieces)
    → middle ≡ (if some then ms ++ printed_piece p else ms) → now ≡ printed_on middle ps →
    printed_on now (spread p true pss) ≡ printed_on ms (spread p some (ps ∷ pss))
spread_step p true ms middle now ps pss m e =
    ap (printed_on now) (spread_later p pss) ∙ ap (λ z. printed_on z (after_each p pss)) (e ∙ ap (λ z. printed_on z ps) m) ∙ sym (on_join (ms ++ printed_piece p) ps (after_each p pss))
spread_step p false ms middle now ps pss m e =
    ap (printed_on now) (spread_later p pss) ∙ ap (λ z. printed_on z (after_each p pss)) (e ∙ ap (λ z. printed_on z ps) m) ∙ sym (on_join ms ps (after_each p pss))

module _ {A : Type 0} (p : Piece) (w : A → Pieces) where
  pub spread_on : (some : Bool) (ms : List Mark) (xs : List A) (i : ℕ) (x : A)
      (middle now out : List Mark)
      → i < length xs → x ≡ get_or xs i x →
      printed_on ms (spread p some (map w (drop i xs))) ≡ out → middle ≡ (if some then ms ++ printed_piece p else ms) → now ≡ printed_on middle (w x) →
      printed_on now (spread p true (map w (drop (i + 1) xs))) ≡ out
  spread_on some ms xs i x middle now out lt is before m e =
      spread_step p some ms middle now (w x) (map w (drop (i + 1) xs)) m e
      ∙ ap (λ y. printed_on ms (spread p some (w y ∷ map w (drop (i + 1) xs)))) is
      ∙ sym (at_drop_more (λ r. printed_on ms (spread p some (map w r))) xs i x lt)
      ∙ before

pub separated_cut : (p : Piece) (ms : List Mark) (pss : List Pieces) (end : Pieces)
    → printed_on ms (separated p pss end) ≡ printed_on (printed_on ms (separated p pss [])) end
separated_cut p ms [] end = on_join ms (never ∷ []) end
separated_cut p ms (ps ∷ pss) end =
    on_join ms ps (after_each p pss ++ end) ∙ on_join (printed_on ms ps) (after_each p pss) end
    ∙ sym (ap (λ z. printed_on z end) (on_join ms ps (after_each p pss ++ []) ∙ ap (printed_on (printed_on ms ps)) (nil_right (after_each p pss))))

pub preceded_cut : (p : Piece) (ms : List Mark) (pss : List Pieces) (end : Pieces)
    → printed_on ms (preceded p pss end) ≡ printed_on (printed_on ms (after_each p pss)) end
preceded_cut p ms [] end = ap (λ z. printed_on z end) (nil_right ms)
preceded_cut p ms (ps ∷ pss) end =
    on_join (ms ++ printed_piece p) ps (after_each p pss ++ end) ∙ on_join (printed_on (ms ++ printed_piece p) ps) (after_each p pss) end
    ∙ sym (ap (λ z. printed_on z end) (on_join (ms ++ printed_piece p) ps (after_each p pss)))

pub nonempty_cut : (ms : List Mark) (pss : List Pieces) (end : Pieces)
    → printed_on ms (nonempty pss end) ≡ printed_on (printed_on ms (concat pss)) end
nonempty_cut ms [] end = ap (λ z. printed_on z end) (nil_right ms)
nonempty_cut ms (ps ∷ pss) end =
    on_join ms ps (concat pss ++ end) ∙ on_join (printed_on ms ps) (concat pss) end ∙ sym (ap (λ z. printed_on z end) (on_join ms ps (concat pss)))

-- ---- arguments

pub arguments_none : {A : Type 0} (w : A → Pieces) (ms : List Mark) (xs : List A) → length xs < 1
    → printed_on ms (arguments (map w xs)) ≡ ms
arguments_none w ms [] h = refl
arguments_none w ms (x ∷ xs) h = absurd (omega arith)

pub arguments_on : {A : Type 0} (w : A → Pieces) (ms m1 m2 m3 : List Mark) (xs : List A) (x : A) → 1 ≤ length xs
    → x ≡ get_or xs 0 x →
    m1 ≡ ms ++ printed_piece (sign s.LeftRound) → m2 ≡ printed_on m1 (w x) → m3 ≡ printed_on m2 (at_most 3 (sign s.Comma) (map w (take (length xs - 1) (drop 1 xs)))) →
    m3 ++ printed_piece (sign s.RightRound) ≡ printed_on ms (arguments (map w xs))
arguments_on w ms m1 m2 m3 [] x le is e f g = absurd (omega arith)
arguments_on w ms m1 m2 m3 (y ∷ xs) x le is e f g =
    let q : x ≡ y = is in
    let end : Pieces = sign s.RightRound ∷ [] in
    let rest : Pieces = at_most 3 (sign s.Comma) (map w xs) in
    let all : take (length (y ∷ xs) - 1) xs ≡ xs = take_all (length (y ∷ xs) - 1) xs (omega arith) in
    ap (λ z. printed_on z end) (g ∙ ap (λ z. printed_on m2 (at_most 3 (sign s.Comma) (map w z))) all) ∙ sym (on_join m2 rest end)
    ∙ ap (λ z. printed_on z (rest ++ end)) f ∙ sym (on_join m1 (w x) (rest ++ end))
    ∙ ap (λ z. printed_on z (w x ++ (rest ++ end))) e
    ∙ ap (λ z. printed_on ms (sign s.LeftRound ∷ (w z ++ (rest ++ end)))) q

pub at_most_few : {A : Type 0} (p : Piece) (w : A → Pieces) (n : ℕ) (xs : List A) → length xs ≤ n
    → at_most n p (map w xs) ≡ after_each p (map w xs)
at_most_few p w n xs h = ap (λ b. if b then after_each p (map w xs) else never ∷ []) (let e : nat_le (length (map w xs)) n ≡ true = grind (arith, nat_tests, length-map xs w) in e)

pub at_most_many : {A : Type 0} (p : Piece) (w : A → Pieces) (n : ℕ) (ms : List Mark) (xs : List A) → n < length xs
    → printed_on ms (at_most n p (map w xs)) ≡ ms
at_most_many p w n ms xs h = ap (λ b. printed_on ms (if b then after_each p (map w xs) else never ∷ []))
    (let e : nat_le (length (map w xs)) n ≡ false = grind (arith, nat_tests, length-map xs w) in e) ∙ nil_right ms

-- ---- bodies

pub body_some : {A : Type 0} (w : A → Pieces) (xs : List A) → 0 < length xs → body_of (map w xs) ≡ concat (map w xs)
body_some w [] h = absurd (omega arith)
body_some w (x ∷ xs) h = refl

pub body_none : {A : Type 0} (w : A → Pieces) (xs : List A) → xs ≡ [] → body_of (map w xs) ≡ keyword k.Nil ∷ []
body_none w xs h = ap (λ z. body_of (map w z)) h
