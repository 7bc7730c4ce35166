-- The words of a step hold no blank, and the numbers of a path no stroke.
use Rattle.std.proofs.Common.{◌≡◌, ℕ, ◌<◌, ◌^◌, List, [], ◌∷◌, ◌++◌, length, drop, Bool, true, false, not, ◌&&◌}
use Rattle.std.proofs.Common.{inl, inr, nat_eq, nat_lt, refl, sym, ap, ◌∙◌, subst, Option, Some, None, arith}
use Rattle.std.proofs.Common.{length-append}
use Rattle.std.specs.Prelude.{decimal, flat_map, IsTrue}
use Rattle.std.specs.Char.{is_ascii_digit}
use Rattle.std.specs.List.{list_all, AllByRecursion}
use Rattle.std.proofs.lemmas.List.{append-nil}
use Rattle.std.proofs.lemmas.Fmt.{digits_decimal, decimal_nonempty}
use Rattle.cga_fraction.proofs.Door.{eq_from_nat_eq as equal, own}
use Rattle.cga_word.specs.Name.{begins_name, continues_name, is_name, name_of}
use Rattle.cga_word.specs.declared.answer.Answer.{Answer}
use Rattle.cga_word.specs.declared.answer.Answer.TheVariants.{Nothing, Part, Full}
use Rattle.cga_trace.specs.Cut.{lacks, cut_of}
use Rattle.cga_obj.specs.Faults.{index_text, path_text}
use Rattle.cga_trace.specs.Words.{answer_word}
use Rattle.cga_trace.proofs.Again.{both}
use Rattle.cga_trace.proofs.Cutting.{cut_alone, cut_between}
use Rattle.std.proofs.lemmas.Bool.{and_from as and_true, cases_Bool as either}

other : (p : ℕ → Bool) (byte b : ℕ) → p byte ≡ false → p b ≡ true → not (nat_eq b byte) ≡ true
other p byte b f t = elim (either (nat_eq b byte)) [
  | inl e ↦ let x : true ≡ false = sym t ∙ (ap p (equal b byte e) ∙ f) in cc
  | inr e ↦ ap not e
]

lacks_by : (p : ℕ → Bool) (byte : ℕ) → p byte ≡ false → (xs : List ℕ) → list_all p xs ≡ true → lacks byte xs ≡ true
lacks_by p byte f [] e = refl
lacks_by p byte f (x ∷ xs) e =
    let b = both (p x) (list_all p xs) e in
    and_true (not (nat_eq x byte)) (lacks byte xs) (other p byte x f b.0) (lacks_by p byte f xs b.1)

lacks_append : (byte : ℕ) (xs ys : List ℕ) → lacks byte xs ≡ true → lacks byte ys ≡ true → lacks byte (xs ++ ys) ≡ true
lacks_append byte [] ys e f = f
lacks_append byte (x ∷ xs) ys e f =
    let b = both (not (nat_eq x byte)) (lacks byte xs) e in
    and_true (not (nat_eq x byte)) (lacks byte (xs ++ ys)) b.0 (lacks_append byte xs ys b.1 f)

pub name_lacks : (name : List ℕ) → IsTrue (is_name name) → lacks 32 name ≡ true
name_lacks [] h = refl
name_lacks (c ∷ cs) h =
    let a = both (begins_name c && nat_lt (length cs) 32) (list_all continues_name cs) h in
    let b = both (begins_name c) (nat_lt (length cs) 32) a.0 in
    and_true (not (nat_eq c 32)) (lacks 32 cs) (other begins_name 32 c refl b.0) (lacks_by continues_name 32 refl cs a.1)

pub name_again : (name : List ℕ) → IsTrue (is_name name) → name_of name ≡ Some name
name_again name h = rw h refl

pub answer_lacks : (answer : Option Answer) → lacks 32 (answer_word answer) ≡ true
unfolding answer_word
answer_lacks None = refl
answer_lacks (Some Nothing) = refl
answer_lacks (Some Part) = refl
answer_lacks (Some Full) = refl

number_lacks : (byte n : ℕ) → is_ascii_digit byte ≡ false → n < 2 ^ 16 → lacks byte (decimal n) ≡ true
number_lacks byte n f small =
    let fits : n < 2 ^ 64 = omega (arith, small) in
    lacks_by is_ascii_digit byte f (decimal n) (digits_decimal own n fits)

indices_lack : (path : List ℕ) → AllByRecursion (λ i. i < 2 ^ 16) path → lacks 32 (flat_map index_text path) ≡ true
unfolding index_text
indices_lack [] h = refl
indices_lack (i ∷ path) h = lacks_append 32 (decimal i) (flat_map index_text path) (number_lacks 32 i refl h.0) (indices_lack path h.1)

pub path_lacks : (path : List ℕ) → AllByRecursion (λ i. i < 2 ^ 16) path → lacks 32 (path_text path) ≡ true
unfolding path_text
path_lacks [] h = refl
path_lacks (i ∷ path) h = indices_lack (i ∷ path) h

-- ---- the numbers of a path

pub path_behind : (path text rest : List ℕ) → text ≡ path_text path → rest ≡ drop 1 text
    → rest ≡ drop 1 (flat_map index_text path)
unfolding path_text
path_behind [] text rest is at = at ∙ ap (drop 1) is
path_behind (i ∷ path) text rest is at = at ∙ ap (drop 1) is

pub cut_index : (i : ℕ) → i < 2 ^ 16 → (path : List ℕ)
    → cut_of 47 (drop 1 (flat_map index_text (i ∷ path))) ≡ (decimal i, drop 1 (flat_map index_text path))
unfolding index_text
cut_index i h [] = ap (cut_of 47) (append-nil (decimal i)) ∙ cut_alone 47 (decimal i) (number_lacks 47 i refl h)
cut_index i h (j ∷ path) = cut_between 47 (decimal i) (decimal j ++ flat_map index_text path) (number_lacks 47 i refl h)

pub some_left : (i : ℕ) → i < 2 ^ 16 → (path : List ℕ) → 0 < length (drop 1 (flat_map index_text (i ∷ path)))
unfolding index_text
some_left i h path =
    let fits : i < 2 ^ 64 = omega (arith, h) in
    omega (arith, decimal_nonempty i fits, length-append (decimal i) (flat_map index_text path))

behind_done : (done left : List ℕ) → AllByRecursion (λ i. i < 2 ^ 16) (done ++ left)
    → AllByRecursion (λ i. i < 2 ^ 16) left
behind_done [] left h = h
behind_done (x ∷ done) left h = behind_done done left h.1

append_one : (done : List ℕ) (i : ℕ) (left : List ℕ) → done ++ i ∷ left ≡ (done ++ i ∷ []) ++ left
append_one [] i left = refl
append_one (x ∷ done) i left = ap (λ l. x ∷ l) (append_one done i left)

-- what is left of a path, at a turn of the loop
abbrev pub IsLeft : List ℕ → List ℕ → List ℕ → Type 0
IsLeft is done rest = (left : List ℕ) × (is ≡ done ++ left) × (rest ≡ drop 1 (flat_map index_text left))

module _ (is : List ℕ) (few : AllByRecursion (λ i. i < 2 ^ 16) is) (done rest : List ℕ) where
  -- nothing is left
  pub path_ends : IsLeft is done rest → (0 < length rest → ⊥) → done ≡ is
  path_ends ([], e, r) h = sym (append-nil done) ∙ sym e
  path_ends (i ∷ left, e, r) h =
      let all = behind_done done (i ∷ left) (subst (AllByRecursion (λ i. i < 2 ^ 16)) e few) in
      absurd (h (subst (λ l. 0 < length l) (sym r) (some_left i all.0 left)))

  -- one more number is read
  pub path_goes : IsLeft is done rest → 0 < length rest → (word more : List ℕ) → word ≡ (cut_of 47 rest).0
      → more ≡ (cut_of 47 rest).1 → (i : ℕ) × (i < 2 ^ 16) × (word ≡ decimal i) × IsLeft is (done ++ i ∷ []) more
  path_goes ([], e, r) h word more w m = let none : length rest ≡ 0 = ap length r in absurd (omega (arith, h, none))
  path_goes (i ∷ left, e, r) h word more w m =
      let all = behind_done done (i ∷ left) (subst (AllByRecursion (λ i. i < 2 ^ 16)) e few) in
      let cut = ap (cut_of 47) r ∙ cut_index i all.0 left in
      (i, all.0, w ∙ ap (λ p. p.0) cut, (left, e ∙ append_one done i left, m ∙ ap (λ p. p.1) cut))

pub few_more : (path : List ℕ) (i : ℕ) → AllByRecursion (λ i. i < 2 ^ 16) path → i < 2 ^ 16
    → AllByRecursion (λ i. i < 2 ^ 16) (path ++ i ∷ [])
few_more [] i few one = (one, tt)
few_more (x ∷ path) i few one = (few.0, few_more path i few.1 one)
