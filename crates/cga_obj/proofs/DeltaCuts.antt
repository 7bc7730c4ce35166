-- Where a text is cut at the first of some byte.
use Rattle.std.proofs.Common.{◌≡◌, ◌∙◌, ℕ, suc, ◌<◌, ◌^◌, List, [], ◌∷◌, ◌++◌, length, drop, refl, sym, ap, arith, Bool, true, false, nat_lt}
use Rattle.std.specs.Prelude.{◌&&◌, decimal, ℤ, pos, negsuc, IsTrue, unsigned_abs}
use Rattle.std.specs.Fmt.{signed_decimal}
use Rattle.std.specs.List.{list_all}
use Rattle.std.specs.Str.Parse.{AllDigits}
use Rattle.std.proofs.lemmas.Bool.{and_parts}
use Rattle.std.proofs.lemmas.Fmt.{decimal_is_IsNumeral}
use Rattle.std.proofs.lemmas.Str.Parse.{digit_from_value}
use Rattle.cga_word.specs.Name.{begins_name, continues_name, is_name}

-- the byte isn't among these
abbrev pub Lacks : ℕ → List ℕ → Type 0
Lacks byte [] = Unit {0}
Lacks byte (x ∷ xs) = (x ≡ byte → ⊥) × Lacks byte xs

abbrev first : List ℕ → ℕ
first [] = 0
first (x ∷ xs) = x

-- what stands before the first byte of two equal texts is equal, and so is what stands behind it
pub cut_once : (byte : ℕ) (u w v x : List ℕ) → Lacks byte u → Lacks byte w → u ++ byte ∷ v ≡ w ++ byte ∷ x
    → (u ≡ w) × (v ≡ x)
cut_once byte [] [] v x h k e = (refl, ap (drop 1) e)
cut_once byte [] (b ∷ w) v x h k e = absurd (k.0 (sym (ap first e)))
cut_once byte (a ∷ u) [] v x h k e = absurd (h.0 (ap first e))
cut_once byte (a ∷ u) (b ∷ w) v x h k e =
    let rest = cut_once byte u w v x h.1 k.1 (ap (drop 1) e) in
    let head : a ≡ b = ap first e in
    ((λ i. head i ∷ rest.0 i), rest.1)

pub lacks_more : (byte : ℕ) (xs ys : List ℕ) → Lacks byte xs → Lacks byte ys → Lacks byte (xs ++ ys)
lacks_more byte [] ys h k = k
lacks_more byte (x ∷ xs) ys h k = (h.0, lacks_more byte xs ys h.1 k)

-- where each byte passes a test that the byte doesn't
pub lacks_by : (test : ℕ → Bool) (byte : ℕ) → test byte ≡ false → (xs : List ℕ) → list_all test xs ≡ true
    → Lacks byte xs
lacks_by test byte f [] h = tt
lacks_by test byte f (x ∷ xs) h =
    let b = and_parts (test x) (list_all test xs) h in
    ((λ e. let bad : true ≡ false = sym b.0 ∙ ap test e ∙ f in cc), lacks_by test byte f xs b.1)

pub name_lacks : (name : List ℕ) → IsTrue (is_name name) → Lacks 32 name
name_lacks [] h = tt
name_lacks (c ∷ cs) h =
    let a = and_parts (begins_name c && nat_lt (length cs) 32) (list_all continues_name cs) h in
    let b = and_parts (begins_name c) (nat_lt (length cs) 32) a.0 in
    let none : begins_name 32 ≡ false = refl in
    ((λ e. let bad : true ≡ false = sym b.0 ∙ ap begins_name e ∙ none in cc), lacks_by continues_name 32 refl cs a.1)

digits_lack : (byte : ℕ) → byte < 48 → (ds : List ℕ) → AllDigits 10 ds → Lacks byte ds
digits_lack byte low [] d = tt
digits_lack byte low (c ∷ cs) d = ((λ e. absurd (omega (arith, digit_from_value c d.0))), digits_lack byte low cs d.1)

pub number_lacks : (byte n : ℕ) → byte < 48 → n < 2 ^ 64 → Lacks byte (decimal n)
number_lacks byte n low h = digits_lack byte low (decimal n) (decimal_is_IsNumeral n h).0.1

pub signed_lacks : (byte : ℕ) (z : ℤ) → byte < 48 → (45 ≡ byte → ⊥) → unsigned_abs z < 2 ^ 63
    → Lacks byte (signed_decimal z)
signed_lacks byte (pos n) low unlike h = number_lacks byte n low (omega (arith, h))
signed_lacks byte (negsuc n) low unlike h = (unlike, number_lacks byte (suc n) low (omega (arith, h)))
