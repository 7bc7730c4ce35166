-- A name that is written over zeros is padded.
use Rattle.std.proofs.Common.{◌≡◌, ℕ, ◌-◌, ◌≤◌, nat_eq, Bool, List, [], ◌∷◌, ◌++◌, length, replicate, take, drop, true, false, refl, sym, ap, ◌∙◌, subst, arith, length-append}
use Rattle.std.specs.Prelude.{IsTrue, nat_lt}
use Rattle.std.specs.List.{list_all}
use Rattle.std.proofs.Math.Seq.{take-append_seam, drop-append_seam}
use Rattle.std.proofs.lemmas.List.{drop-replicate, length-replicate, take-append-drop}
use Rattle.std.proofs.lemmas.Bool.{ltb-true}
use Rattle.std.specs.Cmp.{first_so, second_so}
use Rattle.cga_word.specs.Name.{begins_name, continues_name, is_name, IsPadded}
use lib.Pointwise.{pointwise, bytes_decides}

pub length-is_name : (name : List ℕ) → is_name name ≡ true → length name ≤ 32
length-is_name [] h = let e : false ≡ true = h in cc
length-is_name (first ∷ rest) h =
    let short = ltb-true _ _ (second_so (begins_name first) (nat_lt (length rest) 32) (first_so _ (list_all continues_name rest) h)) in
    omega (arith, short)

pub IsPadded-over_zeros : (name : List ℕ) → is_name name ≡ true
    → IsPadded (name ++ drop (length name) (replicate 32 0)) (length name)
IsPadded-over_zeros name h =
    let few = length-is_name name h in
    let rest : drop (length name) (replicate 32 0) ≡ replicate (32 - length name) 0 = drop-replicate (length name) 32 0 in
    let left : length (drop (length name) (replicate 32 0)) ≡ 32 - length name = ap length rest ∙ length-replicate (32 - length name) 0 in
    record {
      few = few;
      long = omega (arith, length-append name (drop (length name) (replicate 32 0)), left, few);
      zeros = drop-append_seam name (drop (length name) (replicate 32 0)) ∙ rest;
      named = subst (λ taken. IsTrue (is_name taken)) (sym (take-append_seam name (drop (length name) (replicate 32 0)))) h;
    }

both_ways : (x y : Bool) → (x ≡ true → y ≡ true) → (y ≡ true → x ≡ true) → x ≡ y
both_ways true true there back = refl
both_ways true false there back = sym (there refl)
both_ways false true there back = back refl
both_ways false false there back = refl

-- padded names of one size are the same where their names are
same-padded : (a b : List ℕ) (m : ℕ) → IsPadded a m → IsPadded b m → take m a ≡ take m b → a ≡ b
same-padded a b m p q e =
    sym (take-append-drop m a) ∙ ap (λ r. take m a ++ r) (p.zeros ∙ sym q.zeros) ∙ ap (λ l. l ++ drop m b) e ∙ take-append-drop m b

-- so all 32 bytes tell of two names of one size whether they are equal
pub padded-eq : (a b : List ℕ) (m n : ℕ) → IsPadded a m → IsPadded b n → m ≡ n
    → pointwise nat_eq a b ≡ pointwise nat_eq (take m a) (take n b)
padded-eq a b m n p q e =
    let r : IsPadded b m = subst (λ k. IsPadded b k) (sym e) q in
    let same : pointwise nat_eq a b ≡ pointwise nat_eq (take m a) (take m b) =
    both_ways _ _ (λ h. (bytes_decides (take m a) (take m b)).1 (ap (λ l. take m l) ((bytes_decides a b).0 h)))
    (λ h. (bytes_decides a b).1 (same-padded a b m p r ((bytes_decides (take m a) (take m b)).0 h))) in
    same ∙ ap (λ k. pointwise nat_eq (take m a) (take k b)) e
