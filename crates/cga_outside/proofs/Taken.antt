-- What a read takes of a list of bytes.
use Rattle.std.proofs.Common.{◌≡◌, ℕ, ◌≤◌, List, [], ◌∷◌, ◌++◌, length, take, refl, ap, arith, length-append, Ok, Option, None, Some}
use Rattle.std.proofs.lemmas.List.{length-take-le}
use Rattle.std.proofs.lemmas.Grind.{common_steps}
use Rattle.std.specs.Io.KnownBytes.{ReadConsumes}
use Rattle.cga_outside.specs.Causes.{IsZeroAtEnd}

-- where none is left, none is taken
none_taken : (n : ℕ) (buf ys : List ℕ) → n ≤ length buf → [] ≡ take n buf ++ ys → n ≡ 0
none_taken n buf ys le e = omega (arith, ap length e, length-append (take n buf) ys, length-take-le n buf le)

-- a read that takes none and leaves none had none
some_left : (x : ℕ) (xs : List ℕ) (n : ℕ) (buf ys : List ℕ) → n ≡ 0 → ys ≡ [] → x ∷ xs ≡ take n buf ++ ys → ⊥
some_left x xs n buf ys z none e = grind (arith, common_steps)

-- a read that consumes gives nothing, with room, exactly at the end
pub zero_at_end : (E : Type 0) (old new : Option (List ℕ)) (n : ℕ) (buf : List ℕ) → n ≤ length buf
    → ReadConsumes {E = E} old new (Ok n) buf → IsZeroAtEnd {E = E} old (Ok n) buf
zero_at_end E None new n buf le reads = tt
zero_at_end E (Some xs) None n buf le reads = λ room. absurd reads.0
zero_at_end E (Some []) (Some ys) n buf le reads = λ room. ((λ e. refl), λ e. none_taken n buf ys le reads.0)
zero_at_end E (Some (x ∷ xs)) (Some ys) n buf le reads = λ room. ((λ e. let nothing : ys ≡ [] = reads.1 e room in absurd (some_left x xs n buf ys e nothing reads.0)), λ e. cc)
