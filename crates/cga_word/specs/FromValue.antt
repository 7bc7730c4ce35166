-- A name's bytes give its fields back.
use Rattle.std.specs.Prelude.{◌≡◌, ℕ, ◌-◌, List, ◌++◌, length, replicate, take}
use Rattle.std.proofs.Common.{arith, ap, sym, ◌∙◌, length-take}
use Rattle.std.proofs.lemmas.List.{take-append-drop}
use Rattle.cga_word.specs.Name.{IsPadded, padded_of}
use Rattle.cga_word.specs.declared.name.Name.TheInside.{Inside}

pub inverse-view : (n : Inside) → IsPadded n.bytes n.size
    → ◌≡◌ {A = Inside} (record { bytes = padded_of (take n.size n.bytes); size = length (take n.size n.bytes) }) n
inverse-view n h =
    let few = h.few in
    let size : length (take n.size n.bytes) ≡ n.size = omega (arith, length-take n.size n.bytes, h.long) in
    let bytes : padded_of (take n.size n.bytes) ≡ n.bytes =
    ap (λ k. take n.size n.bytes ++ replicate (32 - k) 0) size ∙ (ap (λ r. take n.size n.bytes ++ r) (sym h.zeros) ∙ take-append-drop n.size n.bytes) in
    let made : List ℕ → ℕ → Inside = λ (b : List ℕ). λ (k : ℕ). record { bytes = b; size = k } in
    ap (λ b. made b (length (take n.size n.bytes))) bytes ∙ ap (made n.bytes) size
