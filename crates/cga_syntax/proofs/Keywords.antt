-- Which reserved words have so many bytes.
use Rattle.std.proofs.Common.{◌≡◌, ◌≢◌, ℕ, List, [], ◌∷◌, length, Bool, true, false, nat_eq, refl, arith, None}
use Rattle.std.specs.Prelude.{codes, ◌&&◌}
use Rattle.cga_syntax.specs.Lexemes.{is, keyword_of, one_byte_keyword, two_byte_keyword, three_byte_keyword, four_byte_keyword, five_byte_keyword, six_byte_keyword}
use Rattle.cga_fraction.proofs.Door.{and-false as both_false}

-- lists of other lengths differ
differs : (a b : List ℕ) → length a ≢ length b → is a b ≡ false
differs [] [] h = absurd (h refl)
differs [] (y ∷ ys) h = refl
differs (x ∷ xs) [] h = refl
differs (x ∷ xs) (y ∷ ys) h = rw (differs xs ys (λ e. h (grind (arith)))) (both_false (nat_eq x y))

pub one_bytes : (word : List ℕ) → length word ≡ 1 → keyword_of word ≡ one_byte_keyword word
unfolding keyword_of
one_bytes word h = rw (differs word (codes "Rx") (λ e. absurd (omega (arith, h, e))))
    (rw (differs word (codes "Ry") (λ e. absurd (omega (arith, h, e))))
    (rw (differs word (codes "Rz") (λ e. absurd (omega (arith, h, e))))
    (rw (differs word (codes "Subdiv") (λ e. absurd (omega (arith, h, e))))
    (rw (differs word (codes "Repeat") (λ e. absurd (omega (arith, h, e))))
    (rw (differs word (codes "Comp") (λ e. absurd (omega (arith, h, e))))
    (rw (differs word (codes "NIL") (λ e. absurd (omega (arith, h, e))))
    (rw (differs word (codes "Scope") (λ e. absurd (omega (arith, h, e))))
    (rw (differs word (codes "rand") (λ e. absurd (omega (arith, h, e))))
    (rw (differs word (codes "floor") (λ e. absurd (omega (arith, h, e))))
    (rw (differs word (codes "ceil") (λ e. absurd (omega (arith, h, e))))
    (rw (differs word (codes "and") (λ e. absurd (omega (arith, h, e))))
    (rw (differs word (codes "or") (λ e. absurd (omega (arith, h, e)))) (rw (differs word (codes "not") (λ e. absurd (omega (arith, h, e)))) (refl))))))))))))))

pub two_bytes : (word : List ℕ) → length word ≡ 2 → keyword_of word ≡ two_byte_keyword word
unfolding keyword_of
two_bytes word h = rw (differs word (codes "T") (λ e. absurd (omega (arith, h, e))))
    (rw (differs word (codes "S") (λ e. absurd (omega (arith, h, e))))
    (rw (differs word (codes "I") (λ e. absurd (omega (arith, h, e))))
    (rw (differs word (codes "Subdiv") (λ e. absurd (omega (arith, h, e))))
    (rw (differs word (codes "Repeat") (λ e. absurd (omega (arith, h, e))))
    (rw (differs word (codes "Comp") (λ e. absurd (omega (arith, h, e))))
    (rw (differs word (codes "NIL") (λ e. absurd (omega (arith, h, e))))
    (rw (differs word (codes "Scope") (λ e. absurd (omega (arith, h, e))))
    (rw (differs word (codes "rand") (λ e. absurd (omega (arith, h, e))))
    (rw (differs word (codes "floor") (λ e. absurd (omega (arith, h, e))))
    (rw (differs word (codes "ceil") (λ e. absurd (omega (arith, h, e))))
    (rw (differs word (codes "and") (λ e. absurd (omega (arith, h, e)))) (rw (differs word (codes "not") (λ e. absurd (omega (arith, h, e)))) (refl)))))))))))))

pub three_bytes : (word : List ℕ) → length word ≡ 3 → keyword_of word ≡ three_byte_keyword word
unfolding keyword_of
three_bytes word h = rw (differs word (codes "T") (λ e. absurd (omega (arith, h, e))))
    (rw (differs word (codes "S") (λ e. absurd (omega (arith, h, e))))
    (rw (differs word (codes "Rx") (λ e. absurd (omega (arith, h, e))))
    (rw (differs word (codes "Ry") (λ e. absurd (omega (arith, h, e))))
    (rw (differs word (codes "Rz") (λ e. absurd (omega (arith, h, e))))
    (rw (differs word (codes "I") (λ e. absurd (omega (arith, h, e))))
    (rw (differs word (codes "Subdiv") (λ e. absurd (omega (arith, h, e))))
    (rw (differs word (codes "Repeat") (λ e. absurd (omega (arith, h, e))))
    (rw (differs word (codes "Comp") (λ e. absurd (omega (arith, h, e))))
    (rw (differs word (codes "Scope") (λ e. absurd (omega (arith, h, e))))
    (rw (differs word (codes "rand") (λ e. absurd (omega (arith, h, e))))
    (rw (differs word (codes "floor") (λ e. absurd (omega (arith, h, e))))
    (rw (differs word (codes "ceil") (λ e. absurd (omega (arith, h, e))))
    (rw (differs word (codes "or") (λ e. absurd (omega (arith, h, e)))) (refl))))))))))))))

pub four_bytes : (word : List ℕ) → length word ≡ 4 → keyword_of word ≡ four_byte_keyword word
unfolding keyword_of
four_bytes word h = rw (differs word (codes "T") (λ e. absurd (omega (arith, h, e))))
    (rw (differs word (codes "S") (λ e. absurd (omega (arith, h, e))))
    (rw (differs word (codes "Rx") (λ e. absurd (omega (arith, h, e))))
    (rw (differs word (codes "Ry") (λ e. absurd (omega (arith, h, e))))
    (rw (differs word (codes "Rz") (λ e. absurd (omega (arith, h, e))))
    (rw (differs word (codes "I") (λ e. absurd (omega (arith, h, e))))
    (rw (differs word (codes "Subdiv") (λ e. absurd (omega (arith, h, e))))
    (rw (differs word (codes "Repeat") (λ e. absurd (omega (arith, h, e))))
    (rw (differs word (codes "NIL") (λ e. absurd (omega (arith, h, e))))
    (rw (differs word (codes "Scope") (λ e. absurd (omega (arith, h, e))))
    (rw (differs word (codes "floor") (λ e. absurd (omega (arith, h, e))))
    (rw (differs word (codes "and") (λ e. absurd (omega (arith, h, e))))
    (rw (differs word (codes "or") (λ e. absurd (omega (arith, h, e)))) (rw (differs word (codes "not") (λ e. absurd (omega (arith, h, e)))) (refl))))))))))))))

pub five_bytes : (word : List ℕ) → length word ≡ 5 → keyword_of word ≡ five_byte_keyword word
unfolding keyword_of
five_bytes word h = rw (differs word (codes "T") (λ e. absurd (omega (arith, h, e))))
    (rw (differs word (codes "S") (λ e. absurd (omega (arith, h, e))))
    (rw (differs word (codes "Rx") (λ e. absurd (omega (arith, h, e))))
    (rw (differs word (codes "Ry") (λ e. absurd (omega (arith, h, e))))
    (rw (differs word (codes "Rz") (λ e. absurd (omega (arith, h, e))))
    (rw (differs word (codes "I") (λ e. absurd (omega (arith, h, e))))
    (rw (differs word (codes "Subdiv") (λ e. absurd (omega (arith, h, e))))
    (rw (differs word (codes "Repeat") (λ e. absurd (omega (arith, h, e))))
    (rw (differs word (codes "Comp") (λ e. absurd (omega (arith, h, e))))
    (rw (differs word (codes "NIL") (λ e. absurd (omega (arith, h, e))))
    (rw (differs word (codes "rand") (λ e. absurd (omega (arith, h, e))))
    (rw (differs word (codes "ceil") (λ e. absurd (omega (arith, h, e))))
    (rw (differs word (codes "and") (λ e. absurd (omega (arith, h, e))))
    (rw (differs word (codes "or") (λ e. absurd (omega (arith, h, e))))
    (rw (differs word (codes "not") (λ e. absurd (omega (arith, h, e)))) (refl)))))))))))))))

pub six_bytes : (word : List ℕ) → length word ≡ 6 → keyword_of word ≡ six_byte_keyword word
unfolding keyword_of
six_bytes word h = rw (differs word (codes "T") (λ e. absurd (omega (arith, h, e))))
    (rw (differs word (codes "S") (λ e. absurd (omega (arith, h, e))))
    (rw (differs word (codes "Rx") (λ e. absurd (omega (arith, h, e))))
    (rw (differs word (codes "Ry") (λ e. absurd (omega (arith, h, e))))
    (rw (differs word (codes "Rz") (λ e. absurd (omega (arith, h, e))))
    (rw (differs word (codes "I") (λ e. absurd (omega (arith, h, e))))
    (rw (differs word (codes "Comp") (λ e. absurd (omega (arith, h, e))))
    (rw (differs word (codes "NIL") (λ e. absurd (omega (arith, h, e))))
    (rw (differs word (codes "Scope") (λ e. absurd (omega (arith, h, e))))
    (rw (differs word (codes "rand") (λ e. absurd (omega (arith, h, e))))
    (rw (differs word (codes "floor") (λ e. absurd (omega (arith, h, e))))
    (rw (differs word (codes "ceil") (λ e. absurd (omega (arith, h, e))))
    (rw (differs word (codes "and") (λ e. absurd (omega (arith, h, e))))
    (rw (differs word (codes "or") (λ e. absurd (omega (arith, h, e))))
    (rw (differs word (codes "not") (λ e. absurd (omega (arith, h, e)))) (refl)))))))))))))))

pub other_bytes : (word : List ℕ) → length word ≢ 1 → length word ≢ 2 → length word ≢ 3 → length word ≢ 4
    → length word ≢ 5 → length word ≢ 6 → keyword_of word ≡ None
unfolding keyword_of
other_bytes word h1 h2 h3 h4 h5 h6 = rw (differs word (codes "T") h1)
    (rw (differs word (codes "S") h1)
    (rw (differs word (codes "Rx") h2)
    (rw (differs word (codes "Ry") h2)
    (rw (differs word (codes "Rz") h2)
    (rw (differs word (codes "I") h1)
    (rw (differs word (codes "Subdiv") h6)
    (rw (differs word (codes "Repeat") h6)
    (rw (differs word (codes "Comp") h4)
    (rw (differs word (codes "NIL") h3)
    (rw (differs word (codes "Scope") h5)
    (rw (differs word (codes "rand") h4)
    (rw (differs word (codes "floor") h5)
    (rw (differs word (codes "ceil") h4)
    (rw (differs word (codes "and") h3) (rw (differs word (codes "or") h2) (rw (differs word (codes "not") h3) (refl)))))))))))))))))
