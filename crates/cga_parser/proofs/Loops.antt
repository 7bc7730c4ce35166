-- A loop over the members of a list, turn by turn.
use Rattle.std.proofs.Common.{◌≡◌, ℕ, zero, suc, ◌-◌, ◌<◌, ◌≤◌, arith, subst, List, [], ◌∷◌, ◌++◌, Bool, true, false, Ok, refl, ap, sym, ◌∙◌, if◌then◌else◌}
use Rattle.cga_form.specs.declared.fault.Fault.{Fault}
use Rattle.cga_fraction.specs.declared.stop.Stop.{Stop}
use Rattle.cga_fraction.specs.declared.stop.Stop.TheVariants as stop
use Rattle.cga_syntax.specs.declared.lexeme.Lexeme.{Lexeme}
use Rattle.cga_form.specs.Reader.{Input, Reader, ReadResult, and_then, ◌>>=◌, begins, many_from}
use Rattle.cga_form.specs.Cursor.{Fails}

-- what fails still does, with a reader behind it
pub fails_then : {A B : Type 0} (e : Stop Fault) (o : ReadResult A) (k : A → Reader B) → Fails e o
    → Fails e (and_then o k)
fails_then stop.NoMemory o k h = tt
fails_then (stop.Fault f) o k h = ap (λ z. and_then z k) h

module _ {A : Type 0} (test : Lexeme → Bool) (p : Reader A) (so_far : List A) (i : Input) where
  pub no_turn : (turns : ℕ) → turns ≤ 0 → many_from test p turns so_far i ≡ Ok (so_far, i)
  unfolding many_from
  no_turn zero t = refl
  no_turn (suc n) t = absurd (omega (arith, t))

  turn : (turns : ℕ) (b : Bool) → 0 < turns → begins test i.left ≡ b
      → many_from test p turns so_far i ≡
      (if b then (p >>= λ y. many_from test p (turns - 1) (so_far ++ y ∷ [])) i else Ok (so_far, i))
  unfolding many_from
  turn zero b t e = absurd (omega (arith, t))
  turn (suc n) b t e =
      let m : n ≡ suc n - 1 = omega arith in
      ap (λ z. if z then (p >>= λ y. many_from test p n (so_far ++ y ∷ [])) i else Ok (so_far, i)) e
      ∙ ap (λ k. if b then (p >>= λ y. many_from test p k (so_far ++ y ∷ [])) i else Ok (so_far, i)) m

  module _ (turns : ℕ) (t : 0 < turns) where
    pub off : begins test i.left ≡ false → many_from test p turns so_far i ≡ Ok (so_far, i)
    off e = turn turns false t e

    pub on : begins test i.left ≡ true → (x : A) (j : Input) → p i ≡ Ok (x, j)
        → many_from test p turns so_far i ≡ many_from test p (turns - 1) (so_far ++ x ∷ []) j
    on e x j q = turn turns true t e ∙ ap (λ o. and_then o (λ y. many_from test p (turns - 1) (so_far ++ y ∷ []))) q

    pub fails : begins test i.left ≡ true → (e : Stop Fault) → Fails e (p i) → Fails e (many_from test p turns so_far i)
    fails b e f = subst (Fails e) (sym (turn turns true t b)) (fails_then e (p i) (λ y. many_from test p (turns - 1) (so_far ++ y ∷ [])) f)
