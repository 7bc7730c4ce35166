use Rattle.std.proofs.Common.{◌≡◌, ℕ, List, true, ◌∙◌, arith, rules, length, take, nat_eq, eq-eqb}
use Rattle.std.proofs.lemmas.Cmp.{nat_list_eq_equiv}
use lib.Pointwise.{pointwise}
use Rattle.cga_forest.proofs.Above.{begins_within, last_along}
use Rattle.cga_forest.proofs.standing.is_above.Goals as goal
use Rattle.cga_forest.proofs.standing.is_above.Goals.{then-depth-whole+then-depth-eq0, then-depth-whole+else-depth-eq0, else-depth-whole, then-path-depth, else-path-depth}

lots_same : (a b : List ℕ) → a ≡ b → pointwise nat_eq a b ≡ true
lots_same a b e = search (rules, nat_list_eq_equiv)

pub returns-else-eq : goal.returns-else-eq
returns-else-eq c = (
  λ t. (cc),
  λ on.
      let path = c.as_slice-path.result.now in
      let begins : path ≡ take (length path) c.as_slice-whole.result.now = rw (c.as_slice-path.ensures, c.as_slice-whole.ensures) on.1 in
      elim c.if-path-depth.branch [
        | then-path-depth w ↦ w.value-is ∙ w.eq.ensures ∙ lots_same _ _ on.0
        | else-path-depth w ↦ elim c.if-depth-whole.branch [
          | then-depth-whole+then-depth-eq0 u ↦ w.value-is ∙ u.value-is ∙ eq-eqb _ 0 u.if-depth-eq0.true
          | then-depth-whole+else-depth-eq0 u ↦ w.value-is ∙ u.value-is ∙ eq-eqb _ _ (last_along _ _ begins u.if-depth-eq0.false)
          | else-depth-whole u ↦ absurd (omega (arith, begins_within _ _ begins))
        ]
      ],
)
