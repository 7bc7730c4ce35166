-- What was read of the rules of symbols stays right as more is read.
use Rattle.std.proofs.Common.{◌≡◌, ℕ, nat_eq, List, Bool, true, false, cond, refl, sym, ◌∙◌, Some, subst}
use lib.Pointwise.{pointwise, bytes_decides}
use Rattle.indexmap.specs.IndexMap.{IndexMap, get, Updates}
use Rattle.cga_fraction.proofs.Door.{same_Some as some_same}
use Rattle.cga_rule.specs.declared.grammar.Grammar.{Grammar}
use Rattle.cga_check.specs.Said.{said}
use Rattle.cga_check.specs.Symbols.{IsRead}
use Rattle.cga_check.specs.declared.said.Said.{Said}

-- what a table has is right of its names, and one more thing is right of its own: then so is all that the table has
pub still_right : {X S : Type 0} (IsRight : List ℕ → X → Type 0) (old new : IndexMap (List ℕ) X S) (symbol : List ℕ)
    (read : X) → IsRight symbol read → ((name : List ℕ) (found : X) → get (pointwise nat_eq) old name ≡ Some found → IsRight name found)
    → Updates (pointwise nat_eq) old new symbol (Some read)
    → (name : List ℕ) (found : X) → get (pointwise nat_eq) new name ≡ Some found → IsRight name found
still_right {X} {S} IsRight old new symbol read is before updates name found e = at name found e (pointwise nat_eq symbol name) refl (updates.0 name)
  where
    at : (name : List ℕ) (found : X) → get (pointwise nat_eq) new name ≡ Some found → (b : Bool)
        → pointwise nat_eq symbol name ≡ b
        → get (pointwise nat_eq) new name ≡ cond b (Some read) (get (pointwise nat_eq) old name)
        → IsRight name found
    at name found e true here q =
        let same : symbol ≡ name = (bytes_decides symbol name).0 here in
        let are : read ≡ found = some_same read found (sym q ∙ e) in
        subst (λ (x : X). IsRight name x) are (subst (λ (s : List ℕ). IsRight s read) same is)
    at name found e false here q = before name found (sym q ∙ e)

-- what was read is right, and so is the rest
pub still_read : {S : Type 0} (grammar : Grammar) (old new : IndexMap (List ℕ) Said S) (symbol : List ℕ) (read : Said)
    → read ≡ said grammar symbol → IsRead grammar old → Updates (pointwise nat_eq) old new symbol (Some read)
    → IsRead grammar new
still_read grammar old new symbol read is before updates =
    still_right (λ name found. found ≡ said grammar name) old new symbol read is before updates
