-- What was read of the rules of a grammar.
use Rattle.std.specs.Prelude.{◌≡◌, ℕ, List, Some, nat_eq}
use Rattle.indexmap.specs.IndexMap.{IndexMap, get}
use lib.Pointwise.{pointwise}
use Rattle.cga_rule.specs.declared.grammar.Grammar.{Grammar}
use Rattle.cga_check.specs.Latest.{AreKept}
use Rattle.cga_check.specs.Said.{said}
use Rattle.cga_check.specs.declared.latest.Latest.{Latest}
use Rattle.cga_check.specs.declared.said.Said.{Said}

-- what stands in the table is what the grammar's rules say
abbrev pub IsRead : {S : Type 0} → Grammar → IndexMap (List ℕ) Said S → Type 0
IsRead grammar read =
    (name : List ℕ) (found : Said) → get (pointwise nat_eq) read name ≡ Some found → found ≡ said grammar name

-- so is what is kept of the latest symbols
pub record AreRead {S : Type 0} (grammar : Grammar) (read : IndexMap (List ℕ) Said S) (kept : Latest Said) : Type 0 where
  pub table : IsRead grammar read
  pub latest : AreKept (λ name found. found ≡ said grammar name) kept
