-- Where the rules of symbols stand in a grammar.
use Rattle.std.specs.Prelude.{◌≡◌, ℕ, ◌≤◌, List, length, take, drop, filter, slice_range, Some, nat_eq}
use Rattle.indexmap.specs.IndexMap.{IndexMap, get}
use lib.Pointwise.{pointwise}
use Rattle.cga_rule.specs.declared.grammar.Entry.{Entry}
use Rattle.cga_check.specs.Groups.{is_of}
use Rattle.cga_check.specs.Latest.{AreKept}
use Rattle.cga_check.specs.declared.latest.Latest.{Latest}
use Rattle.cga_expand.specs.declared.places.Places.{Places}

-- among some of the entries are all rules of the symbol, in their order
abbrev pub HasAll : List Entry → List ℕ → List Entry → Type 0
HasAll entries symbol some = filter (is_of symbol) some ≡ filter (is_of symbol) entries

-- no rule of the symbol stands before this place
pub record BeginsAt (entries : List Entry) (symbol : List ℕ) (from : ℕ) : Type 0 where
  pub within : from ≤ length entries
  pub all : HasAll entries symbol (drop from entries)

-- none stands there or behind
pub record EndsAt (entries : List Entry) (symbol : List ℕ) (end : ℕ) : Type 0 where
  pub within : end ≤ length entries
  pub all : HasAll entries symbol (take end entries)

-- none stands outside these places; between them may stand rules of other symbols
pub record AreAround (entries : List Entry) (symbol : List ℕ) (places : Places) : Type 0 where
  pub order : places.from ≤ places.past
  pub within : places.past ≤ length entries
  pub all : HasAll entries symbol (slice_range entries places.from places.past)

-- what stands in the table, and what is kept of the latest symbols, are the places of their rules
pub record AreRead {S : Type 0} (entries : List Entry) (read : IndexMap (List ℕ) Places S) (kept : Latest Places) : Type 0 where
  pub table : (name : List ℕ) (found : Places) → get (pointwise nat_eq) read name ≡ Some found
      → AreAround entries name found
  pub latest : AreKept (AreAround entries) kept
