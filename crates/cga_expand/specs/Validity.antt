-- Valid sources.
use Rattle.std.specs.Prelude.{List, All, IsOk}
use Rattle.cga_rule.specs.declared.grammar.Grammar.{Grammar}
use Rattle.cga_check.specs.declared.usage.Use.TheVariants.{Child}
use Rattle.cga_check.specs.Faults as grammars
use Rattle.cga_check.specs.Validity.{IsMet}
use Rattle.cga_shape.specs.declared.lot.Lot.{Lot}
use Rattle.cga_shape.specs.declared.sources.Sources.{Sources}
use Rattle.cga_shape.specs.Root.{root_scope}
use Rattle.cga_expand.specs.Derivation.{NamesDiffer}

-- the scope of each lot's root exists
abbrev pub RootsExist : List Lot → Type 0
RootsExist lots = All (λ (lot : Lot). IsOk (root_scope lot)) lots

-- the symbol of each lot has rules, and they have no parameters
abbrev pub SymbolsHaveRules : Grammar → List Lot → Type 0
SymbolsHaveRules grammar lots = All (λ (lot : Lot). IsMet grammar (Child lot.symbol 0)) lots

pub record IsValid (sources : Sources) : Type 0 where
  pub grammar : grammars.IsValid sources.grammar
  pub names : NamesDiffer sources.lots
  pub symbols : SymbolsHaveRules sources.grammar sources.lots
  pub roots : RootsExist sources.lots
