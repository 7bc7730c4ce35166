-- What other crates may cite of cga_expand. All other pages of its proofs are its own.

-- An expansion never has more children than it may have
pub use Rattle.cga_expand.proofs.Few.{few_made}
-- The derivation of sources is one of which the laws of derivations hold
pub use Rattle.cga_expand.proofs.Instance.{root_is, sources_are_derivations}
-- One layer of what the items of a successor do
pub use Rattle.cga_expand.proofs.Layers.{body_layer, item_Child, item_Resize}
-- Equal settings: the expansion reads of a grammar only the group of the symbol and the attributes that the
pub use Rattle.cga_expand.proofs.ReadsRules.{settings_decide}
-- The roots of lots, one lot after the other
pub use Rattle.cga_expand.proofs.Roots.{among_behind_made, root_among, roots_of-append}
-- What is said of a symbol, and what is placed of what its rule emitted
pub use Rattle.cga_expand.proofs.Said.{group_asks_same, length-placed_from, said_active, said_noparent, said_priority}
