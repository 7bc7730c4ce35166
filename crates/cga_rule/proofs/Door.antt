-- What other crates may cite of cga_rule. All other pages of its proofs are its own.

-- `==` of rules, entries and groups tells equality
pub use Rattle.cga_rule.proofs.Equal.{group_equal, rule_equal, rule_told}
-- What a derived `==` tells: of words and numbers, of lists and options of what it tells of, and of a layer of a tree
pub use Rattle.cga_rule.proofs.Told.{Sound, fraction_sound, list_sound}
