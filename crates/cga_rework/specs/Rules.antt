-- Old and new sources of an edit, as derivations over the same shapes.
use Rattle.std.specs.Prelude.{◌≡◌, ℕ, List, [], Bool, Result}
use Rattle.cga_word.specs.declared.mode.Mode.{Mode}
use Rattle.cga_order.specs.declared.placed.Placed.{Placed}
use Rattle.cga_derivation.specs.Derivation.{Derivation, IsDerivation}

-- what old and new sources have in common
pub record Shapes (S : Type 0) : Type 0 where
  pub mode : Mode
  pub lot : S → List ℕ
  pub path : S → List ℕ

-- what they differ in
pub record Rules (S A B F P : Type 0) : Type 0 where
  pub roots : List S
  -- of the shape's symbol
  pub priority : S → ℕ
  pub sees : S → S → Bool
  -- what a shape reads beside its answers: its group, and the values of the attributes it mentions
  pub setting : S → B
  pub answers : S → List S → List S → A
  pub expand : S → A → Result (List (Placed S F P)) F

-- the derivation by these rules
abbrev pub derivation_of : {S A B F P : Type 0} → Shapes S → Rules S A B F P → Derivation S A F P
derivation_of shapes rules = record {
  mode = shapes.mode;
  lot = shapes.lot;
  path = shapes.path;
  priority = rules.priority;
  roots = rules.roots;
  sees = rules.sees;
  answers = rules.answers;
  expand = rules.expand;
}

-- the shapes that a derivation is told of
abbrev pub shapes_from : {S A F P : Type 0} → Derivation S A F P → Shapes S
shapes_from derivation = record {
  mode = derivation.mode;
  lot = derivation.lot;
  path = derivation.path;
}

-- a derivation with its settings, as rules
abbrev pub rules_from : {S A B F P : Type 0} → Derivation S A F P → (S → B) → Rules S A B F P
rules_from derivation setting = record {
  roots = derivation.roots;
  priority = derivation.priority;
  sees = derivation.sees;
  setting = setting;
  answers = derivation.answers;
  expand = derivation.expand;
}

-- the rules, without lots
abbrev pub no_lots : {S A B F P : Type 0} → Rules S A B F P → Rules S A B F P
no_lots rules = record rules { roots = [] }

-- what the rules of an edit have to meet; roots, priorities and what is seen differ freely
pub record IsRulesEdit {S A B F P : Type 0} (shapes : Shapes S) (old new : Rules S A B F P) : Type 0 where
  pub was : IsDerivation (derivation_of shapes old)
  pub is : IsDerivation (derivation_of shapes new)
  -- a shape of equal setting has equal answers of equal lists, and equal children of equal answers
  pub answers : (s : S) (existing waiting : List S) → old.setting s ≡ new.setting s
      → old.answers s existing waiting ≡ new.answers s existing waiting
  pub outcome : (s : S) (a : A) → old.setting s ≡ new.setting s → old.expand s a ≡ new.expand s a

-- answers and outcome as functions of the setting
pub record Readings (S A B F P : Type 0) : Type 0 where
  pub answers_by : B → S → List S → List S → A
  pub expand_by : B → S → A → Result (List (Placed S F P)) F

-- these rules read no more of their sources than the settings
pub record IsReadBy {S A B F P : Type 0} (readings : Readings S A B F P) (rules : Rules S A B F P) : Type 0 where
  pub answered : (s : S) (existing waiting : List S)
      → rules.answers s existing waiting ≡ readings.answers_by (rules.setting s) s existing waiting
  pub expanded : (s : S) (a : A) → rules.expand s a ≡ readings.expand_by (rules.setting s) s a
