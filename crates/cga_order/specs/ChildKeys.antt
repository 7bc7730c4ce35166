-- The keys of roots and of children.
use Rattle.std.specs.Prelude.{◌≡◌, ℕ, List, [], ◌∷◌, ◌++◌}
use Rattle.cga_word.specs.declared.mode.Mode.{Mode}
use Rattle.cga_order.specs.declared.stamp_key.StampKey.{StampKey}

-- the key of child i of a shape, whose symbol has this priority
pub record IsChildKey (parent : StampKey) (i priority : ℕ) (key : StampKey) : Type 0 where
  pub mode : key.mode ≡ parent.mode
  pub lot : key.lot ≡ parent.lot
  pub path : key.path ≡ parent.path ++ i ∷ []
  pub priorities : key.priorities ≡ parent.priorities ++ priority ∷ []

pub record IsRootKey (of : Mode) (name : List ℕ) (priority : ℕ) (key : StampKey) : Type 0 where
  pub mode : key.mode ≡ of
  pub lot : key.lot ≡ name
  pub path : key.path ≡ []
  pub priorities : key.priorities ≡ priority ∷ []
