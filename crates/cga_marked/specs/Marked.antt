-- What entries keep for a mark, and what of that the slab has to know.
use Rattle.std.specs.Prelude.{◌≡◌, Option, Some, IfSome, Bool, true, false}

-- an entry that keeps nothing for a mark
pub record IsCalm {E : Type 0} (touched : E → Bool) (Plain : E → Type 0) (e : E) : Type 0 where
  pub untouched : touched e ≡ false
  pub plain : Plain e

-- what a change of an entry has to leave
pub record KeepsBooks {E : Type 0} (touched aside : E → Bool) (Plain : E → Type 0) (x y : E) : Type 0 where
  pub touches : touched y ≡ touched x
  pub hides : aside y ≡ aside x
  pub plain : touched y ≡ false → Plain x → Plain y

-- what the ends of a mark and the two flags of an entry have to be
pub record AreMarks {E : Type 0} (touched aside : E → Bool) (Plain : E → Type 0) (touching hiding : E → E) (settled rolled : E → Option E) : Type 0 where
  -- an entry is touched once
  pub touches : (e : E) → touched (touching e) ≡ true
  pub touch_shows : (e : E) → aside (touching e) ≡ aside e
  pub touch_again : (e : E) → touched e ≡ true → touching e ≡ e
  -- and set aside once
  pub hides : (e : E) → aside (hiding e) ≡ true
  pub hide_touches : (e : E) → touched (hiding e) ≡ touched e
  pub hide_again : (e : E) → aside e ≡ true → hiding e ≡ e
  pub shown : (e : E) → Plain e → aside e ≡ false
  -- the mark's end leaves calm entries alone, and makes all others calm
  pub settled_calm : (e : E) → IsCalm touched Plain e → settled e ≡ Some e
  pub settles : (e : E) → IfSome (settled e) (IsCalm touched Plain)
  pub rolled_calm : (e : E) → IsCalm touched Plain e → rolled e ≡ Some e
  pub rolls : (e : E) → IfSome (rolled e) (IsCalm touched Plain)
