-- Worked rows of a region that is kept, each computed from the definitions.
use Rattle.std.specs.Prelude.{◌≡◌, ℕ, List, [], ◌∷◌, pos, true, false, codes, Ok, Err}
use Rattle.cga_city.specs.Apply.{changed}
use Rattle.cga_region.specs.Towns.{with_lots}
use Rattle.cga_fraction.specs.Rat.{of_int}
use Rattle.cga_frame.specs.Box.{Box, touches}
use Rattle.cga_rule.specs.declared.grammar.Grammar.{Grammar}
use Rattle.cga_shape.specs.declared.drawn.Drawn.{Drawn}
use Rattle.cga_shape.specs.declared.edit.Edit.TheVariants as edit
use Rattle.cga_shape.specs.declared.edit_refused.EditRefused.TheVariants.{NoLot, NoSymbol}
use Rattle.cga_shape.specs.declared.lot.Lot.{Lot}
use Rattle.cga_shape.specs.declared.sources.Sources.{Sources}
use Rattle.cga_region.specs.Back.{undone}
use Rattle.cga_region.specs.Changes.{changes_for, Course, IsNetOf, LeadTo, no_changes, Step, TellOfSame, told_by, told_by_all}
use Rattle.cga_region.specs.Refusals.{changed_in_region}

-- an instance of this lot, and a lot of this name
abbrev pub in_lot : List ℕ → Drawn → Drawn
in_lot lot d = record d { lot = lot }

abbrev pub named : List ℕ → Lot → Lot
named name lot = record lot { name = name }

-- a box that is so wide, from 0 on each axis
abbrev pub wide : ℕ → Box
wide n = record {
  low = record { x = of_int (pos 0); y = of_int (pos 0); z = of_int (pos 0) };
  high = record { x = of_int (pos n); y = of_int (pos 1); z = of_int (pos 1) };
}

-- a box that begins behind 2
abbrev pub behind_two : Box
behind_two = record {
  low = record { x = of_int (pos 2); y = of_int (pos 0); z = of_int (pos 0) };
  high = record { x = of_int (pos 3); y = of_int (pos 1); z = of_int (pos 1) };
}

-- a lot that goes over to another job: the one job takes it away, and the other one sets it
abbrev pub going_over : Drawn → List Course
going_over d =
    record { was = []; now = []; steps = record { names = codes "a" ∷ []; changes = record { gone = d ∷ []; come = [] }; drawn = [] } ∷ [] }
    ∷ record { was = []; now = []; steps = record { names = codes "a" ∷ []; changes = record { gone = []; come = d ∷ [] }; drawn = d ∷ [] } ∷ [] }
    ∷ []

-- `b` was a neighbour and becomes an own lot: the first step takes it away, and the second one sets it
abbrev pub becoming_own : Drawn → Drawn → List Step
becoming_own a b =
    record { names = codes "a" ∷ []; changes = record { gone = b ∷ []; come = [] }; drawn = a ∷ [] }
    ∷ record { names = codes "a" ∷ codes "b" ∷ []; changes = record { gone = []; come = b ∷ [] }; drawn = a ∷ b ∷ [] }
    ∷ []

-- no rules, so that each lot is refused
abbrev pub no_rules : Grammar
no_rules = record { attributes = []; rules = [] }

pub record RowsAreSo (d e : Drawn) (x : Lot) (s : Sources) : Type 0 where
  -- of its changes a job tells those of its own lots
  pub own : changes_for (codes "a" ∷ []) (record {
    gone = in_lot (codes "a") d ∷ in_lot (codes "b") d ∷ [];
    come = in_lot (codes "b") e ∷ in_lot (codes "a") e ∷ [];
  }) ≡ record { gone = in_lot (codes "a") d ∷ []; come = in_lot (codes "a") e ∷ [] }
  -- what went in one job and came in another is told by both, and nothing of it is left
  pub over : told_by_all (going_over (in_lot (codes "a") d)) ≡ record { gone = in_lot (codes "a") d ∷ []; come = in_lot (codes "a") d ∷ [] }
  pub nothing : IsNetOf no_changes (told_by_all (going_over (in_lot (codes "a") d)))
  -- a neighbour that becomes an own lot is told as one that came
  pub led : LeadTo (codes "a" ∷ []) (in_lot (codes "a") d ∷ in_lot (codes "b") e ∷ [])
      (becoming_own (in_lot (codes "a") d) (in_lot (codes "b") e)) (codes "a" ∷ codes "b" ∷ [])
      (in_lot (codes "a") d ∷ in_lot (codes "b") e ∷ [])
  pub created : told_by (becoming_own (in_lot (codes "a") d) (in_lot (codes "b") e))
      ≡ record { gone = []; come = in_lot (codes "b") e ∷ [] }
  -- and has to be taken away first
  pub unled : TellOfSame (codes "a" ∷ []) (codes "a" ∷ codes "b" ∷ [])
      (in_lot (codes "a") d ∷ in_lot (codes "b") e ∷ []) → ⊥
  -- taken back
  pub back : undone (record { gone = d ∷ []; come = [] }) ≡ record { gone = []; come = d ∷ [] }
  -- a box that grows may come to touch one that it didn't
  pub apart : touches (wide 1) behind_two ≡ false
  pub grown : touches (wide 2) behind_two ≡ true
  -- the process of the rules, which has no lots, accepts what one job refuses, and the region refuses it
  pub accepts : changed (with_lots s []) (edit.Rules no_rules) ≡ Ok (record { grammar = no_rules; lots = []; mode = s.mode })
  pub refuses : changed (with_lots s (x ∷ [])) (edit.Rules no_rules) ≡ Err (NoSymbol x.symbol)
  pub region : changed_in_region (with_lots s (x ∷ [])) (edit.Rules no_rules) ≡ Err (NoSymbol x.symbol)
  -- a lot goes from the job that has it, and the other one would refuse
  pub goes : changed (with_lots s (named (codes "a") x ∷ [])) (edit.Unlot (codes "a")) ≡ Ok (with_lots s [])
  pub other : changed (with_lots s (named (codes "b") x ∷ [])) (edit.Unlot (codes "a")) ≡ Err (NoLot (codes "a"))
  pub both : changed_in_region (with_lots s (named (codes "b") x ∷ named (codes "a") x ∷ [])) (edit.Unlot (codes "a"))
      ≡ Ok (with_lots s (named (codes "b") x ∷ []))

abbrev pub EachRowIsSo : Type 0
EachRowIsSo = (d e : Drawn) (x : Lot) (s : Sources) → RowsAreSo d e x s
