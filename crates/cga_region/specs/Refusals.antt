-- Which edits a region refuses: those that a job does, but for the limits of a job, which a region doesn't have.
use Rattle.std.specs.Prelude.{◌≡◌, ◌↔◌, ℕ, ◌≤◌, List, [], ◌∷◌, ◌⊎◌, length, not, Ok, Err}
use Rattle.cga_city.specs.Apply.{apply, changed, Changed, checked}
use Rattle.cga_city.specs.Grammars.{is_plain, ranked}
use Rattle.cga_city.specs.Lots.{accepted, is_bad, with_lot}
use Rattle.cga_city.specs.declared.limits.TheConstants.{MOST_LOTS}
use Rattle.cga_region.specs.TownParts.{joined}
use Rattle.cga_region.specs.Towns.{with_lots}
use Rattle.cga_fraction.specs.Results.{and_then, err_if}
use Rattle.cga_order.specs.World.{Among}
use Rattle.cga_shape.specs.declared.edit.Edit.{Edit}
use Rattle.cga_shape.specs.declared.edit.Edit.TheVariants as edit
use Rattle.cga_shape.specs.declared.edit_refused.EditRefused.{EditRefused}
use Rattle.cga_shape.specs.declared.edit_refused.EditRefused.TheVariants.{BadLot, NoSymbol, OverBudget, TooManyLots}
use Rattle.cga_shape.specs.declared.lot.Lot.{Lot}
use Rattle.cga_shape.specs.declared.sources.Sources.{Sources}

-- what an edit makes of the sources of a region: what it makes of those of a city, however many lots there are
abbrev pub changed_in_region : Sources → Edit → Changed
changed_in_region s (edit.SetLot lot) =
    err_if (not (is_plain s.grammar lot.symbol)) (NoSymbol lot.symbol)
    (err_if (is_bad lot) (BadLot lot.name)
    (Ok (record s { lots = with_lot lot s.lots })))
changed_in_region s (edit.Whole other) =
    and_then (checked other.grammar) (λ u.
    and_then (accepted (ranked other.grammar) other.lots) (λ u.
    Ok (record other { grammar = ranked other.grammar })))
changed_in_region s e = changed s e

-- it is refused, and not by a limit
abbrev pub IsRefused : Changed → Type 0
IsRefused (Ok new) = ⊥
IsRefused (Err TooManyLots) = ⊥
IsRefused (Err OverBudget) = ⊥
IsRefused (Err cause) = Unit {0}

-- each lot of the region is one of a job, and each lot of a job one of the region
abbrev pub HaveLots : Sources → List (List Lot) → Type 0
HaveLots sources jobs = (x : Lot) → Among x sources.lots ↔ Among x (joined jobs)

-- edits of the rules, which all jobs are asked for
abbrev pub GoesToAll : Edit → Type 0
GoesToAll (edit.SetLot lot) = ⊥
GoesToAll (edit.Unlot name) = ⊥
GoesToAll (edit.Whole other) = ⊥
GoesToAll e = Unit {0}

-- some job refuses it, or the process of the rules, which has no lots
abbrev pub SomeRefuses : Sources → List (List Lot) → Edit → Type 0
SomeRefuses sources jobs e = (lots : List Lot) × Among lots ([] ∷ jobs) × IsRefused (changed (with_lots sources lots) e)

-- each job that is asked refuses it
abbrev pub AllRefuse : Sources → List (List Lot) → Edit → Type 0
AllRefuse sources jobs e = (lots : List Lot) → Among lots ([] ∷ jobs) → IsRefused (changed (with_lots sources lots) e)

pub record RefusesAsItsJobs (sources : Sources) (jobs : List (List Lot)) : Type 0 where
  -- an edit of the rules: if and only if some job refuses it
  pub rules : (e : Edit) → GoesToAll e → IsRefused (changed_in_region sources e) ↔ SomeRefuses sources jobs e
  -- and where it doesn't, the sources of each job are then those of the region with the job's lots
  pub given : (e : Edit) → GoesToAll e → (new : Sources) → changed_in_region sources e ≡ Ok new
      → (lots : List Lot) → Among lots ([] ∷ jobs) → changed (with_lots sources lots) e ≡ Ok (with_lots new lots)
  -- a lot: each process refuses it for the cause of the region, or none does
  pub lot : (lot : Lot) (lots : List Lot) (cause : EditRefused) → IsRefused (Err cause)
      → (changed_in_region sources (edit.SetLot lot) ≡ Err cause)
      ↔ (changed (with_lots sources lots) (edit.SetLot lot) ≡ Err cause)
  -- a lot that goes: if and only if no process has it
  pub unlot : (name : List ℕ) → IsRefused (changed_in_region sources (edit.Unlot name))
      ↔ AllRefuse sources jobs (edit.Unlot name)
  -- beyond that a job refuses what is over its budget
  pub limit : (lots : List Lot) (e : Edit) (budget : ℕ)
      → (apply (with_lots sources lots) e budget ≡ changed (with_lots sources lots) e)
      ⊎ (apply (with_lots sources lots) e budget ≡ Err OverBudget)
  -- other sources as a whole, which each job is given with its lots: if and only if some job refuses them
  pub whole : (other : Sources) (others : List (List Lot)) → HaveLots other others
      → ((lots : List Lot) → Among lots others → length lots ≤ MOST_LOTS)
      → IsRefused (changed_in_region sources (edit.Whole other))
      ↔ ((lots : List Lot) × Among lots ([] ∷ others) × IsRefused (changed sources (edit.Whole (with_lots other lots))))

abbrev pub RefusalsAreOfJobs : Type 0
RefusalsAreOfJobs = (sources : Sources) (jobs : List (List Lot)) → HaveLots sources jobs → RefusesAsItsJobs sources jobs
