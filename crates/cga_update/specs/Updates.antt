-- What an update comes to.
use Rattle.std.specs.Prelude.{◌≡◌, ◌≤◌, ℕ, ◌+◌, List, ◌++◌, ◌∷◌, [], map, count_by, Bool, Some, None, Result, Ok, Err, IfOk, OnOk}
use Rattle.cga_word.specs.declared.primitive.Primitive.{Primitive}
use Rattle.cga_shape.specs.declared.changes.Changes.{Changes}
use Rattle.cga_shape.specs.declared.drawn.Drawn as reported
use Rattle.cga_shape.specs.declared.shape.Shape.{Shape}
use Rattle.cga_shape.specs.declared.sources.Sources.{Sources}
use Rattle.cga_order.specs.World.{Has, Among}
use Rattle.cga_order.specs.declared.placed.Kind.TheVariants.{Instance}
use Rattle.cga_derivation.specs.Derivation.{IsDerived, derive}
use Rattle.cga_agenda.specs.Record.{Drawn, drawn}
use Rattle.cga_order.specs.Once.{Once}
use Rattle.cga_agenda.specs.Work.{AreSoMany}
use Rattle.cga_expand.specs.Children.{Member}
use Rattle.cga_expand.specs.Derivation.{derivation_of}
use Rattle.cga_expand.specs.Touched.{NonInstance, Kept as IsKept, SameInputs, Touched}
use Rattle.cga_forest.specs.Tree.{node_at}
use Rattle.cga_update.specs.declared.kept.Kept.{Kept}
use Rattle.cga_update.specs.declared.renewal.Renewal.{Renewal}
use Rattle.cga_update.specs.declared.update_refused.UpdateRefused.{UpdateRefused}
use Rattle.cga_update.specs.declared.update_refused.UpdateRefused.TheVariants.{OverBudget, NoMemory}
use Rattle.cga_update.specs.Stands.{Stands}

-- an instance as it is reported
abbrev pub told : Drawn Shape Primitive → reported.Drawn
told d = record { lot = d.shape.lot; symbol = d.shape.symbol; primitive = d.solid; scope = d.shape.scope }

-- the instances among members
abbrev pub instances : List Member → List reported.Drawn
instances list = map told (drawn list)

-- s stands where child i of the parent does
abbrev pub IsBelow : Shape → ℕ → Shape → Type 0
IsBelow parent i s = (s.lot ≡ parent.lot) × (s.path ≡ parent.path ++ i ∷ [])

module _ (old new : Sources) (before after : List Member) where
  -- so many shapes are touched
  abbrev pub CountsTouched : ℕ → Type 0
  CountsTouched n = AreSoMany (Touched old new before after) n

  -- the instances that went and that came, each named once
  pub record IsRecord (gone come : List (Drawn Shape Primitive)) : Type 0 where
    pub gone_once : Once gone
    pub come_once : Once come
    -- what came is an instance of the new derivation, and a child of a touched shape
    pub each_come : (d : Drawn Shape Primitive) → Among d come
        → Has after d.shape (Instance d.solid)
        × ((parent : Shape) × (i : ℕ) × IsBelow parent i d.shape × Touched old new before after parent)
    -- what went is an instance of the old one, and no child of a kept shape of equal inputs
    pub each_gone : (d : Drawn Shape Primitive) → Among d gone
        → Has before d.shape (Instance d.solid)
        × ((parent : Shape) (i : ℕ) → NonInstance after parent → IsBelow parent i d.shape
        → IsKept old new before after parent → SameInputs old new parent → ⊥)

  -- the changes name such instances, and account for those before and after, each as often
  pub record IsChange (changes : Changes) : Type 0 where
    pub gone : List (Drawn Shape Primitive)
    pub come : List (Drawn Shape Primitive)
    pub «record» : IsRecord gone come
    pub gone_told : changes.gone ≡ map told gone
    pub come_told : changes.come ≡ map told come
    pub balance : (test : reported.Drawn → Bool)
        → count_by test (instances before) + count_by test changes.come
        ≡ count_by test (instances after) + count_by test changes.gone

-- the new derivation is within the budget, so many shapes were touched, and these are the changes
abbrev pub IsExact : Sources → Sources → ℕ → ℕ → Changes → Type 0
IsExact old new budget n changes =
    (before : List Member) × (after : List Member)
    × IsDerived (derivation_of old) before × (derive (derivation_of new) budget ≡ Some after)
    × CountsTouched old new before after n × IsChange old new before after changes

-- where the budget refused it
abbrev pub WhereOver : {A : Type 0} → Result A UpdateRefused → Type 0 → Type 0
WhereOver (Ok n) P = Unit {0}
WhereOver (Err OverBudget) P = P
WhereOver (Err NoMemory) P = Unit {0}

-- it stands for the old sources as before, each node under its number
pub record StandAsBefore (sources : Sources) (before after : Kept) : Type 0 where
  pub stands : Stands sources after
  pub nodes : (c : ℕ) → node_at after.forest c ≡ node_at before.forest c

-- the sources, without lots
abbrev pub with_no_lots : Sources → Sources
with_no_lots sources = record { grammar = sources.grammar; lots = []; mode = sources.mode }

-- what an update is, by what it answers: what was kept before and after it, the changes, and how often shapes were expanded
pub record IsUpdate (r : Renewal) (before after : Kept) (was now : Changes) (calls since : ℕ) (result : Result ℕ UpdateRefused) : Type 0 where
  pub stands : OnOk result (Stands r.new.now after)
  pub exact : IfOk result (λ n. IsExact r.old.now r.new.now r.budget n now)
  pub spent : IfOk result (λ n. since ≡ calls + n)
  pub over : WhereOver result (derive (derivation_of r.new.now) r.budget ≡ None)
  pub kept : WhereOver result (StandAsBefore r.old.now before after)
  pub dependents : WhereOver result (after.dependents ≡ before.dependents)
  pub changes : WhereOver result (now ≡ was)
  pub most : WhereOver result (since ≤ calls + (r.budget + 1))
  -- a change of mode works two updates, of which the second is to no lots
  pub bounded : since ≤ calls + (r.budget + 2)
  pub bounded_within : r.old.now.mode ≡ r.new.now.mode → since ≤ calls + (r.budget + 1)
  pub counted : calls ≤ since
