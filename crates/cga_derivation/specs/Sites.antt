-- Sites: shapes with the priorities of their ancestors, which make a world of a derivation.
use Rattle.std.specs.Prelude.{◌≡◌, ℕ, zero, suc, List, [], ◌∷◌, ◌++◌, map, Option, Some, None, Result, Ok, Err, length, slice_get}
use Rattle.cga_order.specs.Chain.{Chain}
use Rattle.cga_order.specs.declared.placed.Placed.{Placed}
use Rattle.cga_order.specs.World.{World}
use Rattle.cga_order.specs.Run as run
use Rattle.cga_derivation.specs.Derivation.{Derivation, first_of, is_next, place_of}

-- a shape, and the priorities of its ancestors from its root down
pub record Site (N : Type 0) : Type 0 where
  pub shape : N
  pub above : List ℕ

-- so many numbers of a list, with zeros where it has fewer: every site has a whole chain
abbrev pub fitted : ℕ → List ℕ → List ℕ
fitted zero xs = []
fitted (suc n) [] = 0 ∷ fitted n []
fitted (suc n) (x ∷ xs) = x ∷ fitted n xs

-- a member without its ancestors' priorities
abbrev pub erased : {N F P : Type 0} → Placed (Site N) F P → Placed N F P
erased m = record { shape = m.shape.shape; kind = m.kind }

-- the members without their ancestors' priorities
abbrev pub erase : {N F P : Type 0} → List (Placed (Site N) F P) → List (Placed N F P)
erase list = map erased list

-- a child of a shape with these priorities from its root down
abbrev pub sited : {N F P : Type 0} → List ℕ → Placed N F P → Placed (Site N) F P
sited priorities c = record { shape = record { shape = c.shape; above = priorities }; kind = c.kind }

abbrev pub all_sited : {N F P : Type 0} → List ℕ → Result (List (Placed N F P)) F
    → Result (List (Placed (Site N) F P)) F
all_sited priorities (Ok children) = Ok (map (sited priorities) children)
all_sited priorities (Err fault) = Err fault

module _ {N A F P : Type 0} (derivation : Derivation N A F P) where
  -- the site's chain, whose last priority is that of its symbol
  abbrev pub chain_of : Site N → Chain
  chain_of s = record {
    lot = derivation.lot s.shape;
    path = derivation.path s.shape;
    priorities = fitted (length (derivation.path s.shape)) s.above ++ derivation.priority s.shape ∷ [];
  }

  -- the derivation, over sites
  abbrev pub world_of : World (Site N) A F P
  world_of = record {
    mode = derivation.mode;
    chain = chain_of;
    roots = map (λ n. record { shape = n; above = [] }) derivation.roots;
    sees = λ n m. derivation.sees n.shape m.shape;
    answers = λ n existing waiting.
        derivation.answers n.shape (map (λ m. m.shape) existing) (map (λ m. m.shape) waiting);
    expand = λ n answers. all_sited (chain_of n).priorities (derivation.expand n.shape answers);
  }

  -- the site that a step takes; none where nothing waits
  abbrev pub next_site : List (Placed (Site N) F P) → Option (Placed (Site N) F P)
  next_site list = first_of (λ m. is_next derivation (erase list) (erased m)) list

  abbrev pub step_sites_by : List (Placed (Site N) F P) → Option (Placed (Site N) F P) → List (Placed (Site N) F P)
  step_sites_by list None = list
  step_sites_by list (Some s) = run.told world_of list s.shape (run.outcome world_of list s.shape)

  -- the configuration of sites that is reached by so many steps
  unfoldable pub sites : ℕ → List (Placed (Site N) F P)
  sites zero = run.start world_of
  sites (suc n) = step_sites_by (sites n) (next_site (sites n))

  abbrev pub taken_by : Option (Placed (Site N) F P) → List (Site N) → List (Site N)
  taken_by None taken = taken
  taken_by (Some s) taken = s.shape ∷ taken

  -- the sites that so many steps took, the last first
  unfoldable pub taken : ℕ → List (Site N)
  taken zero = []
  taken (suc n) = taken_by (next_site (sites n)) (taken n)

  -- sites at two indices of the list have two places
  abbrev pub SitesApart : List (Placed (Site N) F P) → Type 0
  SitesApart list =
      (i j : ℕ) (m n : Placed (Site N) F P) → slice_get list i ≡ Some m → slice_get list j ≡ Some n
      → place_of derivation m.shape.shape ≡ place_of derivation n.shape.shape → i ≡ j
