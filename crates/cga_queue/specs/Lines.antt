-- Two lines of entries in the order of their keys: a map's, and one of entries that came behind all that there were.
-- Where both have a key, the map's entry counts.
use Rattle.std.specs.Prelude.{◌≡◌, ◌⊎◌, List, [], ◌∷◌, ◌++◌, Bool, if◌then◌else◌}
use Rattle.std.specs.declared.cmp.Ordering.{Ordering}
use Rattle.std.specs.declared.cmp.Ordering.TheVariants.{Less, Equal, Greater}
use Rattle.std.specs.BTreeMap.{insert_entry}
use Rattle.std.specs.List.{list_any}
use Rattle.std.specs.Ordering.{is_eq}
use Rattle.cga_order.specs.World.{Among}

module _ {K X : Type 0} (cmp : K → K → Ordering) where
  -- an entry has this key
  abbrev pub has_key : List (K × X) → K → Bool
  has_key es k = list_any (λ e. is_eq (cmp e.0 k)) es

  -- the entries of the second line that count
  unfoldable pub spare : List (K × X) → List (K × X) → List (K × X)
  spare es [] = []
  spare es (l ∷ ls) = if has_key es l.0 then spare es ls else (l ∷ spare es ls)

  -- all that count
  abbrev pub counted : List (K × X) → List (K × X) → List (K × X)
  counted es ls = es ++ spare es ls

  -- each entry comes before the key
  abbrev pub AllBefore : List (K × X) → K → Type 0
  AllBefore es k = (q : K) (i : X) → Among (q, i) es → cmp q k ≡ Less

  -- each comes behind it
  abbrev pub AllBehind : K → List (K × X) → Type 0
  AllBehind k es = (q : K) (i : X) → Among (q, i) es → cmp k q ≡ Less

  -- each comes before those that stand behind it
  abbrev pub Rises : List (K × X) → Type 0
  Rises [] = Unit {0}
  Rises (l ∷ ls) = AllBehind l.0 ls × Rises ls

  -- how the first entry compares with a key, where none comes last
  abbrev pub FirstCompares : List (K × X) → K → Ordering → Type 0
  FirstCompares es k Less = (e : K × X) × (r : List (K × X)) × (es ≡ e ∷ r) × (cmp e.0 k ≡ Less)
  FirstCompares es k Equal = (e : K × X) × (r : List (K × X)) × (es ≡ e ∷ r) × (cmp e.0 k ≡ Equal)
  FirstCompares es k Greater = AllBehind k es

  -- how it compares with the first of a second line, where none comes last
  abbrev pub FirstsCompare : List (K × X) → List (K × X) → Ordering → Type 0
  FirstsCompare es ls order =
      ((order ≡ Less) × (ls ≡ [])) ⊎ ((l : K × X) × (r : List (K × X)) × (ls ≡ l ∷ r) × FirstCompares es l.0 order)

  -- an entry was put into one of them: behind all that there were, or into the map
  abbrev pub IsPutIn : List (K × X) → List (K × X) → List (K × X) → List (K × X) → K → X → Type 0
  IsPutIn es ls es' ls' k v =
      ((es' ≡ es) × (ls' ≡ ls ++ (k, v) ∷ []) × AllBefore es k × AllBefore ls k)
      ⊎ ((es' ≡ insert_entry cmp es k v) × (ls' ≡ ls))

  -- the first entry that counts was taken out
  abbrev pub IsTakenOut : List (K × X) → List (K × X) → List (K × X) → List (K × X) → K × X → Type 0
  IsTakenOut es ls es' ls' p =
      ((es ≡ p ∷ es') × (ls' ≡ ls) × AllBehind p.0 es' × AllBehind p.0 ls)
      ⊎ (((es ≡ p ∷ es') × (l : K × X) × (ls ≡ l ∷ ls') × (cmp p.0 l.0 ≡ Equal) × AllBehind p.0 es')
      ⊎ ((es' ≡ es) × (ls ≡ p ∷ ls') × AllBehind p.0 es))
