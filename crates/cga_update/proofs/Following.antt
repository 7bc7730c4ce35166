-- What the agenda becomes after the turn of a node.
use Rattle.std.proofs.Common.{◌≡◌, ℕ, List, ◌++◌, sym, ◌∙◌, subst, ◌⊎◌, inl, inr, Bool, true, false}
use Rattle.cga_word.specs.declared.mode.Mode.{Mode}
use Rattle.cga_forest.specs.declared.change.Change.{Change}
use Rattle.cga_forest.specs.declared.node_change.NodeChange.{NodeChange}
use Rattle.cga_forest.specs.Tree.{ForestView}
use Rattle.cga_queue.specs.Agenda.{AgendaView, Chains, ComesAfter, Grows, HasAll}
use Rattle.cga_queue.proofs.Door.{all_kept, grows_by, grows_on}
use Rattle.cga_update.specs.Askers.{IsAsker, IsOneOf}
use Rattle.cga_update.specs.Follow.{HasLaters, IsFollowed}
use Rattle.cga_update.specs.Queue.{chains_of}
use Rattle.cga_update.proofs.NearMoved.{asker_created, asker_removed}

module _ (v : ForestView) (of : ℕ) (change : Change) (nobody : Bool) where
  abbrev D : Chains
  D = chains_of v

  -- who asks near what moved and comes later
  abbrev pub IsMet : List NodeChange → Mode → ℕ → Type 0
  IsMet moved mode c = IsAsker v moved c × ComesAfter D mode of c

  -- what may come on the agenda
  abbrev MayCome : Mode → ℕ → Type 0
  MayCome mode c = IsOneOf change.created c ⊎ ComesAfter D mode of c

  abbrev both : List NodeChange
  both = change.removed ++ change.created

  followed : (a b d : AgendaView) → Grows D (IsOneOf change.created) a b → HasAll D (IsOneOf change.created) b
      → Grows D (IsMet both b.mode) b d → HasAll D (IsMet both b.mode) d → IsFollowed v of change nobody a d
  followed a b d created there met seen =
      let last = subst (λ (m : Mode). Grows D (IsMet both m) b d) created.mode met in
      let has = subst (λ (m : Mode). HasAll D (IsMet both m) d) created.mode seen in
      let P = MayCome a.mode in record {
        grows = grows_on D P a b d (grows_by D (IsOneOf change.created) P a b (λ c p. inl p) created)
            (grows_by D (IsMet both a.mode) P b d (λ c p. inr p.1) last);
        created = all_kept D (IsOneOf change.created) (IsMet both a.mode) b d last there;
        met_removed = λ not c p here. has c (asker_removed v change.removed change.created c p.0, p.1) here;
        met_created = λ not c p here. has c (asker_created v change.removed change.created c p.0, p.1) here;
      }

  -- the lists of the change are lent
  pub followed_by : (first second : List NodeChange) (a b d : AgendaView) → first ≡ change.created
      → second ≡ change.removed
      → Grows D (IsOneOf first) a b → HasAll D (IsOneOf first) b
      → Grows D (IsMet (second ++ first) b.mode) b d → HasAll D (IsMet (second ++ first) b.mode) d
      → IsFollowed v of change nobody a d
  followed_by first second a b d one two created there met seen =
      let same : second ++ first ≡ both = λ i. two i ++ one i in
      followed a b d (subst (λ l. Grows D (IsOneOf l) a b) one created) (subst (λ l. HasAll D (IsOneOf l) b) one there)
      (subst (λ l. Grows D (IsMet l b.mode) b d) same met) (subst (λ l. HasAll D (IsMet l b.mode) d) same seen)

  -- where nobody is looked for, only what came is added
  pub followed_due : (first : List NodeChange) (a b : AgendaView) → first ≡ change.created → nobody ≡ true
      → Grows D (IsOneOf first) a b → HasAll D (IsOneOf first) b → IsFollowed v of change nobody a b
  followed_due first a b same is created there = record {
    grows = grows_by D (IsOneOf change.created) (MayCome a.mode) a b (λ c p. inl p) (subst (λ l. Grows D (IsOneOf l) a b) same created);
    created = subst (λ l. HasAll D (IsOneOf l) b) same there;
    met_removed = λ not. (let z : true ≡ false = sym is ∙ not in absurd (cc));
    met_created = λ not. (let z : true ≡ false = sym is ∙ not in absurd (cc));
  }

  -- what more comes later changes nothing of it
  pub followed_more : (a b d : AgendaView) → IsFollowed v of change nobody a b → Grows D (ComesAfter D b.mode of) b d
      → IsFollowed v of change nobody a d
  followed_more a b d f more =
      let late = subst (λ (m : Mode). Grows D (ComesAfter D m of) b d) f.grows.mode more in
      let P = MayCome a.mode in record {
        grows = grows_on D P a b d f.grows (grows_by D (ComesAfter D a.mode of) P b d (λ c p. inr p) late);
        created = all_kept D (IsOneOf change.created) (ComesAfter D a.mode of) b d late f.created;
        met_removed = λ not. all_kept D (IsMet change.removed a.mode) (ComesAfter D a.mode of) b d late (f.met_removed not);
        met_created = λ not. all_kept D (IsMet change.created a.mode) (ComesAfter D a.mode of) b d late (f.met_created not);
      }

  pub laters_of : (a b d : AgendaView) (was : Bool) → IsFollowed v of change nobody a b
      → (was ≡ true) ⊎ HasLaters v of b.mode d → (was ≡ true) ⊎ HasLaters v of a.mode d
  laters_of a b d was f h = subst (λ (m : Mode). (was ≡ true) ⊎ HasLaters v of m d) f.grows.mode h
