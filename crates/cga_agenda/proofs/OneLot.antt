-- The example of a lot that comes: its premises, and its one turn.
use Rattle.std.proofs.Common.{◌≡◌, ℕ, zero, suc, ◌+◌, List, [], ◌∷◌, Bool, true, false, refl, sym, ap, subst, ◌∙◌, inl, inr, Result, Ok, Option, Some, None, arith, length, length-append}
use Rattle.std.specs.Prelude.{slice_get}
use Rattle.cga_order.specs.Chain.{IsChild}
use Rattle.cga_order.specs.World.{is_instance}
use Rattle.cga_order.specs.declared.placed.Placed.{Placed}
use Rattle.cga_order.specs.declared.placed.Kind.{Kind}
use Rattle.cga_order.specs.declared.placed.Kind.TheVariants.{Waiting, Done}
use Rattle.cga_order.specs.Agenda.{Node, Keeps, IsTree}
use Rattle.cga_agenda.specs.Edit.{IsEdit, new_world}
use Rattle.cga_agenda.specs.Work.{StandOnce, IsStart, IsBegun, Expands}
use Rattle.cga_agenda.specs.Record.{IsChange}
use Rattle.cga_agenda.specs.Loop.{LoopState, Turns, IsIdle, TellsEach, Counts, IsReady}
use Rattle.cga_agenda.specs.OneLot.{one_lot, state_when, means_one_lot, ALotComes}

abbrev K : Type 0
K = Kind ℕ ℕ

abbrev waiting : List (Node ℕ ℕ ℕ ℕ)
waiting = (state_when false).nodes

abbrev done : List (Node ℕ ℕ ℕ ℕ)
done = (state_when true).nodes

-- nothing stands below a root
no_child : (n i m : ℕ) → IsChild (one_lot.chain n) i (one_lot.chain m) → ⊥
no_child n i m child =
    let size : 0 ≡ 0 + 1 = ap length child.path ∙ length-append [] (i ∷ []) in
    omega (arith, size)

no_member : {X : Type 0} (i : ℕ) (c : Placed ℕ ℕ ℕ) (cs : List (Placed ℕ ℕ ℕ))
    → ◌≡◌ {A = Result (List (Placed ℕ ℕ ℕ)) ℕ} (Ok []) (Ok cs) → slice_get cs i ≡ Some c → X
no_member i c [] e g = let x : ◌≡◌ {A = Option (Placed ℕ ℕ ℕ)} None (Some c) = g in cc
no_member i c (d ∷ ds) e g = cc

-- a list of one element has one index
pub one_index : (i j : ℕ) (n m : ℕ) → slice_get (0 ∷ []) i ≡ Some n → slice_get (0 ∷ []) j ≡ Some m → i ≡ j
one_index zero zero n m h g = refl
one_index zero (suc j) n m h g = let x : ◌≡◌ {A = Option ℕ} None (Some m) = g in cc
one_index (suc i) j n m h g = let x : ◌≡◌ {A = Option ℕ} None (Some n) = h in cc

laws : IsEdit one_lot
laws = record {
  old = record {
    whole = λ n. refl;
    root = λ n h. refl;
    roots_apart = λ i j n m h g e. let x : ◌≡◌ {A = Option ℕ} None (Some n) = h in cc;
    child = λ s a cs e i c g. no_member i c cs e g;
    unseen = λ n m e. let x : false ≡ true = e in cc;
    local = λ n e w e' w' h g. refl;
  };
  new = record {
    whole = λ n. refl;
    root = λ n h. refl;
    roots_apart = λ i j n m h g e. one_index i j n m h g;
    child = λ s a cs e i c g. no_member i c cs e g;
    unseen = λ n m e. let x : false ≡ true = e in cc;
    local = λ n e w e' w' h g. refl;
  };
  answers = λ n existing waiting e. refl;
  outcome = λ n a e. refl;
  kinds = λ c. refl;
  solids = λ c e. refl;
}

is_root : (k : K) (n : ℕ) (j : K) (a : ℕ) → Keeps (record { shape = 0; kind = k; answers = 0 } ∷ []) n j a
    → (0 ≡ n) × (k ≡ j) × (0 ≡ a)
is_root k n j a h = elim h [ inl e ↦ e | inr r ↦ absurd r ]

-- a list of the one root is a tree
tree : (k : K) → is_instance k ≡ false → IsTree (new_world one_lot) (record { shape = 0; kind = k; answers = 0 } ∷ [])
tree k e = record {
  distinct = λ n m i j a b h g p. let u = is_root k n i a h in let v = is_root k m j b g in (sym u.0 ∙ v.0, sym u.1 ∙ v.1);
  roots = λ n h. elim h [
    | inl at ↦ (k, 0, inl (at, refl, refl), e, λ f. let x : false ≡ true = f in cc)
    | inr r ↦ absurd r
  ];
  under = λ n j a h. inl (inl (is_root k n j a h).0);
}

started : IsStart one_lot []
started = record {
  tree = record {
    distinct = λ n m i j a b h g p. absurd h;
    roots = λ n h. absurd h;
    under = λ n j a h. absurd h;
  };
  right = λ n k a h i. absurd h;
}

begun : IsBegun one_lot [] waiting (state_when false).queued
begun = record {
  tree = tree Waiting refl;
  from = λ m k a h.
      let u = is_root Waiting m k a h in
      inr (inl u.0, sym u.1, refl, record { new = inl (sym u.1); bare = λ i n j b child g. no_child m i n child; not_there = λ j b g e f. absurd g }, λ n j b g y v. refl);
  to = λ m k a h. absurd h;
  changed = λ n k a h y. inl refl;
}

no_change : IsChange {N = ℕ} {A = ℕ} {F = ℕ} {P = ℕ} (record { shape = 0; kind = Waiting; answers = 0 } ∷ []) (record { shape = 0; kind = Done; answers = 0 } ∷ []) [] []
no_change = record {
  removed_once = tt;
  created_once = tt;
  each_removed = λ d i. absurd i;
  each_created = λ d i. absurd i;
  balance = λ test. refl;
}

pub ready : IsReady one_lot [] (state_when false) 1
ready = record {
  laws = laws;
  started = started;
  begun = begun;
  gone = record {
    removed_once = tt;
    created_once = tt;
    each_removed = λ d i. absurd i;
    each_created = λ d i. absurd i;
    balance = λ test. refl;
  };
  come = refl;
  roots = refl;
}

expands : Expands one_lot waiting done 0 Waiting 0
expands = record {
  must = inl refl;
  now = λ j b h.
      let u = is_root Done 0 j b h in (
        ap is_instance (sym u.1),
        sym u.2,
        (sym u.1, record { all = λ c k g. absurd g; only = λ c k a g i child. absurd (no_child 0 i c child) }),
      );
}

pub turn_from : (calls : ℕ) → Turns one_lot (state_when false) (state_when true) calls (calls + 1) 0
turn_from calls = (
  0,
  true,
  record {
    next = record { there = refl; first = λ m k a h q apart. absurd (apart refl) };
    was = (Waiting, 0, inl (refl, refl, refl), refl, inl (refl, expands));
    tree = tree Done refl;
    from = λ m k a h other. absurd (other (sym (is_root Done m k a h).0));
    to = λ m k a h.
        let u = is_root Waiting m k a h in
        inl (Done, 0, inl (u.0, refl, refl), ap is_instance u.1, λ e. let x : false ≡ true = ap is_instance u.1 ∙ e in cc);
    queued_still = λ m k a h y other q. absurd (other (sym (is_root Done m k a h).0));
    queues_only = λ m k a h q. let x : false ≡ true = q in cc;
  },
  ([], [], no_change, refl, refl),
  refl,
  refl,
)

pub comes : ALotComes
comes = record { ready = ready; turn = turn_from 0; idle = record { same = refl; none_queued = λ n k a h. refl; no_call = refl } }
