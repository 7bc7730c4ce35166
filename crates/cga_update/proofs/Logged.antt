-- What went and came, and what its log says.
use Rattle.std.proofs.Common.{◌≡◌, inl, inr, ℕ, List, [], ◌∷◌, ◌++◌, Bool, true, false, refl, sym, ap, ◌∙◌, Option, Some, None, append_assoc}
use Rattle.std.specs.Prelude.{nat_eq, not, ◌&&◌, if◌then◌else◌}
use Rattle.cga_check.specs.Uses.{same_name}
use Rattle.cga_order.specs.World.{Among, is_instance}
use Rattle.cga_order.specs.declared.placed.Kind.{Kind}
use Rattle.cga_order.specs.declared.placed.Kind.TheVariants.{Waiting, Done, Faulted, Instance}
use Rattle.cga_fraction.proofs.Door.{None-not-Some as none_some, eq_from_nat_eq as nat_eq_sound, nat_eq-same as nat_eq_own, same_Some as some_same}
use Rattle.cga_shape.specs.declared.shape_fault.ShapeFault.{ShapeFault}
use Rattle.cga_word.specs.declared.primitive.Primitive.{Primitive}
use Rattle.cga_shape.specs.declared.drawn.Drawn.{Drawn}
use Rattle.cga_forest.specs.declared.node_change.NodeChange.{NodeChange}
use Rattle.cga_forest.specs.NodeChange.{ListsOnlyIn, moved_of, primitive_of}
use Rattle.cga_forest.specs.View.{Seen}
use Rattle.cga_depend.specs.declared.log.Pairing.{Pairing}
use Rattle.cga_depend.specs.declared.log.Pairing.TheVariants.{Created, Removed}
use Rattle.cga_depend.specs.Log.{noted, noted_all}
use Rattle.cga_update.specs.Log.{created_of, drawn_before, drawn_of, is_of, IsLogged, paired_before, removed_of, StayAlike}
use Rattle.std.proofs.Common.{append-nil as append_none}

-- ---- a list after a loop's step

pair_split : (x : Pairing) (p : Option Primitive) (rest : List Pairing)
    → paired_before x p rest ≡ paired_before x p [] ++ rest
pair_split x None rest = refl
pair_split x (Some p) rest = refl

draw_split : (m : NodeChange) (p : Option Primitive) (rest : List Drawn)
    → drawn_before m p rest ≡ drawn_before m p [] ++ rest
draw_split m None rest = refl
draw_split m (Some p) rest = refl

-- where f puts x before the rest, and x went behind the list, the rest is left
next : {X Y : Type 0} (f : List X → List Y) (m : X) (one : List Y) (now after all : List Y) (at later : List X)
    → f (m ∷ later) ≡ one ++ f later → at ≡ m ∷ later → after ≡ now ++ one → now ++ f at ≡ all → after ++ f later ≡ all
next f m one now after all at later split is more before =
    ap (λ ys. ys ++ f later) more ∙ (append_assoc now one (f later) ∙ (ap (λ ys. now ++ ys) (sym split ∙ ap f (sym is)) ∙ before))

pub removed_next : (m : NodeChange) (now after all : List Pairing) (at later : List NodeChange) → at ≡ m ∷ later
    → after ≡ now ++ paired_before (Removed m.symbol m.id) m.primitive []
    → now ++ removed_of at ≡ all → after ++ removed_of later ≡ all
unfolding removed_of
removed_next m now after all at later is more before = next removed_of m
    (paired_before (Removed m.symbol m.id) m.primitive []) now after all at later
    (pair_split (Removed m.symbol m.id) m.primitive (removed_of later)) is more before

pub created_next : (m : NodeChange) (now after all : List Pairing) (at later : List NodeChange) → at ≡ m ∷ later
    → after ≡ now ++ paired_before (Created m.symbol m.id) m.primitive []
    → now ++ created_of at ≡ all → after ++ created_of later ≡ all
unfolding created_of
created_next m now after all at later is more before = next created_of m
    (paired_before (Created m.symbol m.id) m.primitive []) now after all at later
    (pair_split (Created m.symbol m.id) m.primitive (created_of later)) is more before

pub drawn_next : (m : NodeChange) (now after all : List Drawn) (at later : List NodeChange) → at ≡ m ∷ later
    → after ≡ now ++ drawn_before m m.primitive []
    → now ++ drawn_of at ≡ all → after ++ drawn_of later ≡ all
unfolding drawn_of
drawn_next m now after all at later is more before = next drawn_of m (drawn_before m m.primitive []) now after all at later (draw_split m m.primitive (drawn_of later)) is more before

end : {X Y : Type 0} (f : List X → List Y) (now all : List Y) (at : List X) → f [] ≡ [] → at ≡ [] → now ++ f at ≡ all
    → now ≡ all
end f now all at none is before = sym (append_none now) ∙ (ap (λ ys. now ++ ys) (sym none ∙ ap f (sym is)) ∙ before)

pub removed_end : (now all : List Pairing) (at : List NodeChange) → at ≡ [] → now ++ removed_of at ≡ all → now ≡ all
unfolding removed_of
removed_end now all at is before = end removed_of now all at refl is before

pub created_end : (now all : List Pairing) (at : List NodeChange) → at ≡ [] → now ++ created_of at ≡ all → now ≡ all
unfolding created_of
created_end now all at is before = end created_of now all at refl is before

pub drawn_end : (now all : List Drawn) (at : List NodeChange) → at ≡ [] → now ++ drawn_of at ≡ all → now ≡ all
unfolding drawn_of
drawn_end now all at is before = end drawn_of now all at refl is before

-- ---- what a log says

and_true : (a b : Bool) → b ≡ true → (a && b) ≡ a
and_true true b is = is
and_true false b is = refl

pub noted_more : (xs ys : List Pairing) (s : List ℕ) (c : ℕ) (was : Bool)
    → noted_all (xs ++ ys) s c was ≡ noted_all ys s c (noted_all xs s c was)
unfolding noted_all
noted_more [] ys s c was = refl
noted_more (x ∷ xs) ys s c was = noted_more xs ys s c (noted x s c was)

abbrev is_other : Option Primitive → Bool
is_other None = true
is_other (Some p) = false

-- it is no instance, and it is node c, of symbol s
abbrev hits : NodeChange → List ℕ → ℕ → Bool
hits m s c = is_other m.primitive && (same_name m.symbol s && nat_eq m.id c)

module _ (s : List ℕ) (c : ℕ) where
  removed_step : (m : NodeChange) (p : Option Primitive) (rest : List Pairing) (was : Bool)
      → noted_all (paired_before (Removed m.symbol m.id) p rest) s c was ≡ noted_all rest s c
      (if is_other p && (same_name m.symbol s && nat_eq m.id c) then false else was)
  unfolding noted_all
  removed_step m None rest was = refl
  removed_step m (Some p) rest was = refl

  created_step : (m : NodeChange) (p : Option Primitive) (rest : List Pairing) (was : Bool)
      → noted_all (paired_before (Created m.symbol m.id) p rest) s c was ≡ noted_all rest s c
      (if is_other p && (same_name m.symbol s && nat_eq m.id c) then true else was)
  unfolding noted_all
  created_step m None rest was = refl
  created_step m (Some p) rest was = refl

  removed_none : (ms : List NodeChange) (was : Bool) → ((m : NodeChange) → Among m ms → hits m s c ≡ false)
      → noted_all (removed_of ms) s c was ≡ was
  unfolding noted_all removed_of
  removed_none [] was none = refl
  removed_none (m ∷ ms) was none =
      removed_step m m.primitive (removed_of ms) was
      ∙ (ap (λ b. noted_all (removed_of ms) s c (if b then false else was)) (none m (inl refl)) ∙ removed_none ms was (λ x h. none x (inr h)))

  created_none : (ms : List NodeChange) (was : Bool) → ((m : NodeChange) → Among m ms → hits m s c ≡ false)
      → noted_all (created_of ms) s c was ≡ was
  unfolding noted_all created_of
  created_none [] was none = refl
  created_none (m ∷ ms) was none =
      created_step m m.primitive (created_of ms) was
      ∙ (ap (λ b. noted_all (created_of ms) s c (if b then true else was)) (none m (inl refl)) ∙ created_none ms was (λ x h. none x (inr h)))

  if_same : (b v : Bool) → (if b then v else v) ≡ v
  if_same true v = refl
  if_same false v = refl

  removed_false : (ms : List NodeChange) → noted_all (removed_of ms) s c false ≡ false
  unfolding noted_all removed_of
  removed_false [] = refl
  removed_false (m ∷ ms) = removed_step m m.primitive (removed_of ms) false ∙ (ap (noted_all (removed_of ms) s c) (if_same (hits m s c) false) ∙ removed_false ms)

  created_true : (ms : List NodeChange) → noted_all (created_of ms) s c true ≡ true
  unfolding noted_all created_of
  created_true [] = refl
  created_true (m ∷ ms) = created_step m m.primitive (created_of ms) true ∙ (ap (noted_all (created_of ms) s c) (if_same (hits m s c) true) ∙ created_true ms)

  removed_some : (ms : List NodeChange) (m : NodeChange) (was : Bool) → Among m ms → hits m s c ≡ true
      → noted_all (removed_of ms) s c was ≡ false
  unfolding noted_all removed_of
  removed_some [] m was h hit = absurd h
  removed_some (x ∷ ms) m was (inl e) hit =
      removed_step x x.primitive (removed_of ms) was
      ∙ (ap (λ b. noted_all (removed_of ms) s c (if b then false else was)) (ap (λ (y : NodeChange). hits y s c) e ∙ hit) ∙ removed_false ms)
  removed_some (x ∷ ms) m was (inr h) hit =
      removed_step x x.primitive (removed_of ms) was ∙ removed_some ms m (if hits x s c then false else was) h hit

  created_some : (ms : List NodeChange) (m : NodeChange) (was : Bool) → Among m ms → hits m s c ≡ true
      → noted_all (created_of ms) s c was ≡ true
  unfolding noted_all created_of
  created_some [] m was h hit = absurd h
  created_some (x ∷ ms) m was (inl e) hit =
      created_step x x.primitive (created_of ms) was
      ∙ (ap (λ b. noted_all (created_of ms) s c (if b then true else was)) (ap (λ (y : NodeChange). hits y s c) e ∙ hit) ∙ created_true ms)
  created_some (x ∷ ms) m was (inr h) hit =
      created_step x x.primitive (created_of ms) was ∙ created_some ms m (if hits x s c then true else was) h hit

  hit_id : (m : NodeChange) → hits m s c ≡ true → m.id ≡ c
  hit_id m hit = by_tests (is_other m.primitive) (same_name m.symbol s) (nat_eq m.id c) refl hit
    where
      by_tests : (a b t : Bool) → nat_eq m.id c ≡ t → (a && (b && t)) ≡ true → m.id ≡ c
      by_tests true true true is h = nat_eq_sound m.id c is
      by_tests true true false is h = let z : false ≡ true = h in absurd (cc)
      by_tests true false t is h = let z : false ≡ true = h in absurd (cc)
      by_tests false b t is h = let z : false ≡ true = h in absurd (cc)

  missed : (ms : List NodeChange) → ((m : NodeChange) → Among m ms → m.id ≡ c → ⊥) → (m : NodeChange) → Among m ms
      → hits m s c ≡ false
  missed ms none m h = by_test (hits m s c) refl
    where
      by_test : (b : Bool) → hits m s c ≡ b → hits m s c ≡ false
      by_test true is = absurd (none m h (hit_id m is))
      by_test false is = is

  -- a node that went or came is hit where it is one of the symbol
  moved_hit : (d : Seen) → hits (moved_of c d) s c ≡ is_of (Some d) s
  moved_hit d = by_kind d.node.kind (same_name d.node.shape.symbol s) (nat_eq c c) (nat_eq_own c)
    where
      by_kind : (k : Kind ShapeFault Primitive) (a b : Bool) → b ≡ true
          → (is_other (primitive_of k) && (a && b)) ≡ (not (is_instance k) && a)
      by_kind Waiting a b is = and_true a b is
      by_kind Done a b is = and_true a b is
      by_kind (Faulted f) a b is = and_true a b is
      by_kind (Instance p) a b is = refl

module _ (S T : ℕ → Option Seen) (removed created : List NodeChange) (w : ListsOnlyIn S T removed) (k : ListsOnlyIn T S created) (alike : StayAlike S T) (s : List ℕ) (c : ℕ) where
  no_removed : S c ≡ None → (m : NodeChange) → Among m removed → m.id ≡ c → ⊥
  no_removed none m h id =
      let x = (w.each m).0 h in
      none_some x.1 (sym none ∙ (ap S (sym id ∙ ap (λ (y : NodeChange). y.id) x.4) ∙ x.2))

  no_removed_still : (e : Seen) → T c ≡ Some e → (m : NodeChange) → Among m removed → m.id ≡ c → ⊥
  no_removed_still e at m h id =
      let x = (w.each m).0 h in
      none_some e (sym x.3 ∙ (ap T (sym (sym id ∙ ap (λ (y : NodeChange). y.id) x.4)) ∙ at))

  no_created : T c ≡ None → (m : NodeChange) → Among m created → m.id ≡ c → ⊥
  no_created none m h id =
      let x = (k.each m).0 h in
      none_some x.1 (sym none ∙ (ap T (sym id ∙ ap (λ (y : NodeChange). y.id) x.4) ∙ x.2))

  no_created_still : (e : Seen) → S c ≡ Some e → (m : NodeChange) → Among m created → m.id ≡ c → ⊥
  no_created_still e at m h id =
      let x = (k.each m).0 h in
      none_some e (sym x.3 ∙ (ap S (sym (sym id ∙ ap (λ (y : NodeChange). y.id) x.4)) ∙ at))

  then_made : (x y : Option Seen) → S c ≡ x → T c ≡ y
      → noted_all (created_of created) s c (noted_all (removed_of removed) s c (is_of x s)) ≡ is_of y s
  then_made None None was is =
      created_none s c created _ (missed s c created (no_created is)) ∙ removed_none s c removed false (missed s c removed (no_removed was))
  then_made (Some d) (Some e) was is =
      created_none s c created _ (missed s c created (no_created_still d was)) ∙ (removed_none s c removed _ (missed s c removed (no_removed_still e is)) ∙ sym (alike c d e s was is))
  then_made (Some d) None was is =
      created_none s c created _ (missed s c created (no_created is)) ∙ by_test (is_of (Some d) s) refl
    where
      by_test : (b : Bool) → is_of (Some d) s ≡ b → noted_all (removed_of removed) s c (is_of (Some d) s) ≡ false
      by_test true one = removed_some s c removed (moved_of c d) _ ((w.each (moved_of c d)).1 (c, d, was, is, refl)) (moved_hit s c d ∙ one)
      by_test false other = ap (noted_all (removed_of removed) s c) other ∙ removed_false s c removed
  then_made None (Some e) was is =
      ap (noted_all (created_of created) s c) (removed_none s c removed false (missed s c removed (no_removed was))) ∙ by_test (is_of (Some e) s) refl
    where
      by_test : (b : Bool) → is_of (Some e) s ≡ b → noted_all (created_of created) s c false ≡ is_of (Some e) s
      by_test true one = created_some s c created (moved_of c e) false ((k.each (moved_of c e)).1 (c, e, is, was, refl)) (moved_hit s c e ∙ one) ∙ sym one
      by_test false other = created_none s c created false none ∙ sym other
        where
          none : (m : NodeChange) → Among m created → hits m s c ≡ false
          none m h = by_hit (hits m s c) refl
            where
              by_hit : (b : Bool) → hits m s c ≡ b → hits m s c ≡ false
              by_hit false is_not = is_not
              by_hit true hit =
                  let x = (k.each m).0 h in
                  let id : x.0 ≡ c = sym (ap (λ (y : NodeChange). y.id) x.4) ∙ hit_id s c m hit in
                  let d : x.1 ≡ e = some_same x.1 e (sym x.2 ∙ (ap T id ∙ is)) in
                  let m_is : m ≡ moved_of c e = x.4 ∙ (ap (λ n. moved_of n x.1) id ∙ ap (λ (y : Seen). moved_of c y) d) in
                  ap (λ (y : NodeChange). hits y s c) m_is ∙ (moved_hit s c e ∙ other)

-- the log of what went and came between two views, behind one that makes the first, makes the second
pub logged_more : (V S T : ℕ → Option Seen) (log : List Pairing) (removed created : List NodeChange) → IsLogged V S log
    → ListsOnlyIn S T removed → ListsOnlyIn T S created → StayAlike S T
    → IsLogged V T ((log ++ removed_of removed) ++ created_of created)
logged_more V S T log removed created logged w k alike s c =
    let first = noted_more (log ++ removed_of removed) (created_of created) s c (is_of (V c) s) in
    let second = noted_more log (removed_of removed) s c (is_of (V c) s) in
    sym (first ∙ (ap (noted_all (created_of created) s c) (second ∙ ap (noted_all (removed_of removed) s c) (sym (logged s c))) ∙ then_made S T removed created w k alike s c (S c) (T c) refl refl))

-- ---- what is noted when an update begins

pub drawn_from : (now before : List Drawn) (lent moved : List NodeChange) → now ≡ before ++ drawn_of lent → before ≡ []
    → lent ≡ moved → now ≡ drawn_of moved
drawn_from now before lent moved is none same = is ∙ (ap (λ xs. xs ++ drawn_of lent) none ∙ ap drawn_of same)

pub log_from : (now mid before : List Pairing) (gone new removed created : List NodeChange)
    → now ≡ mid ++ created_of new
    → mid ≡ before ++ removed_of gone → before ≡ [] → gone ≡ removed → new ≡ created
    → now ≡ ([] ++ removed_of removed) ++ created_of created
log_from now mid before gone new removed created is was none same same' =
    is ∙ (ap (λ xs. xs ++ created_of new) (was ∙ (ap (λ xs. xs ++ removed_of gone) none ∙ ap (λ xs. [] ++ removed_of xs) same)) ∙ ap (λ xs. ([] ++ removed_of removed) ++ created_of xs) same')
