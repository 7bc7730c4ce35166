-- The end of an update, over the two derivations.
use Rattle.std.proofs.Common.{◌≡◌, ℕ, zero, suc, List, length, [], ◌∷◌, Bool, true, false, refl, sym, ap, ◌∙◌, subst, inl, inr, None, arith}
use Rattle.std.specs.Prelude.{count_by}
use Rattle.cga_order.specs.Chain.{IsChild}
use Rattle.cga_order.specs.World.{World, IsWorld, Has, Among, shapes_where}
use Rattle.cga_order.specs.declared.placed.Placed.{Placed}
use Rattle.cga_order.specs.declared.placed.Kind.{Kind}
use Rattle.cga_order.specs.declared.placed.Kind.TheVariants.{Waiting, Done, Faulted, Instance}
use Rattle.cga_order.specs.Run.{Reached}
use Rattle.cga_order.specs.Consistent.{exists_at, waits_at, NothingWaits, SameMembers}
use Rattle.cga_order.specs.Agenda.{Node, members_of, Keeps}
use Rattle.cga_order.proofs.Door.{Among-shapes_where, Has-Keeps, Has-from_shapes_where, count-once, length-once, right_consistent, same_members}
use Rattle.cga_agenda.specs.Edit.{Edit, IsEdit, old_world, new_world, answers_at, NonInstance, KeptAt, Kept, SameInputs, Touched}
use Rattle.cga_order.specs.Once.{Once}
use Rattle.cga_agenda.specs.Work.{IsWorking, IsStart}
use Rattle.cga_agenda.specs.Record.{Drawn, drawn, IsRecord, Balances}
use Rattle.cga_agenda.specs.Known.{shapes_of}
use Rattle.cga_agenda.specs.Exact.{IsExact, IsExactRecord}
use Rattle.cga_agenda.proofs.Lists.{Has-Among}
use Rattle.cga_agenda.proofs.Exact.{exact}
use Rattle.cga_agenda.proofs.Record.{record_exact}
use Rattle.cga_agenda.proofs.Made.{once-reached}

-- over the two derivations: the shapes that were expanded are those touched, so many as there are; and
-- the record of change
pub record IsUpdate {N A B F P : Type 0} (edit : Edit N A B F P) (old new : List (Placed N F P)) (worked : List N) (gone come : List (Drawn N P)) : Type 0 where
  pub once : Once worked
  pub touched : (n : N) → (Among n worked → Touched edit old new n) × (Touched edit old new n → Among n worked)
  pub count : (list : List N) → Once list
      → ((n : N) → (Among n list → Touched edit old new n) × (Touched edit old new n → Among n list))
      → length worked ≡ length list
  pub gone_once : Once gone
  pub come_once : Once come
  pub each_come : (d : Drawn N P) → Among d come
      → Has new d.shape (Instance d.solid)
      × ((parent : N) × (i : ℕ) × IsChild (edit.chain parent) i (edit.chain d.shape) × Touched edit old new parent)
  pub each_gone : (d : Drawn N P) → Among d gone
      → Has old d.shape (Instance d.solid)
      × ((parent : N) (i : ℕ) → IsChild (edit.chain parent) i (edit.chain d.shape)
      → Kept edit old new parent → SameInputs edit old new parent → ⊥)
  pub balance : Balances old come new gone

module _ {N A F P : Type 0} (world : World N A F P) (laws : IsWorld world) where
  seen_in : (n : N) (test : N → Kind F P → Bool) (xs ys : List (Placed N F P)) → SameMembers xs ys → (m : N)
      → Among m (shapes_where test xs) → Among m (shapes_where test ys)
  seen_in n test xs ys same m h = let u = Has-from_shapes_where test xs m h in Among-shapes_where test ys m u.0 ((same m u.0).0 u.1) u.2

  pub turned_round : (xs ys : List (Placed N F P)) → SameMembers xs ys → SameMembers ys xs
  turned_round xs ys same n k = ((same n k).1, (same n k).0)

  -- answers depend on the members alone
  pub answers_same : (n : N) (xs ys : List (Placed N F P)) → SameMembers xs ys
      → answers_at world xs n ≡ answers_at world ys n
  answers_same n xs ys same =
      laws.local n _ _ _ _
      (λ m v. (seen_in n (exists_at world n) xs ys same m, seen_in n (exists_at world n) ys xs (turned_round xs ys same) m))
      (λ m v. (seen_in n (waits_at world n) xs ys same m, seen_in n (waits_at world n) ys xs (turned_round xs ys same) m))

-- the instances of a list are its members that are instances
module _ {N F P : Type 0} where
  -- what is among the instances of a list is a member of it, of that shape and solid
  pub drawn-Has : (ms : List (Placed N F P)) (d : Drawn N P) → Among d (drawn ms) → Has ms d.shape (Instance d.solid)
  drawn-Has [] d h = absurd h
  drawn-Has (m ∷ ms) d h = by m.kind refl (drawn-Has ms d) h
    where
      by : (k : Kind F P) → m.kind ≡ k → (Among d (drawn ms) → Has ms d.shape (Instance d.solid))
          → Among d (drawn (record { shape = m.shape; kind = k } ∷ ms)) → Has (m ∷ ms) d.shape (Instance d.solid)
      by Waiting e rest i = inr (rest i)
      by Done e rest i = inr (rest i)
      by (Faulted f) e rest i = inr (rest i)
      by (Instance p) e rest i = elim i [
        | inl is ↦ inl (ap (λ x. x.shape) is, e ∙ ap (λ x. Instance x.solid) is)
        | inr r ↦ inr (rest r)
      ]

  -- a member that is an instance is among the instances of the list, with its solid
  pub Has-drawn : (ms : List (Placed N F P)) (d : Drawn N P) → Has ms d.shape (Instance d.solid) → Among d (drawn ms)
  Has-drawn [] d h = absurd h
  Has-drawn (m ∷ ms) d h = elim h [
    | inl e ↦
        let is : m ≡ record { shape = d.shape; kind = Instance d.solid } = λ i. record { shape = e.0 i; kind = e.1 i } in
        subst (λ x. Among d (drawn (x ∷ ms))) (sym is) (inl refl)
    | inr r ↦ more m.kind (Has-drawn ms d r)
  ]
    where
      more : (k : Kind F P) → Among d (drawn ms) → Among d (drawn (record { shape = m.shape; kind = k } ∷ ms))
      more Waiting i = i
      more Done i = i
      more (Faulted f) i = i
      more (Instance p) i = inr i

  -- where each shape of the members stands once, each of their instances does
  pub once-drawn : (ms : List (Placed N F P)) → Once (shapes_of ms) → Once (drawn ms)
  once-drawn [] o = tt
  once-drawn (m ∷ ms) o = by m.kind (once-drawn ms o.1)
    where
      by : (k : Kind F P) → Once (drawn ms) → Once (drawn (record { shape = m.shape; kind = k } ∷ ms))
      by Waiting rest = rest
      by Done rest = rest
      by (Faulted f) rest = rest
      by (Instance p) rest = ((λ i. o.0 (Has-Among ms m.shape (Instance p) (drawn-Has ms (record { shape = m.shape; solid = p }) i))), rest)

  pub drawn_same : (xs ys : List (Placed N F P)) → Once (shapes_of xs) → Once (shapes_of ys)
      → ((n : N) (k : Kind F P) → (Has xs n k → Has ys n k) × (Has ys n k → Has xs n k)) → (test : Drawn N P → Bool)
      → count_by test (drawn xs) ≡ count_by test (drawn ys)
  drawn_same xs ys o p same test =
      count-once test (drawn xs) (drawn ys) (once-drawn xs o) (once-drawn ys p)
      (λ d h. Has-drawn ys d ((same d.shape (Instance d.solid)).0 (drawn-Has xs d h)))
      (λ d h. Has-drawn xs d ((same d.shape (Instance d.solid)).1 (drawn-Has ys d h)))

module _ {N A B F P : Type 0} (edit : Edit N A B F P) (laws : IsEdit edit) where
  abbrev w : World N A F P
  w = new_world edit

  -- what is touched depends on the members of both lists alone
  module _ (old old' new new' : List (Placed N F P)) (olds : SameMembers old old') (news : SameMembers new new') where
    non_instance : (n : N) → NonInstance old n → NonInstance old' n
    non_instance n (k, h, i) = (k, (olds n k).0 h, i)

    non_instance_new : (n : N) → NonInstance new n → NonInstance new' n
    non_instance_new n (k, h, i) = (k, (news n k).0 h, i)

    kept_at : (depth : ℕ) (n : N) → KeptAt edit old new depth n → KeptAt edit old' new' depth n
    kept_at zero n h = (non_instance n h.0, non_instance_new n h.1, h.2)
    kept_at (suc depth) n h = (non_instance n h.0, non_instance_new n h.1, (h.2.0, h.2.1, h.2.2, kept_at depth h.2.0 h.2.3))

    pub kept_as : (n : N) → Kept edit old new n → Kept edit old' new' n
    kept_as n h = (h.0, kept_at h.0 n h.1)

    pub inputs_as : (n : N) → SameInputs edit old new n → SameInputs edit old' new' n
    inputs_as n h = (h.0, sym (answers_same (old_world edit) laws.old n old old' olds) ∙ (h.1 ∙ answers_same w laws.new n new new' news))

  pub touched_as : (old old' new new' : List (Placed N F P)) → SameMembers old old' → SameMembers new new' → (n : N)
      → Touched edit old new n → Touched edit old' new' n
  touched_as old old' new new' olds news n h =
      let back = turned_round w laws.new old old' olds in
      let back_new = turned_round w laws.new new new' news in (
        non_instance_new old old' new new' olds news n h.0,
        elim h.1 [
          | inl never ↦ inl (λ k. never (kept_as old' old new' new back back_new n k))
          | inr d ↦ inr (kept_as old old' new new' olds news n d.0, λ same. d.1 (inputs_as old' old new' new back back_new n same))
        ],
      )

  module _ (start : List (Node N A F P)) (started : IsStart edit start) (now : List (Node N A F P))
      (queued : N → Bool) (turned worked : List N) (gone come : List (Drawn N P))
      (good : IsWorking edit start now queued turned worked) (kept : IsRecord edit start now worked gone come)
      (empty : (n : N) (k : Kind F P) (a : A) → Keeps now n k a → queued n ≡ false)
      (old_roots : Once edit.old.roots) (new_roots : Once edit.new.roots)
      (start_once : Once (shapes_of (members_of start))) (now_once : Once (shapes_of (members_of now)))
      (taken_old taken_new : List N) (old new : List (Placed N F P))
      (old_run : Reached (old_world edit) taken_old old) (old_quiet : NothingWaits (old_world edit) None old)
      (new_run : Reached w taken_new new) (new_quiet : NothingWaits w None new) where
    done : IsExact edit start now worked
    done = exact edit laws start started now queued turned worked good empty

    olds : SameMembers (members_of start) old
    olds = same_members (old_world edit) laws.old (members_of start)
        (right_consistent (old_world edit) laws.old start (λ n. false) None started.tree started.right
        (λ n k a h q b. let x : false ≡ true = q in cc)) taken_old old old_run old_quiet

    news : SameMembers (members_of now) new
    news = same_members w laws.new (members_of now) done.consistent taken_new new new_run new_quiet

    to : (n : N) → Touched edit (members_of start) (members_of now) n → Touched edit old new n
    to n h = touched_as (members_of start) old (members_of now) new olds news n h

    from : (n : N) → Touched edit old new n → Touched edit (members_of start) (members_of now) n
    from n h = touched_as old (members_of start) new (members_of now) (turned_round w laws.new (members_of start) old olds) (turned_round w laws.new (members_of now) new news) n h

    record_done : IsExactRecord edit start now gone come
    record_done = record_exact edit laws start started now queued turned worked good gone come kept empty

    -- where work and both runs are over, each root and node once, nodes have the new members, and the work is an update
    pub update : SameMembers (members_of now) new × IsUpdate edit old new worked gone come
    update = (
      news,
      record {
        once = good.once;
        touched = λ n. ((λ i. to n (done.touched n i)), λ h. done.all n (from n h));
        count = λ list o same.
            let one = length-once worked list good.once (λ n i. (same n).1 (to n (done.touched n i))) in
            let other = length-once list worked o (λ n i. done.all n (from n ((same n).0 i))) in
            omega (arith, one, other);
        gone_once = record_done.gone_once;
        come_once = record_done.come_once;
        each_come = λ d i.
            let g = record_done.each_come d i in
            ((news d.shape (Instance d.solid)).0 (Has-Keeps now d.shape (Instance d.solid) g.0.0 g.0.1), (g.1.0, g.1.1, g.1.2, to g.1.0 g.1.3));
        each_gone = λ d i.
            let g = record_done.each_gone d i in
            let back = turned_round w laws.new (members_of start) old olds in
            let back_new = turned_round w laws.new (members_of now) new news in (
              (olds d.shape (Instance d.solid)).0 (Has-Keeps start d.shape (Instance d.solid) g.0.0 g.0.1),
              λ q j child k same.
                  g.1 q j child (kept_as old (members_of start) new (members_of now) back back_new q k) (inputs_as old (members_of start) new (members_of now) back back_new q same),
            );
        balance = λ test.
            let one = drawn_same (members_of start) old start_once (once-reached (old_world edit) laws.old taken_old old old_run old_roots) olds test in
            let other = drawn_same (members_of now) new now_once (once-reached w laws.new taken_new new new_run new_roots) news test in
            omega (arith, record_done.balance test, one, other);
      },
    )
