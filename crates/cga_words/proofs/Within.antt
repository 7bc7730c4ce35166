-- A value that is found passed the range of its option.
use Rattle.std.proofs.Common.{◌≡◌, ◌∙◌, ◌++◌, ◌<◌, ◌||◌, ℕ, zero, suc, Bool, true, false, List, [], ◌∷◌, length, Option, Some, None, refl, sym, ap, subst, inl, inr, arith, codes}
use Rattle.std.specs.Prelude.{option_map, slice_get, pos}
use Rattle.std.specs.List.{All, slice_index_or}
use Rattle.std.specs.Str.{bytes_eq}
use Rattle.std.specs.Borrow.{Bor}
use Rattle.std.proofs.lemmas.List.Elements.{All-get_or, All-nil}
use Rattle.std.proofs.lemmas.Slice.Eq.{bytes_eq-Decides}
use Rattle.clap.specs.Words.{Text, found_of, one_text, matched_of, args_of, groups_of, IsParsedFrom, AddsArg, IsPlainArg, IsPlain, SameRules}
use Rattle.clap.specs.Built.{IsAuto}
use Rattle.clap.specs.Facts.{Entry, EntryPasses, PassesArg, HasReading, parser_of, parser_of_value}
use Rattle.clap.specs.Values.{Accepts, read_as, reading_of}
use Rattle.clap.specs.declared.builder.arg.Arg.{Arg}
use Rattle.clap.specs.declared.builder.command.Command.{Command}
use Rattle.clap.specs.declared.builder.command.Command.TheViews.{out-Command}
use Rattle.clap.specs.declared.builder.value_parser.Reading.{Reading}
use Rattle.clap.specs.declared.builder.value_parser.ValueParser.{ValueParser}
use Rattle.clap.specs.declared.builder.value_parser.ValueParser.TheVariants as parser
use Rattle.clap.specs.declared.parser.matches.ArgMatches.{ArgMatches}
use Rattle.clap.specs.declared.parser.matches.MatchedArg.{MatchedArg}
use Rattle.clap.proofs.CallerLemmas.{added_plain, entry_by_id, same_rules_by_id}
use Rattle.cga_words.specs.Within.{IsFoundIn}

module _ (old : Command) (m : ArgMatches) (p : IsParsedFrom old m) (k : ℕ) (a : Arg)
    (lt : k < length (args_of old)) (at : (d : Arg) → slice_index_or (args_of old) k d ≡ a)
    (unique : (j : ℕ) (e : Arg) → j < length (args_of old) → bytes_eq (slice_index_or (args_of old) j e).id.now
    a.id.now ≡ true → j ≡ k) (own : IsAuto a → ⊥) (named : a.id.now ≡ [] → ⊥) (q : ValueParser) (has : a.value_parser ≡ Some q) where
  same_rules : (j : ℕ) (x : Arg) → j < length (args_of p.built) → slice_index_or (args_of p.built) j x ≡ x
      → bytes_eq x.id.now a.id.now ≡ true → SameRules a x
  same_rules j x low is same =
      let here = at a in
      subst (λ (b : Arg). SameRules b x) here
      (same_rules_by_id old m p k a lt (λ i e l s. unique i e l (subst (λ (b : Arg). bytes_eq (slice_index_or (args_of old) i e).id.now b.id.now ≡ true) here s))
      (λ auto. own (subst IsAuto here auto)) j x low is (subst (λ (b : Arg). bytes_eq x.id.now b.id.now ≡ true) (sym here) same))

  read_so : (r : Reading) → HasReading p.built a.id.now r → r ≡ reading_of q
  read_so r any =
      let s = same_rules any.0 any.1 any.2 any.3 any.4.0 in
      let is_q : parser_of any.1 ≡ q = ap parser_of_value (s.parser q has) in
      sym any.4.1 ∙ ap reading_of is_q

  passed : (v : Text) → PassesArg p.built a.id.now v → Accepts a.ignore_case q v
  passed v any =
      let s = same_rules any.0 any.1 any.2 any.3 any.4.0 in
      let is_q : parser_of any.1 ≡ q = ap parser_of_value (s.parser q has) in
      let as_q : Accepts any.1.ignore_case q v = subst (λ (w : ValueParser). Accepts any.1.ignore_case w v) is_q any.4.1 in
      subst (λ (b : Bool). Accepts b q v) s.ignore_case as_q

  Passes : Text → Type 0
  Passes t = (u : Text) × (t ≡ read_as (reading_of q) u) × Accepts a.ignore_case q u

  first_value : (how : Reading) (vs : List (Bor Text)) (t : Text) → how ≡ reading_of q
      → All (λ v. PassesArg p.built a.id.now v.now) vs
      → option_map (λ (s : Bor Text). read_as how s.now) (slice_get vs 0) ≡ Some t
      → (u : Text) × (t ≡ read_as (reading_of q) u) × Accepts a.ignore_case q u
  first_value how [] t is all e = absurd (cc)
  first_value how (v ∷ vs) t is all e =
      let same : read_as how v.now ≡ t = cc in
      (v.now, sym same ∙ ap (λ (h : Reading). read_as h v.now) is, passed v.now (All-get_or (λ (w : Bor Text). PassesArg p.built a.id.now w.now) (v ∷ vs) 0 v (omega arith) all))

  of_entry : (x : MatchedArg) (e : Entry) (t : Text) → groups_of p.built ≡ [] → e.1 ≡ x → e.0.now ≡ a.id.now
      → EntryPasses p.built e
      → option_map (λ (s : Bor Text). read_as x.reading s.now) (slice_get x.vals.items 0) ≡ Some t
      → (u : Text) × (t ≡ read_as (reading_of q) u) × Accepts a.ignore_case q u
  of_entry x e t no_groups same_x key pass found =
      let no_group : e.1.is_group ≡ true → ⊥ = λ g. elim (pass.3 g) [
        | inl empty ↦ named (sym key ∙ empty)
        | inr lots ↦
            let bad : 0 < 0 = rw no_groups at lots in
            absurd (omega arith)
      ] in
      let all : All (λ v. PassesArg p.built a.id.now v.now) x.vals.items = elim pass.0 [
        | inl g ↦ absurd (no_group g)
        | inr vals ↦ subst (λ (w : Text). All (λ v. PassesArg p.built w v.now) x.vals.items) key (rw same_x at vals)
      ] in
      let is : e.1.reading ≡ reading_of q = elim pass.4 [
        | inl g ↦ absurd (no_group g)
        | inr h ↦ read_so e.1.reading (subst (λ (w : Text). HasReading p.built w e.1.reading) key h)
      ] in
      first_value x.reading x.vals.items t (ap (λ (y : MatchedArg). y.reading) (sym same_x) ∙ is) all found

  pub value_passed : IsPlain old → (out-Command old).has_globals ≡ false → (t : Text)
      → one_text (found_of m) a.id.now ≡ Some t
      → (u : Text) × (t ≡ read_as (reading_of q) u) × Accepts a.ignore_case q u
  value_passed plain globals t found = go (matched_of (found_of m) a.id.now) refl found
    where
      go : (o : Option MatchedArg) → matched_of (found_of m) a.id.now ≡ o → one_text (found_of m) a.id.now ≡ Some t
          → (u : Text) × (t ≡ read_as (reading_of q) u) × Accepts a.ignore_case q u
      go None e h = absurd (let bad : None ≡ Some t = rw e at h in cc)
      go (Some x) e h =
          let parsed = p.parsed (p.from.globals ∙ globals) in
          let got = entry_by_id (EntryPasses p.built) (found_of m).entries.items a.id.now x parsed.values e in
          of_entry x got.0 t (p.from.plain plain).1 got.1 ((bytes_eq-Decides got.0.0.now a.id.now).0 got.2) got.3 (rw e at h)

-- ---- the two options of the command

no_auto_decimals : (a : Arg) → a.id.now ≡ codes "decimals" → IsAuto a → ⊥
no_auto_decimals a id auto = elim auto [
  | inl h ↦ let bad : 8 ≡ 4 = ap length (sym id ∙ h) in absurd (omega (arith, bad))
  | inr h ↦ let bad : 8 ≡ 7 = ap length (sym id ∙ h) in absurd (omega (arith, bad))
]

no_auto_town : (a : Arg) → a.id.now ≡ codes "town" → IsAuto a → ⊥
no_auto_town a id auto = elim auto [
  | inl h ↦ let bad : 116 ≡ 104 = ap (λ (t : Text). slice_index_or t 0 0) (sym id ∙ h) in absurd (omega (arith, bad))
  | inr h ↦ let bad : 4 ≡ 7 = ap length (sym id ∙ h) in absurd (omega (arith, bad))
]

module _ (start one two : Command) (a b : Arg) (m : ArgMatches) (first : AddsArg start a one)
    (second : AddsArg one b two) (args : args_of start ≡ []) (groups : groups_of start ≡ [])
    (globals : (out-Command start).has_globals ≡ false) (plain_a : IsPlainArg a) (plain_b : IsPlainArg b)
    (local_a : a.global ≡ false) (local_b : b.global ≡ false) (id_a : a.id.now ≡ codes "decimals")
    (id_b : b.id.now ≡ codes "town") (parser_a : a.value_parser ≡ Some (parser.Signed (pos 0) (pos 9)))
    (parser_b : b.value_parser ≡ Some (parser.Signed (pos 1) (pos 200))) (p : IsParsedFrom two m) where
  list : args_of two ≡ first.arg ∷ second.arg ∷ []
  list = second.args ∙ ap (λ (l : List Arg). l ++ second.arg ∷ []) (first.args ∙ ap (λ (l : List Arg). l ++ first.arg ∷ []) args)

  plain : IsPlain two
  plain = added_plain one two b second (added_plain start one a first (subst (All IsPlainArg) (sym args) (All-nil IsPlainArg), groups) plain_a) plain_b

  no_globals : (out-Command two).has_globals ≡ false
  no_globals = second.globals ∙ (ap (λ (t : Bool). t || b.global) (first.globals ∙ (ap (λ (t : Bool). t || a.global) globals ∙ local_a)) ∙ local_b)

  first_id : first.arg.id.now ≡ codes "decimals"
  first_id = ap (λ (i : Bor Text). i.now) first.rules.id ∙ id_a

  second_id : second.arg.id.now ≡ codes "town"
  second_id = ap (λ (i : Bor Text). i.now) second.rules.id ∙ id_b

  apart : first.arg.id.now ≡ second.arg.id.now → ⊥
  apart e = let bad : 8 ≡ 4 = ap length (sym first_id ∙ e ∙ second_id) in absurd (omega (arith, bad))

  first_alone : (j : ℕ) (e : Arg) → j < length (args_of two)
      → bytes_eq (slice_index_or (args_of two) j e).id.now first.arg.id.now ≡ true → j ≡ 0
  first_alone zero e low same = refl
  first_alone (suc zero) e low same =
      let is : bytes_eq second.arg.id.now first.arg.id.now ≡ true = subst (λ (l : List Arg). bytes_eq (slice_index_or l 1 e).id.now first.arg.id.now ≡ true) list same in
      absurd (apart (sym ((bytes_eq-Decides second.arg.id.now first.arg.id.now).0 is)))
  first_alone (suc (suc j)) e low same = absurd (let two_only : length (args_of two) ≡ 2 = ap length list in omega (arith, low, two_only))

  second_alone : (j : ℕ) (e : Arg) → j < length (args_of two)
      → bytes_eq (slice_index_or (args_of two) j e).id.now second.arg.id.now ≡ true → j ≡ 1
  second_alone zero e low same =
      let is : bytes_eq first.arg.id.now second.arg.id.now ≡ true = subst (λ (l : List Arg). bytes_eq (slice_index_or l 0 e).id.now second.arg.id.now ≡ true) list same in
      absurd (apart ((bytes_eq-Decides first.arg.id.now second.arg.id.now).0 is))
  second_alone (suc zero) e low same = refl
  second_alone (suc (suc j)) e low same = absurd (let two_only : length (args_of two) ≡ 2 = ap length list in omega (arith, low, two_only))

  pub found_within : IsFoundIn (codes "decimals") 0 9 (found_of m) × IsFoundIn (codes "town") 1 200 (found_of m)
  found_within =
      let two_only : length (args_of two) ≡ 2 = ap length list in (
        λ t h. (
            let r = value_passed two m p 0 first.arg (omega (arith, two_only)) (λ d. ap (λ (l : List Arg). slice_index_or l 0 d) list) first_alone (no_auto_decimals first.arg first_id)
            (λ e. let bad : 8 ≡ 0 = ap length (sym first_id ∙ e) in absurd (omega (arith, bad))) (parser.Signed (pos 0) (pos 9)) (first.rules.parser _ parser_a) plain no_globals t
            (subst (λ (w : Text). one_text (found_of m) w ≡ Some t) (sym first_id) h) in (r.0, r.1, r.2)),
        λ t h. (
            let r = value_passed two m p 1 second.arg (omega (arith, two_only)) (λ d. ap (λ (l : List Arg). slice_index_or l 1 d) list) second_alone (no_auto_town second.arg second_id)
            (λ e. let bad : 4 ≡ 0 = ap length (sym second_id ∙ e) in absurd (omega (arith, bad))) (parser.Signed (pos 1) (pos 200)) (second.rules.parser _ parser_b) plain no_globals t
            (subst (λ (w : Text). one_text (found_of m) w ≡ Some t) (sym second_id) h) in (r.0, r.1, r.2)),
      )
