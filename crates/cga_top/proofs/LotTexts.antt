-- The texts of instances, of lots and of a city, piece by piece.
use Rattle.std.proofs.Common.{◌≡◌, ◌∙◌, ℕ, ◌+◌, ◌*◌, ◌^◌, ◌≤◌, List, [], ◌∷◌, ◌++◌, length, take, drop, get_or, ◌<◌, Option, refl, sym, ap, subst, arith, append_assoc}
use Rattle.std.proofs.lemmas.List.{append-nil, take-append-drop}
use Rattle.std.proofs.lemmas.List.Sums.{sum_by-append, sum_by-cons}
use Rattle.std.specs.Prelude.{bytes_eq, codes}
use Rattle.std.specs.List.{AllByRecursion, IsDistinct}
use Rattle.std.specs.Io.KnownBytes.{Appends}
use Rattle.cga_shape.specs.declared.drawn.Drawn.{Drawn}
use Rattle.cga_obj.specs.Lots.{Shown, StandsBy, instance_text, instances_text, lot_text, lots_text, text_by, vertex_count, vertices_in}
use Rattle.cga_obj.proofs.Door.{FirstRun, drop_first, no_lot, one_lot, run_at}
use Rattle.cga_top.specs.Prefixes.{AppendsSome}
use Rattle.cga_top.proofs.Effects.{some_after, some_more}
use Rattle.cga_top.proofs.Known.{appends_more, appends_nothing, appends_some}

module _ (mesh : Shown) (decimals : ℕ) where
  none_text : (before : ℕ) → instances_text mesh decimals before [] ≡ []
  unfolding instances_text
  none_text before = refl

  cons_text : (before : ℕ) (d : Drawn) (ds : List Drawn)
      → instances_text mesh decimals before (d ∷ ds)
      ≡ instance_text mesh decimals before d ++ instances_text mesh decimals (before + vertex_count mesh d) ds
  unfolding instances_text
  cons_text before d ds = refl

  -- the text of some instances, and then of others
  both_text : (before : ℕ) (xs ys : List Drawn)
      → instances_text mesh decimals before (xs ++ ys)
      ≡ instances_text mesh decimals before xs ++ instances_text mesh decimals (before + vertices_in mesh xs) ys
  both_text before [] ys =
      let same : before + vertices_in mesh [] ≡ before = omega arith in
      rw (same, none_text before) refl
  both_text before (x ∷ xs) ys =
      let here = before + vertex_count mesh x in
      let one = sum_by-cons (vertex_count mesh) x xs in
      let same : here + vertices_in mesh xs ≡ before + vertices_in mesh (x ∷ xs) = omega (arith, one) in
      let own = instance_text mesh decimals before x in
      cons_text before x (xs ++ ys) ∙ ap (λ (t : List ℕ). own ++ t) (both_text here xs ys)
      ∙ sym (append_assoc own (instances_text mesh decimals here xs) (instances_text mesh decimals (here + vertices_in mesh xs) ys))
      ∙ ap (λ (t : List ℕ). t ++ instances_text mesh decimals (here + vertices_in mesh xs) ys) (sym (cons_text before x xs))
      ∙ ap (λ (n : ℕ). instances_text mesh decimals before (x ∷ xs) ++ instances_text mesh decimals n ys) same

  -- so far the text of all was written up to these
  pub record Comes (before : ℕ) (all : List Drawn) (after : ℕ) (rest : List Drawn) (old new : Option (List ℕ)) : Type 0 where
    pub done : List ℕ
    pub both : done ++ instances_text mesh decimals after rest ≡ instances_text mesh decimals before all
    pub count : after + vertices_in mesh rest ≡ before + vertices_in mesh all
    pub written : Appends old new done

module _ (mesh : Shown) (decimals before after next n : ℕ) (all rest piece others : List Drawn) (a b c : Option (List ℕ)) (text : List ℕ)
    (come : Comes mesh decimals before all after rest a b) (front : piece ≡ take n rest) (back : others ≡ drop n rest)
    (is : text ≡ instances_text mesh decimals after piece) where
  split : rest ≡ piece ++ others
  split = rw (front, back) (sym (take-append-drop n rest))

  next_text : instances_text mesh decimals after rest
      ≡ text ++ instances_text mesh decimals (after + vertices_in mesh piece) others
  next_text = ap (instances_text mesh decimals after) split ∙ both_text mesh decimals after piece others
      ∙ ap (λ (t : List ℕ). t ++ instances_text mesh decimals (after + vertices_in mesh piece) others) (sym is)

  pub comes_on : next ≡ after + vertices_in mesh piece → Appends b c text
      → Comes mesh decimals before all next others a c
  comes_on count wrote = record {
    done = come.done ++ text;
    both = ap (λ (m : ℕ). (come.done ++ text) ++ instances_text mesh decimals m others) count
        ∙ append_assoc come.done text (instances_text mesh decimals (after + vertices_in mesh piece) others)
        ∙ ap (λ (t : List ℕ). come.done ++ t) (sym next_text) ∙ come.both;
    count =
        let one = sum_by-append (vertex_count mesh) piece others in
        let whole = ap (vertices_in mesh) split in
        omega (arith, one, whole, come.count, count);
    written = appends_more a b c come.done text come.written wrote;
  }

  pub comes_some : AppendsSome b c text → AppendsSome a c (instances_text mesh decimals before all)
  comes_some wrote =
      let more = instances_text mesh decimals (after + vertices_in mesh piece) others in
      subst (AppendsSome a c) (ap (λ (t : List ℕ). come.done ++ t) (sym next_text) ∙ come.both)
      (some_after a b c come.done (text ++ more) come.written (some_more b c text more wrote))

pub begun : (mesh : Shown) (decimals before : ℕ) (all : List Drawn) (a : Option (List ℕ))
    → Comes mesh decimals before all before all a a
begun mesh decimals before all a = record { done = []; both = refl; count = refl; written = appends_nothing a }

pub unwritten : (mesh : Shown) (decimals before after : ℕ) (all rest : List Drawn) (a b : Option (List ℕ))
    → Comes mesh decimals before all after rest a b → AppendsSome a b (instances_text mesh decimals before all)
unwritten mesh decimals before after all rest a b come =
    subst (AppendsSome a b) come.both
    (some_more a b come.done (instances_text mesh decimals after rest) (appends_some a b come.done come.written))

module _ (mesh : Shown) (decimals before after : ℕ) (all rest : List Drawn) (a b : Option (List ℕ))
    (come : Comes mesh decimals before all after rest a b) (none : rest ≡ []) where
  pub comes_all : Appends a b (instances_text mesh decimals before all)
  comes_all =
      subst (Appends a b) (sym (append-nil come.done) ∙ ap (λ (t : List ℕ). come.done ++ t)
      (sym (ap (instances_text mesh decimals after) none ∙ none_text mesh decimals after)) ∙ come.both) come.written

  pub counted_all : after ≡ before + vertices_in mesh all
  counted_all = let empty = ap (vertices_in mesh) none in omega (arith, empty, come.count)

-- ---- lots

-- what is drawn of lots, each of which has its own
pub record EachOwn (drawn : List (List ℕ) → List Drawn) : Type 0 where
  pub more : (lot : List ℕ) (lots : List (List ℕ)) → drawn (lot ∷ lots) ≡ drawn (lot ∷ []) ++ drawn lots
  pub own : (lot : List ℕ) → AllByRecursion (λ (d : Drawn). d.lot ≡ lot) (drawn (lot ∷ []))
  pub stands : (lots : List (List ℕ)) → StandsBy lots (drawn lots)

-- lots stay apart as the first is left behind
apart_rest : (lot : List ℕ) (lots : List (List ℕ)) → IsDistinct bytes_eq (lot ∷ lots) → IsDistinct bytes_eq lots
unfolding IsDistinct
apart_rest lot lots apart = apart.1

pub apart_more : (all : List (List ℕ)) (i : ℕ) (lot : List ℕ) → i < length all → lot ≡ get_or all i lot
    → IsDistinct bytes_eq (drop i all) → IsDistinct bytes_eq (drop (i + 1) all)
apart_more all i lot within at apart =
    apart_rest lot (drop (i + 1) all) (subst (IsDistinct bytes_eq) (drop_first all i lot within (sym at)) apart)

module _ (mesh : Shown) (decimals : ℕ) where
  pub text_parts : (lots : List (List ℕ)) (drawn : List Drawn)
      → codes "# cga_city obj\n" ++ lots_text mesh decimals drawn 0 lots ≡ text_by mesh lots drawn decimals
  unfolding text_by
  text_parts lots drawn = refl

  pub lot_parts : (before : ℕ) (lot head : List ℕ) (drawn : List Drawn) → head ≡ codes "o " ++ lot ++ codes "\n"
      → head ++ instances_text mesh decimals before drawn ≡ lot_text mesh decimals before lot drawn
  unfolding lot_text
  lot_parts before lot head drawn is = rw is refl

  -- so far the texts of all lots were written up to these
  pub record LotsCome (drawn : List (List ℕ) → List Drawn) (all left : List (List ℕ)) (before : ℕ)
      (old new : Option (List ℕ)) : Type 0 where
    pub done : List ℕ
    pub both : done ++ lots_text mesh decimals (drawn left) before left ≡ lots_text mesh decimals (drawn all) 0 all
    pub written : Appends old new done

  pub lots_begin : (drawn : List (List ℕ) → List Drawn) (all : List (List ℕ)) (a : Option (List ℕ))
      → LotsCome drawn all all 0 a a
  lots_begin drawn all a = record { done = []; both = refl; written = appends_nothing a }

  pub lots_all : (drawn : List (List ℕ) → List Drawn) (all : List (List ℕ)) (i before : ℕ) (a b : Option (List ℕ))
      → LotsCome drawn all (drop i all) before a b → length all ≤ i
      → Appends a b (lots_text mesh decimals (drawn all) 0 all)
  lots_all drawn all i before a b come past =
      subst (Appends a b) (no_lot mesh decimals before all i (drawn (drop i all)) come.done (lots_text mesh decimals (drawn all) 0 all) past come.both) come.written

  module _ (drawn : List (List ℕ) → List Drawn) (each : EachOwn drawn) where
    first_of : (lot : List ℕ) (lots : List (List ℕ)) → IsDistinct bytes_eq (lot ∷ lots)
        → FirstRun lot lots (drawn (lot ∷ lots)) (drawn (lot ∷ [])) (drawn lots)
    unfolding IsDistinct
    first_of lot lots apart =
        subst (λ (all : List Drawn). FirstRun lot lots all (drawn (lot ∷ [])) (drawn lots)) (sym (each.more lot lots))
        (run_at lot lots (drawn (lot ∷ [])) (drawn lots) apart.0 apart.1 (each.own lot) (each.stands lots))

    first_text : (before : ℕ) (lot : List ℕ) (lots : List (List ℕ)) → IsDistinct bytes_eq (lot ∷ lots)
        → lots_text mesh decimals (drawn (lot ∷ lots)) before (lot ∷ lots)
        ≡ lot_text mesh decimals before lot (drawn (lot ∷ []))
        ++ lots_text mesh decimals (drawn lots) (before + vertices_in mesh (drawn (lot ∷ []))) lots
    first_text before lot lots apart =
        sym (one_lot mesh decimals before (lot ∷ lots) lot lots (drawn (lot ∷ lots)) (drawn (lot ∷ []))
        (drawn lots) [] (lot_text mesh decimals before lot (drawn (lot ∷ []))) refl (first_of lot lots apart) refl)

    module _ (all : List (List ℕ)) (i : ℕ) (lot : List ℕ) (before after : ℕ) (a b c : Option (List ℕ))
        (come : LotsCome drawn all (drop i all) before a b) (within : i < length all) (at : lot ≡ get_or all i lot)
        (apart : IsDistinct bytes_eq (drop i all)) where
      abbrev pub own_text : List ℕ
      own_text = lot_text mesh decimals before lot (drawn (lot ∷ []))

      abbrev pub more_text : List ℕ
      more_text = lots_text mesh decimals (drawn (drop (i + 1) all)) (before + vertices_in mesh (drawn (lot ∷ []))) (drop (i + 1) all)

      these_text : come.done ++ (own_text ++ more_text) ≡ lots_text mesh decimals (drawn all) 0 all
      these_text =
          let these = drop_first all i lot within (sym at) in
          ap (λ (t : List ℕ). come.done ++ t) (sym (first_text before lot (drop (i + 1) all) (subst (IsDistinct bytes_eq) these apart)))
          ∙ ap (λ (ls : List (List ℕ)). come.done ++ lots_text mesh decimals (drawn ls) before ls) (sym these) ∙ come.both

      pub lots_on : after ≡ before + vertices_in mesh (drawn (lot ∷ [])) → Appends b c own_text
          → LotsCome drawn all (drop (i + 1) all) after a c
      lots_on count wrote = record {
        done = come.done ++ own_text;
        both = ap (λ (n : ℕ). (come.done ++ own_text) ++ lots_text mesh decimals (drawn (drop (i + 1) all)) n (drop (i + 1) all)) count
            ∙ append_assoc come.done own_text more_text ∙ these_text;
        written = appends_more a b c come.done own_text come.written wrote;
      }

      pub lots_some : AppendsSome b c own_text → AppendsSome a c (lots_text mesh decimals (drawn all) 0 all)
      lots_some wrote = subst (AppendsSome a c) these_text (some_after a b c come.done (own_text ++ more_text) come.written (some_more b c own_text more_text wrote))
