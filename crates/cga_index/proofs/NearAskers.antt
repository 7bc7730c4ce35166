-- Who asks near boxes, piece by piece.
use Rattle.std.proofs.Common.{◌≡◌, ◌⊎◌, inl, inr, ℕ, suc, ◌+◌, ◌<◌, ◌≤◌, List, [], ◌∷◌, ◌++◌, length, take, drop, Bool, true, false, refl, sym, ap, subst, ◌∙◌, Some, arith}
use Rattle.std.specs.Prelude.{slice_get}
use Rattle.std.specs.List.{list_any}
use Rattle.std.proofs.lemmas.Bool.{or_cases, or_left, or_right}
use Rattle.std.proofs.lemmas.List.{append_assoc, append-nil, take-append-drop}
use Rattle.std.proofs.lemmas.List.Folds.{list_any-append}
use Rattle.std.proofs.lemmas.Option.{slice_get_within}
use Rattle.cga_fraction.proofs.Door.{lt_or_eq_from_lt_suc as at_or_below, same_Some}
use Rattle.cga_frame.specs.Box.{Box, meets}
use Rattle.cga_index.specs.Around.{IsAround}
use Rattle.cga_index.specs.Near.{AddsThese, AsksNear, AsksWithin, ListsNear}
use Rattle.cga_index.specs.Tree.{InTree, IsHullTree, ListsAskers, Member, TreeView}
use Rattle.cga_index.proofs.Members.{in_at, in_left, in_right, in_split}

-- where one passes, it stands somewhere
pub any_at : {X : Type 0} (p : X → Bool) (xs : List X) → list_any p xs ≡ true
    → (i : ℕ) × (x : X) × (slice_get xs i ≡ Some x) × (p x ≡ true)
any_at p [] h = let z : false ≡ true = h in absurd (cc)
any_at p (x ∷ xs) h = elim (or_cases (p x) (list_any p xs) h) [
  | inl a ↦ (0, x, refl, a)
  | inr b ↦ let w = any_at p xs b in (suc w.0, w.1, w.2, w.3)
]

-- a member stands somewhere
pub member_at : (xs : List ℕ) (n : ℕ) → Member xs n → (i : ℕ) × (slice_get xs i ≡ Some n)
member_at [] n h = absurd h
member_at (y ∷ xs) n (inl e) = (0, ap Some e)
member_at (y ∷ xs) n (inr h) = let w = member_at xs n h in (suc w.0, w.1)

-- of the numbers of a list the first n
abbrev pub First : List ℕ → ℕ → ℕ → Type 0
First ids n c = (j : ℕ) × (j < n) × (slice_get ids j ≡ Some c)

first_cases : (ids : List ℕ) (n id c : ℕ) → slice_get ids n ≡ Some id → First ids (n + 1) c
    → First ids n c ⊎ (c ≡ id)
first_cases ids n id c at f = elim (at_or_below f.0 n f.1) [
  | inl lower ↦ inl (f.0, lower, f.2)
  | inr same ↦ inr (same_Some c id (sym f.2 ∙ (ap (slice_get ids) same ∙ at)))
]

-- ---- what is added to a list

pub adds_none : (P : ℕ → Type 0) (a : List ℕ) → ((id : ℕ) → P id → ⊥) → AddsThese P a a
adds_none P a nobody = record { kept = λ id h. h; all = λ id p. absurd (nobody id p); only = λ id h. inl h }

pub adds_like : (P Q : ℕ → Type 0) (a b : List ℕ) → ((id : ℕ) → P id → Q id) → ((id : ℕ) → Q id → P id)
    → AddsThese P a b → AddsThese Q a b
adds_like P Q a b on back adds = record {
  kept = adds.kept;
  all = λ id q. adds.all id (back id q);
  only = λ id h. elim (adds.only id h) [ inl old ↦ inl old | inr p ↦ inr (on id p) ];
}

pub adds_both : (P Q R : ℕ → Type 0) (a b c : List ℕ) → ((id : ℕ) → R id → P id ⊎ Q id) → ((id : ℕ) → P id → R id)
    → ((id : ℕ) → Q id → R id) → AddsThese P a b → AddsThese Q b c → AddsThese R a c
adds_both P Q R a b c parts one two first second = record {
  kept = λ id h. second.kept id (first.kept id h);
  all = λ id r. elim (parts id r) [ inl p ↦ second.kept id (first.all id p) | inr q ↦ second.all id q ];
  only = λ id h. elim (second.only id h) [
    | inl older ↦ elim (first.only id older) [ inl old ↦ inl old | inr p ↦ inr (one id p) ]
    | inr q ↦ inr (two id q)
  ];
}

pub adds_one : (a b : List ℕ) (id : ℕ) → b ≡ a ++ id ∷ [] → AddsThese (λ c. c ≡ id) a b
adds_one a b id e = subst (AddsThese (λ c. c ≡ id) a) (sym e) (record {
  kept = λ c h. in_left a (id ∷ []) c h;
  all = λ c same. in_right a (id ∷ []) c (inl (sym same));
  only = λ c h. elim (in_split a (id ∷ []) c h) [
    | inl old ↦ inl old
    | inr one ↦ elim one [ inl e ↦ inr (sym e) | inr none ↦ absurd none ]
  ];
})

pub in_walk : (v : TreeView) (around : Box) (list lent : List ℕ) (n id : ℕ) → lent ≡ list → ListsAskers v around list
    → slice_get lent n ≡ Some id → InTree v id
in_walk v around list lent n id same lists at = (lists.only id (subst (λ l. Member l id) same (in_at lent n id at))).0

-- ---- the filter: of the nodes that a walk found, those whose box meets one of the areas

module _ (v : TreeView) (areas : List Box) where
  abbrev pub IsNear : ℕ → Type 0
  IsNear id = list_any (meets (v.own id)) areas ≡ true

  -- of the first n
  abbrev pub NearFirst : List ℕ → ℕ → ℕ → Type 0
  NearFirst ids n id = First ids n id × IsNear id

  first_later : (ids : List ℕ) (n id : ℕ) → First ids n id → First ids (n + 1) id
  first_later ids n id f = (f.0, (let lt = f.1 in omega (arith, lt)), f.2)

  pub pushed : (ids : List ℕ) (n id : ℕ) (a b c : List ℕ) → slice_get ids n ≡ Some id → IsNear id → c ≡ b ++ id ∷ []
      → AddsThese (NearFirst ids n) a b → AddsThese (NearFirst ids (n + 1)) a c
  pushed ids n id a b c at near e adds =
      adds_both (NearFirst ids n) (λ k. k ≡ id) (NearFirst ids (n + 1)) a b c
      (λ k h. elim (first_cases ids n id k at h.0) [ inl lower ↦ inl (lower, h.1) | inr same ↦ inr same ])
      (λ k h. (first_later ids n k h.0, h.1))
      (λ k same. ((n, (omega arith), at ∙ ap Some (sym same)), subst IsNear (sym same) near))
      adds (adds_one b c id e)

  pub passed : (ids : List ℕ) (n id : ℕ) (a b : List ℕ) → slice_get ids n ≡ Some id
      → list_any (meets (v.own id)) areas ≡ false → AddsThese (NearFirst ids n) a b
      → AddsThese (NearFirst ids (n + 1)) a b
  passed ids n id a b at far adds =
      adds_like (NearFirst ids n) (NearFirst ids (n + 1)) a b
      (λ k h. (first_later ids n k h.0, h.1))
      (λ k h. elim (first_cases ids n id k at h.0) [
        | inl lower ↦ (lower, h.1)
        | inr same ↦ (let z : true ≡ false = sym (subst IsNear same h.1) ∙ far in absurd (cc))
      ])
      adds

  pub all_within : (around : Box) (ids lent : List ℕ) (n : ℕ) (a b : List ℕ) → lent ≡ ids → ListsAskers v around ids
      → length lent ≤ n → AddsThese (NearFirst lent n) a b → AddsThese (AsksWithin v around areas) a b
  all_within around ids lent n a b same lists le adds =
      let listed = subst (ListsAskers v around) (sym same) lists in
      adds_like (NearFirst lent n) (AsksWithin v around areas) a b
      (λ id h. let f = h.0 in let o = listed.only id (in_at lent f.0 id f.2) in (record { inside = o.0; asks = o.1; near = h.1 }, o.2))
      (λ id w. let m = member_at lent id (listed.all id w.0.inside w.0.asks w.1) in let in_list = slice_get_within lent m.0 id m.1 in ((m.0, omega (arith, in_list, le), m.1), w.0.near))
      adds

  -- ---- one walk for all, or one for each

  pub around_all : IsHullTree v → (around : Box) (a b : List ℕ) → IsAround areas around
      → AddsThese (AsksWithin v around areas) a b → AddsThese (AsksNear v areas) a b
  around_all laws around a b is adds =
      adds_like (AsksWithin v around areas) (AsksNear v areas) a b (λ id w. w.0)
      (λ id n. (n, is (v.own id) (laws.boxed id n.inside) n.near)) adds

  -- asks near one of the areas, and meets one of the first n
  pub record MeetsFirst (n id : ℕ) : Type 0 where
    pub asker : AsksNear v areas id
    pub i : ℕ
    pub area : Box
    pub below : i < n
    pub at : slice_get areas i ≡ Some area
    pub near : meets (v.own id) area ≡ true

  pub one_area : (n : ℕ) (area : Box) (a b c : List ℕ) → slice_get areas n ≡ Some area → AddsThese (MeetsFirst n) a b
      → AddsThese (AsksWithin v area areas) b c → AddsThese (MeetsFirst (n + 1)) a c
  one_area n area a b c at =
      adds_both (MeetsFirst n) (AsksWithin v area areas) (MeetsFirst (n + 1)) a b c
      (λ id h. elim (at_or_below h.i n h.below) [
        | inl lower ↦ inl (record { asker = h.asker; i = h.i; area = h.area; below = lower; at = h.at; near = h.near })
        | inr same ↦ inr (h.asker, subst (λ k. meets (v.own id) k ≡ true) (same_Some h.area area (sym h.at ∙ (ap (slice_get areas) same ∙ at))) h.near)
      ])
      (λ id h. record { asker = h.asker; i = h.i; area = h.area; below = (let lt = h.below in omega (arith, lt)); at = h.at; near = h.near })
      (λ id w. record { asker = w.0; i = n; area = area; below = omega arith; at = at; near = w.1 })

  pub all_areas : (n : ℕ) (a b : List ℕ) → length areas ≤ n → AddsThese (MeetsFirst n) a b
      → AddsThese (AsksNear v areas) a b
  all_areas n a b le =
      adds_like (MeetsFirst n) (AsksNear v areas) a b (λ id h. h.asker)
      (λ id k. let at = any_at (meets (v.own id)) areas k.near in let in_list = slice_get_within areas at.0 at.1
      at.2 in record { asker = k; i = at.0; area = at.1; below = omega (arith, in_list, le); at = at.2; near = at.3 })

-- ---- one piece after the other

pub cut : {X : Type 0} (xs : List X) (n : ℕ) (front back : List X) → front ≡ take n xs → back ≡ drop n xs
    → front ++ back ≡ xs
cut xs n front back e f = ap (λ l. l ++ back) e ∙ (ap (λ l. take n xs ++ l) f ∙ take-append-drop n xs)

module _ (v : TreeView) where
  near_left : (xs ys : List Box) (id : ℕ) → AsksNear v xs id → AsksNear v (xs ++ ys) id
  near_left xs ys id k = record {
    inside = k.inside;
    asks = k.asks;
    near = list_any-append (meets (v.own id)) xs ys ∙ or_left (list_any (meets (v.own id)) xs) (list_any (meets (v.own id)) ys) k.near;
  }

  near_right : (xs ys : List Box) (id : ℕ) → AsksNear v ys id → AsksNear v (xs ++ ys) id
  near_right xs ys id k = record {
    inside = k.inside;
    asks = k.asks;
    near = list_any-append (meets (v.own id)) xs ys ∙ or_right (list_any (meets (v.own id)) xs) (list_any (meets (v.own id)) ys) k.near;
  }

  near_either : (xs ys : List Box) (id : ℕ) → AsksNear v (xs ++ ys) id → AsksNear v xs id ⊎ AsksNear v ys id
  near_either xs ys id k =
      let p = meets (v.own id) in
      elim (or_cases (list_any p xs) (list_any p ys) (sym (list_any-append p xs ys) ∙ k.near)) [
        | inl one ↦ inl (record { inside = k.inside; asks = k.asks; near = one })
        | inr two ↦ inr (record { inside = k.inside; asks = k.asks; near = two })
      ]

  joined : (xs ys : List Box) (a b c : List ℕ) → AddsThese (AsksNear v xs) a b → AddsThese (AsksNear v ys) b c
      → AddsThese (AsksNear v (xs ++ ys)) a c
  joined xs ys a b c =
      adds_both (AsksNear v xs) (AsksNear v ys) (AsksNear v (xs ++ ys)) a b c (near_either xs ys) (near_left xs ys) (near_right xs ys)

  -- so much is done: the areas before the rest
  pub record IsDoneBefore (areas rest : List Box) (near : List ℕ) : Type 0 where
    pub before : List Box
    pub parts : before ++ rest ≡ areas
    pub adds : AddsThese (AsksNear v before) [] near

  pub none_done : (areas : List Box) → IsDoneBefore areas areas []
  none_done areas = record {
    before = [];
    parts = refl;
    adds = adds_none (AsksNear v []) [] (λ id k. let z : false ≡ true = k.near in absurd (cc));
  }

  pub one_piece : (areas rest piece others : List Box) (a b : List ℕ) → piece ++ others ≡ rest
      → IsDoneBefore areas rest a → AddsThese (AsksNear v piece) a b → IsDoneBefore areas others b
  one_piece areas rest piece others a b parts so adds = record {
    before = so.before ++ piece;
    parts = append_assoc so.before piece others ∙ (ap (λ l. so.before ++ l) parts ∙ so.parts);
    adds = joined so.before piece [] a b so.adds adds;
  }

  pub all_done : (areas rest : List Box) (near : List ℕ) → rest ≡ [] → IsDoneBefore areas rest near
      → ListsNear v areas near
  all_done areas rest near none so =
      let whole : so.before ≡ areas = sym (append-nil so.before) ∙ (ap (λ l. so.before ++ l) (sym none) ∙ so.parts) in
      let adds = subst (λ l. AddsThese (AsksNear v l) [] near) whole so.adds in record {
        all = adds.all;
        only = λ id h. elim (adds.only id h) [ inl old ↦ absurd old | inr k ↦ k ];
      }
