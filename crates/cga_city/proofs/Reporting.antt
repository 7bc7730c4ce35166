-- Reports: one turn of their loops, and that they stand by the order of the lots.
use Rattle.std.proofs.Common.{◌≡◌, ℕ, ◌+◌, ◌<◌, ◌≤◌, List, [], ◌∷◌, ◌++◌, length, get_or, drop, sym, ap, ◌∙◌, append_assoc}
use Rattle.std.proofs.lemmas.List.{append-nil, at_drop_more, at_drop_all}
use Rattle.std.specs.List.{flat_map}
use Rattle.cga_shape.specs.declared.lot.Lot.{Lot}
use Rattle.cga_shape.specs.declared.drawn.Drawn.{Drawn}
use Rattle.cga_shape.specs.declared.fault_line.FaultLine.{FaultLine}
use Rattle.cga_expand.specs.Children.{Member}
use Rattle.cga_city.specs.Order.{members_of}
use Rattle.cga_forest.specs.Tree.{ForestView, IsForest}
use Rattle.cga_city.specs.Nodes.{AreOfLot, ForItsMembers, given_of}
use Rattle.cga_city.proofs.Nodes.{given_in}
use Rattle.cga_city.specs.Reports.{drawn_of, fault_of, drawn_in, faults_in}
use Rattle.cga_city.specs.Lots.{names_of}

pub drawn_step : (lots : List Lot) (list : List Member) (i : ℕ) (lot : Lot) (old new all : List Drawn) → i < length lots
    → lot ≡ get_or lots i lot
    → new ≡ old ++ flat_map drawn_of (members_of lot.name list) → old ++ drawn_in (names_of (drop i lots)) list ≡ all
    → new ++ drawn_in (names_of (drop (i + 1) lots)) list ≡ all
unfolding drawn_in
drawn_step lots list i lot old new all h at made kept =
    rw made (append_assoc old (flat_map drawn_of (members_of lot.name list)) (drawn_in (names_of (drop (i + 1) lots)) list)
    ∙ ap (λ (l : Lot). old ++ drawn_in (names_of (l ∷ drop (i + 1) lots)) list) at
    ∙ sym (at_drop_more (λ (r : List Lot). old ++ drawn_in (names_of r) list) lots i lot h) ∙ kept)

-- no lots
pub drawn_none : (list : List Member) (old all : List Drawn) → old ++ drawn_in (names_of []) list ≡ all → old ≡ all
unfolding drawn_in
drawn_none list old all kept = sym (append-nil old) ∙ kept

pub drawn_end : (lots : List Lot) (list : List Member) (i : ℕ) (old all : List Drawn) → length lots ≤ i
    → old ++ drawn_in (names_of (drop i lots)) list ≡ all → old ≡ all
unfolding drawn_in
drawn_end lots list i old all h kept = sym (append-nil old) ∙ sym (at_drop_all (λ (r : List Lot). old ++ drawn_in (names_of r) list) lots i h) ∙ kept

pub faults_step : (lots : List Lot) (list : List Member) (i : ℕ) (lot : Lot) (old new all : List FaultLine)
    → i < length lots → lot ≡ get_or lots i lot
    → new ≡ old ++ flat_map fault_of (members_of lot.name list) → old ++ faults_in (names_of (drop i lots)) list ≡ all
    → new ++ faults_in (names_of (drop (i + 1) lots)) list ≡ all
unfolding faults_in
faults_step lots list i lot old new all h at made kept =
    rw made (append_assoc old (flat_map fault_of (members_of lot.name list)) (faults_in (names_of (drop (i + 1) lots)) list)
    ∙ ap (λ (l : Lot). old ++ faults_in (names_of (l ∷ drop (i + 1) lots)) list) at
    ∙ sym (at_drop_more (λ (r : List Lot). old ++ faults_in (names_of r) list) lots i lot h) ∙ kept)

-- no lots
pub faults_none : (list : List Member) (old all : List FaultLine) → old ++ faults_in (names_of []) list ≡ all
    → old ≡ all
unfolding faults_in
faults_none list old all kept = sym (append-nil old) ∙ kept

pub faults_end : (lots : List Lot) (list : List Member) (i : ℕ) (old all : List FaultLine) → length lots ≤ i
    → old ++ faults_in (names_of (drop i lots)) list ≡ all → old ≡ all
unfolding faults_in
faults_end lots list i old all h kept = sym (append-nil old) ∙ sym (at_drop_all (λ (r : List Lot). old ++ faults_in (names_of r) list) lots i h) ∙ kept

-- one lot alone
pub one_drawn : (lot : List ℕ) (list : List Member) → drawn_in (lot ∷ []) list ≡ flat_map drawn_of (members_of lot list)
unfolding drawn_in
one_drawn lot list = append-nil (flat_map drawn_of (members_of lot list))

-- what was added for a lot's nodes is what the members of each list of the nodes give
pub pushed_in : {A : Type 0} (give : Member → List A) (v : ForestView) → IsForest v → (lot : List ℕ) (nodes : List ℕ)
    → AreOfLot v lot nodes → (old new : List A)
    → new ≡ old ++ flat_map (given_of give v) nodes
    → ForItsMembers v (λ list. new ≡ old ++ flat_map give (members_of lot list))
pushed_in give v f lot nodes of old new made list has = made ∙ ap (λ ys. old ++ ys) (given_in give v f list has lot nodes of)
