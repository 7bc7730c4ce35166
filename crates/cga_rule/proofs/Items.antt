-- `==` of items and bodies tells equality.
use Rattle.std.proofs.Common.{◌≡◌, Bool, true, false, ◌&&◌, ap, subst, nat_eq}
use Rattle.std.specs.Cmp.{first_so, second_so}
use lib.Pointwise.{pointwise, bytes_decides}
use denote.Enum.Bare.{sameb, same_true}
use denote.Enum.Compared.{by}
use denote.Hole.Carrier.{Values}
use denote.Hole.Compared.{compared_is}
use Rattle.cga_word.specs.contracts.axis.Axis as axis
use Rattle.cga_word.specs.contracts.turn.Turn as turn
use Rattle.cga_word.specs.contracts.primitive.Primitive as primitive
use Rattle.cga_word.specs.contracts.selector.SelectorPartialEq.TheImpl as selector
use Rattle.cga_rule.specs.declared.item.Size.{Size}
use Rattle.cga_rule.specs.declared.item.Size.TheVariants.{Relative, Absolute}
use Rattle.cga_rule.specs.contracts.item.SizePartialEq.TheImpl as size
use Rattle.cga_rule.specs.contracts.expr.ExprPartialEq.TheImpl as expr
use Rattle.cga_rule.proofs.Told.{Sound, Sure, not_so, parts_sound, layer_sound, list_sound, fraction_sound, selector_sound}
use Rattle.cga_rule.proofs.Exprs.{expr_equal}
use Rattle.cga_rule.specs.declared.item.Item.{Item, Item-F, out-Item, roll-Item, roll-out-Item, out-roll-Item}
use Rattle.cga_rule.specs.declared.item.Body.{Body, Body-F, out-Body, roll-Body, roll-out-Body, out-roll-Body}
use Rattle.cga_rule.specs.declared.item.Item.TheFolds.{map-Item, map-Body, ind-Item}
use Rattle.cga_rule.specs.declared.item.Item.TheBlock.{the_members, the_sigs, the_carrier, the_depth, split-Item, member-Item, member-Body}
use Rattle.cga_rule.specs.declared.item.Item.TheOpen.{Move, Resize, Rotate, Scoped, Solid, Subdiv, Repeat, Comp, Child}
use Rattle.cga_rule.specs.contracts.item.Item.{enum}
use Rattle.cga_rule.specs.contracts.item.ItemPartialEq.TheImpl.{the_step}
use Rattle.cga_rule.specs.contracts.item.ItemPartialEq.TheImpl.Laws.{family, local}

size_equal : (a : Size) → Sound (size.ghosts).eq a
size_equal (Relative a) (Relative b) h = ap Relative (fraction_sound a b h)
size_equal (Absolute a) (Absolute b) h = ap Absolute (expr_equal a b h)
size_equal a b h = not_so h

-- the family of derived tests, and that each asks the tests of the parts
abbrev same : (j : the_members) → Values the_members the_sigs the_carrier j → Values the_members the_sigs the_carrier j
    → Bool
same = family

abbrev Parts : ((A B : Type 0) → Type 0) → Type 0
Parts F = F Item Body

abbrev Found : ((A B : Type 0) → Type 0) → Type 0
Found F = F (Sure (same member-Item)) (Sure (same member-Body))

abbrev item_parts : Found Item-F → Parts Item-F
item_parts = map-Item (Sure (same member-Item)) (Sure (same member-Body)) Item Body (λ e. e.0) (λ e. e.0)

abbrev item_passes : Parts Item-F → Parts Item-F → Bool
item_passes a b = by false false enum.parts (
  λ a b. (expr.ghosts).eq a.0 b.0 && ((expr.ghosts).eq a.1.0 b.1.0 && (expr.ghosts).eq a.1.1.0 b.1.1.0),
  (
    λ a b. (size.ghosts).eq a.0 b.0 && ((size.ghosts).eq a.1.0 b.1.0 && (size.ghosts).eq a.1.1.0 b.1.1.0),
    (
      λ a b. sameb axis.the_type a.0 b.0 && sameb turn.the_type a.1.0 b.1.0,
      (
        λ a b. pointwise (same member-Item) a.0 b.0,
        (
          λ a b. sameb primitive.the_type a.0 b.0,
          (
            λ a b. sameb axis.the_type a.0 b.0 && (pointwise (size.ghosts).eq a.1.0 b.1.0 && pointwise (same member-Body) a.1.1.0 b.1.1.0),
            (
              λ a b. sameb axis.the_type a.0 b.0 && ((expr.ghosts).eq a.1.0 b.1.0 && same member-Body a.1.1.0 b.1.1.0),
              (
                λ a b. (selector.ghosts).eq a.0 b.0 && same member-Body a.1.0 b.1.0,
                (λ a b. pointwise nat_eq a.0 b.0 && pointwise (expr.ghosts).eq a.1.0 b.1.0, tt),
              ),
            ),
          ),
        ),
      ),
    ),
  ),
)
    (split-Item (Values the_members the_sigs the_carrier) a) (split-Item (Values the_members the_sigs the_carrier) b)

item_is : (d e : Item) → same member-Item d e ≡ item_passes (out-Item d) (out-Item e)
item_is = compared_is the_members (Values the_members the_sigs the_carrier) the_depth Bool true the_step local member-Item

item_sound : (y : Found Item-F) (z : Parts Item-F) → item_passes (item_parts y) z ≡ true → item_parts y ≡ z
item_sound (Move x y z) (Move a b c) h =
    let v = second_so ((expr.ghosts).eq x a) _ h in
    let one = expr_equal x a (first_so ((expr.ghosts).eq x a) _ h) in
    let two = expr_equal y b (first_so ((expr.ghosts).eq y b) ((expr.ghosts).eq z c) v) in
    let three = expr_equal z c (second_so ((expr.ghosts).eq y b) ((expr.ghosts).eq z c) v) in
    λ i. Move (one i) (two i) (three i)
item_sound (Resize x y z) (Resize a b c) h =
    let v = second_so ((size.ghosts).eq x a) _ h in
    let one = size_equal x a (first_so ((size.ghosts).eq x a) _ h) in
    let two = size_equal y b (first_so ((size.ghosts).eq y b) ((size.ghosts).eq z c) v) in
    let three = size_equal z c (second_so ((size.ghosts).eq y b) ((size.ghosts).eq z c) v) in
    λ i. Resize (one i) (two i) (three i)
item_sound (Rotate a t) (Rotate b u) h =
    let one = same_true axis.the_type tt a b (first_so (sameb axis.the_type a b) (sameb turn.the_type t u) h) in
    let two = same_true turn.the_type tt t u (second_so (sameb axis.the_type a b) (sameb turn.the_type t u) h) in
    λ i. Rotate (one i) (two i)
item_sound (Scoped items) (Scoped others) h = ap Scoped (parts_sound (same member-Item) items others h)
item_sound (Solid p) (Solid q) h = ap Solid (same_true primitive.the_type tt p q h)
item_sound (Subdiv a sizes bodies) (Subdiv b lengths others) h =
    let v = second_so (sameb axis.the_type a b) _ h in
    let one = same_true axis.the_type tt a b (first_so (sameb axis.the_type a b) _ h) in
    let two = list_sound (size.ghosts).eq size_equal sizes lengths (first_so (pointwise (size.ghosts).eq sizes lengths) _ v) in
    let three = parts_sound (same member-Body) bodies others (second_so (pointwise (size.ghosts).eq sizes lengths) _ v) in
    λ i. Subdiv (one i) (two i) (three i)
item_sound (Repeat a size body) (Repeat b length part) h =
    let v = second_so (sameb axis.the_type a b) _ h in
    let one = same_true axis.the_type tt a b (first_so (sameb axis.the_type a b) _ h) in
    let two = expr_equal size length (first_so ((expr.ghosts).eq size length) (same member-Body body.0 part) v) in
    let three = body.1 part (second_so ((expr.ghosts).eq size length) (same member-Body body.0 part) v) in
    λ i. Repeat (one i) (two i) (three i)
item_sound (Comp s body) (Comp t part) h =
    let one = selector_sound s t (first_so ((selector.ghosts).eq s t) (same member-Body body.0 part) h) in
    let two = body.1 part (second_so ((selector.ghosts).eq s t) (same member-Body body.0 part) h) in
    λ i. Comp (one i) (two i)
item_sound (Child n args) (Child m others) h =
    let one = (bytes_decides n m).0 (first_so (pointwise nat_eq n m) (pointwise (expr.ghosts).eq args others) h) in
    let two = list_sound (expr.ghosts).eq expr_equal args others (second_so (pointwise nat_eq n m) (pointwise (expr.ghosts).eq args others) h) in
    λ i. Child (one i) (two i)
item_sound y z h = not_so h

item_step : (x : Parts Item-F) (y : Found Item-F) → item_parts y ≡ x → Sound (same member-Item) (roll-Item x)
item_step x y is =
    subst (λ (z : Parts Item-F). Sound (same member-Item) (roll-Item z)) is
    (layer_sound (same member-Item) roll-Item out-Item item_passes roll-out-Item out-roll-Item item_is (item_parts y) (item_sound y))

abbrev body_parts : Found Body-F → Parts Body-F
body_parts = map-Body (Sure (same member-Item)) (Sure (same member-Body)) Item Body (λ e. e.0) (λ e. e.0)

abbrev body_passes : Parts Body-F → Parts Body-F → Bool
body_passes a b = pointwise (same member-Item) a.items b.items

body_is : (d e : Body) → same member-Body d e ≡ body_passes (out-Body d) (out-Body e)
body_is = compared_is the_members (Values the_members the_sigs the_carrier) the_depth Bool true the_step local member-Body

body_sound : (y : Found Body-F) (z : Parts Body-F) → body_passes (body_parts y) z ≡ true → body_parts y ≡ z
body_sound y z h =
    let all = parts_sound (same member-Item) y.items z.items h in
    λ i. record { items = all i }

body_step : (x : Parts Body-F) (y : Found Body-F) → body_parts y ≡ x → Sound (same member-Body) (roll-Body x)
body_step x y is =
    subst (λ (z : Parts Body-F). Sound (same member-Body) (roll-Body z)) is
    (layer_sound (same member-Body) roll-Body out-Body body_passes roll-out-Body out-roll-Body body_is (body_parts y) (body_sound y))

pub item_equal : (a : Item) → Sound (same member-Item) a
item_equal =
    ind-Item (Sound (same member-Item)) (Sound (same member-Body))
    item_step body_step
