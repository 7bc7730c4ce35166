-- The nodes of symbols whose setting changed, and their parents.
use Rattle.std.proofs.Common.{◌≡◌, inl, inr, ℕ, ◌+◌, ◌<◌, ◌≤◌, List, length, refl, sym, ap, ◌∙◌, subst, Option, Some, None, arith, slice_get}
use Rattle.std.proofs.lemmas.Option.{slice_get_within}
use Rattle.cga_order.specs.World.{Among}
use Rattle.cga_rule.specs.declared.grammar.Entry.{Entry}
use Rattle.cga_rule.specs.declared.grammar.Grammar.{Grammar}
use Rattle.cga_rule.specs.declared.grammar.Group.{Group}
use Rattle.cga_check.specs.Groups as groups
use Rattle.cga_depend.specs.Pairs.{DependentsView, nodes_in}
use Rattle.cga_fraction.proofs.Door.{lt_or_eq_from_lt_suc as at_or_below, same_Some as some_same}
use Rattle.cga_expand.specs.Derivation.{priority_of}
use Rattle.cga_expand.specs.Settings.{Setting, setting_of}
use Rattle.cga_forest.specs.Tree.{ForestView}
use Rattle.cga_queue.specs.Agenda.{AgendaView, Grows, HasAll}
use Rattle.cga_queue.proofs.Door.{all_kept}
use Rattle.cga_depend.specs.Changed.{IsNoted, priority_at}
use Rattle.cga_update.proofs.Agreeing.{setting_is_same}
use Rattle.cga_update.specs.Near.{IsAny, IsChangedFor, IsParentOf, IsPricedFor, KeepsPriority}
use Rattle.cga_update.specs.Queue.{chains_of}
use Rattle.cga_order.proofs.Door.{Among-index as among_at}

abbrev priority_by : Option Group → ℕ
priority_by None = 0
priority_by (Some g) = g.priority

priority_first : (g : Grammar) (symbol : List ℕ) (o : Option Entry) → groups.first_entry g.rules symbol ≡ o
    → priority_of g symbol ≡ priority_by (groups.group g symbol)
unfolding priority_of groups.group groups.priority_of
priority_first g symbol None is = rw is refl
priority_first g symbol (Some e) is = rw is refl

-- where the setting is the old one, the priority is
pub priority_same : (old new : Grammar) (symbol : List ℕ) → setting_of old symbol ≡ setting_of new symbol
    → priority_of old symbol ≡ priority_of new symbol
unfolding setting_of
priority_same old new symbol e =
    priority_first old symbol (groups.first_entry old.rules symbol) refl
    ∙ (ap (λ (s : Setting). priority_by s.group) e ∙ sym (priority_first new symbol (groups.first_entry new.rules symbol) refl))

-- the priority that is told of a symbol is that of its shapes
pub priority_told_same : (old new : Grammar) (symbol : List ℕ) → priority_at old symbol ≡ priority_at new symbol
    → priority_of old symbol ≡ priority_of new symbol
unfolding priority_of
priority_told_same old new symbol same = same

-- of the names of a list the first n have what P tells
abbrev pub NamesHave : (List ℕ → Type 0) → List (List ℕ) → ℕ → Type 0
NamesHave P names n = (i : ℕ) (s : List ℕ) → i < n → slice_get names i ≡ Some s → P s

pub names_more : (P Q : List ℕ → Type 0) (names : List (List ℕ)) (n : ℕ) (x : List ℕ) → slice_get names n ≡ Some x
    → ((s : List ℕ) → P s → Q s) → Q x → NamesHave P names n → NamesHave Q names (n + 1)
names_more P Q names n x at kept here first i s lt is = elim (at_or_below i n lt) [
  | inl lower ↦ kept s (first i s lower is)
  | inr same ↦ subst Q (some_same x s (sym at ∙ (ap (slice_get names) (sym same) ∙ is))) here
]

pub names_end : (P : List ℕ → Type 0) (names lent : List (List ℕ)) (n : ℕ) → lent ≡ names → length lent ≤ n
    → NamesHave P names n → (s : List ℕ) → Among s names → P s
names_end P names lent n same le first s h = let x = among_at names s h in let z = slice_get_within names x.0 s x.1 in let y = ap length same in first x.0 s (omega (arith, z, le, y)) x.1

pub priced_kept : (v : ForestView) (old new : Grammar) (nodes s : List ℕ) (a b : AgendaView)
    → Grows (chains_of v) IsAny a b → IsPricedFor v old new nodes s a → IsPricedFor v old new nodes s b
priced_kept v old new nodes s a b grows priced = elim priced [
  | inl p ↦ inl (all_kept (chains_of v) (IsParentOf v nodes) IsAny a b grows p)
  | inr e ↦ inr e
]

pub all_changed : (v : ForestView) (old new : Grammar) (d : DependentsView) (names : List (List ℕ)) (a : AgendaView)
    → ((s : List ℕ) → Among s names → HasAll (chains_of v) (λ c. Among c (nodes_in d s)) a)
    → (s : List ℕ) → IsNoted old new names s → IsChangedFor v old new (nodes_in d s) s a
all_changed v old new d names a each s noted = elim noted [ inl h ↦ inl (each s h) | inr e ↦ inr (setting_is_same old new s e) ]

pub all_priced : (v : ForestView) (old new : Grammar) (d : DependentsView) (names : List (List ℕ)) (a : AgendaView)
    → ((s : List ℕ) → Among s names → IsPricedFor v old new (nodes_in d s) s a)
    → (s : List ℕ) → IsNoted old new names s → IsPricedFor v old new (nodes_in d s) s a
all_priced v old new d names a each s noted = elim noted [ inl h ↦ each s h | inr e ↦ inr (priority_same old new s (setting_is_same old new s e)) ]

pub all_keep : (old new : Grammar) (d : DependentsView) (names : List (List ℕ))
    → ((s : List ℕ) → Among s names → KeepsPriority old new (nodes_in d s) s)
    → (s : List ℕ) → IsNoted old new names s → KeepsPriority old new (nodes_in d s) s
all_keep old new d names each s noted = elim noted [ inl h ↦ each s h | inr e ↦ λ c h. priority_same old new s (setting_is_same old new s e) ]
