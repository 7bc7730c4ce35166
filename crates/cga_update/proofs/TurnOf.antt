-- The turn of a node, from what each of its steps tells.
use Rattle.std.proofs.Common.{◌≡◌, ℕ, List, length, refl, sym, ap, ◌∙◌, subst, ◌⊎◌, inl, inr, Bool, true, false, Result, Ok, Err}
use Rattle.std.specs.Prelude.{IfOk, Some}
use Rattle.cga_fraction.specs.declared.memory.NoMemory.{NoMemory}
use Rattle.cga_word.specs.declared.answers.Answers.{Answers}
use Rattle.cga_word.specs.declared.target.Target.TheVariants.{Noparent, Active}
use Rattle.cga_order.specs.World.{is_instance, is_waiting}
use Rattle.cga_order.specs.declared.placed.Kind.TheVariants.{Waiting}
use Rattle.cga_order.specs.Agenda as kept
use Rattle.cga_agenda.specs.Edit.{new_world}
use Rattle.cga_agenda.specs.declared.turned.Turned.{Turned}
use Rattle.cga_check.specs.Said.{asks_any, said}
use Rattle.cga_check.specs.declared.said.Said.{Said}
use Rattle.cga_rule.specs.declared.grammar.Grammar.{Grammar}
use Rattle.cga_shape.specs.declared.sources.Sources.{Sources}
use Rattle.cga_expand.specs.Asked.{asks_for}
use Rattle.cga_expand.specs.Expand.{expand_of}
use Rattle.cga_forest.specs.Placing.{Outcome, emitted}
use Rattle.cga_forest.specs.View.{Seen}
use Rattle.cga_forest.specs.Tree.{node_at}
use Rattle.cga_depend.specs.declared.changed.Facts.{Facts}
use Rattle.cga_update.specs.declared.work.Work.{Work}
use Rattle.cga_depend.specs.Both.{BothGrammars}
use Rattle.cga_depend.specs.Changed.{AreFacts}
use Rattle.cga_update.specs.Edit.{kept_nodes, ranked, the_edit}
use Rattle.cga_update.specs.Plain.{IsPlain}
use Rattle.cga_update.specs.Turned.{HasPlaced, IsAgain, IsTurned, MayTurn}
use Rattle.cga_update.proofs.Agreeing.{same_is_setting, setting_is_same}
use Rattle.cga_update.proofs.Facts.{said_asks, said_noparent}
use Rattle.cga_expand.proofs.Door.{said_active}

abbrev IsToldOf : Work → ℕ → Said → Type 0
IsToldOf w id told = (d : Seen) → node_at w.forest id ≡ Some d → told ≡ said w.symbols d.node.shape.symbol

abbrev pub HasFacts : Work → ℕ → Facts → Type 0
HasFacts w id facts = (d : Seen) → node_at w.forest id ≡ Some d → AreFacts w.grammars.before w.grammars.after d.node.shape.symbol facts

abbrev pub AsksOf : Work → ℕ → Said → Answers → Type 0
AsksOf w id told answers = (old new : Sources) (d : Seen) → w.forest.mode ≡ new.mode → node_at w.forest id ≡ Some d
    → told.noparent ≡ asks_for new.grammar d.node.shape.symbol Noparent
    → told.active ≡ asks_for new.grammar d.node.shape.symbol Active
    → answers ≡ kept.asked (new_world (the_edit old new)) (kept_nodes w.forest) (ranked d.node)

abbrev ChangedOf : Work → ℕ → Facts → Answers → Bool → Type 0
ChangedOf w id facts answers must = (d : Seen) → node_at w.forest id ≡ Some d → must ≡ true → (d.node.kind ≡ Waiting) ⊎ ((facts.same_setting ≡ true) × (d.node.answers ≡ answers) → ⊥)

abbrev SameOf : Work → ℕ → Facts → Answers → Bool → Type 0
SameOf w id facts answers must = (d : Seen) → node_at w.forest id ≡ Some d → must ≡ false → (is_waiting d.node.kind ≡ false) × (facts.same_setting ≡ true) × (d.node.answers ≡ answers)

abbrev RightOf : Work → ℕ → Said → Bool → Type 0
RightOf w id told right = (d : Seen) → node_at w.forest id ≡ Some d → right ≡ true → d.node.asks ≡ asks_any told

abbrev ExpandsAt : Work → Work → ℕ → Answers → Turned → Type 0
ExpandsAt w now id answers turned = (outcome : Outcome) × HasPlaced w now id answers outcome
    × ((d : Seen) → node_at w.forest id ≡ Some d → outcome ≡ expand_of w.rules d.node.shape answers)
    × (turned.expanded ≡ true) × (turned.children ≡ length (emitted outcome))

abbrev PlacesAt : Work → Work → ℕ → Answers → Turned → Type 0
PlacesAt w now id answers turned = (outcome : Outcome) × HasPlaced w now id answers outcome
    × ((d : Seen) → node_at w.forest id ≡ Some d → is_waiting d.node.kind ≡ false → IsPlain d → IsAgain w.forest d outcome)
    × (turned.expanded ≡ false) × (turned.children ≡ 0)

abbrev IsHere : Work → ℕ → Type 0
IsHere w id = (e : Seen) × (node_at w.forest id ≡ Some e) × (is_instance e.node.kind ≡ false)

module _ (was : Work) (id : ℕ) (told : Said) (facts : Facts) (answers : Answers) (must : Bool)
    (here : IsHere was id) (said_is : IsToldOf was id told) (facts_are : HasFacts was id facts) (asks : AsksOf was id told answers) where
  module _ (may : MayTurn was) where
    abbrev symbol : List ℕ
    symbol = here.0.node.shape.symbol

    abbrev g : Grammar
    g = was.renewal.new.now.grammar

    told_is : told ≡ said g symbol
    told_is = said_is here.0 here.1 ∙ ap (λ h. said h symbol) may.symbols

    are : AreFacts was.renewal.old.now.grammar g symbol facts
    are = subst (λ (b : BothGrammars). AreFacts b.before b.after symbol facts) may.grammars (facts_are here.0 here.1)

    asked_is : answers ≡ kept.asked (new_world (the_edit was.renewal.old.now was.renewal.new.now))
        (kept_nodes was.forest) (ranked here.0.node)
    asked_is = asks was.renewal.old.now was.renewal.new.now here.0 may.mode here.1
        (ap (λ (t : Said). t.noparent) told_is ∙ said_noparent g symbol) (ap (λ (t : Said). t.active) told_is ∙ said_active g symbol)

    expanded_is : (now : Work) (turned : Turned) → ChangedOf was id facts answers must → must ≡ true
        → ExpandsAt was now id answers turned → IsTurned was now id turned
    expanded_is now turned changed so p = inl (record {
      node = here.0;
      here = here.1;
      answers = answers;
      asked = asked_is;
      outcome = p.0;
      placed = p.1;
      told = inl (
        p.3,
        record {
          must = elim (changed here.0 here.1 so) [ inl w ↦ inl w | inr f ↦ inr (λ s. f (are.setting.1 (same_is_setting was.renewal.old.now.grammar g symbol s.0), s.1)) ];
          value = p.2 here.0 here.1 ∙ ap (λ (h : Grammar). expand_of h here.0.node.shape answers) may.rules;
          count = p.4;
        },
      );
    })

    placed_is : (now : Work) (turned : Turned) → SameOf was id facts answers must → must ≡ false
        → PlacesAt was now id answers turned → IsTurned was now id turned
    placed_is now turned same so p = inl (record {
      node = here.0;
      here = here.1;
      answers = answers;
      asked = asked_is;
      outcome = p.0;
      placed = p.1;
      told = inr (
        p.3,
        record {
          count = p.4;
          done = (same here.0 here.1 so).0;
          same = (setting_is_same was.renewal.old.now.grammar g symbol (are.setting.0 (same here.0 here.1 so).1), (same here.0 here.1 so).2);
          again = p.2 here.0 here.1 (same here.0 here.1 so).0 (may.plain id here.0 here.1);
        },
      );
    })

  module _ (between : Work) (rest : between ≡ was) where
    pub expanded_turn : (now : Work) (r : Result Turned NoMemory) → ChangedOf between id facts answers must
        → must ≡ true → IfOk r (λ turned. ExpandsAt between now id answers turned)
        → IfOk r (λ turned. MayTurn was → IsTurned was now id turned)
    expanded_turn now (Ok turned) changed so p = λ may. expanded_is may now turned
        (subst (λ w. ChangedOf w id facts answers must) rest changed) so (subst (λ w. ExpandsAt w now id answers turned) rest p)
    expanded_turn now (Err f) changed so p = p

    pub placed_turn : (now : Work) (r : Result Turned NoMemory) → SameOf between id facts answers must → must ≡ false
        → IfOk r (λ turned. PlacesAt between now id answers turned)
        → IfOk r (λ turned. MayTurn was → IsTurned was now id turned)
    placed_turn now (Ok turned) same so p = λ may. placed_is may now turned (subst (λ w. SameOf w id facts answers must) rest same) so (subst (λ w. PlacesAt w now id answers turned) rest p)
    placed_turn now (Err f) same so p = p

    -- where all stays
    pub quiet_turn : (right : Bool) → SameOf between id facts answers must → must ≡ false → between.priced ≡ true
        → RightOf between id told right → right ≡ true → MayTurn was
        → IsTurned was between id (record { children = 0; expanded = false })
    quiet_turn right same so priced asking is may =
        let still = subst (λ w. SameOf w id facts answers must) rest same here.0 here.1 so in
        inr (record {
          node = here.0;
          here = here.1;
          done = still.0;
          same = (setting_is_same was.renewal.old.now.grammar (g may) (symbol may) ((are may).setting.0 still.1), still.2 ∙ asked_is may);
          asks = subst (λ w. RightOf w id told right) rest asking here.0 here.1 is ∙ (ap asks_any (told_is may) ∙ said_asks (g may) here.0.node.shape);
          priced = sym (ap (λ w. w.priced) rest) ∙ priced;
          stays = rest;
          told = refl;
        })
