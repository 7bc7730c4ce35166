-- What commands do to the wardrobe.
use Rattle.std.proofs.Common.{◌≡◌, ◌∙◌, ℕ, List, Bool, true, false, Result, Ok, Err, refl, sym, ap, subst, IfOk}
use Rattle.std.specs.Prelude.{if◌then◌else◌}
use Rattle.cga_asset.specs.Wardrobe.{Gives, WardrobeView, has, undressed}
use Rattle.cga_asset.specs.declared.wardrobe_fault.WardrobeFault.{WardrobeFault}
use Rattle.cga_asset.specs.declared.wardrobe_fault.WardrobeFault.TheVariants.{TooManyAssets, NoAsset, TooManyDresses, NoMemory}
use Rattle.cga_fraction.specs.declared.memory.NoMemory as memory
use Rattle.cga_script.specs.Refusals.{refusal_text_of}
use Rattle.cga_script.specs.declared.refused.Refused.TheVariants as refused
use Rattle.cga_top.specs.State.{State}
use Rattle.cga_top.specs.Effect.{Effect}
use Rattle.cga_top.specs.Replies.{WardrobeReplies, clothed, ok_reply, refuses, stripped}
use Rattle.cga_top.specs.Session.{IsAt, Did}
use Rattle.cga_top.specs.declared.session.Session.{Session}

-- only the wardrobe is another one
worn_at : (s : State) (old : Session) (w : WardrobeView) → IsAt s old
    → IsAt (record s { wardrobe = w }) (record old { wardrobe = w })
worn_at s old w at = record {
  decimals = at.decimals;
  fresh = at.fresh;
  version = at.version;
  sources = at.sources;
  budget = at.budget;
  warm = at.warm;
  kept = at.kept;
  number = at.number;
  block = at.block;
  quiet = at.quiet;
  wardrobe = refl;
}

same_at : (s : State) (old : Session) (w : WardrobeView) → IsAt s old → w ≡ old.wardrobe
    → IsAt s (record old { wardrobe = w })
same_at s old w at e = subst (λ (x : WardrobeView). IsAt s (record old { wardrobe = x })) (sym e) at

refuses_did : (s : State) (old : Session) (w : WardrobeView) (r : Result WardrobeView WardrobeFault)
    (fault : WardrobeFault) (reply : List ℕ) (n : ℕ) → IsAt s old → r ≡ Err fault → w ≡ old.wardrobe
    → reply ≡ refusal_text_of (refused.Wardrobe fault)
    → Did (clothed s r) old.city.changes (record old { wardrobe = w }) reply n n
refuses_did s old w r fault reply n at is e told =
    subst (λ (x : Result WardrobeView WardrobeFault). Did (clothed s x) old.city.changes (record old { wardrobe = w }) reply n n) (sym is)
    (record { is_at = same_at s old w at e; reply = told; spent = refl; changed = λ e. e })

-- what the wardrobe answered is what it is said to do
done_did : (s : State) (old : Session) (w : WardrobeView) (r : Result WardrobeView WardrobeFault)
    (done : Result (Unit {0}) WardrobeFault) (reply : List ℕ) (n : ℕ) → IsAt s old → Gives r old.wardrobe done w
    → WardrobeReplies old.quiet done reply → Did (clothed s r) old.city.changes (record old { wardrobe = w }) reply n n
done_did s old w r (Ok u) reply n at g told =
    subst (λ (x : Result WardrobeView WardrobeFault). Did (clothed s x) old.city.changes (record old { wardrobe = w }) reply n n) (sym g)
    (record { is_at = worn_at s old w at; reply = told ∙ ap ok_reply at.quiet; spent = refl; changed = λ e. e })
done_did s old w r (Err NoMemory) reply n at g told = absurd told
done_did s old w r (Err TooManyAssets) reply n at g told = refuses_did s old w r TooManyAssets reply n at g.0 g.1 told
done_did s old w r (Err (NoAsset name)) reply n at g told = refuses_did s old w r (NoAsset name) reply n at g.0 g.1 told
done_did s old w r (Err TooManyDresses) reply n at g told = refuses_did s old w r TooManyDresses reply n at g.0 g.1 told

pub clothed_did : (s : State) (old : Session) (w : WardrobeView)
    (make : WardrobeView → Result WardrobeView WardrobeFault) (done : Result (Unit {0}) WardrobeFault)
    (text : Result (List ℕ) memory.NoMemory) (n : ℕ) → IsAt s old
    → Gives (make old.wardrobe) old.wardrobe done w → IfOk text (WardrobeReplies old.quiet done)
    → IfOk text (λ reply. Did (clothed s (make s.wardrobe)) old.city.changes (record old { wardrobe = w }) reply n n)
clothed_did s old w make done (Err none) n at g told = tt
clothed_did s old w make done (Ok reply) n at g told =
    subst (λ (x : WardrobeView). Did (clothed s (make x)) old.city.changes (record old { wardrobe = w }) reply n n) at.wardrobe (done_did s old w (make old.wardrobe) done reply n at g told)

by_test : (s : State) (symbol : List ℕ) (b : Bool) → has symbol s.wardrobe.dresses ≡ b
    → stripped s symbol ≡ (if b then clothed s (Ok (undressed s.wardrobe symbol)) else refuses s
    (refused.NoDress symbol))
by_test s symbol b e = ap (λ (t : Bool). if t then clothed s (Ok (undressed s.wardrobe symbol)) else refuses s (refused.NoDress symbol)) e

pub undressed_did : (s : State) (old : Session) (symbol : List ℕ) (w : WardrobeView) (found : Bool)
    (text : Result (List ℕ) memory.NoMemory) (n : ℕ) → IsAt s old → found ≡ has symbol old.wardrobe.dresses
    → found ≡ true
    → w ≡ undressed old.wardrobe symbol → IfOk text (λ t. t ≡ ok_reply old.quiet) → IfOk text (λ reply. Did (stripped s symbol) old.city.changes (record old { wardrobe = w }) reply n n)
undressed_did s old symbol w found (Err none) n at e is made told = tt
undressed_did s old symbol w found (Ok reply) n at e is made told =
    let yes : has symbol s.wardrobe.dresses ≡ true = ap (λ (x : WardrobeView). has symbol x.dresses) (sym at.wardrobe) ∙ sym e ∙ is in
    let same : w ≡ undressed s.wardrobe symbol = made ∙ ap (λ (x : WardrobeView). undressed x symbol) at.wardrobe in
    subst (λ (x : Effect). Did x old.city.changes (record old { wardrobe = w }) reply n n) (sym (by_test s symbol true yes))
    (subst (λ (x : WardrobeView). Did (clothed s (Ok x)) old.city.changes (record old { wardrobe = w }) reply n n) same
    (record { is_at = worn_at s old w at; reply = told ∙ ap ok_reply at.quiet; spent = refl; changed = λ e. e }))

pub never_dressed : (s : State) (old : Session) (symbol : List ℕ) (w : WardrobeView) (found : Bool)
    (text : Result (List ℕ) memory.NoMemory) (n : ℕ) → IsAt s old → found ≡ has symbol old.wardrobe.dresses
    → found ≡ false
    → w ≡ old.wardrobe → IfOk text (λ t. t ≡ refusal_text_of (refused.NoDress symbol)) → IfOk text (λ reply. Did (stripped s symbol) old.city.changes (record old { wardrobe = w }) reply n n)
never_dressed s old symbol w found (Err none) n at e is same told = tt
never_dressed s old symbol w found (Ok reply) n at e is same told =
    let no : has symbol s.wardrobe.dresses ≡ false = ap (λ (x : WardrobeView). has symbol x.dresses) (sym at.wardrobe) ∙ sym e ∙ is in
    subst (λ (x : Effect). Did x old.city.changes (record old { wardrobe = w }) reply n n) (sym (by_test s symbol false no))
    (record { is_at = same_at s old w at same; reply = told; spent = refl; changed = λ e. e })
