-- When a session has come to a state.
use Rattle.std.specs.Prelude.{◌≡◌, ℕ, List, true, Option, Some, None}
use Rattle.cga_top.specs.Blocks.{AssetRead, RulesRead, SourcesRead, TraceRead}
use Rattle.cga_shape.specs.declared.changes.Changes.{Changes}
use Rattle.cga_top.specs.Changed.{HasChanged, no_changes}
use Rattle.cga_top.specs.State.{Block, of_rules, of_city, of_asset, of_judge, State}
use Rattle.cga_top.specs.Effect.{Effect, HasSpent, says}
use Rattle.cga_top.specs.Replies.{budget_of}
use Rattle.cga_top.specs.declared.open_block.OpenBlock.{OpenBlock}
use Rattle.cga_top.specs.declared.open_block.OpenBlock.TheVariants as opened
use Rattle.cga_top.specs.declared.session.Session.{Session}

-- it is of that kind, and has read its lines
abbrev pub IsOpenAs : Block → OpenBlock → Type 0
IsOpenAs (of_rules lines) (opened.Rules reader) = RulesRead reader lines
IsOpenAs (of_city lines) (opened.City reader) = SourcesRead reader lines
IsOpenAs (of_asset name lines) (opened.Asset own reader) = (own ≡ name) × AssetRead reader lines
IsOpenAs (of_judge lines) (opened.Judge reader) = TraceRead reader lines
IsOpenAs _ _ = ⊥

-- a block is open exactly where one is
abbrev pub IsOpen : Option Block → Option OpenBlock → Type 0
IsOpen None None = Unit {0}
IsOpen (Some block) (Some reader) = IsOpenAs block reader
IsOpen None (Some reader) = ⊥
IsOpen (Some block) None = ⊥

-- the session has come to the state
pub record IsAt (s : State) (session : Session) : Type 0 where
  pub decimals : session.decimals ≡ s.decimals
  pub fresh : session.fresh ≡ s.fresh
  pub version : session.version ≡ s.version
  pub sources : session.city.sources ≡ s.sources
  pub budget : session.city.budget ≡ budget_of s.version
  pub warm : session.city.warm ≡ true
  pub kept : session.history ≡ s.kept
  pub number : session.city.expanded ≡ s.number
  pub block : IsOpen s.block session.block
  pub quiet : session.quiet ≡ s.quiet
  pub wardrobe : session.wardrobe ≡ s.wardrobe

-- a line was done: the session has come to its state, this was the reply, and its works expanded so much; and where no
-- changes were kept, those that are kept now are what its works changed
pub record Did (e : Effect) (was : Changes) (session : Session) (text : List ℕ) (before after : ℕ) : Type 0 where
  pub is_at : IsAt e.state session
  pub reply : text ≡ e.reply
  pub spent : HasSpent e.works before after
  pub changed : was ≡ no_changes → HasChanged e.works session.city.changes

-- only a reply was given: it is that of the effect, which changes nothing
abbrev pub Says : Effect → List ℕ → Type 0
Says e text = e ≡ says e.state text
