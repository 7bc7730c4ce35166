use Rattle.std.proofs.Common.{ℕ, ◌+◌, length, ◌∙◌, ap, refl, sym, Bool, cond}
use Rattle.std.specs.Prelude.{OnOk, Result, Ok, Err, Some}
use Rattle.cga_asset.specs.Lines.{begins_vertex, counted, said_of}
use Rattle.cga_asset.specs.Views.{texts}
use Rattle.cga_asset.specs.declared.fault.AssetFault.{AssetFault}
use Rattle.cga_asset.proofs.Reading.{long_read, later_read, said_read}
use Rattle.cga_asset.proofs.reader.AssetReader.line.Goals as goal

-- what follows where it is Ok
on_ok : {T E : Type 0} (r : Result T E) (A B C : Type 0) → (A → B → C) → OnOk r A → OnOk r B → OnOk r C
on_ok (Ok x) A B C f a b = f a b
on_ok (Err e) A B C f a b = tt

pub returns-then-is_long : goal.returns-then-is_long
returns-then-is_long c = λ lines h.
    long_read c.args.self.now _ lines _ (sym c.is_long.ensures ∙ c.if-is_long.true) h c.next-self.ensures refl refl refl (ap (λ (f : AssetFault). Some f) c.first.ensures)

pub returns-in-Some : goal.returns-in-Some
returns-in-Some c = λ lines h.
    later_read c.args.self.now _ lines _ c.in-Some.field-0 (sym c.is_long.ensures ∙ c.if-is_long.false) h c.next-self.ensures
    (c.next_if-self.ensures ∙ ap (λ (b : Bool). cond b (counted (c.args.self.now.vertex_lines + 1)) c.args.self.now.vertex_lines) (c.begins_vertex.ensures ∙ ap begins_vertex (ap texts c.as_slice.ensures.value ∙ c.in_ok-words.ensures)))
    refl refl refl c.in-Some.is

pub returns : goal.returns
returns c = λ lines h.
    let said = c.in_ok-said-in-None.ensures ∙ (ap (λ (n : ℕ). said_of n (texts c.as_slice-in-None.result.now)) c.len-before.ensures ∙ ap (said_of (length c.args.self.now.mesh.vertices)) (ap texts c.as_slice-in-None.ensures.value ∙ c.in_ok-words.ensures)) in
    let more = c.next_if-self.ensures ∙ ap (λ (b : Bool). cond b (counted (c.args.self.now.vertex_lines + 1)) c.args.self.now.vertex_lines) (c.begins_vertex.ensures ∙ ap begins_vertex (ap texts c.as_slice.ensures.value ∙ c.in_ok-words.ensures)) in
    on_ok c.add.result _ _ _
    (λ gives paired. said_read c.args.self.now c.add.new.self lines (record { bytes = c.args.bytes.now; long = c.args.long }) c.in_ok-said-in-None.said (sym c.is_long.ensures ∙ c.if-is_long.false) h (c.add.ensures.lines ∙ c.next-self.ensures) (c.add.ensures.vertices ∙ more) c.in-None.is said paired (rw c.add.ensures.lines gives))
    (c.add.ensures.gives h.paired) (c.add.ensures.paired h.paired)
