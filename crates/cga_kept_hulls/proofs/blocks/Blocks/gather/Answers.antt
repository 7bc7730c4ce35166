use Rattle.std.proofs.Common.{◌≡◌, ◌∙◌, ◌/◌, ℕ, Some, None, ap, arith, inl, inr, refl, slice_get, subst, sym, true}
use Rattle.cga_kept_hulls.specs.Blocks.{HoldsKnown, block_holds}
use Rattle.cga_fraction.proofs.Door.{eq_or_ne}
use Rattle.cga_kept_hulls.specs.declared.level.Level.{Level}
use Rattle.cga_kept_hulls.proofs.Held.{held_next, known_next}
use Rattle.cga_kept_hulls.proofs.blocks.Blocks.gather.Goals as goal

pub loop-block-init : goal.loop-block-init
loop-block-init c = record {
  blocks = refl;
  loose = refl;
  count = c.empty.ensures.emptied.count;
  others = c.empty.ensures.emptied.others;
  knows = λ k here upto. absurd (omega (arith, here, upto));
  least = λ outer f h is. let z : None ≡ Some h = sym c.empty.ensures.emptied.empty ∙ is in absurd (cc);
  gathered = λ place h there held w. elim w [
    | inl other ↦ c.empty.ensures.others (place / 16) h (omega (arith, other)) held.1
    | inr upto ↦ c.empty.ensures.others (place / 16) h (omega (arith, upto)) held.1
  ];
}

pub loop-block-preserved : goal.loop-block-preserved
loop-block-preserved c =
    let before = c.loop-block.invariant.gathered in
    let still = c.gather_block.ensures.kept in
    let inside : c.loop-block.block / 16 ≡ c.args.group = omega arith in
    let same = c.loop-block.invariant.blocks in
    record {
      loose = c.gather_block.ensures.loose ∙ c.loop-block.invariant.loose;
      count = c.gather_block.ensures.count ∙ c.loop-block.invariant.count;
      others = λ other apart. c.gather_block.ensures.others other (λ q. apart (q ∙ inside)) ∙ c.loop-block.invariant.others other apart;
      knows = λ k here upto h is. elim (eq_or_ne k c.loop-block.block) [
        | inl q ↦ (
            let at = known_next c.args.self.now.blocks.hulls.items c.loop-block.self.blocks.hulls.items k c.loop-block.block h (ap (λ (l : Level). l.hulls.items) same) q is in
            subst (λ (j : ℕ). block_holds (slice_get c.gather_block.new.self.groups.hulls.items j) h ≡ true) inside (c.gather_block.ensures.known h at))
        | inr apart ↦ subst (λ (j : ℕ). block_holds (slice_get c.gather_block.new.self.groups.hulls.items j) h ≡ true) here
            (still k h (subst (λ (j : ℕ). block_holds (slice_get c.loop-block.self.groups.hulls.items j) h ≡ true) (sym here) (c.loop-block.invariant.knows k here (omega (arith, upto, apart)) h is)))
      ];
      least = λ outer f. subst (λ (j : ℕ). HoldsKnown outer (slice_get c.gather_block.new.self.groups.hulls.items j)) inside
          (c.gather_block.ensures.least outer
          (subst (λ (j : ℕ). HoldsKnown outer (slice_get c.loop-block.self.groups.hulls.items j)) (sym inside) (c.loop-block.invariant.least outer (λ k here upto. f k here (omega (arith, upto)))))
          (subst (λ (l : Level). HoldsKnown outer (slice_get l.hulls.items c.loop-block.block)) (sym same) (f c.loop-block.block inside (omega arith))));
      blocks = c.gather_block.ensures.blocks ∙ c.loop-block.invariant.blocks;
      gathered = λ place h there held w. elim w [
        | inl other ↦ still (place / 16) h (before place h there held (inl other))
        | inr upto ↦ elim (eq_or_ne (place / 16) c.loop-block.block) [
          | inl same ↦ held_next c.args.self.now.blocks.hulls.items c.loop-block.self.blocks.hulls.items c.gather_block.new.self.groups.hulls.items (place / 16) c.loop-block.block h
              (ap (λ (l : Level). l.hulls.items) c.loop-block.invariant.blocks) same there held.0 (c.gather_block.ensures.here h)
          | inr apart ↦ still (place / 16) h (before place h there held (inr (omega (arith, upto, apart))))
        ]
      ];
    }

pub returns-clause-gathered : goal.returns-clause-gathered
returns-clause-gathered c =
    let past = c.loop-block-test.false in
    record {
      holds = λ block here. c.loop-block.invariant.knows block here (omega (arith, here, past));
      least = λ outer f. c.loop-block.invariant.least outer (λ k here upto. f k here);
    }
