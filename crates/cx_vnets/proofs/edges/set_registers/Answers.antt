use Rattle.std.proofs.Common.{◌≡◌, drop, slice_get, ◌+◌, ap, sym, ◌∙◌, subst, refl}
use Rattle.cx_vnets.specs.Edges.{after_sets}
use Rattle.cx_vnets.specs.Search.{SameWidths}
use Rattle.cx_vnets.proofs.SetSteps.{set-value, set-widths}
use Rattle.cx_vnets.proofs.StaleLemmas.{tells_more, tells_none}
use Rattle.cx_vnets.proofs.edges.set_registers.Goals as goal

pub loop-set-init : goal.loop-set-init
loop-set-init c = record {
  value = refl;
  widths = c.requires.widths;
  tells = tells_none c.args.ranks.now c.args.stale.now (λ f. slice_get c.args.registers.now f ≡ slice_get c.args.registers.now f) (λ f place. refl);
}

pub loop-set-preserved : goal.loop-set-preserved
loop-set-preserved c = record {
  value = ap (after_sets c.args.codes.now c.args.values.now c.args.arrays.now (drop (c.loop-set.set-index + 1) c.args.sets.now)) c.put.ensures.value
      ∙ set-value c.args.values.now c.args.arrays.now c.requires.even c.args.codes.now c.args.sets.now c.requires.fits c.loop-set.set-index _ c.loop-set-test.true
      c.index-codes-set.result c.settled-value.result c.index-codes-set.is c.settled-value.ensures c.loop-set.registers _ c.loop-set.invariant.value;
  widths = subst (λ l. SameWidths l c.args.values.now) (sym c.put.ensures.value)
      (set-widths c.args.values.now c.args.arrays.now c.requires.even c.args.codes.now c.args.sets.now c.requires.fits c.loop-set.set-index _ c.loop-set-test.true
      c.index-codes-set.result c.settled-value.result c.index-codes-set.is c.settled-value.ensures c.loop-set.registers c.loop-set.invariant.widths);
  tells = tells_more c.args.ranks.now c.args.stale.now c.loop-set.stale c.put.new.stale
      (λ f. slice_get c.loop-set.registers f ≡ slice_get c.args.registers.now f) (λ f. slice_get c.put.new.registers f ≡ slice_get c.loop-set.registers f)
      (λ f. slice_get c.put.new.registers f ≡ slice_get c.args.registers.now f)
      c.loop-set.invariant.tells c.put.ensures.tells (λ f a b. b ∙ a);
}
