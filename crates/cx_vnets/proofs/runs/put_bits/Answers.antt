use Rattle.std.proofs.Common.{◌≡◌, ap, ◌∙◌, slice_get, slice_set}
use Rattle.cx_vnets.specs.Runs.{bit}
use Rattle.cx_vnets.proofs.StaleLemmas.{tells_more}
use Rattle.cx_vnets.proofs.runs.put_bits.Goals as goal

pub returns-clause-value : goal.returns-clause-value
returns-clause-value c =
    c.put-2.ensures.value
    ∙ ap (λ l. slice_set l c.args.go_net c.bit_of-2.result) c.put.ensures.value
    ∙ ap (λ x. slice_set (slice_set c.args.registers.now c.args.reset_net x) c.args.go_net c.bit_of-2.result) c.bit_of.ensures
    ∙ ap (slice_set (slice_set c.args.registers.now c.args.reset_net (bit c.args.reset)) c.args.go_net) c.bit_of-2.ensures

pub returns-clause-tells : goal.returns-clause-tells
returns-clause-tells c =
    tells_more c.args.ranks.now c.args.stale.now c.put.new.stale c.put-2.new.stale
    (λ f. slice_get c.put.new.registers f ≡ slice_get c.args.registers.now f) (λ f. slice_get c.put-2.new.registers f ≡ slice_get c.put.new.registers f)
    (λ f. slice_get c.put-2.new.registers f ≡ slice_get c.args.registers.now f)
    c.put.ensures.tells c.put-2.ensures.tells (λ f a b. b ∙ a)
