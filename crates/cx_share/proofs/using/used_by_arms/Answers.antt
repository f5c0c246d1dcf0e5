use Rattle.std.proofs.Common.{refl}
use Rattle.cx_design.specs.PlainForms.{plain_component}
use Rattle.cx_share.proofs.UseLemmas.{arms_listed}
use Rattle.cx_share.proofs.using.used_by_arms.Goals as goal

pub returns : goal.returns
returns c = record {
  value = arms_listed (plain_component c.args.part.now) c.args.part.now.cells.items c.args.arms.now c.loop-arm.arm-index c.loop-arm.cells.items refl c.loop-arm-test.false c.loop-arm.invariant;
}
