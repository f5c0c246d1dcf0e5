use Rattle.cx_weave.proofs.PartLedgers.{one_arms_place}
use Rattle.cx_weave.proofs.parts.par_ended.Goals as goal

pub give_arms-requires : goal.give_arms-requires
give_arms-requires c = record { place = one_arms_place c.args.spares.now c.requires.places }
