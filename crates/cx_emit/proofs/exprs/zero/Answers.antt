use Rattle.cx_emit.proofs.EmittedNumbers.{zero_fits}
use Rattle.cx_emit.proofs.exprs.zero.Goals as goal

pub literal-requires : goal.literal-requires
literal-requires c = record { fits = zero_fits c.args.width c.requires.wide }
