use Rattle.std.proofs.Common.{◌≡◌, map, arith}
use Rattle.std.proofs.lemmas.Grind.{common_steps}
use Rattle.std.proofs.lemmas.Option.{slice_get-get_or}
use Rattle.cx_vnets.specs.Stores.{write_of}
use Rattle.cx_vnets.proofs.StoreSteps.{writes-fit}
use Rattle.cx_vnets.proofs.stores.look_at_stores.Goals as goal

pub write_by-requires-clause-fits : goal.write_by-requires-clause-fits
write_by-requires-clause-fits c = c.requires.fits c.loop-number.number _ (slice_get-get_or c.args.stores.now c.loop-number.number _ c.loop-number-test.true)

pub returns-clause-fits : goal.returns-clause-fits
returns-clause-fits c =
    let whole : c.loop-number.writes ≡ map (write_of c.args.codes.now c.args.values.now c.args.arrays.now) c.args.stores.now = grind (arith, common_steps) in
    writes-fit c.args.values.now c.args.arrays.now c.args.codes.now c.args.stores.now c.loop-number.writes c.requires.even c.requires.fits whole
