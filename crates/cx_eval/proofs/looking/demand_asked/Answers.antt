use Rattle.std.proofs.Common.{arith}
use Rattle.cx_eval_network.proofs.ShortLemmas.{rows_are_short}
use Rattle.cx_eval.proofs.looking.demand_asked.Goals as goal

pub demand_at-requires : goal.demand_at-requires
demand_at-requires c =
    let within = c.requires.within in
    let short = rows_are_short c.args.stepping.now.primitive.now in
    let count = c.requires.fits.count in
    record {
      can = c.requires.can;
      ready = c.requires.ready;
      sources = c.requires.sources c.args.port within;
      node = c.requires.nodes.within c.args.port within;
      few = omega (arith, within, short);
      within = omega (arith, within, count);
    }
