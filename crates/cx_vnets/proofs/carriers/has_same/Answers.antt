use Rattle.std.proofs.Common.{◌≡◌, ◌<◌, true, length, ◌∙◌, arith}
use Rattle.cx_vnets.proofs.carriers.has_same.Goals as goal

pub returns : goal.returns
returns c = λ e.
    let yes : c.is_lower.result ≡ true = cc in
    let within : c.args.source < length c.args.nets.now.drivers.items = omega (arith, c.len.ensures, c.args.nets.now.drivers.ok.0) in
    record {
      source = c.args.source;
      carries = c.requires.carries;
      there = within;
      lower = c.is_lower.ensures yes;
      same = (c.is_of.ensures e).1 ∙ c.origin_of.ensures;
    }
