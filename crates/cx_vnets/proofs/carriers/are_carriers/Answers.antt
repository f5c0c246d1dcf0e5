use Rattle.std.proofs.Common.{◌≡◌, ◌<◌, true, length, sym, ◌∙◌, arith}
use Rattle.std.proofs.lemmas.List.{length-map}
use Rattle.cx_graphs.specs.Graphs.{edges_of, targets_of}
use Rattle.cx_vnets.specs.Carriers.{HasOrigin, IsRowOf}
use Rattle.cx_vnets.proofs.CarrierLemmas.{all_more}
use Rattle.cx_vnets.proofs.carriers.are_carriers.Goals as goal

pub loop-net-preserved : goal.loop-net-preserved
loop-net-preserved c =
    let t = c.args.carriers.now in
    let net = c.loop-net.net in
    let yes : c.is_right.result ≡ true = cc in
    let right = c.is_right.ensures yes in
    record {
      origins = all_more (λ f. HasOrigin c.args.nets.now c.args.ranks.now t.origins.items f) net c.loop-net.invariant.origins right.0;
      rows = all_more (λ f. IsRowOf t.origins.items (targets_of (edges_of t.rows.items) f) f) net c.loop-net.invariant.rows right.1;
    }

pub returns : goal.returns
returns c = λ e.
    let n = c.args.nets.now in
    let t = c.args.carriers.now in
    let yes : c.are_as_many.result ≡ true = cc in
    let many = c.are_as_many.ensures yes in
    let rows : length (edges_of t.rows.items) ≡ length n.drivers.items = length-map t.rows.items (λ list. list.items) ∙ many.1 in
    record {
      long = many.0;
      origins = λ f lt. let below : f < c.loop-net.net = omega (arith, lt, c.len-net-end.ensures, n.drivers.ok.0) in c.loop-net.invariant.origins f below;
      rows = record {
        long = rows ∙ sym many.0;
        carried = λ f lt. let below : f < c.loop-net.net = omega (arith, lt, rows, c.len-net-end.ensures, n.drivers.ok.0) in c.loop-net.invariant.rows f below;
        listed = c.requires.listed;
      };
    }
