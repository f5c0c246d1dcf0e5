use Rattle.std.proofs.Common.{◌≡◌, ⊎_elim, length, ◌∙◌, arith}
use Rattle.std.proofs.lemmas.Bool.{cases_lt}
use Rattle.cx_graphs.specs.Graphs.{edges_of}
use Rattle.cx_vnets.proofs.ReaderLemmas.{found_own, net_still}
use Rattle.cx_vnets.proofs.readers.readers_of.Goals as goal

pub loop-net-preserved : goal.loop-net-preserved
loop-net-preserved c =
    let n = c.args.nets.now in
    let count = length n.drivers.items in
    let g = c.in_ok-list_own.ensures in
    let nets = edges_of c.list_own.new.of_nets.items in
    let arrays = edges_of c.list_own.new.of_arrays.items in
    let watches = c.list_own.new.watches in
    record {
      long = g.nets.long ∙ c.loop-net.invariant.long;
      watches = g.watches.rows.long ∙ c.loop-net.invariant.watches;
      notes = g.watches.notes.long ∙ c.loop-net.invariant.notes;
      found = λ f lt own. ⊎_elim
          (λ l. net_still n _ (edges_of c.loop-net.of_nets.items) (edges_of c.loop-net.of_arrays.items) c.loop-net.watches nets arrays watches count f g.nets g.arrays g.watches (c.loop-net.invariant.found f l own))
          (λ l. let is : c.loop-net.net ≡ f = omega (arith, lt, l) in found_own n _ _ c.deref.ensures.value nets arrays watches count c.loop-net.net f is g.found own) (cases_lt f c.loop-net.net);
    }
