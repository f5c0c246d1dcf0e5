use Rattle.std.proofs.Common.{sym, subst, inl, inr}
use Rattle.cx_graphs.specs.Graphs.{edges_of}
use Rattle.cx_vnets.specs.Readers.{IsHeard}
use Rattle.cx_vnets.proofs.ReaderLemmas.{both_listed, three_listed, grows_none, on_ok_both}
use Rattle.cx_vnets.proofs.WatchLemmas.{comparison_along}
use Rattle.cx_vnets.proofs.readers.+list_code.Goals as goal

pub returns-in-Some : goal.returns-in-Some
returns-in-Some t c =
    let found = c.in-Some.found in
    let L = IsHeard c.args.origins.now (edges_of c.args.of_nets.now.items) (edges_of c.args.of_arrays.now.items) c.list_watch.new.watches c.args.count c.args.place c.args.net in
    let both = comparison_along c.in-Binary.op _ _ _ _ found.net found.literal found.sided c.deref-in-Binary.ensures c.deref-in-Binary-2.ensures c.in-Some.ensures in
    on_ok_both c.list_watch.result
    (λ grows listed. record {
      nets = grows_none (edges_of c.args.of_nets.now.items);
      arrays = grows_none (edges_of c.args.of_arrays.now.items);
      watches = grows;
      listed = subst L (sym c.in-Binary.is) (inr (found.net, found.literal, found.sided, both, listed));
    }) c.list_watch.ensures.grows c.list_watch.ensures.listed

pub returns-in_ok-list_code-in-None-2 : goal.returns-in_ok-list_code-in-None-2
returns-in_ok-list_code-in-None-2 t c =
    let L = IsHeard c.args.origins.now (edges_of c.list_code-in-None-2.new.of_nets.items) (edges_of c.list_code-in-None-2.new.of_arrays.items) c.list_code-in-None-2.new.watches c.args.count c.args.place c.args.net in
    both_listed c.args.origins.now _ _ _ _ _ _ _ _ _ c.args.count c.args.place c.args.net c.deref-in-None.result.now c.deref-in-None-2.result.now c.in_ok-list_code-in-None.ensures c.in_ok-list_code-in-None-2.ensures c.args.code.now
    (λ l r. subst L (sym c.in-Binary.is) (inl (subst L c.deref-in-None.ensures l, subst L c.deref-in-None-2.ensures r)))

pub returns-in_ok-list_code-in-Cat-2 : goal.returns-in_ok-list_code-in-Cat-2
returns-in_ok-list_code-in-Cat-2 t c =
    let L = IsHeard c.args.origins.now (edges_of c.list_code-in-Cat-2.new.of_nets.items) (edges_of c.list_code-in-Cat-2.new.of_arrays.items) c.list_code-in-Cat-2.new.watches c.args.count c.args.place c.args.net in
    both_listed c.args.origins.now _ _ _ _ _ _ _ _ _ c.args.count c.args.place c.args.net c.deref-in-Cat.result.now c.deref-in-Cat-2.result.now c.in_ok-list_code-in-Cat.ensures c.in_ok-list_code-in-Cat-2.ensures c.args.code.now
    (λ l r. subst L (sym c.in-Cat.is) (subst L c.deref-in-Cat.ensures l, subst L c.deref-in-Cat-2.ensures r))

pub returns-in_ok-list_code-in-Choose-3 : goal.returns-in_ok-list_code-in-Choose-3
returns-in_ok-list_code-in-Choose-3 t c =
    let L = IsHeard c.args.origins.now (edges_of c.list_code-in-Choose-3.new.of_nets.items) (edges_of c.list_code-in-Choose-3.new.of_arrays.items) c.list_code-in-Choose-3.new.watches c.args.count c.args.place c.args.net in
    three_listed c.args.origins.now _ _ _ _ _ _ _ _ _ _ _ _ c.args.count c.args.place c.args.net c.deref-in-Choose.result.now c.deref-in-Choose-2.result.now c.deref-in-Choose-3.result.now c.args.code.now
    c.in_ok-list_code-in-Choose.ensures c.in_ok-list_code-in-Choose-2.ensures c.in_ok-list_code-in-Choose-3.ensures
    (λ x y z. subst L (sym c.in-Choose.is) (subst L c.deref-in-Choose.ensures x, subst L c.deref-in-Choose-2.ensures y, subst L c.deref-in-Choose-3.ensures z))
