use Rattle.std.proofs.Common.{ℕ, ◌+◌, List, length, slice_get, sym, ap, ◌∙◌, subst}
use Rattle.std.proofs.lemmas.List.{length_push}
use Rattle.cx_graphs.specs.Graphs.{edges_of}
use Rattle.cx_vnets.specs.Spans.{IsSpan}
use Rattle.cx_vnets.proofs.SpanLemmas.{spans_more}
use Rattle.cx_graphs.proofs.Members.{targets_are}
use Rattle.cx_vnets.proofs.spans.spans_of.Goals as goal

pub loop-net-preserved : goal.loop-net-preserved
loop-net-preserved c =
    let net = c.loop-net.net in
    let rows = c.args.rows.now in
    let items = c.in_ok-push.ensures.items in
    let row = c.deref.ensures.value ∙ sym (targets_are rows net c.index-rows-net.result c.loop-net-test.true c.index-rows-net.is) in
    record {
      long = ap length items ∙ length_push c.loop-net.of_nets.items c.in_ok-span_of.field-0 ∙ ap (λ k. k + 1) c.loop-net.invariant.long;
      spanned = λ k span at. spans_more c.args.gates.now (edges_of rows) c.loop-net.of_nets.items c.in_ok-span_of.field-0 net c.loop-net.invariant.long c.loop-net.invariant.spanned
          (λ s is. subst (λ (reads : List ℕ). IsSpan c.args.gates.now reads net s) row (c.in_ok-span_of.ensures s is)) k span (ap (λ xs. slice_get xs k) (sym items) ∙ at);
    }
