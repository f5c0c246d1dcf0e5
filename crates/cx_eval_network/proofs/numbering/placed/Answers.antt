use Rattle.std.proofs.Common.{rules, ◌≡◌, ◌<◌, length, sym, ap, subst, arith}
use Rattle.cx_state.specs.declared.tables.InstanceRow.{InstanceRow}
use Rattle.cx_state.specs.Tables.{row_at}
use Rattle.cx_eval_network.specs.Parts.{ArePorts}
use Rattle.cx_eval_network.specs.Nodes.{ArePlaced}
use Rattle.cx_eval_network.proofs.FoundLemmas.{get_same, part_ports}
use Rattle.cx_eval_network.proofs.PlaceLemmas.{place_next}
use Rattle.cx_eval_network.proofs.numbering.placed.Goals as goal

pub loop-number-preserved : goal.loop-number-preserved
loop-number-preserved c = λ d parts.
    let n = c.loop-number.number in
    let lt : n < length c.args.rows.now = c.loop-number-test.true in
    let first : c.len-first.result ≡ length c.loop-number.ports.items = search rules in
    let list : c.as_slice.result.now ≡ c.index-part.result.now.ports.items = search rules in
    let same = ap (λ (r : InstanceRow). r.component) (get_same c.args.rows.now n _ _ lt) in
    place_next d c.args.rows.now n c.loop-number.instances.items c.push.new.self.items c.loop-number.ports.items c.stand.new.nodes.items _ c.as_slice.result.now lt (c.loop-number.invariant d parts)
    same first
    (subst (ArePorts _ _) (sym list) (part_ports d c.args.parts.items _ _ c.index-part.result.now parts same (c.requires.within n lt) c.index-part.ensures))
    c.in_ok-push.ensures.items c.in_ok-stand.ensures.value

pub returns : goal.returns
returns c = record {
  value = λ d parts plans lists nothing.
      let end : c.loop-number.number ≡ length c.args.rows.now = omega arith in
      let placed : ArePlaced d c.args.rows.now (length c.args.rows.now) c.loop-number.instances.items c.loop-number.ports.items =
      subst (λ k. ArePlaced d c.args.rows.now k c.loop-number.instances.items c.loop-number.ports.items) end (c.loop-number.invariant d parts) in
      record {
        parts = parts;
        plans = plans;
        lists = lists;
        there = λ n lt. subst (λ k. (row_at c.args.rows.now n).component < k) parts.count (c.requires.within n lt);
        placed = placed;
        nothing = nothing;
        fits = let long = placed.nodes in let ok = c.loop-number.ports.ok in let small = c.loop-number.ports.small in omega (arith, long, ok, small);
      };
}
