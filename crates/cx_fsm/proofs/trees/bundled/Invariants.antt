use Rattle.std.proofs.Common.{◌≡◌, ◌++◌, length}
use Rattle.std.specs.Slice.Iter.{chunks_rest, chunks_size}
use Rattle.cx_net.specs.PlainNets.{plain_net_drivers, plain_net_target}
use Rattle.cx_wiring.specs.Trees.{together, bundles, heads, bundle_drivers, pair_widths, behind}
use Rattle.cx_fsm.specs.Drafts.{IfWhole, IsWhole}
use Rattle.cx_fsm.proofs.trees.bundled.Given as goal

-- the bundles so far, and those of the drivers that are left, are all
abbrev pub invariant-loop-bundle : goal.invariant-loop-bundle
invariant-loop-bundle l =
    let rest = bundles together (plain_net_drivers (chunks_rest l.bundle-iterator)) in
    let whole = bundles together (plain_net_drivers l.drivers) in
    let target = plain_net_target l.target in
    record {
      all : IfWhole l.trees.draft (IsWhole l.initial.trees.draft);
      heads : IfWhole l.trees.draft (plain_net_drivers l.heads.items ++ heads target l.trees.next rest ≡ heads target l.initial.trees.next whole);
      drivers : IfWhole l.trees.draft (plain_net_drivers l.trees.draft.drivers.items ++ bundle_drivers l.trees.next rest ≡ plain_net_drivers l.initial.trees.draft.drivers.items ++ bundle_drivers l.initial.trees.next whole);
      widths : IfWhole l.trees.draft (l.trees.widths.items ++ pair_widths l.width (length rest) ≡ l.initial.trees.widths.items ++ pair_widths l.width (length whole));
      next : IfWhole l.trees.draft (behind l.trees.next (length rest) ≡ behind l.initial.trees.next (length whole));
      size : chunks_size l.bundle-iterator ≡ 16;
    }
