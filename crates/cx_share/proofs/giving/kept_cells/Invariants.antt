use Rattle.std.proofs.Common.{◌≡◌, map}
use Rattle.cx_design.specs.PlainForms.{plain_component}
use Rattle.cx_sharing.specs.Giving.{kept_after}
use Rattle.cx_share.specs.Givings.{AllNear, AreRefused, plain_kept}
use Rattle.cx_share.proofs.giving.kept_cells.Given as goal

-- what is kept of the cells so far
abbrev pub invariant-loop-cell : goal.invariant-loop-cell
invariant-loop-cell l = record {
  kept : map plain_kept l.kept.items ≡ kept_after (plain_component l.part) l.cell;
  near : AllNear (plain_component l.part) l.kept.items;
  refused : AreRefused l.kept.items l.refused.items;
}
