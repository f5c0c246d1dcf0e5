use Rattle.std.proofs.Common.{◌≡◌, ℕ, ◌<◌, [], get_or, length, map}
use Rattle.cx_meaning.specs.Designs.{no_component}
use Rattle.cx_design.specs.PlainForms.{plain_component}
use Rattle.cx_share.specs.Marks.{lists_of}
use Rattle.cx_share.specs.Givings.{AreKeepers}
use Rattle.cx_share.proofs.giving.all_keepers.Given as goal

-- the lists so far are those of the first components
abbrev pub invariant-loop-part : goal.invariant-loop-part
invariant-loop-part l = record {
  count : length (lists_of l.lists.items) ≡ l.part-index;
  each : (k : ℕ) → k < l.part-index → AreKeepers (get_or (map plain_component l.parts) k no_component) (get_or (lists_of l.lists.items) k []);
}
