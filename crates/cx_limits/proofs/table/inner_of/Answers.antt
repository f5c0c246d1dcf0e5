use Rattle.std.proofs.Common.{◌≡◌, ◌+◌, length, arith}
use Rattle.cx_rules.specs.Counts as counts
use Rattle.cx_rules.specs.Sizes as sizes
use Rattle.cx_design.specs.PlainForms.{plain_component}
use Rattle.cx_design_sizes.specs.Capped.{capped}
use Rattle.cx_limits.specs.Rows.{plain_inners}
use Rattle.cx_limits.proofs.table.inner_of.Goals as goal

pub returns : goal.returns
returns c =
    let part = plain_component c.args.part.now in
    let below = plain_inners c.args.below.now in
    let cells : c.saturating_add.result ≡ capped (counts.cells_in part.cells below + length part.outputs) = omega (arith, c.saturating_add.ensures, c.cell_count.ensures, c.len-wires.ensures) in
    let groups : c.saturating_add-2.result ≡ capped (length (counts.needed_groups part) + counts.groups_for below part.invokes) = omega (arith, c.saturating_add-2.ensures, c.group_copies.ensures, c.requires.groups) in
    let copies : c.saturating_add-3.result ≡ capped (sizes.groups_size (counts.needed_groups part) + counts.copies_for below part.invokes) = omega (arith, c.saturating_add-3.ensures, c.copies.ensures, c.requires.copies) in
    λ i. record {
      cells = cells i;
      always = c.always_count.ensures i;
      groups = groups i;
      copies = copies i;
      statements = c.requires.control.statements i;
      occurrences = c.requires.control.occurrences i;
    }
