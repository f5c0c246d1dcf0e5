use Rattle.std.proofs.Common.{◌≡◌, map, ap, ◌∙◌, arith}
use Rattle.cx_rules.specs.Sizes as sizes
use Rattle.cx_design.specs.PlainForms.{plain_component, plain_group}
use Rattle.cx_design_sizes.specs.Capped.{capped}
use Rattle.cx_limits.proofs.table.size_of.Goals as goal

pub returns : goal.returns
returns c =
    let own : c.groups_size.result ≡ capped (sizes.groups_size (plain_component c.args.part.now).groups) =
    c.groups_size.ensures ∙ ap (λ groups. capped (sizes.groups_size (map plain_group groups))) c.deref.ensures.value in
    omega (
      arith,
      c.saturating_add-ports.ensures,
      c.len.ensures,
      c.len-2.ensures,
      own,
      c.copies.ensures,
      c.saturating_add-groups.ensures,
      c.cell_count.ensures,
      c.saturating_add.ensures,
      c.saturating_add-2.ensures,
      c.always_count.ensures,
      c.saturating_add-3.ensures,
      c.requires.control.statements,
      c.saturating_add-4.ensures,
      c.requires.control.occurrences,
      c.saturating_add-5.ensures,
    )
