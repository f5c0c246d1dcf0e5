use Rattle.std.proofs.Common.{ap, sym, subst, length, ◌∙◌, true}
use Rattle.cx_rules.specs.Ports.{component_of}
use Rattle.cx_design.specs.PlainDesigns.{plain_design}
use Rattle.cx_shape_state.specs.Waits.{basis_of}
use Rattle.cx_shape_state.specs.Joining.{IsWithin}
use Rattle.cx_shape_state.proofs.Cells.{basis_within}
use Rattle.cx_shape_state.proofs.resting.Resting.rests.Goals as goal

pub rests_by-requires : goal.rests_by-requires
rests_by-requires c =
    let i = component_of (plain_design c.args.design.now) c.args.number in
    record {
      within = subst (λ b. IsWithin (length c.as_slice.result.now) b) (sym c.basis_of.ensures.value)
          (subst (λ k. IsWithin k (basis_of i true c.args.port)) (sym (ap length c.as_slice.ensures.value ∙ c.requires.tells.cells.count)) (basis_within i true c.args.port));
    }
