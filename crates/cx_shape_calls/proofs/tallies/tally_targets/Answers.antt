use Rattle.std.proofs.Common.{◌∙◌, ap}
use Rattle.cx_meaning.specs.declared.ports.PortRef.TheVariants as refs
use Rattle.cx_shape_calls.specs.Forms.{count_of}
use Rattle.cx_shape_calls.proofs.DoneLemmas.{targets_counted}
use Rattle.cx_shape_calls.proofs.tallies.tally_targets.Goals as goal

pub returns : goal.returns
returns c = record {
  value = λ d q.
      c.in_ok-driven.ensures.value d q ∙ ap (λ l. count_of (refs.Cell d q) l) (c.as_slice.ensures.value ∙ c.in_ok-targets.ensures.value)
      ∙ targets_counted (refs.Cell d q) c.args.assigns.now;
}
