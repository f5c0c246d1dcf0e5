use Rattle.std.specs.Prelude.{codes}
use Rattle.std.proofs.Common.{ap, ◌∙◌}
use Rattle.cx_vmods.specs.Spelling.{net}
use Rattle.cx_vmods.specs.Clocked.{taking, done_after}
use Rattle.cx_vmods.specs.Parts.{Interior, Output, with_piece, with_pieces}
use Rattle.cx_vmods.proofs.register.register.Goals as goal

pub returns : goal.returns
returns c = record {
  value = c.in_ok-output_net.ensures.value
      ∙ ap (λ (i : Interior). with_piece i (Output (codes "out") (net (codes "held"))))
      (c.in_ok-done_after.ensures.value
      ∙ ap (λ (i : Interior). with_pieces i (done_after (codes "write_en")))
      (c.in_ok-taking.ensures.value ∙ ap (λ (i : Interior). with_pieces i (taking c.args.width)) c.none-parts.ensures.value));
}
