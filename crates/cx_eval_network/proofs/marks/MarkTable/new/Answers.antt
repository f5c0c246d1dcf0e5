use Rattle.std.proofs.Common.{ap, ◌∙◌}
use Rattle.cx_meaning.specs.declared.sights.Seen.TheVariants.{Undefined}
use Rattle.cx_eval_network.specs.Stamps.{marks_at}
use Rattle.cx_eval_network.proofs.StampLemmas.{new_unseen}
use Rattle.cx_eval_network.proofs.marks.MarkTable.new.Goals as goal

pub returns : goal.returns
returns c = record { value = ap (marks_at 2) c.in_ok-marks.ensures.value ∙ new_unseen c.args.count Undefined }
