use Rattle.std.proofs.Common.{is_some, ap, ◌∙◌}
use Rattle.cx_vscope.specs.Drafts.{draft_modules}
use Rattle.cx_vsound.proofs.FirstLemmas.{named-has}
use Rattle.cx_vsound.proofs.modules.has_module.Goals as goal

pub returns : goal.returns
returns c = c.is_some.ensures ∙ ap is_some c.number.ensures ∙ named-has (draft_modules c.args.modules.now) c.args.name.now
