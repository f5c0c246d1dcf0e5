use Rattle.std.proofs.Common.{ap, ◌∙◌}
use Rattle.cx_vscope.specs.Drafts.{draft_module, draft_modules}
use Rattle.cx_vsound.specs.Parts.{counts_in, body_faults}
use Rattle.cx_vsound.specs.Search.{over}
use Rattle.cx_vsound.proofs.Overs.{lines_over}
use Rattle.cx_vsound.proofs.modules.module_lines.Goals as goal

pub returns : goal.returns
returns c =
    c.in_ok-past.ensures
    ∙ ap (λ s. over s (body_faults (draft_modules c.args.before.now) (draft_module c.args.m.now))) c.in_ok-declared.ensures.value
    ∙ lines_over c.args.search c.args.is_main (draft_modules c.args.before.now) (counts_in c.args.own) (draft_module c.args.m.now)
