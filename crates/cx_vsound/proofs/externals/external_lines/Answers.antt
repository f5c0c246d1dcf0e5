use Rattle.std.proofs.Common.{◌∙◌}
use Rattle.cx_vscope.specs.Drafts.{draft_modules}
use Rattle.cx_vsound.proofs.Memories.{externals_next}
use Rattle.cx_vsound.proofs.externals.external_lines.Goals as goal

pub loop-e-preserved : goal.loop-e-preserved
loop-e-preserved c =
    externals_next (draft_modules c.args.modules.now) c.args.externals.now c.loop-e.e-index c.e-item.result c.loop-e.names c.loop-e.taken _ _ c.loop-e.search c.after-search.result _
    c.loop-e-test.true c.e-item.is c.in_ok-faults.ensures c.after-search.ensures c.in_ok-push.ensures c.in_ok-push-2.ensures
    ∙ c.loop-e.invariant
