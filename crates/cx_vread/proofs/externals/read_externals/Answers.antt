use Rattle.std.proofs.Common.{◌∙◌, sym, codes}
use Rattle.cx_vscope.specs.Drafts.{draft_external}
use Rattle.cx_vread_exprs.specs.Answers.{place_of}
use Rattle.cx_vread_exprs.specs.Places.{begins}
use Rattle.cx_vread.specs.Parts as parts
use Rattle.cx_vread.proofs.Many.{mapped_next, mapped_end}
use Rattle.cx_vread.proofs.externals.read_externals.Goals as goal

pub returns-then-not-begins : goal.returns-then-not-begins
returns-then-not-begins c = mapped_end draft_external (begins (codes "/")) parts.external_at c.loop-left.list.items c.loop-left.left (place_of c.loop-left.here) _ c.loop-left.invariant (sym c.begins.ensures ∙ c.if-not-begins.true)

pub loop-left-preserved : goal.loop-left-preserved
loop-left-preserved c =
    mapped_next draft_external (begins (codes "/")) parts.external_at c.loop-left.list.items c.push.new.self.items c.in_ok-item.item c.loop-left.left (place_of c.loop-left.here) (place_of c.in_ok-item.after) _ c.loop-left.invariant c.in_ok-push.ensures.items c.loop-left-test.true (sym c.begins.ensures ∙ c.if-not-begins.false) c.in_ok-item.ensures
