use Rattle.std.proofs.Common.{◌∙◌, sym}
use Rattle.cx_vscope.specs.Drafts.{draft_module}
use Rattle.cx_vread_exprs.specs.Answers.{place_of}
use Rattle.cx_vread.specs.Parts as parts
use Rattle.cx_vread.proofs.Many.{mapped_next, mapped_end}
use Rattle.cx_vread.proofs.modules.more_modules.Goals as goal

pub returns-then-not-is_left : goal.returns-then-not-is_left
returns-then-not-is_left c = mapped_end draft_module parts.is_left parts.module_at c.loop-left.list.items c.loop-left.left (place_of c.loop-left.here) _ c.loop-left.invariant (sym c.is_left.ensures ∙ c.if-not-is_left.true)

pub loop-left-preserved : goal.loop-left-preserved
loop-left-preserved c =
    mapped_next draft_module parts.is_left parts.module_at c.loop-left.list.items c.push-in-loop-left.new.self.items c.in_ok-item.item c.loop-left.left (place_of c.loop-left.here) (place_of c.in_ok-item.after) _ c.loop-left.invariant c.in_ok-push-2.ensures.items c.loop-left-test.true (sym c.is_left.ensures ∙ c.if-not-is_left.false) c.in_ok-item.ensures
