use Rattle.std.proofs.Common.{◌∙◌, sym}
use Rattle.cx_vtree.specs.PlainParts.{plain_instance}
use Rattle.cx_vread_exprs.specs.Answers.{place_of}
use Rattle.cx_vread.specs.Parts as parts
use Rattle.cx_vread.proofs.Many.{mapped_next, mapped_end}
use Rattle.cx_vread.proofs.instances.instances.Goals as goal

pub returns-then-not-is_instance : goal.returns-then-not-is_instance
returns-then-not-is_instance c = mapped_end plain_instance parts.is_instance parts.instance_at c.loop-left.list.items c.loop-left.left (place_of c.loop-left.here) _ c.loop-left.invariant (sym c.is_instance.ensures ∙ c.if-not-is_instance.true)

pub loop-left-preserved : goal.loop-left-preserved
loop-left-preserved c =
    mapped_next plain_instance parts.is_instance parts.instance_at c.loop-left.list.items c.push.new.self.items c.in_ok-item.item c.loop-left.left (place_of c.loop-left.here) (place_of c.in_ok-item.after) _ c.loop-left.invariant c.in_ok-push.ensures.items c.loop-left-test.true (sym c.is_instance.ensures ∙ c.if-not-is_instance.false) c.in_ok-item.ensures
