use Rattle.cx_vtree.specs.PlainParts.{plain_expr}
use Rattle.cx_emit.proofs.PairingLemmas.{joined_popped}
use Rattle.cx_emit.proofs.folding.joined.Goals as goal

pub loop-part-preserved : goal.loop-part-preserved
loop-part-preserved c =
    joined_popped c.args.operator (plain_expr c.args.none) c.loop-part.parts.items c.pop-in-loop-part.new.self.items c.in-Some-pop.part c.loop-part.whole c.in_ok-whole.whole _
    c.in-Some-pop.ensures.items c.in_ok-whole.ensures.value c.loop-part.invariant
