use Rattle.cx_share.proofs.BitLemmas.{adds_past, bits_added}
use Rattle.cx_share.proofs.marks.Marks.put.Goals as goal

pub returns-then-cell-self : goal.returns-then-cell-self
returns-then-cell-self c = record { value = rw (← c.self.view_is) (bits_added c.self.inside.count c.args.cell c.self.inside.words.items c.put_bit.new.words.items c.put_bit.ensures.value) }

pub returns-else-cell-self : goal.returns-else-cell-self
returns-else-cell-self c = record { value = rw (← c.self.view_is) (adds_past c.self.inside.count c.args.cell c.self.inside.words.items c.if-cell-self.false) }
