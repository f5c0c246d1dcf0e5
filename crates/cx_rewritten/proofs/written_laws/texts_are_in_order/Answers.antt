use Rattle.cx_rewritten.proofs.RisingLemmas.{text_in_order}
use Rattle.cx_rewritten.proofs.written_laws.texts_are_in_order.Goals as goal

pub returns : goal.returns
returns c = text_in_order
