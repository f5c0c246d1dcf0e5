use Rattle.cx_vwrite.proofs.LinesText.{pieces_3}
use Rattle.cx_vwrite.proofs.lines.external_words.Goals as goal

pub returns : goal.returns
returns c = pieces_3 _ _ _ _ _ _ _ c.in_ok-comment.ensures c.in_ok-word.ensures c.in_ok-word-2.ensures
