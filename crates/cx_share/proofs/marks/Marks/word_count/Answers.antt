use Rattle.std.proofs.Common.{◌∙◌, ◌+◌, ◌/◌, ap, sym, length}
use Rattle.cx_share.proofs.BitLemmas.{marks_long}
use Rattle.cx_share.proofs.marks.Marks.word_count.Goals as goal

pub returns-clause-value : goal.returns-clause-value
returns-clause-value c = ap (λ n. n / 64 + 1) (sym (marks_long c.self.inside.count c.self.inside.words.items) ∙ ap length c.self.view_is)
