use Rattle.std.proofs.Common.{length, sym, ap, ◌∙◌}
use Rattle.cx_text.proofs.ListLaws.{length-map}
use Rattle.cx_eval_network.specs.Stamps.{mark_at}
use Rattle.cx_eval_network.proofs.marks.MarkTable.forget.Goals as goal

pub returns-clause-count : goal.returns-clause-count
returns-clause-count c =
    length-map (mark_at c.later_stamp-stamp.result) c.later_stamp-stamp.new.marks.items ∙ c.later_stamp-stamp.ensures.count
    ∙ sym (length-map (mark_at c.self.inside.stamp) c.self.inside.marks.items) ∙ ap length c.self.view_is
