use Rattle.std.proofs.Common.{rules, sym, ap, ◌∙◌}
use Rattle.cx_text.proofs.PlaceLemmas.{StandsAt-more, advanced_within}
use Rattle.cx_text.specs.Places.{advanced}
use Rattle.cx_text.proofs.cursors.Cursor.next.Goals as goal

pub invariant_of-self : goal.invariant_of-self
invariant_of-self c = StandsAt-more _ _ c.in_ok-byte.byte _ _ c.self.invariant (search rules) c.after-self-inside.ensures

pub returns-clause-after : goal.returns-clause-after
returns-clause-after c = sym (advanced_within _ _ c.in_ok-byte.byte (search rules)) ∙ ap advanced c.self.view_is
