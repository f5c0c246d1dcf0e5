use Rattle.std.proofs.Common.{◌∙◌, sym}
use Rattle.cx_vscope.specs.Drafts.{draft_decl}
use Rattle.cx_vread_exprs.specs.Answers.{place_of}
use Rattle.cx_vread.specs.Parts as parts
use Rattle.cx_vread.proofs.Many.{mapped_next, mapped_end}
use Rattle.cx_vread.proofs.lines.decls.Goals as goal

pub returns-then-not-is_decl : goal.returns-then-not-is_decl
returns-then-not-is_decl c = mapped_end draft_decl parts.is_decl parts.decl_at c.loop-left.list.items c.loop-left.left (place_of c.loop-left.here) _ c.loop-left.invariant (sym c.is_decl.ensures ∙ c.if-not-is_decl.true)

pub loop-left-preserved : goal.loop-left-preserved
loop-left-preserved c =
    mapped_next draft_decl parts.is_decl parts.decl_at c.loop-left.list.items c.push.new.self.items c.in_ok-item.item c.loop-left.left (place_of c.loop-left.here) (place_of c.in_ok-item.after) _ c.loop-left.invariant c.in_ok-push.ensures.items c.loop-left-test.true (sym c.is_decl.ensures ∙ c.if-not-is_decl.false) c.in_ok-item.ensures
