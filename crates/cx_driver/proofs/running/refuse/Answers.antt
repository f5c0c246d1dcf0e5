use Rattle.std.proofs.Common.{inl, subst, ◌∙◌}
use Rattle.cx_commands.specs.Statuses.{ReceivesLine}
use Rattle.cx_driver.proofs.running.refuse.Goals as goal

pub returns-in-Ok : goal.returns-in-Ok
returns-in-Ok g c =
    inl (c.status.ensures, subst (λ l. ReceivesLine (g.E.Sink.written c.args.err.now) (g.E.Sink.faults c.args.err.now) l (g.E.Sink.written c.tell.new.err) (g.E.Sink.faults c.tell.new.err)) (c.deref.ensures.value ∙ c.in-Ok.ensures.value) c.tell.ensures)
