use Rattle.std.proofs.Common.{◌∙◌, ap, sym}
use Rattle.cx_net.specs.PlainNets.{plain_net_driver}
use Rattle.cx_vtree.specs.PlainParts.{plain_assign}
use Rattle.cx_emit.specs.Driven.{driver_before}
use Rattle.cx_emit.proofs.DrivenLemmas.{changed_at-set, changed_at-over}
use Rattle.cx_emit.proofs.driven.put_at.Goals as goal

pub returns-in_ok-put : goal.returns-in_ok-put
returns-in_ok-put c = record {
  value = changed_at-set plain_assign (driver_before (plain_net_driver c.args.driver.now)) c.args.driven.now c.args.number c.index-driven-at.result c.put.new.driven c.if-at-driven.true c.index-driven-at.is
      (c.in_ok-put.ensures.value ∙ ap (λ a. driver_before (plain_net_driver c.args.driver.now) (plain_assign a)) (sym c.index-driven-at.is));
}

pub returns-else-at-driven : goal.returns-else-at-driven
returns-else-at-driven c = record { value = changed_at-over plain_assign (driver_before (plain_net_driver c.args.driver.now)) c.args.driven.now c.args.number c.if-at-driven.false }
