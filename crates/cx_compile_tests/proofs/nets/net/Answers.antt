use Rattle.std.proofs.Common.{map}
use Rattle.cx_net.specs.NetsAsData.{plain_net}
use Rattle.cx_net.specs.PlainNets.{plain_net_component}
use Rattle.cx_compile_tests.proofs.HandNetParts.{net_is, net_keeps}
use Rattle.cx_compile_tests.proofs.nets.net.Goals as goal

pub new-requires : goal.new-requires
new-requires c = record { net = net_keeps (map plain_net_component c.in_ok-components.field-0.items) c.in_ok-components.ensures }

pub returns : goal.returns
returns c = net_is (plain_net c.new.result) (map plain_net_component c.in_ok-components.field-0.items) c.new.ensures.value c.in_ok-components.ensures
