use Rattle.cx_vlaws.proofs.DriverLemmas.{conns-length}
use Rattle.cx_vlaws.proofs.origins.connections_are_of_ports.Goals as goal

pub returns : goal.returns
returns c source i p sound at other = conns-length source sound i p at other
