use Rattle.std.proofs.lemmas.Option.{IfSome_then}
use Rattle.cx_vnets.proofs.carriers.placed_net.Goals as goal

pub returns-in-Some : goal.returns-in-Some
returns-in-Some c = IfSome_then c.placed.result c.placed.ensures (λ g e. (c.in-Some.net, c.in-Some.ensures, e))
