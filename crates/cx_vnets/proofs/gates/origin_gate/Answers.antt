use Rattle.std.proofs.Common.{ap, ◌∙◌}
use Rattle.std.proofs.lemmas.Option.{IfSome_then}
use Rattle.cx_vnets.specs.Carriers.{origin_at}
use Rattle.cx_vnets.proofs.gates.origin_gate.Goals as goal

pub returns-in-Some : goal.returns-in-Some
returns-in-Some c =
    let h = c.in-Some.ensures in
    IfSome_then c.origin_number.result c.origin_number.ensures (λ g e. (h.0, h.1, ap (origin_at c.args.origins.now) h.2 ∙ e))
