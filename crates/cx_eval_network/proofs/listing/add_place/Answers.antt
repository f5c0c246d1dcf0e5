use Rattle.std.proofs.Common.{length, arith}
use Rattle.cx_eval_network.proofs.ListingLemmas.{bounded_more}
use Rattle.cx_eval_network.proofs.listing.add_place.Goals as goal

pub returns-in_ok-push-in-Ok : goal.returns-in_ok-push-in-Ok
returns-in_ok-push-in-Ok c =
    let within = c.in-Ok.ensures.bound in
    let same = c.in_ok-narrow-in-Ok.ensures.value in
    record { value = λ h. bounded_more (length c.args.ports.now) c.args.places.now.items _ c.in_ok-narrow-in-Ok.field-0 h (omega (arith, within, same)) c.in_ok-push-in-Ok.ensures.items }
