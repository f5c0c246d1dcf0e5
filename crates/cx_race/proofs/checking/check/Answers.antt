use Rattle.std.proofs.Common.{None, ◌≡◌, length, sym, subst}
use Rattle.std.proofs.lemmas.List.{length-map}
use Rattle.cx_design.specs.PlainDesigns.{plain_design}
use Rattle.cx_race.specs.RaceBreaks.{IsBeforeOf, Looked}
use Rattle.cx_race.proofs.RaceLemmas.{are_breaks}
use Rattle.cx_race.proofs.checking.check.Goals as goal

pub returns-in-Ok : goal.returns-in-Ok
returns-in-Ok c =
    let d = plain_design c.args.design.now in
    let size : length d.components ≡ length c.args.design.now.components.items = length-map c.args.design.now.components.items _ in
    let looked : Looked d (IsBeforeOf (length d.components)) None c.in-Ok.first = subst (λ n. Looked d (IsBeforeOf n) None c.in-Ok.first) (sym size) c.in-Ok.ensures.looked in
    record { answer = c.result.ensures.answer 6 d looked.found (are_breaks d c.in-Ok.first looked) looked.first }
