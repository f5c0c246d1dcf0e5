use Rattle.std.proofs.Common.{map, sym, subst}
use Rattle.cx_design.specs.PlainForms.{plain_component, plain_statement}
use Rattle.cx_race.specs.Races.{IsFirstRace}
use Rattle.cx_race.proofs.SharedLemmas.{first_is}
use Rattle.cx_race.proofs.races.find_race.Goals as goal

pub returns-clause-race : goal.returns-clause-race
returns-clause-race c =
    let arms = map plain_statement c.args.arms.now in
    let part = plain_component c.args.part.now in
    λ f. subst (IsFirstRace part arms) (sym c.first_race.ensures.value) (first_is part arms c.in_ok-cell.cell c.in_ok-group.group (c.in_ok-cell.ensures.least f) c.in_ok-group.ensures.least)
