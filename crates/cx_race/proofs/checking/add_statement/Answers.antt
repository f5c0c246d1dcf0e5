use Rattle.std.proofs.Common.{◌≡◌, ◌<◌, length, map, sym, subst}
use Rattle.std.proofs.lemmas.List.{length-map}
use Rattle.cx_meaning.specs.Designs.{component_at}
use Rattle.cx_rules.specs.Spots.{AStatement, Spot}
use Rattle.cx_design.specs.PlainDesigns.{plain_design}
use Rattle.cx_design.specs.PlainForms.{plain_statement}
use Rattle.cx_design_parts.specs.Breaks.{first_of}
use Rattle.cx_design_parts.specs.Items.{plain_visited}
use Rattle.cx_race.specs.Footprints.{AreFootprints}
use Rattle.cx_race.specs.Races.{AreWithin, IsFirstRace}
use Rattle.cx_race.specs.RaceBreaks.{race_break}
use Rattle.cx_race.proofs.RaceLemmas.{statement_looked, arms_within}
use Rattle.cx_race.proofs.checking.add_statement.Goals as goal

pub find_race-requires-clause-within : goal.find_race-requires-clause-within
find_race-requires-clause-within c =
    let d = plain_design c.args.design.now in
    let k = c.args.number in
    let v = plain_visited c.args.visited in
    let within : k < length d.components = subst (λ n. k < n) (sym (length-map c.args.design.now.components.items _)) c.requires.within in
    let here = component_at d k in
    let f = c.args.footprints.now in
    subst (λ p. AreWithin p f (map plain_statement c.arms.result.now)) (sym c.component-part.ensures.value)
    (subst (AreWithin here f) (sym c.arms.ensures.value) (arms_within d k c.args.place v within c.requires.stands c.args.design.now.keeps f c.requires.footprints))

pub returns-clause-looked : goal.returns-clause-looked
returns-clause-looked c =
    let d = plain_design c.args.design.now in
    let k = c.args.number in
    let v = plain_visited c.args.visited in
    let n = c.args.place in
    let part = component_at d k in
    let spot : Spot = record { component = k; part = AStatement n } in
    let within : k < length d.components = subst (λ m. k < m) (sym (length-map c.args.design.now.components.items _)) c.requires.within in
    let race = c.in_ok-race.race in
    let raced : IsFirstRace part (map plain_statement c.arms.result.now) race = subst
    (λ p. AreFootprints p c.args.footprints.now → IsFirstRace p (map plain_statement c.arms.result.now) race) c.component-part.ensures.value
    c.in_ok-race.ensures.race c.requires.footprints in
    statement_looked d k n v within c.requires.stands race c.args.first.now c.add_race.new.first
    (subst (λ l. IsFirstRace part l race) c.arms.ensures.value raced)
    (subst (λ p. c.add_race.new.first ≡ first_of c.args.first.now (race_break p spot v.place race)) c.component-part.ensures.value c.in_ok-add_race.ensures.value)
