use Rattle.std.proofs.Common.{[], Err}
use Rattle.cx_design.specs.PlainDesigns.{plain_design}
use Rattle.cx_compiler.proofs.Once.{Told, all_answered, all_stopped}
use Rattle.cx_driver.specs.Profiling.{IsProfileStop, Profiles}
use Rattle.cx_driver.proofs.CountLemmas.{text_counts}
use Rattle.cx_driver.proofs.ProfileLemmas.{one_profile, refused_profile, text_profiles, text_profile_stops}
use Rattle.cx_driver.proofs.profiling.profile.Goals as goal

pub profile_design-requires : goal.profile_design-requires
profile_design-requires c = record { counted = text_counts c.args.text.now (plain_design c.in-Ok.design) c.in-Ok.ensures.design c.in-Ok.design.keeps; budget = c.requires.budget }

pub returns-in-Ok : goal.returns-in-Ok
returns-in-Ok c =
    let text = c.args.text.now in
    let json = c.args.json.now in
    let does : Told → Type 0 = Profiles text json c.args.turns in
    let d = plain_design c.in-Ok.design in
    let r = c.profile_design.result in
    let answer = text_profiles (λ v. v.items) text json d c.args.turns r c.in-Ok.ensures.design c.profile_design.ensures.answer in
    let cause = text_profile_stops text json d c.args.turns r c.in-Ok.ensures.design c.profile_design.ensures.cause in
    record {
      answer = answer;
      cause = cause;
      all_answers = λ bytes i. all_answered (λ v. v.items) does does (one_profile text json c.args.turns) r answer cause bytes i;
      all_stops = λ why i. all_stopped (λ v. v.items) does does (one_profile text json c.args.turns) r answer cause why i;
    }

pub returns-in-Err : goal.returns-in-Err
returns-in-Err c =
    let text = c.args.text.now in
    let json = c.args.json.now in
    let does : Told → Type 0 = Profiles text json c.args.turns in
    let cause : IsProfileStop text json c.args.turns c.in-Err.stop = refused_profile text json c.args.turns c.in-Err.stop c.in-Err.ensures.cause in
    record {
      answer = tt;
      cause = cause;
      all_answers = λ bytes i. all_answered {X = Unit {0}} (λ _. []) does does (one_profile text json c.args.turns) (Err c.in-Err.stop) tt cause bytes i;
      all_stops = λ why i. all_stopped {X = Unit {0}} (λ _. []) does does (one_profile text json c.args.turns) (Err c.in-Err.stop) tt cause why i;
    }
