use Rattle.std.proofs.Common.{◌≡◌, ◌<◌, ◌≤◌, ◌∙◌, length, get_or, ap, arith}
use Rattle.std.proofs.lemmas.List.{length-map}
use Rattle.cx_static.specs.PlainLowered.{plain_island}
use Rattle.cx_fsm.specs.PlainStands.{islands_of}
use Rattle.cx_fsm.proofs.PlanLemmas.{first_at, length_firsts}
use Rattle.cx_fsm.proofs.plans.Plan.first_of.Goals as goal

pub returns-in-Some : goal.returns-in-Some
returns-in-Some c = record {
  value = λ within.
      let all : length (islands_of c.args.self.now) ≡ length c.args.self.now.islands.now = length-map c.args.self.now.islands.now plain_island in
      let given : c.args.island < length c.args.self.now.islands.now = within in
      let here : c.args.island < length (islands_of c.args.self.now) = omega arith in
      c.in-Some.ensures.lookup.1
      ∙ ap (λ l. get_or l c.args.island c.in-Some.first.now) (c.deref.ensures.value ∙ c.requires)
      ∙ first_at c.args.self.now.groups (islands_of c.args.self.now) c.args.island c.in-Some.first.now here;
}

pub returns-in-None : goal.returns-in-None
returns-in-None c = record {
  value = λ within.
      let all : length (islands_of c.args.self.now) ≡ length c.args.self.now.islands.now = length-map c.args.self.now.islands.now plain_island in
      let given : c.args.island < length c.args.self.now.islands.now = within in
      let past : length c.deref.result.now ≤ c.args.island = c.in-None.ensures.lookup.3 in
      let same : length c.deref.result.now ≡ length (islands_of c.args.self.now) = ap length (c.deref.ensures.value ∙ c.requires) ∙ length_firsts c.args.self.now.groups (islands_of c.args.self.now) in
      absurd (omega arith);
}
