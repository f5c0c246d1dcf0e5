use Rattle.std.proofs.Common.{◌≡◌, ◌≤◌, ◌<◌, ◌+◌, ◌-◌, ◌^◌, length, drop}
use Rattle.cx_design.specs.PlainForms.{plain_component, plain_statements}
use Rattle.cx_meaning.specs.Islands.{first_unclear}
use Rattle.cx_laws.specs.Samples.{says, parts_after, arms_after, ifs_in}
use Rattle.cx_interp_islands.specs.Asked.{earlier_fault, parts_asked, arms_asked, tests_in, AllPorts, AreStill}
use Rattle.cx_interp_islands.specs.Rooms.{samples_of}
use Rattle.cx_interp_islands.proofs.samples.+take.Given as goal

-- the part that runs is among those that are left
abbrev pub invariant-take_parts-loop-statement : goal.invariant-take_parts-loop-statement
invariant-take_parts-loop-statement g l =
    (parts_after (plain_component l.part) (says (g.S.Sampler.look l.initial.sampler)) (plain_statements (drop l.statement-index l.parts)) l.number l.offset (samples_of l.samples)
    ≡ parts_after (plain_component l.part) (says (g.S.Sampler.look l.initial.sampler)) (plain_statements l.parts) l.initial.number l.initial.offset (samples_of l.initial.samples))
    × (earlier_fault (g.S.Sampler.fault l.sampler) (first_unclear (g.S.Sampler.look l.initial.sampler) (parts_asked (plain_component l.part) (says (g.S.Sampler.look l.initial.sampler)) (plain_statements (drop l.statement-index l.parts)) l.number l.offset (samples_of l.samples)))
    ≡ earlier_fault (g.S.Sampler.fault l.initial.sampler) (first_unclear (g.S.Sampler.look l.initial.sampler) (parts_asked (plain_component l.part) (says (g.S.Sampler.look l.initial.sampler)) (plain_statements l.parts) l.initial.number l.initial.offset (samples_of l.initial.samples))))
    × (g.S.Sampler.look l.sampler ≡ g.S.Sampler.look l.initial.sampler)
    × AllPorts (g.S.Sampler.answers l.sampler) (tests_in (plain_statements (drop l.statement-index l.parts)))
    × AreStill (g.S.Sampler.answers l.initial.sampler) (g.S.Sampler.answers l.sampler)
    × (l.offset < 2 ^ 64 - 1)
    × (l.number + ifs_in (plain_statements (drop l.statement-index l.parts)) ≤ length l.samples)
    × (length l.samples ≡ length l.initial.samples)
    × (g.S.Sampler.kept l.sampler ≡ g.S.Sampler.kept l.initial.sampler)

-- what the arms have taken so far, and what those that are left take, is all
abbrev pub invariant-take_arms-loop-statement : goal.invariant-take_arms-loop-statement
invariant-take_arms-loop-statement g l =
    (arms_after (plain_component l.part) (says (g.S.Sampler.look l.initial.sampler)) (plain_statements (drop l.statement-index l.arms)) l.number l.offset (samples_of l.samples)
    ≡ arms_after (plain_component l.part) (says (g.S.Sampler.look l.initial.sampler)) (plain_statements l.arms) l.initial.number l.offset (samples_of l.initial.samples))
    × (earlier_fault (g.S.Sampler.fault l.sampler) (first_unclear (g.S.Sampler.look l.initial.sampler) (arms_asked (plain_component l.part) (says (g.S.Sampler.look l.initial.sampler)) (plain_statements (drop l.statement-index l.arms)) l.number l.offset (samples_of l.samples)))
    ≡ earlier_fault (g.S.Sampler.fault l.initial.sampler) (first_unclear (g.S.Sampler.look l.initial.sampler) (arms_asked (plain_component l.part) (says (g.S.Sampler.look l.initial.sampler)) (plain_statements l.arms) l.initial.number l.offset (samples_of l.initial.samples))))
    × (g.S.Sampler.look l.sampler ≡ g.S.Sampler.look l.initial.sampler)
    × AllPorts (g.S.Sampler.answers l.sampler) (tests_in (plain_statements (drop l.statement-index l.arms)))
    × AreStill (g.S.Sampler.answers l.initial.sampler) (g.S.Sampler.answers l.sampler)
    × (l.number + ifs_in (plain_statements (drop l.statement-index l.arms)) ≤ length l.samples)
    × (length l.samples ≡ length l.initial.samples)
    × (g.S.Sampler.kept l.sampler ≡ g.S.Sampler.kept l.initial.sampler)
