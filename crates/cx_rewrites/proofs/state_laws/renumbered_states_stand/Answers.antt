use Rattle.cx_rewrites.proofs.StandingLemmas.{under_stands, merge_stands, put_stands, idle_stands}
use Rattle.cx_rewrites.proofs.state_laws.renumbered_states_stand.Goals as goal

pub returns-clause-idle : goal.returns-clause-idle
returns-clause-idle c = λ number counts i j s z tree stands. idle_stands number counts i j s z tree stands

pub returns-clause-merged : goal.returns-clause-merged
returns-clause-merged c = λ number counts part cells set other one two three four same first second.
    merge_stands number counts part cells set other one three two four same first second

pub returns-clause-child : goal.returns-clause-child
returns-clause-child c = λ number counts part cells n kid s z at stands. under_stands number counts part cells n kid s z at stands

pub returns-clause-back : goal.returns-clause-back
returns-clause-back c = λ number counts part cells n kid own twin s z at same child stands. put_stands number counts part cells n kid own twin s z at same child stands
