use Rattle.cx_frames.proofs.RunLemmas.{undriven_group, group_undriven, capture_undriven, island_undriven}
use Rattle.cx_frames.proofs.apart_laws.active_groups_within.Goals as goal

pub returns-clause-alone : goal.returns-clause-alone
returns-clause-alone c = λ part s g k stands off. group_undriven part g k (undriven_group part s k off g stands)

pub returns-clause-capture : goal.returns-clause-capture
returns-clause-capture c = λ part s g called k stands off. capture_undriven part g called k (undriven_group part s k off g stands)

pub returns-clause-island : goal.returns-clause-island
returns-clause-island c = λ part form place h t k off. island_undriven part form place t h k off
