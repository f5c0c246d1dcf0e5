use Rattle.std.proofs.Common.{inl, inr, sym, ◌∙◌}
use Rattle.cx_vnets.proofs.carriers.has_origin.Goals as goal

pub returns-then-origin_of-net : goal.returns-then-origin_of-net
returns-then-origin_of-net c = λ e. inl (sym c.origin_of.ensures ∙ c.if-origin_of-net.true)

pub returns : goal.returns
returns c = λ e. inr (c.carries_on.ensures e)
