use Rattle.cx_vlaws.proofs.Ties.{assigned_given}
use Rattle.cx_vlaws.proofs.origins.assigned_are_given.Goals as goal

pub returns : goal.returns
returns c source i k p a sound at there = assigned_given source sound i p at k a there
