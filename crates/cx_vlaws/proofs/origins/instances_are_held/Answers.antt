use Rattle.cx_vlaws.proofs.Holders.{part_of}
use Rattle.cx_vlaws.proofs.origins.instances_are_held.Goals as goal

pub returns : goal.returns
returns c source i p sound at other = let (q, around, is_part) = part_of source sound i p at other in (is_part.lower, (q, around))
