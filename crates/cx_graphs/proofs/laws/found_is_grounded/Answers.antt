use Rattle.std.proofs.Common.{length}
use Rattle.cx_graphs.proofs.Ends.{ends_are_grounded, grounded_end}
use Rattle.cx_graphs.proofs.laws.found_is_grounded.Goals as goal

pub returns : goal.returns
returns c = record { sound = λ g n h. ends_are_grounded g (length g) n h; all = λ g n h. grounded_end g n h }
