use Rattle.std.proofs.Common.{[]}
use Rattle.cx_names_rules.proofs.FoundLemmas.{sees_all, sees_none}
use Rattle.cx_names_rules.proofs.duplicates.group_duplicates.Goals as goal

pub returns : goal.returns
returns c = sees_all _ _ _ _ (c.in_ok-see_groups.ensures [] (sees_none c.new-seen.result c.new-seen.ensures))
