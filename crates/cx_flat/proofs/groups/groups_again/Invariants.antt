use Rattle.std.proofs.Common.{◌≡◌, map}
use Rattle.std.specs.List.{range_with_len}
use Rattle.cx_flattening.specs.Flattened.{first_copy}
use Rattle.cx_flat.specs.Callers.{kids_in, part_of}
use Rattle.cx_flat.proofs.GroupLemmas.{GroupsUpTo}
use Rattle.cx_flat.proofs.groups.groups_again.Given as goal

-- the own groups and the copies for the invokes so far; the numbers so far are those of first copies
abbrev pub invariant-loop-invoke : goal.invariant-loop-invoke
invariant-loop-invoke l = record {
  groups : GroupsUpTo (kids_in l.caller) l.caller.part.now l.invoke-index l.groups.items;
  firsts : l.firsts.items ≡ map (first_copy (kids_in l.caller) (part_of l.caller)) (range_with_len 0 l.invoke-index);
}
