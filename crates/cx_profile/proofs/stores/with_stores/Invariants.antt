use Rattle.std.proofs.Common.{◌≡◌, ◌++◌, drop, map}
use Rattle.cx_design.specs.PlainForms.{plain_group}
use Rattle.cx_profile.specs.Growing as growing
use Rattle.cx_profile.proofs.stores.with_stores.Given as goal

-- the stores so far, and those of the counts that are left, are all
abbrev pub invariant-loop-count : goal.invariant-loop-count
invariant-loop-count l =
    map plain_group l.all.items ++ growing.store_groups l.place l.names l.memory.cell l.memory.address_width l.first.name l.first.group l.word (drop l.count-index l.counts)
    ≡ map plain_group l.fn.groups.items ++ growing.store_groups l.place l.names l.memory.cell l.memory.address_width l.first.name l.first.group 0 l.counts
