use Rattle.std.proofs.Common.{◌≡◌, true, ◌++◌, length, map}
use Rattle.std.specs.List.{list_all}
use Rattle.std.specs.Vec.Iter.{into_iter_items, into_iter_len}
use Rattle.cx_vtree.specs.PlainParts.{plain_module}
use Rattle.cx_vscope.specs.Drafts.{draft_module}
use Rattle.cx_vread.specs.Held.{holds_module}
use Rattle.cx_vread.proofs.finishing.finished_modules.Given as goal

-- what is finished and what is left is all, and a tree holds what is left
abbrev pub invariant-loop-draft : goal.invariant-loop-draft
invariant-loop-draft l = record {
  all : map plain_module l.modules.items ++ map draft_module (into_iter_items l.draft-iterator) ≡ map draft_module l.fn.drafts.items;
  held : list_all holds_module (map draft_module (into_iter_items l.draft-iterator)) ≡ true;
  count : into_iter_len l.draft-iterator ≡ length (into_iter_items l.draft-iterator);
}
