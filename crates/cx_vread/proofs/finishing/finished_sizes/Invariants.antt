use Rattle.std.proofs.Common.{◌≡◌, true, ◌++◌, drop}
use Rattle.std.specs.Prelude.{nat_lt}
use Rattle.std.specs.List.{list_all}
use Rattle.cx_vscope.specs.Drafts.{draft_sizes}
use Rattle.cx_vread.proofs.finishing.finished_sizes.Given as goal

abbrev pub invariant-loop-draft : goal.invariant-loop-draft
invariant-loop-draft l = record {
  all : l.sizes.items ++ draft_sizes (drop l.draft-index l.drafts) ≡ draft_sizes l.drafts;
  held : list_all (λ k. nat_lt k 18446744073709551616) (draft_sizes (drop l.draft-index l.drafts)) ≡ true;
}
