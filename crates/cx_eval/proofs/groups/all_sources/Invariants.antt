use Rattle.std.proofs.Common.{◌≡◌, length}
use Rattle.cx_design.specs.PlainDesigns.{plain_design}
use Rattle.cx_eval.specs.Sources.{HaveSources}
use Rattle.cx_eval.proofs.groups.all_sources.Given as goal

-- the components so far
abbrev pub invariant-loop-number : goal.invariant-loop-number
invariant-loop-number l = record {
  sized : length l.all.items ≡ l.number;
  each : HaveSources (plain_design l.design) l.all.items;
}
