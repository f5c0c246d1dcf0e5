use Rattle.std.proofs.Common.{◌≡◌, map, drop}
use Rattle.cx_meaning.specs.Truths.{and_truth, or_truth}
use Rattle.cx_eval_drives.specs.Plain.{plain_truth}
use Rattle.cx_eval_network.specs.Evaluated.{all_shown, any_shown}
use Rattle.cx_eval_network.specs.Planned.{guards_of, numbered_guard}
use Rattle.cx_eval_network.proofs.evaluating.+planned_truth.Given as goal

abbrev pub invariant-loop-part : goal.invariant-loop-part
invariant-loop-part l =
    and_truth (plain_truth l.all) (all_shown l.own l.offset (guards_of (map numbered_guard (drop l.part-index l.part-items)))) ≡ all_shown l.own l.offset (guards_of (map numbered_guard l.part-items))

abbrev pub invariant-loop-part-2 : goal.invariant-loop-part-2
invariant-loop-part-2 l =
    or_truth (plain_truth l.any) (any_shown l.own l.offset (guards_of (map numbered_guard (drop l.part-index l.part-items)))) ≡ any_shown l.own l.offset (guards_of (map numbered_guard l.part-items))
