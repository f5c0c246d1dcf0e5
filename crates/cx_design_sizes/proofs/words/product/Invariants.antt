use Rattle.std.proofs.Common.{◌≡◌, ◌*◌, ◌-◌, ◌^◌, ◌≤◌, drop}
use Rattle.cx_text.specs.Loading.{word_count}
use Rattle.cx_design_sizes.specs.Capped.{capped}
use Rattle.cx_design_sizes.proofs.words.product.Given as goal

abbrev pub invariant-loop-size : goal.invariant-loop-size
invariant-loop-size l = (capped (l.words * word_count (drop l.size-index l.sizes)) ≡ capped (word_count l.sizes)) × (l.words ≤ 2 ^ 64 - 1)
