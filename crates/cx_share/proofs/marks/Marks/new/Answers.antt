use Rattle.std.proofs.Common.{◌≡◌, ◌+◌, ◌/◌, ℕ, List, replicate, rules}
use Rattle.cx_share.proofs.BitLemmas.{marks_blank}
use Rattle.cx_share.proofs.marks.Marks.new.Goals as goal

pub returns : goal.returns
returns c =
    let blank : ◌≡◌ {A = List ℕ} c.in_ok-words.words.items (replicate (c.args.count / 64 + 1) 0) = search rules in
    record { value = marks_blank c.args.count (c.args.count / 64 + 1) c.in_ok-words.words.items blank }
