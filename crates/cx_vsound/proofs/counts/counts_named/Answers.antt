use Rattle.std.proofs.Common.{map}
use Rattle.cx_vscope.specs.Drafts.{draft_modules}
use Rattle.cx_vsound.specs.Parts.{counts_in}
use Rattle.cx_vsound.proofs.FirstLemmas.{counts_absent, counts_past, counts_there}
use Rattle.cx_text.proofs.ListLaws.{read_at}
use Rattle.cx_vsound.proofs.counts.counts_named.Goals as goal

pub returns-in_default : goal.returns-in_default
returns-in_default c = counts_absent (draft_modules c.args.before.now) (map counts_in c.args.counts.now) c.args.name.now c.in_default.ensures

pub returns-in-None : goal.returns-in-None
returns-in-None c = counts_past (draft_modules c.args.before.now) c.args.counts.now c.args.name.now c.in-Some.number c.in-Some.ensures c.in-None.ensures.lookup.3

pub returns-in-Some-get : goal.returns-in-Some-get
returns-in-Some-get c =
    counts_there (draft_modules c.args.before.now) c.args.counts.now c.args.name.now c.in-Some.number c.in-Some.ensures c.in-Some-get.sums.now
    (read_at c.args.counts.now c.in-Some.number c.in-Some-get.sums.now c.in-Some-get.ensures.lookup.3.0 c.in-Some-get.ensures.lookup.1)
