use Rattle.std.proofs.Common.{◌≡◌, ◌+◌, ◌<◌, Some, length, get_or, sym, subst}
use Rattle.std.proofs.lemmas.Option.{slice_get-get_or}
use Rattle.cx_graphs.specs.Graphs.{edges_of}
use Rattle.cx_vnets.specs.declared.stores.Write.{Write}
use Rattle.cx_vnets.specs.Readers.{IsListed}
use Rattle.cx_vnets.specs.Written.{ReadsNoWritten}
use Rattle.cx_vnets.proofs.StaleLemmas.{tells_more}
use Rattle.cx_vnets.proofs.CurrentLemmas.{unwritten_more}
use Rattle.cx_text.proofs.ListLaws.{read_at}
use Rattle.cx_vnets.proofs.stores.mark_written.Goals as goal

pub loop-number-preserved : goal.loop-number-preserved
loop-number-preserved c =
    let rows = edges_of c.args.of_arrays.now in
    let k = c.loop-number.number in
    let within : k < length c.args.writes.now = subst (λ n. k < n) (sym c.requires.long) c.loop-number-test.true in
    tells_more c.args.ranks.now c.args.stale.now c.loop-number.stale c.mark_store.new.stale (ReadsNoWritten rows c.args.stores.now c.args.writes.now k)
    (λ f. (w : Write) → c.index-writes-number.result ≡ Some w → IsListed rows f (get_or c.args.stores.now k _).array → ⊥) (ReadsNoWritten rows c.args.stores.now c.args.writes.now (k + 1))
    c.loop-number.invariant c.mark_store.ensures
    (λ f before here. unwritten_more rows c.args.stores.now c.args.writes.now k f _ c.index-writes-number.result (slice_get-get_or c.args.stores.now k _ c.loop-number-test.true)
    (read_at c.args.writes.now k c.index-writes-number.result within c.index-writes-number.is) before here)
