use Rattle.std.proofs.Common.{◌<◌, ◌≤◌, sym, ◌∙◌, subst, arith}
use Rattle.std.proofs.lemmas.List.{length-map}
use Rattle.cx_text.specs.Members.{In}
use Rattle.cx_graphs.specs.Graphs.{edges_of}
use Rattle.cx_vnets.specs.Readers.{IsListed}
use Rattle.cx_vnets.specs.Stale.{rank_at}
use Rattle.cx_vnets.proofs.StaleLemmas.{tells_so}
use Rattle.cx_graphs.proofs.Members.{targets_are}
use Rattle.cx_vnets.proofs.stores.mark_readers.Goals as goal

pub returns-in-Some : goal.returns-in-Some
returns-in-Some c =
    let rows = edges_of c.args.of_arrays.now in
    let there = c.in-Some.ensures.lookup.3.0 in
    let within = subst (λ n. c.args.array < n) (sym (length-map c.args.of_arrays.now (λ v. v.items))) there in
    let row = c.deref.ensures.value ∙ sym (targets_are c.args.of_arrays.now c.args.array c.in-Some.row.now there c.in-Some.ensures.lookup.1) in
    tells_so c.args.ranks.now c.args.stale.now c.mark_row.new.stale (λ f. 0 ≤ rank_at c.args.ranks.now f → In c.deref.result.now f → ⊥) (λ f. IsListed rows f c.args.array → ⊥) c.mark_row.ensures.tells
    (λ f h listed. h (omega arith) (subst (λ ns. In ns f) (sym row) (listed within)))
