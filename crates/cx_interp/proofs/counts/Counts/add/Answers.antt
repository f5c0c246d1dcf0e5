use Rattle.std.proofs.Common.{List, ℕ, ◌<◌, [], length, set, sym, ap, ◌∙◌, subst, arith}
use Rattle.std.proofs.lemmas.List.{map-set}
use Rattle.cx_meaning.specs.Active.{group}
use Rattle.cx_profiling.specs.Counting.{once}
use Rattle.cx_text.proofs.ListLaws.{length-map}
use Rattle.cx_interp.specs.Counts.{GrowsAt, plain_counts}
use Rattle.cx_interp.proofs.TableCounts.{one_counted, read_mapped}
use Rattle.cx_interp.proofs.counts.Counts.add.Goals as goal

pub returns-then-instance-len : goal.returns-then-instance-len
returns-then-instance-len c =
    let inside : c.args.instance < length c.args.self.now.rows.items = omega arith in
    let row : List ℕ = c.index_mut.result.now.items in
    let table : List (List ℕ) = plain_counts c.args.self.now in
    subst (λ (t : List (List ℕ)). GrowsAt c.args.instance (λ g. once ((group c.args.group).offset g)) table t)
    (sym (map-set (λ row. row.items) c.args.self.now.rows.items c.args.instance c.add_one.new.row ∙ ap (λ (r : List ℕ). set table c.args.instance r) c.add_one.ensures))
    (one_counted table c.args.instance c.args.group row (subst (λ k. c.args.instance < k) (sym (length-map (λ row. row.items) c.args.self.now.rows.items)) inside)
    (read_mapped (λ row. row.items) c.args.self.now.rows.items c.args.instance c.index_mut.result.now [] inside c.index_mut.ensures.value))
