use Rattle.std.proofs.Common.{refl, sym, ap, subst}
use Rattle.cx_meaning.specs.Instances.{tree_of}
use Rattle.cx_design.proofs.DesignFacts.{main_there}
use Rattle.cx_design.specs.PlainDesigns.{plain_design}
use Rattle.cx_design_sizes.specs.declared.tallies.LimitTally.{LimitTally}
use Rattle.cx_limits.specs.Rows.{IsRowOf}
use Rattle.cx_limits.proofs.TableLemmas.{counts_are}
use Rattle.cx_limits.proofs.checking.main_counts.Goals as goal

pub returns : goal.returns
returns c =
    let d = plain_design c.args.design.now in
    counts_are (tree_of d) c.row_at-row.result c.above-trees.result _ (subst (IsRowOf (tree_of d)) (sym c.row_at-row.ensures) (c.requires.rows.own d.main (main_there d c.args.design.now.keeps))) c.above-trees.ensures
    refl refl (ap (λ (t : LimitTally). t.words) c.in_ok-words.ensures) refl
