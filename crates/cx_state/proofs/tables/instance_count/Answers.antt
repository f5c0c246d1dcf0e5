use Rattle.std.proofs.Common.{◌<◌, sym, subst}
use Rattle.cx_design.proofs.DesignFacts.{main_within}
use Rattle.cx_design.specs.PlainDesigns.{plain_design}
use Rattle.cx_state.proofs.TableLemmas.{main_count}
use Rattle.cx_state.proofs.tables.instance_count.Goals as goal

pub bounds-tallies-main : goal.bounds-tallies-main
bounds-tallies-main c =
    subst (λ n. c.args.design.now.main < n) (sym c.requires.sized) (main_within c.args.design.now.components.items c.args.design.now.main c.args.design.now.keeps)

pub returns : goal.returns
returns c =
    main_count (plain_design c.args.design.now) c.args.order.now c.args.tallies.now _ c.requires.first c.requires.known
    (subst (λ n. c.args.design.now.main < n) (sym c.requires.sized) (main_within c.args.design.now.components.items c.args.design.now.main c.args.design.now.keeps)) c.requires.few
