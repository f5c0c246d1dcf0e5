use Rattle.std.proofs.Common.{ℕ, ◌+◌, ◌<◌, List, sym, subst}
use Rattle.cx_vnets.specs.declared.codes.Code.{Code}
use Rattle.cx_vnets.specs.Reads.{CodeReads}
use Rattle.cx_vnets.specs.Stale.{rank_at}
use Rattle.cx_vnets.proofs.ranks.+reads_below.Goals as goal

abbrev Below : List ℕ → ℕ → ℕ → Code → Type 0
Below ranks first rank x = CodeReads (λ k. rank_at ranks (first + k) < rank) (λ a. Unit {0}) x

pub returns-in-Item : goal.returns-in-Item
returns-in-Item t c = λ e.
    let B = Below c.args.ranks.now c.args.first c.args.rank in
    subst B (sym c.in-Item.is) (tt, subst B c.deref.ensures (c.reads_below.ensures e))

pub returns-then-reads_below : goal.returns-then-reads_below
returns-then-reads_below t c = λ e.
    let B = Below c.args.ranks.now c.args.first c.args.rank in
    subst B (sym c.in-Binary.is)
    (subst B c.deref-in-Binary.ensures (c.reads_below-in-Binary.ensures c.if-reads_below.true), subst B c.deref-then-reads_below.ensures (c.reads_below-then-reads_below.ensures e))

pub returns-then-reads_below-2 : goal.returns-then-reads_below-2
returns-then-reads_below-2 t c = λ e.
    let B = Below c.args.ranks.now c.args.first c.args.rank in
    subst B (sym c.in-Cat.is)
    (subst B c.deref-in-Cat.ensures (c.reads_below-in-Cat.ensures c.if-reads_below-2.true), subst B c.deref-then-reads_below-2.ensures (c.reads_below-then-reads_below-2.ensures e))

pub returns-then-reads_below-4 : goal.returns-then-reads_below-4
returns-then-reads_below-4 t c = λ e.
    let B = Below c.args.ranks.now c.args.first c.args.rank in
    subst B (sym c.in-Choose.is) (
      subst B c.deref-in-Choose.ensures (c.reads_below-in-Choose.ensures c.if-reads_below-3.true),
      subst B c.deref-then-reads_below-3.ensures (c.reads_below-then-reads_below-3.ensures c.if-reads_below-4.true),
      subst B c.deref-then-reads_below-4.ensures (c.reads_below-then-reads_below-4.ensures e),
    )
