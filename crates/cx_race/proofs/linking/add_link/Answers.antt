use Rattle.std.proofs.Common.{inl, refl, sym, subst}
use Rattle.cx_text.specs.Members.{In}
use Rattle.cx_race.specs.Cells.{cell_in}
use Rattle.cx_race.proofs.linking.add_link.Goals as goal

pub add_edges-requires : goal.add_edges-requires
add_edges-requires c = record { within = c.requires.within c.in-Cell.cell (subst (λ p. In (cell_in p) c.in-Cell.cell) (sym c.in-Cell.is) (inl refl)) }
