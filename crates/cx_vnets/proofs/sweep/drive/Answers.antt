use Rattle.std.proofs.Common.{◌≡◌, Some, IsSome, sym, subst, arith}
use Rattle.cx_vnets.specs.Edges.{code_of, width_of}
use Rattle.cx_vnets.proofs.DriveLemmas.{rule_held, tied_there, rule_tied, code_there, code_fits, rule_given}
use Rattle.cx_vnets.proofs.sweep.drive.Goals as goal

pub bounds-values-other : goal.bounds-values-other
bounds-values-other c =
    tied_there c.args.nets.now c.args.stored.now c.requires.fits c.args.values.now c.requires.widths c.args.net c.requires.within c.index.result.now c.index.ensures c.in-Tied.other c.in-Tied.is

pub index-requires-in-Given : goal.index-requires-in-Given
index-requires-in-Given c =
    let lt = code_there c.args.nets.now c.args.stored.now c.requires.fits c.args.values.now c.requires.widths c.args.net c.requires.within c.index.result.now c.index.ensures c.in-Given.code c.in-Given.place c.in-Given.is in
    omega (arith, lt, c.args.nets.now.codes.ok.0)

pub settled-requires-clause-fits : goal.settled-requires-clause-fits
settled-requires-clause-fits c =
    subst (λ xs. IsSome (width_of c.args.values.now xs c.in-Given.place c.index-in-Given.result.now)) (sym c.deref.ensures.value)
    (code_fits c.args.nets.now c.args.stored.now c.requires.fits c.args.values.now c.requires.widths c.args.net c.requires.within c.index.result.now c.index.ensures c.in-Given.code c.in-Given.place c.in-Given.is
    c.index-in-Given.result.now c.index-in-Given.ensures)

pub returns-in-Held : goal.returns-in-Held
returns-in-Held c =
    rule_held c.args.nets.now c.args.stored.now c.requires.fits c.args.values.now c.requires.widths c.args.net c.requires.within c.index.result.now c.index.ensures c.in-Held.is c.index-in-Held.result.now c.index-in-Held.ensures

pub returns-in-Tied : goal.returns-in-Tied
returns-in-Tied c =
    rule_tied c.args.nets.now c.args.stored.now c.requires.fits c.args.values.now c.requires.widths c.args.net c.requires.within c.index.result.now c.index.ensures c.in-Tied.other c.in-Tied.is
    c.index-values-other.result c.index-values-other.is

pub returns-in-Given : goal.returns-in-Given
returns-in-Given c =
    rule_given c.args.nets.now c.args.stored.now c.requires.fits c.args.values.now c.requires.widths c.args.net c.requires.within c.index.result.now c.index.ensures c.in-Given.code c.in-Given.place c.in-Given.is
    c.index-in-Given.result.now c.index-in-Given.ensures c.settled.result
    (subst (λ xs. code_of c.args.values.now xs c.in-Given.place c.index-in-Given.result.now ≡ Some c.settled.result) c.deref.ensures.value c.settled.ensures)
