use Rattle.std.proofs.Common.{◌≡◌, ◌+◌, Some, option_and_then, slice_get, ap, ◌∙◌, subst}
use Rattle.std.proofs.lemmas.Option.{IfSome_then}
use Rattle.cx_vnets.specs.Arrays.{word_at}
use Rattle.cx_vnets.specs.Values.{code_at, driver_in}
use Rattle.cx_vnets.proofs.WatchLemmas.{net_value}
use Rattle.cx_text.proofs.ListLaws.{read_at}
use Rattle.cx_vnets.proofs.carriers.source_of.Goals as goal

pub returns-in-Tied : goal.returns-in-Tied
returns-in-Tied c =
    let n = c.args.nets.now in
    let at = read_at n.drivers.items c.args.net c.index.result.now c.requires.within c.index.ensures ∙ ap Some c.in-Tied.is in
    λ s nets. ap (driver_in n s nets c.args.net) at

pub returns-in-Some : goal.returns-in-Some
returns-in-Some c =
    let n = c.args.nets.now in
    let p = c.in-Given.place in
    let code = c.in-Some.code.now in
    let at = read_at n.drivers.items c.args.net c.index.result.now c.requires.within c.index.ensures ∙ ap Some c.in-Given.is in
    let there = subst (λ xs. slice_get xs c.in-Given.code ≡ Some code) c.deref.ensures.value
    (read_at c.deref.result.now c.in-Given.code code c.in-Some.ensures.lookup.3.0 c.in-Some.ensures.lookup.1) in
    IfSome_then c.placed_net.result c.placed_net.ensures (λ source h s nets.
    ap (driver_in n s nets c.args.net) at ∙ ap (option_and_then (code_at s nets p)) there
    ∙ net_value (λ k. nets (p.nets + k)) (λ a. word_at s.arrays.items (p.arrays + a)) code h.0 h.1 ∙ ap nets h.2)
