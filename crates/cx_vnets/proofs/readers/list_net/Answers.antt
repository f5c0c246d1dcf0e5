use Rattle.std.proofs.Common.{◌≡◌, Some, slice_get, ap, ◌∙◌, subst, arith}
use Rattle.std.proofs.lemmas.Result.{on_ok_weaker}
use Rattle.cx_graphs.specs.Graphs.{edges_of}
use Rattle.cx_vnets.specs.Carriers.{origin_at}
use Rattle.cx_vnets.specs.Readers.{IsListed, IsWatch, IsHeard, IsFound}
use Rattle.cx_vnets.proofs.DriveLemmas.{hears_given}
use Rattle.cx_text.proofs.ListLaws.{read_at}
use Rattle.cx_vnets.proofs.readers.list_net.Goals as goal

pub list_code-requires : goal.list_code-requires
list_code-requires c = record { some = omega (arith, c.requires.within, c.len-count.ensures, c.args.nets.now.drivers.ok.0) }

pub returns-in-Some-clause-found : goal.returns-in-Some-clause-found
returns-in-Some-clause-found c =
    let n = c.args.nets.now in
    let f = c.args.net in
    let p = c.in-Given.place in
    let code = c.in-Some.code.now in
    let origins = c.args.origins.now in
    let nets = edges_of c.list_code.new.of_nets.items in
    let arrays = edges_of c.list_code.new.of_arrays.items in
    let watches = c.list_code.new.watches in
    let at = read_at n.drivers.items f c.index.result.now c.requires.within c.index.ensures ∙ ap Some c.in-Given.is in
    let there = subst (λ xs. slice_get xs c.in-Given.code ≡ Some code) c.deref.ensures.value
    (read_at c.deref.result.now c.in-Given.code code c.in-Some.ensures.lookup.3.0 c.in-Some.ensures.lookup.1) in
    on_ok_weaker c.list_code.result
    (λ well.
    subst (λ count. IsFound n origins nets arrays watches count f) (c.len-count.ensures ∙ n.drivers.ok.0)
    (hears_given n (λ g. IsListed nets f (origin_at origins g)) (IsListed arrays f) (λ g v sided. IsWatch watches c.len-count.result f (origin_at origins g) v sided) f c.in-Given.code p code at there
    (subst (λ g. IsHeard origins nets arrays watches c.len-count.result p g code) c.in_ok-number.ensures.value well.listed))) c.list_code.ensures
