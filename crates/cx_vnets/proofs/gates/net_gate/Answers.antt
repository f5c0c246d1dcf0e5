use Rattle.std.proofs.Common.{◌≡◌, Some, slice_get, ap, ◌∙◌, subst}
use Rattle.std.proofs.lemmas.Option.{IfSome_then}
use Rattle.cx_text.proofs.ListLaws.{read_at}
use Rattle.cx_vnets.proofs.gates.net_gate.Goals as goal

pub returns-in-Some : goal.returns-in-Some
returns-in-Some c =
    let n = c.args.nets.now in
    let code = c.in-Some.code.now in
    let at = read_at n.drivers.items c.args.net c.index.result.now c.requires.within c.index.ensures ∙ ap Some c.in-Given.is in
    let there = subst (λ xs. slice_get xs c.in-Given.code ≡ Some code) c.deref.ensures.value
    (read_at c.deref.result.now c.in-Given.code code c.in-Some.ensures.lookup.3.0 c.in-Some.ensures.lookup.1) in
    IfSome_then c.origin_gate.result c.origin_gate.ensures (λ g h. record {
      number = c.in-Given.code;
      place = c.in-Given.place;
      code = code;
      local = h.0;
      driver = at;
      stands = there;
      is_gate = h.1;
      there = h.2;
    })
