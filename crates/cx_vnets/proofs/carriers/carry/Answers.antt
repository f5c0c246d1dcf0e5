use Rattle.std.proofs.Common.{ℕ, ◌<◌, List, sym, ◌∙◌, subst}
use Rattle.std.proofs.lemmas.List.{length-map, length-set}
use Rattle.cx_text.specs.Members.{In}
use Rattle.cx_graphs.specs.Graphs.{edges_of}
use Rattle.cx_graphs.proofs.Members.{targets_are}
use Rattle.cx_vnets.proofs.CarrierLemmas.{given_by, row_there}
use Rattle.cx_vnets.proofs.carriers.carry.Goals as goal

pub give-requires : goal.give-requires
give-requires c =
    let t = c.args.carriers.now in
    let net = c.args.net in
    let edge = row_there t.origins.items (edges_of t.rows.items) c.requires.rows net c.args.values.now c.requires.long c.requires.within in
    let there = subst (λ k. net < k) (length-map t.rows.items (λ list. list.items)) edge in
    let row = c.deref.ensures.value ∙ sym (targets_are t.rows.items net c.index.result.now there c.index.ensures) in
    record {
      within = λ f i.
          let lt = (c.requires.rows.carried net edge f (subst (λ (xs : List ℕ). In xs f) row i)).0 in
          subst (λ k. f < k) (sym (length-set c.args.values.now net c.args.value ∙ c.requires.long)) lt;
    }

pub returns : goal.returns
returns c =
    let t = c.args.carriers.now in
    let net = c.args.net in
    let e = c.give.ensures in
    let edge = row_there t.origins.items (edges_of t.rows.items) c.requires.rows net c.args.values.now c.requires.long c.requires.within in
    let there = subst (λ k. net < k) (length-map t.rows.items (λ list. list.items)) edge in
    let row = c.deref.ensures.value ∙ sym (targets_are t.rows.items net c.index.result.now there c.index.ensures) in
    given_by t.origins.items (edges_of t.rows.items) c.requires.rows net c.args.value c.args.values.now c.give.new.values c.requires.long c.requires.within c.requires.own e.long
    (λ f i. e.here f (subst (λ (xs : List ℕ). In xs f) (sym row) i)) e.kept (λ f none. e.others f (λ i. none (subst (λ (xs : List ℕ). In xs f) row i)))
