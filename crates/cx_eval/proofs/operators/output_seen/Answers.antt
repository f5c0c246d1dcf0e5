use Rattle.std.proofs.Common.{◌≡◌, List, [], length, sym, ap, ◌∙◌, subst, arith}
use Rattle.std.specs.Prelude.{nat_lt}
use Rattle.cx_prim.specs.Table.{row_of}
use Rattle.cx_meaning.specs.Sights as sights
use Rattle.cx_eval_network.specs.Askings.{asked_of}
use Rattle.cx_eval_network.specs.declared.network.Found.TheVariants.{Worth}
use Rattle.cx_eval_network.proofs.GatheredLemmas.{output_given, output_lacks}
use Rattle.cx_eval_network.proofs.OutputLemmas.{front_bare, none_count}
use Rattle.cx_eval_network.proofs.ShortLemmas.{rows_are_short}
use Rattle.cx_eval.specs.Shown.{ShowLook, ShowWide}
use Rattle.cx_eval.specs.declared.sources.Source.{Source}
use Rattle.cx_eval.proofs.SourceLaws.{shown_agrees, shown_fits, shown_look}
use Rattle.cx_eval.proofs.operators.output_seen.Goals as goal

pub whole_as_front-inputs : goal.whole_as_front-inputs
whole_as_front-inputs c = let few = rows_are_short c.args.primitive.now in let is = c.port_count.ensures.value in (omega (arith, few, is), omega arith)

pub gather-requires-clause-bare : goal.gather-requires-clause-bare
gather-requires-clause-bare c = front_bare c.port_count.result

pub output-requires-clause-inputs_fit : goal.output-requires-clause-inputs_fit
output-requires-clause-inputs_fit c =
    let a = asked_of c.args.asking.now in
    let slots = c.args.slots.now in
    let few = rows_are_short c.args.primitive.now in
    let is = c.port_count.ensures.value in
    let ports = (row_of c.args.primitive.now).ports in
    let sources = c.deref.result.now in
    shown_fits a slots sources ports c.gather.new.inputs (c.gather.ensures.sized ∙ none_count c.port_count.result (omega (arith, few, is)) ∙ is) (subst (λ (xs : List Source). ShowWide a slots xs ports) (sym c.deref.ensures.value) c.requires.widths)
    (c.in-None.ensures.given (shown_look a slots sources) (shown_agrees a slots sources))

pub returns-in-Some : goal.returns-in-Some
returns-in-Some c =
    let a = asked_of c.args.asking.now in
    let slots = c.args.slots.now in
    let few = rows_are_short c.args.primitive.now in
    let is = c.port_count.ensures.value in
    let row = row_of c.args.primitive.now in
    let sources = c.deref.result.now in
    record {
      value = λ look show.
          subst (λ (xs : List Source). c.in-Some.seen ≡ sights.output_seen (λ given. row.output c.args.state.now given c.args.operator.now.port) (sights.gather look (λ q. nat_lt q (length xs)) 0 row.ports)) c.deref.ensures.value
          (output_lacks [] 0 (length sources) look row.ports (λ given. row.output c.args.state.now given c.args.operator.now.port) c.gather.new.inputs (Worth c.in-Some.seen)
          (c.gather.ensures.sized ∙ none_count c.port_count.result (omega (arith, few, is)) ∙ is) (c.in-Some.ensures.lacks look (subst (λ (xs : List Source). ShowLook a slots xs look) (sym c.deref.ensures.value) show)));
    }

pub returns-in-None : goal.returns-in-None
returns-in-None c =
    let a = asked_of c.args.asking.now in
    let slots = c.args.slots.now in
    let few = rows_are_short c.args.primitive.now in
    let is = c.port_count.ensures.value in
    let row = row_of c.args.primitive.now in
    let sources = c.deref.result.now in
    record {
      value = λ look show.
          subst (λ (xs : List Source). c.seen_of.result ≡ sights.output_seen (λ given. row.output c.args.state.now given c.args.operator.now.port) (sights.gather look (λ q. nat_lt q (length xs)) 0 row.ports)) c.deref.ensures.value
          (c.seen_of.ensures.value ∙ ap sights.of_option c.output.ensures.value
          ∙ output_given [] 0 (length sources) look row.ports (λ given. row.output c.args.state.now given c.args.operator.now.port) c.gather.new.inputs
          (c.gather.ensures.sized ∙ none_count c.port_count.result (omega (arith, few, is)) ∙ is) (c.in-None.ensures.given look (subst (λ (xs : List Source). ShowLook a slots xs look) (sym c.deref.ensures.value) show)));
    }
