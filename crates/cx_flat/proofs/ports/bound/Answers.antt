use Rattle.std.proofs.Common.{◌≡◌, ◌∙◌, ◌+◌, true, false, [], ◌∷◌, drop, ap, sym}
use Rattle.std.specs.Prelude.{if◌then◌else◌}
use Rattle.std.proofs.lemmas.List.{drop_all}
use Rattle.cx_text.proofs.ListLaws.{drop_item}
use Rattle.cx_meaning.specs.Active.{same_port}
use Rattle.cx_design.specs.PlainForms.{plain_assigns}
use Rattle.cx_flattening.specs.Events.{source_in}
use Rattle.cx_flat.proofs.ports.bound.Goals as goal

pub returns-then-same_port : goal.returns-then-same_port
returns-then-same_port c =
    let xs = c.args.inputs.now in
    let i = c.loop-input.input-index in
    let rest : drop i xs ≡ c.input-item.result ∷ drop (i + 1) xs = drop_item xs i c.input-item.result c.input-item.is c.loop-input-test.true in
    let same : same_port c.input-item.result.target c.args.port ≡ true = sym c.same_port.ensures.value ∙ c.if-same_port.true in
    record {
      value = sym (ap (λ b. if b then c.input-item.result.source.port else source_in 0 (plain_assigns (drop (i + 1) xs)) c.args.port) same)
          ∙ ap (λ l. source_in 0 (plain_assigns l) c.args.port) (sym rest) ∙ c.loop-input.invariant;
    }

pub loop-input-preserved : goal.loop-input-preserved
loop-input-preserved c =
    let xs = c.args.inputs.now in
    let i = c.loop-input.input-index in
    let rest : drop i xs ≡ c.input-item.result ∷ drop (i + 1) xs = drop_item xs i c.input-item.result c.input-item.is c.loop-input-test.true in
    let other : same_port c.input-item.result.target c.args.port ≡ false = sym c.same_port.ensures.value ∙ c.if-same_port.false in
    sym (ap (λ b. if b then c.input-item.result.source.port else source_in 0 (plain_assigns (drop (i + 1) xs)) c.args.port) other)
    ∙ ap (λ l. source_in 0 (plain_assigns l) c.args.port) (sym rest) ∙ c.loop-input.invariant

pub returns : goal.returns
returns c =
    let none : drop c.loop-input.input-index c.args.inputs.now ≡ [] = drop_all _ _ c.loop-input-test.false in
    record { value = sym (ap (λ l. source_in 0 (plain_assigns l) c.args.port) none) ∙ c.loop-input.invariant }
