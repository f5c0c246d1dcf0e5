use Rattle.std.proofs.Common.{◌∙◌, [], ◌++◌, ◌+◌, drop, ap, map}
use Rattle.std.proofs.lemmas.List.{map_push}
use Rattle.cx_vtree.specs.PlainParts.{plain_assign}
use Rattle.cx_emit.specs.Numbered.{numbered_from}
use Rattle.cx_emit.specs.Sources.{register_assign}
use Rattle.cx_emit.proofs.DrivenLemmas.{one_register_more}
use Rattle.cx_emit.proofs.driven.undriven_registers.Goals as goal

pub loop-number-preserved : goal.loop-number-preserved
loop-number-preserved c =
    ap (λ done. done ++ numbered_from (register_assign []) (c.loop-number.number + 1) (drop (c.loop-number.number + 1) c.args.widths.now))
    (ap (map plain_assign) c.in_ok-push.ensures.items ∙ map_push plain_assign c.loop-number.driven.items c.in_ok-undriven_register.field-0)
    ∙ one_register_more c.args.widths.now c.loop-number.number (map plain_assign c.loop-number.driven.items) (plain_assign c.in_ok-undriven_register.field-0) _ c.loop-number-test.true
    c.in_ok-undriven_register.ensures.value c.loop-number.invariant
