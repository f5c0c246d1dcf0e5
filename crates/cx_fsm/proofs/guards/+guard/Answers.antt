use Rattle.std.proofs.Common.{◌≡◌, ◌∷◌, ◌+◌, [], ◌∙◌, sym, drop, map}
use Rattle.std.proofs.lemmas.List.{drop_all, map_push}
use Rattle.cx_meaning.specs.Designs.{guards_of}
use Rattle.cx_design.specs.PlainForms.{plain_guard}
use Rattle.cx_net.specs.PlainNets.{plain_net_drivers, plain_net_expr}
use Rattle.cx_fsm.specs.Drafts.{IsWhole}
use Rattle.cx_fsm.specs.Offsets.{offset_of}
use Rattle.cx_fsm.proofs.PartLemmas.{joined_none, next_expr, next_wires, next_drivers}
use Rattle.cx_text.proofs.ListLaws.{drop_item}
use Rattle.cx_fsm.proofs.guards.+guard.Goals as goal

pub parts-loop-guard-preserved : goal.parts-loop-guard-preserved
parts-loop-guard-preserved t c =
    let other : drop c.loop-guard.guard-index c.args.guards.now ≡ c.guard-item.result ∷ drop (c.loop-guard.guard-index + 1) c.args.guards.now = drop_item _ _ _ c.guard-item.is c.loop-guard-test.true in
    let g = plain_guard c.guard-item.result in
    let rest = guards_of (map plain_guard (drop (c.loop-guard.guard-index + 1) c.args.guards.now)) in
    let wire = c.loop-guard.wire in
    let made = c.part-part.result in
    let so_far : IsWhole c.push.new.self → IsWhole c.loop-guard.draft = λ h. c.part-part.ensures.driven.whole (c.push.ensures.kept.whole h) in
    record {
      exprs = λ h.
          rw (c.push.ensures.value h, map_push plain_net_expr c.loop-guard.exprs.items made.expr)
          (next_expr wire made.behind g rest (c.part-part.ensures.behind (c.push.ensures.kept.whole h)) (map plain_net_expr c.loop-guard.exprs.items) (plain_net_expr made.expr) _
          (c.part-part.ensures.expr (c.push.ensures.kept.whole h)) (rw other at (c.loop-guard.invariant.exprs (so_far h))));
      wires = λ h. next_wires wire made.behind g rest (c.part-part.ensures.behind (c.push.ensures.kept.whole h)) _ (rw other at (c.loop-guard.invariant.wires (so_far h)));
      driven = record {
        whole = λ h. c.loop-guard.invariant.driven.whole (so_far h);
        driven = λ h.
            rw c.push.ensures.kept.kept
            (next_drivers wire made.behind g rest (c.part-part.ensures.behind (c.push.ensures.kept.whole h)) (offset_of c.args.offset) (plain_net_drivers c.loop-guard.draft.drivers.items) _ _
            (c.part-part.ensures.driven.driven (c.push.ensures.kept.whole h)) (rw other at (c.loop-guard.invariant.driven.driven (so_far h))));
      };
    }

pub parts-returns-clause-exprs : goal.parts-returns-clause-exprs
parts-returns-clause-exprs t c = λ h.
    let none : drop c.loop-guard.guard-index c.args.guards.now ≡ [] = drop_all _ _ c.loop-guard-test.false in
    sym (joined_none (map plain_net_expr c.loop-guard.exprs.items)) ∙ (rw none at (c.loop-guard.invariant.exprs h))
