use Rattle.std.proofs.Common.{◌≡◌, ◌+◌, ◌-◌, ◌==◌, ap, ◌∙◌, map, take, drop, length, arith, [], ◌∷◌}
use Rattle.std.proofs.lemmas.Grind.{common_steps}
use Rattle.std.proofs.lemmas.List.{map-append}
use Rattle.cx_vsound.specs.Parts.{counts_in}
use Rattle.cx_vsound.proofs.ModuleSteps.{modules_next, seen_next}
use Rattle.cx_vsound.proofs.modules.modules.Goals as goal

pub loop-i-preserved : goal.loop-i-preserved
loop-i-preserved c =
    let ms = c.args.modules.now in
    let i = c.loop-i.i in
    let all : take (length ms - (i + 1)) (drop (i + 1) ms) ≡ drop (i + 1) ms = grind (arith, common_steps) in
    record {
      before = seen_next c.args.modules.now c.loop-i.i c.index-modules-i.result c.loop-i.before c.push.new.self c.loop-i-test.true c.index-modules-i.is c.loop-i.invariant.before c.in_ok-push.ensures;
      lines = modules_next c.args.modules.now c.loop-i.i c.index-modules-i.result c.loop-i.search c.in_ok-search.search
          (map counts_in c.loop-i.counts.items) (map counts_in c.push-in-loop-i.new.self.items) _ (counts_in c.module_counts-own.result) c.is_empty-is_main.result _
          c.loop-i-test.true c.index-modules-i.is c.loop-i.invariant.before c.module_counts-own.ensures (ap (map counts_in) c.deref.ensures.value)
          (c.is_empty-is_main.ensures ∙ ap (λ xs. length xs == 0) all) c.in_ok-search.ensures
          (ap (map counts_in) c.in_ok-push-2.ensures.items ∙ map-append counts_in c.loop-i.counts.items (c.module_counts-own.result ∷ []))
          ∙ c.loop-i.invariant.lines;
    }
