use Rattle.std.proofs.Common.{◌≡◌, ◌∙◌, ℕ, List, map, ap, subst}
use Rattle.std.specs.List.{range_with_len}
use Rattle.cx_meaning.specs.Control.{groups_of}
use Rattle.cx_design.specs.PlainForms.{plain_statement}
use Rattle.cx_flattening.specs.Copies.{enabled_below}
use Rattle.cx_flat.proofs.EnableLemmas.{PastAll, below_is}
use Rattle.cx_flat.proofs.enabled.enabled_counts.Goals as goal

pub returns : goal.returns
returns c =
    let used : List ℕ = groups_of (plain_statement c.args.control.now) in
    let bound = c.in_ok-bound.bound in
    let first : c.deref.result.now ≡ used = c.deref.ensures.value ∙ c.in_ok-groups.ensures.value in
    let second : c.deref-2.result.now ≡ used = c.deref-2.ensures.value ∙ c.in_ok-groups.ensures.value in
    let third : c.deref-3.result.now ≡ used = c.deref-3.ensures.value ∙ c.in_ok-groups.ensures.value in
    record {
      value = λ g. below_is used c.in_ok-below.below.items bound c.in_ok-count.count g (subst (PastAll bound) first c.in_ok-bound.ensures.value)
          (c.in_ok-below.ensures.value ∙ ap (λ xs. map (enabled_below xs) (range_with_len 0 bound)) second) (c.in_ok-count.ensures.value ∙ ap (λ xs. enabled_below xs bound) third);
    }
