use Rattle.std.proofs.Common.{◌≡◌, ◌+◌, ◌<◌, ◌∷◌, ◌++◌, [], ℕ, ◌⊎◌, ⊎_elim, sym, subst, arith}
use Rattle.cx_text.specs.Members.{In}
use Rattle.cx_graphs.proofs.EdgeLemmas.{in_front, in_end, front_or_end}
use Rattle.cx_graphs.proofs.grounding.numbers.Goals as goal

below_or_at : (m n : ℕ) → m < n + 1 → (m < n) ⊎ (n ≡ m)
below_or_at m n h = grind arith

pub loop-number-preserved : goal.loop-number-preserved
loop-number-preserved c =
    let k = c.loop-number.number in
    let items = c.loop-number.list.items in
    record {
      each = λ n h. subst (λ l. In l n) (sym c.in_ok-push.ensures.items) (⊎_elim (λ low. in_front items k n (c.loop-number.invariant.each n low)) (λ e. subst (In (items ++ k ∷ [])) e (in_end items k)) (below_or_at n k h));
      few = λ n i. ⊎_elim (λ j. let low = c.loop-number.invariant.few n j in omega (arith, low)) (λ e. omega (arith, e)) (front_or_end items k n (subst (λ l. In l n) c.in_ok-push.ensures.items i));
    }
