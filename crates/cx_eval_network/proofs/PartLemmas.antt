-- The ports of a component, one behind the other.
use Rattle.std.proofs.Common.{◌≡◌, ℕ, ◌+◌, ◌≤◌, ⊎_elim, Bool, true, false, Some, None, List, [], ◌∷◌, ◌++◌, length, nat_lt, refl, sym, ap, ◌∙◌, subst, arith}
use Rattle.std.specs.Prelude.{if◌then◌else◌}
use Rattle.std.proofs.lemmas.List.{length-append}
use Rattle.cx_meaning.specs.declared.ports.PortRef.{PortRef}
use Rattle.cx_meaning.specs.Instances.{Instance}
use Rattle.cx_graphs.proofs.Lists.{get_last}
use Rattle.cx_design_leads.specs.Nodes.{below, node_of}
use Rattle.cx_eval_network.specs.Parts.{ArePorts}

pub not_below : (count first n : ℕ) → below count first n ≡ None → count ≤ n
not_below count first n e = choice (nat_lt n count) refl e
  where
    choice : (b : Bool) → nat_lt n count ≡ b → (if b then Some (first + n) else None) ≡ None → count ≤ n
    choice true f g = absurd (cc)
    choice false f g = le_false f
      where
        le_false : nat_lt n count ≡ false → count ≤ n
        le_false e = grind arith

pub ports_more : (i : Instance) (count : ℕ) (list more : List PortRef) (p : PortRef) → ArePorts i count list → node_of i p ≡ Some count → more ≡ list ++ p ∷ [] → ArePorts i (count + 1) more
ports_more i count list more p h e is = subst (ArePorts i (count + 1)) (sym is) (record {
  sized = length-append list (p ∷ []) ∙ ap (λ n. n + 1) h.sized;
  each = λ m q f. ⊎_elim (λ g. h.each m q g) (λ (b : (m ≡ length list) × (p ≡ q)). ap (node_of i) (sym b.1) ∙ e ∙ ap Some (sym (b.0 ∙ h.sized))) (get_last list p q m f);
})
