-- The marks of what leads to a port that a group drives.
use Rattle.std.proofs.Common.{◌≡◌, ℕ, zero, suc, ◌<◌, inl, inr, ⊎_elim, Bool, List, [], ◌∷◌, length, get_or, refl, sym, subst, arith}
use Rattle.std.proofs.lemmas.Bool.{cases_lt}
use Rattle.std.proofs.lemmas.List.{get_or_past}
use Rattle.cx_graphs.specs.Graphs.{Edges, IsReached, at_start, by_edge, Marked}
use Rattle.cx_graphs.specs.Ways.{IsTurned}
use Rattle.cx_meaning.specs.Designs.{PlainAssign, PlainComponent, PlainDesign, PlainGroup, component_at, group_at, no_group}
use Rattle.cx_text.specs.Members.{In}
use Rattle.cx_rules.specs.Ports.{component_of}
use Rattle.cx_comb.specs.Pruning.{HasTargets, IsKept, IsPruned}
use Rattle.cx_rules.proofs.PortsLemmas.{part_is}

in_list : (groups : List PlainGroup) (g : ℕ) → g < length groups → In groups (get_or groups g no_group)
in_list [] g h = absurd (omega (arith, h))
in_list (x ∷ groups) zero h = inl refl
in_list (x ∷ groups) (suc g) h = inr (in_list groups g (omega (arith, h)))

group_in : (part : PlainComponent) (g : ℕ) (a : PlainAssign) → In (group_at part g).assigns a → In part.groups (group_at part g)
group_in part g a i =
    ⊎_elim
    (λ h. in_list part.groups g h)
    (λ h. let none : In no_group.assigns a = subst (λ x. In x.assigns a) (get_or_past part.groups g no_group h) i in absurd none)
    (cases_lt g (length part.groups))

pub are_pruned : (d : PlainDesign) (k : ℕ) (g turned kept : Edges) (marks : List Bool) (targets starts : List ℕ) → IsKept g marks kept → HasTargets (component_of d k) (component_at d k).groups targets → starts ≡ targets
    → IsTurned g turned → ((n : ℕ) → Marked marks n → IsReached turned starts n) → ((n : ℕ) → IsReached turned starts n → Marked marks n) → IsPruned (component_of d k) g marks kept
are_pruned d k g turned kept marks targets starts is has same t sound all = record {
  kept = is;
  driven = λ group a m i e.
      let j : In (group_at (component_at d k) group).assigns a = subst (λ (part : PlainComponent). In (group_at part group).assigns a) (part_is d k) i in
      all m (at_start (subst (λ l. In l m) (sym same) (has.all (group_at (component_at d k) group) a m (group_in (component_at d k) group a j) j e)));
  along = λ m n i marked. all m (by_edge n (sound n marked) ((t.1 n m).1 i));
}
