-- Owners are the groups to which a node leads; a group whose edges lead to no node that it owns has no circle.
use Rattle.std.proofs.Common.{◌≡◌, ℕ, zero, suc, inl, inr, ⊎_elim, Some, List, [], ◌∷◌, get_or, slice_get, refl, sym, subst}
use Rattle.cx_text.specs.Members.{In}
use Rattle.cx_text.proofs.ListLaws.{nothing_more}
use Rattle.cx_graphs.specs.Graphs.{Edges, IsReached, at_start, by_edge, targets_of}
use Rattle.cx_graphs.specs.Ways.{Way, edge, further, HasCircle, IsTurned, both}
use Rattle.cx_graphs.specs.declared.owners.Owners.{Owners}
use Rattle.cx_graphs.specs.Owners.{Covers, owners_at}
use Rattle.cx_graphs.specs.Tallies.{Reaches, Tallies, starts_of}
use Rattle.cx_graphs.proofs.WalkLemmas.{way_map}
use Rattle.cx_meaning.specs.Designs.{PlainAssign, PlainGroup, group_at, no_group}
use Rattle.cx_meaning.specs.Instances.{Instance, part_of}
use Rattle.cx_design_leads.specs.Edges.{HasEdges, LeadsInGroup}
use Rattle.cx_design_leads.proofs.EdgeLemmas.{driven_from}
use Rattle.cx_comb.specs.Owning.{AreOwners, AreTargetLists, LeadsToGroup}
use Rattle.cx_comb.specs.Pruning.{ServesGroups}
use Rattle.cx_comb.proofs.PruneLemmas.{no_circle_back}

module _ (g turned : Edges) (is : IsTurned g turned) (starts : List ℕ) where
  way_back : {a b : ℕ} → Way (targets_of g) a b → In starts b → IsReached turned starts a
  way_back {a} {b} (edge e) i = by_edge b (at_start i) ((is.1 b a).1 e)
  way_back {a} {b} (further k e w) i = by_edge k (way_back w i) ((is.1 k a).1 e)

group_there : (groups : List PlainGroup) (k : ℕ) (a : PlainAssign) → In (get_or groups k no_group).assigns a → slice_get groups k ≡ Some (get_or groups k no_group)
group_there [] k a i = absurd i
group_there (x ∷ groups) zero a i = refl
group_there (x ∷ groups) (suc k) a i = group_there groups k a i

pub are_owners : (i : Instance) (graph turned lists : Edges) (owners : List Owners) (touched : List ℕ) → AreTargetLists i (part_of i).groups lists → IsTurned graph turned
    → Tallies (Reaches turned (starts_of [] [] lists)) owners touched → AreOwners i graph owners
are_owners i graph turned lists owners touched are is told = λ g n l.
    let target : In (targets_of lists g) l.target = are.all g (group_at (part_of i) g) l.assign l.target (group_there (part_of i).groups g l.assign l.stands) l.stands l.drives in
    let reached : IsReached turned (targets_of lists g) n =
    ⊎_elim (λ same. at_start (subst (In (targets_of lists g)) (sym same) target)) (λ w. way_back graph turned is (targets_of lists g) w target) l.leads in
    (told.tells n).all g (subst (λ starts. IsReached turned starts n) (sym (nothing_more (targets_of lists g))) reached)

pub no_circle_owned : (i : Instance) (pruned more : Edges) (owners : List Owners) (g : ℕ) → ServesGroups i pruned → AreOwners i pruned owners → HasEdges i (LeadsInGroup i g) more
    → ((m n : ℕ) → In (targets_of more m) n → Covers (owners_at owners n) g → ⊥) → HasCircle (both pruned more) → ⊥
no_circle_owned i pruned more owners g serves are own never =
    no_circle_back pruned more (LeadsToGroup i pruned g)
    (λ m n e. let a = driven_from i g m n (own.sound m n e) in record { assign = a.0; stands = a.1; target = m; drives = a.2; leads = inl refl })
    (λ m n e l. record {
      assign = l.assign;
      stands = l.stands;
      target = l.target;
      drives = l.drives;
      leads = inr (⊎_elim (λ same. edge (subst (In (targets_of pruned m)) same e)) (λ w. further n e w) l.leads);
    })
    (λ m n e l. never m n e (are g n l)) (λ circle. serves.no_circle (circle.0, way_map serves.is_pruned.kept.sound circle.1))
