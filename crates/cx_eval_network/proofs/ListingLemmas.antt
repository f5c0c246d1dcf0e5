-- Lists of ports as they are made.
use Rattle.std.proofs.Common.{◌≡◌, ◌<◌, ℕ, zero, suc, ⊎_elim, Some, List, [], ◌∷◌, ◌++◌, length, slice_get, sym, ap, ◌∙◌, subst}
use Rattle.std.specs.declared.vec.Vec.{Vec}
use Rattle.std.proofs.lemmas.List.{map-append}
use Rattle.cx_graphs.proofs.Lists.{get_last, in_last, some_is}
use Rattle.cx_graphs.specs.Graphs.{Bounded, Edges, edges_of, targets_of}
use Rattle.cx_text.specs.Members.{In}
use Rattle.cx_meaning.specs.declared.ports.PortRef.{PortRef}
use Rattle.cx_design.specs.declared.actives.Active.{Active}
use Rattle.cx_design.specs.declared.actives.Active.TheVariants.{Group}
use Rattle.cx_eval_network.specs.declared.listed.GroupPorts.{GroupPorts}
use Rattle.cx_eval_network.specs.declared.listed.ListedPort.{ListedPort}
use Rattle.cx_eval_network.specs.declared.listed.PartLists.{PartLists}
use Rattle.cx_eval_network.specs.declared.parts.PartNodes.{PartNodes}
use Rattle.cx_eval_network.specs.declared.planned.PartPlans.{PartPlans}
use Rattle.cx_eval_network.specs.declared.planned.PortPlan.{PortPlan}
use Rattle.cx_eval_network.specs.Lists.{AreGroupPorts, AreListed, ArePartLists, HaveLists, IsListed}

-- ONE MORE listed port, group and component
pub listed_more : (ports : List PortRef) (plans : List PortPlan) (active : Active) (old new : List ListedPort) (last : ListedPort) → IsListed ports plans active last → new ≡ old ++ last ∷ [] → AreListed ports plans active old → AreListed ports plans active new
listed_more ports plans active old new last is e before j port at = ⊎_elim
    (λ f. before j port f)
    (λ (b : (j ≡ length old) × (last ≡ port)). subst (IsListed ports plans active) b.1 is)
    (get_last old last port j (subst (λ xs. slice_get xs j ≡ Some port) e at))

abbrev pub GroupsListed : List PortRef → List PortPlan → List GroupPorts → Type 0
GroupsListed ports plans groups = (g : ℕ) (group : GroupPorts) → slice_get groups g ≡ Some group → AreGroupPorts ports plans (Group g) group

pub groups_more : (ports : List PortRef) (plans : List PortPlan) (old new : List GroupPorts) (n : ℕ) (last : GroupPorts) → length old ≡ n → AreGroupPorts ports plans (Group n) last → new ≡ old ++ last ∷ [] → GroupsListed ports plans old
    → GroupsListed ports plans new
groups_more ports plans old new n last sized are e before g group at = ⊎_elim
    (λ f. before g group f)
    (λ (b : (g ≡ length old) × (last ≡ group)). subst (λ m. AreGroupPorts ports plans (Group m) group) (sym (b.0 ∙ sized)) (subst (AreGroupPorts ports plans (Group n)) b.1 are))
    (get_last old last group g (subst (λ xs. slice_get xs g ≡ Some group) e at))

pub lists_more : (parts : List PartNodes) (plans : List PartPlans) (old new : List PartLists) (n : ℕ) (part : PartNodes) (planned : PartPlans) (last : PartLists) → length old ≡ n → slice_get parts n ≡ Some part → slice_get plans n ≡ Some planned
    → ArePartLists part.ports.items planned.ports.items last → new ≡ old ++ last ∷ [] → HaveLists parts plans old → HaveLists parts plans new
lists_more parts plans old new n part planned last sized stands there are e before k own own_plans lists at_part at_plans at = ⊎_elim
    (λ f. before k own own_plans lists at_part at_plans f)
    (λ (b : (k ≡ length old) × (last ≡ lists)).
    let is = sym (b.0 ∙ sized) in
    let same : part ≡ own = some_is part own (sym stands ∙ ap (slice_get parts) is ∙ at_part) in
    let same_plans : planned ≡ own_plans = some_is planned own_plans (sym there ∙ ap (slice_get plans) is ∙ at_plans) in
    subst (ArePartLists own.ports.items own_plans.ports.items) b.1
    (subst (λ (x : PartPlans). ArePartLists own.ports.items x.ports.items last) same_plans (subst (λ (x : PartNodes). ArePartLists x.ports.items planned.ports.items last) same are)))
    (get_last old last lists k (subst (λ xs. slice_get xs k ≡ Some lists) e at))

-- A GRAPH whose edges lead to places below a bound
abbrev pub LeadsBelow : ℕ → Edges → Type 0
LeadsBelow bound g = (n : ℕ) → Bounded bound (targets_of g n)

leads_more : (bound : ℕ) (g : Edges) (last : List ℕ) → LeadsBelow bound g → Bounded bound last → LeadsBelow bound (g ++ last ∷ [])
leads_more bound [] last h b zero = b
leads_more bound [] last h b (suc n) = λ m i. absurd i
leads_more bound (ms ∷ g) last h b zero = h zero
leads_more bound (ms ∷ g) last h b (suc n) = leads_more bound g last (λ k. h (suc k)) b n

pub edges_more : {A : Type 0} (bound : ℕ) (old new : List (Vec ℕ A)) (last : Vec ℕ A) → LeadsBelow bound (edges_of old) → Bounded bound last.items → new ≡ old ++ last ∷ [] → LeadsBelow bound (edges_of new)
edges_more {A} bound old new last h b e =
    subst (LeadsBelow bound) (sym (ap edges_of e ∙ map-append (λ (list : Vec ℕ A). list.items) old (last ∷ []))) (leads_more bound (edges_of old) last.items h b)

pub bounded_more : (bound : ℕ) (old new : List ℕ) (last : ℕ) → Bounded bound old → last < bound → new ≡ old ++ last ∷ [] → Bounded bound new
bounded_more bound old new last h lt e m i = ⊎_elim (λ j. h m j) (λ (s : last ≡ m). subst (λ k. k < bound) s lt) (in_last old last m (subst (λ xs. In xs m) e i))
