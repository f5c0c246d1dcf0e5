-- Sources of ports, as they are found before any run.
use Rattle.std.proofs.Common.{◌≡◌, ℕ, ◌≤◌, ◌<◌, Some, List, [], ◌∷◌, ◌++◌, length, slice_get, take, get_or, ⊎_elim, refl, sym, ap, ◌∙◌, subst, arith}
use Rattle.std.proofs.lemmas.Cmp.{ranked}
use Rattle.std.proofs.lemmas.List.{take-append-le}
use Rattle.std.proofs.Math.Seq.{take-append_seam}
use Rattle.std.specs.Ordering.{nat_cmp}
use Rattle.std.specs.declared.cmp.Ordering.TheVariants.{Equal}
use Rattle.cx_text.proofs.ListLaws.{either_at, front, get_end, read_at, there_below}
use Rattle.cx_meaning.specs.declared.ports.PortRef.{PortRef}
use Rattle.cx_meaning.specs.declared.ports.PortRef.TheVariants.{Cell}
use Rattle.cx_meaning.specs.declared.sights.Seen.{Seen}
use Rattle.cx_meaning.specs.Designs.{PlainDesign}
use Rattle.cx_meaning.specs.Instances.{Instance}
use Rattle.cx_rules.specs.Ports.{component_of}
use Rattle.cx_design.specs.declared.actives.Active.{Active}
use Rattle.cx_design_leads.specs.Nodes.{node_of}
use Rattle.cx_design_leads.proofs.NodeLemmas.{distinct}
use Rattle.cx_eval_network.specs.declared.listed.FoundBy.TheVariants as by
use Rattle.cx_eval_network.specs.declared.listed.ListedPort.{ListedPort}
use Rattle.cx_eval_network.specs.declared.planned.PortPlan.TheVariants.{Output}
use Rattle.cx_eval_network.specs.Lists.{IsFoundBy, IsListed}
use Rattle.cx_eval_network.specs.Nodes.{IsInList}
use Rattle.cx_eval_network.specs.Plans.{decides, planned}
use Rattle.cx_eval.specs.declared.closing.KnownPorts.{KnownPorts}
use Rattle.cx_eval.specs.declared.groups.PartSources.{PartSources}
use Rattle.cx_eval.specs.declared.leaves.PartGroup.{PartGroup}
use Rattle.cx_eval.specs.declared.sources.GroupSources.{GroupSources}
use Rattle.cx_eval.specs.declared.sources.Operator.{Operator}
use Rattle.cx_eval.specs.declared.sources.Source.{Source}
use Rattle.cx_eval.specs.declared.sources.Source.TheVariants.{Fixed, State, Slot}
use Rattle.cx_eval.specs.Sources.{AreKnownPorts, AreOperators, ArePartSources, AreSeenBy, AreSourcesOf, HasPlan, HaveGrown, HaveSources, IsNumberSeen, IsOperator, IsPartGroup, IsSeenBy, as_value, as_state, as_operator, as_another}

-- THE PORT of a number has a plan, by the plans of its component
pub part_listed : (i : Instance) (of : PartGroup) (active : Active) (listed : ListedPort) → IsPartGroup i of → IsListed of.part.now.ports.items of.plans.now.ports.items active listed → IsInList i active listed
part_listed i of active listed h l =
    let at = h.part.ports.each listed.number l.port l.stands in
    record { port = l.port; number = at; plan = l.plan; plans = h.plans.each listed.number l.port l.plan l.there at; found_by = l.found_by }

-- MORE OPERATORS stand behind: what was seen is seen so still
module _ (i : Instance) (active : Active) (old new : List Operator) (g : HaveGrown old new) where
  pub seen_by_grown : {p : PortRef} {source : Source} → IsSeenBy i active old p source → IsSeenBy i active new p source
  seen_by_grown (as_value plan h s) = as_value plan h s
  seen_by_grown (as_state h) = as_state h
  seen_by_grown (as_operator {place} o at) = as_operator o (subst (λ xs. slice_get xs place ≡ Some o) (sym g.behind) (front old g.more place o at))
  seen_by_grown (as_another plan number h s e seen) = as_another plan number h s e (seen_by_grown seen)

  pub number_grown : (number : ℕ) (source : Source) → IsNumberSeen i active old number source → IsNumberSeen i active new number source
  number_grown number source s = record { port = s.port; at = s.at; by = seen_by_grown s.by }

  pub known_grown : (known : KnownPorts) → AreKnownPorts i active old known → AreKnownPorts i active new known
  known_grown known h place number source at_number at_source = number_grown number source (h place number source at_number at_source)

-- operators from none on
pub from_none : (operators : List Operator) → HaveGrown [] operators
from_none operators = record { more = operators; behind = refl }

-- more once more
pub grown_again : (first old new : List Operator) → HaveGrown first old → HaveGrown old new → HaveGrown first new
grown_again first old new g h = record { more = g.more ++ h.more; behind = h.behind ∙ ap (λ xs. xs ++ h.more) g.behind ∙ append-assoc first g.more h.more }
  where
    append-assoc : (xs ys zs : List Operator) → (xs ++ ys) ++ zs ≡ xs ++ (ys ++ zs)
    append-assoc [] ys zs = refl
    append-assoc (x ∷ xs) ys zs = ap (λ ws. x ∷ ws) (append-assoc xs ys zs)

module _ (i : Instance) (active : Active) (operators : List Operator) where
  -- the port of a number, by a port that has it
  pub port_seen : (p : PortRef) (number : ℕ) (source : Source) → node_of i p ≡ Some number → IsNumberSeen i active operators number source → IsSeenBy i active operators p source
  port_seen p number source e s = subst (λ q. IsSeenBy i active operators q source) (distinct i s.port p number s.at e) s.by

  -- A LISTED PORT is seen as it is found
  module _ (listed : ListedPort) (l : IsInList i active listed) where
    its_plan : HasPlan i l.port l.plan
    its_plan = record { number = listed.number; at = l.number; is = l.plans }

    pub fixed_seen : (seen : Seen) → listed.found_by ≡ by.Fixed seen → IsNumberSeen i active operators listed.number (Fixed seen)
    fixed_seen seen e = record { port = l.port; at = l.number; by = as_value l.plan its_plan (subst (IsFoundBy active l.port l.plan) e l.found_by) }

    pub another_seen : (other : ℕ) (source : Source) → listed.found_by ≡ by.Port other → IsNumberSeen i active operators other source → IsNumberSeen i active operators listed.number source
    another_seen other source e s = record { port = l.port; at = l.number; by = as_another l.plan other its_plan (subst (IsFoundBy active l.port l.plan) e l.found_by) s.at s.by }

    -- or an output of a cell
    module _ (cell output reads : ℕ) (is : l.port ≡ Cell cell output) (plan : l.plan ≡ Output reads) where
      pub output_at : node_of i (Cell cell output) ≡ Some listed.number
      output_at = ap (node_of i) (sym is) ∙ l.number

      pub output_plan : HasPlan i (Cell cell output) (Output reads)
      output_plan = record { number = listed.number; at = output_at; is = ap planned (sym plan) ∙ l.plans ∙ ap (decides i) is }

    pub state_seen : (cell output : ℕ) → listed.found_by ≡ by.State cell output → IsNumberSeen i active operators listed.number (State cell output)
    state_seen cell output e =
        let f : (l.port ≡ Cell cell output) × (l.plan ≡ Output 0) = subst (IsFoundBy active l.port l.plan) e l.found_by in
        record { port = Cell cell output; at = output_at cell output 0 f.0 f.1; by = as_state (output_plan cell output 0 f.0 f.1) }

    pub inputs_plan : (cell output reads : ℕ) → listed.found_by ≡ by.Inputs cell output reads → HasPlan i (Cell cell output) (Output reads)
    inputs_plan cell output reads e =
        let f : (l.port ≡ Cell cell output) × (l.plan ≡ Output reads) = subst (IsFoundBy active l.port l.plan) e l.found_by in
        output_plan cell output reads f.0 f.1

  -- the first ports of a cell with one more
  pub ports_more : (cell : ℕ) (old new : List Source) (n : ℕ) (last : Source) → length old ≡ n → IsSeenBy i active operators (Cell cell n) last → new ≡ old ++ last ∷ [] → AreSeenBy i active operators cell old → AreSeenBy i active operators cell new
  ports_more cell old new n last sized is e before p source at = ⊎_elim
      (λ f. before p source f)
      (λ (b : (p ≡ length old) × (last ≡ source)). subst (λ k. IsSeenBy i active operators (Cell cell k) source) (sym (b.0 ∙ sized)) (subst (IsSeenBy i active operators (Cell cell n)) b.1 is))
      (either_at old last source p (subst (λ xs. slice_get xs p ≡ Some source) e at))

-- ONE MORE OPERATOR, whose inputs are seen by those before it
module _ (i : Instance) (active : Active) (old new : List Operator) (last : Operator) (e : new ≡ old ++ last ∷ []) where
  pub operator_seen : IsSeenBy i active new (Cell last.cell last.port) (Slot (length old))
  operator_seen = as_operator last (subst (λ xs. slice_get xs (length old) ≡ Some last) (sym e) (get_end old last))

  before_it : (place : ℕ) → place ≤ length old → take place new ≡ take place old
  before_it place le = ap (take place) e ∙ take-append-le place old (last ∷ []) le

  before_last : take (length old) new ≡ old
  before_last = ap (take (length old)) e ∙ take-append_seam old (last ∷ [])

  pub operators_more : IsOperator i active old last → AreOperators i active old → AreOperators i active new
  operators_more is before place o at = ⊎_elim
      (λ (f : slice_get old place ≡ Some o). subst (λ xs. IsOperator i active xs o) (sym (before_it place (let lt = there_below old place o f in omega (arith, lt)))) (before place o f))
      (λ (b : (place ≡ length old) × (last ≡ o)). subst (λ xs. IsOperator i active xs o) (sym (ap (λ k. take k new) b.0 ∙ before_last)) (subst (IsOperator i active old) b.1 is))
      (either_at old last o place (subst (λ xs. slice_get xs place ≡ Some o) e at))

-- ONE MORE group and component of which it is known what they look at
abbrev pub GroupsKnown : Instance → List GroupSources → Type 0
GroupsKnown i groups = (group : ℕ) (known : GroupSources) → slice_get groups group ≡ Some known → AreSourcesOf i group known

pub groups_known_more : (i : Instance) (old new : List GroupSources) (n : ℕ) (last : GroupSources) → length old ≡ n → AreSourcesOf i n last → new ≡ old ++ last ∷ [] → GroupsKnown i old → GroupsKnown i new
groups_known_more i old new n last sized is e before group known at = ⊎_elim
    (λ f. before group known f)
    (λ (b : (group ≡ length old) × (last ≡ known)). subst (λ m. AreSourcesOf i m known) (sym (b.0 ∙ sized)) (subst (AreSourcesOf i n) b.1 is))
    (either_at old last known group (subst (λ xs. slice_get xs group ≡ Some known) e at))

pub sources_more : (d : PlainDesign) (old new : List PartSources) (n : ℕ) (last : PartSources) → length old ≡ n → ArePartSources (component_of d n) last → new ≡ old ++ last ∷ [] → HaveSources d old → HaveSources d new
sources_more d old new n last sized are e before k part at = ⊎_elim
    (λ f. before k part f)
    (λ (b : (k ≡ length old) × (last ≡ part)). subst (λ m. ArePartSources (component_of d m) part) (sym (b.0 ∙ sized)) (subst (ArePartSources (component_of d n)) b.1 are))
    (either_at old last part k (subst (λ xs. slice_get xs k ≡ Some part) e at))

-- the place that a search finds
pub place_found : (numbers : List ℕ) (place number : ℕ) → place < length numbers → ((d : ℕ) → nat_cmp (get_or numbers place d) number ≡ Equal) → slice_get numbers place ≡ Some number
place_found numbers place number lt h = read_at numbers place number lt (sym (ranked (get_or numbers place number) number Equal (sym (h number))))
