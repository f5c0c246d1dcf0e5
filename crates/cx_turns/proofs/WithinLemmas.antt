-- The cells of which a group drives a port are cells of its component.
use Rattle.std.proofs.Common.{◌≡◌, ℕ, zero, suc, ◌<◌, All, Bool, true, false, ◌||◌, nat_eq, List, [], ◌∷◌, Some, length, inl, inr, refl, sym, ap, ◌∙◌, subst, arith}
use Rattle.std.specs.List.{slice_index_or}
use Rattle.std.proofs.Math.Logic.{∥∥₁_elim}
use denote.Struct.Props.{props}
use Rattle.cx_meaning.specs.declared.ports.PortRef.{PortRef}
use Rattle.cx_meaning.specs.declared.ports.PortRef.TheVariants as ports
use Rattle.cx_meaning.specs.Designs.{PlainAssign, PlainDesign, component_at, group_at}
use Rattle.cx_meaning.specs.Instances.{Instance, part_of}
use Rattle.cx_text.specs.Members.{In}
use Rattle.cx_meaning.specs.Control.{targets_cell, assigns_drive, group_drives}
use Rattle.cx_rules.specs.Ports.{component_of}
use Rattle.cx_rules.specs.Wellformed.{IsThere, IsDesign}
use Rattle.cx_eval_cycle.specs.Passes.{listed_in}
use Rattle.cx_meaning.proofs.InstancesLemmas.{just_is}
use Rattle.cx_text.proofs.NumberLaws.{equal, from_eq}
use Rattle.cx_text.proofs.BoolLaws.{or_right}
use Rattle.cx_meaning.proofs.DesignsLemmas.{same_part}

-- each number of a list is listed
listed_at : (xs : List ℕ) (k d : ℕ) → k < length xs → listed_in xs (slice_index_or xs k d) ≡ true
listed_at [] k d lt = absurd (omega (arith, lt))
listed_at (x ∷ xs) zero d lt = ap (λ b. b || listed_in xs x) (equal x)
listed_at (x ∷ xs) (suc k) d lt = or_right (nat_eq x (slice_index_or xs k d)) (listed_in xs (slice_index_or xs k d)) (listed_at xs k d (omega (arith, lt)))

-- an assignment that drives a cell
driver : (assigns : List PlainAssign) (c : ℕ) → assigns_drive assigns c ≡ true → (a : PlainAssign) × In assigns a × (targets_cell a.target c ≡ true)
driver [] c e = absurd (cc)
driver (a ∷ rest) c e = choice (targets_cell a.target c) refl e (driver rest c)
  where
    choice : (b : Bool) → targets_cell a.target c ≡ b → b || assigns_drive rest c ≡ true
        → (assigns_drive rest c ≡ true → (x : PlainAssign) × In rest x × (targets_cell x.target c ≡ true)) → (x : PlainAssign) × In (a ∷ rest) x × (targets_cell x.target c ≡ true)
    choice true is e later = (a, inl refl, is)
    choice false is e later = let found = later e in (found.0, inr found.1, found.2)

pub target_below : (i : Instance) (target : PortRef) (c : ℕ) → IsThere i target → targets_cell target c ≡ true → c < length (part_of i).cells
target_below i (ports.Cell d p) c there e = subst (λ n. n < length (part_of i).cells) (from_eq d c (sym (just_is d c) ∙ e)) there.0
target_below i (ports.Input n) c there e = absurd (cc)
target_below i (ports.Output n) c there e = absurd (cc)
target_below i (ports.Done g) c there e = absurd (cc)
target_below i (ports.Literal w v) c there e = absurd (cc)

driven_below : (d : PlainDesign) (k g c : ℕ) → IsDesign d → k < length d.components → g < length (component_at d k).groups
    → group_drives (component_at d k) g c ≡ true → c < length (part_of (component_of d k)).cells
driven_below d k g c design within there e =
    let found = driver (group_at (component_at d k) g).assigns c e in
    target_below (component_of d k) found.0.target c ((design.components k within).assigns (Some g) found.0 (there, found.1)).target found.2

pub all_within : (d : PlainDesign) (k g : ℕ) (cells : List ℕ) → ∥ IsDesign d ∥₁ → k < length d.components → g < length (component_at d k).groups
    → ((c : ℕ) → listed_in cells c ≡ group_drives (part_of (component_of d k)) g c) → All (λ c. c < length (part_of (component_of d k)).cells) cells
all_within d k g cells keeps within there listed n first lt =
    let c = slice_index_or cells n first in
    let own = subst (λ part. group_drives part g c ≡ true) (same_part d (length d.components) k) (sym (listed c) ∙ listed_at cells n first lt) in
    ∥∥₁_elim keeps (hlevel props) (λ design. driven_below d k g c design within there own)
