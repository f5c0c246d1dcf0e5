-- A design without static components keeps what it does in one way at most.
use Rattle.std.proofs.Common.{◌≡◌, ℕ, ◌<◌, List, [], ◌∷◌, length, Option, Some, None, arith}
use Rattle.std.proofs.Props.{props}
use Rattle.cx_meaning.specs.declared.ports.PortRef.{PortRef}
use Rattle.cx_meaning.specs.declared.ports.PortRef.TheVariants as ports
use Rattle.cx_meaning.specs.Designs.{PlainAssign, PlainInvoke, PlainCell, PlainKind, OfPrimitive, OfComponent, PlainComponent, PlainDesign, component_at, PlainForm, Empty, Enable, Seq, Par, If, While, Repeat, StaticSeq, StaticPar, StaticIf, StaticRepeat, Timed}
use Rattle.cx_meaning.specs.Instances.{Instance}
use Rattle.cx_text.specs.Members.{In}
use Rattle.cx_rules.specs.Flat.{IsFlat}
use Rattle.cx_rules.specs.Invokes.{invokes_of}
use Rattle.cx_rules.specs.Ports.{component_of}
use Rattle.cx_rules.specs.Items.{Visited}
use Rattle.cx_rules.specs.Wellformed.{IsThere, IsAssign, IsWith, IsForm, IsStatement, IsInvoke, IsKind, IsExternal, IsCell, IsComponent, IsDesign}

there_prop : (i : Instance) (t : PortRef) → IsProp (IsThere i t)
there_prop i (ports.Cell c p) = hlevel props
there_prop i (ports.Input n) = hlevel props
there_prop i (ports.Output n) = hlevel props
there_prop i (ports.Done g) = hlevel props
there_prop i (ports.Literal w v) = hlevel props

with_prop : (part : PlainComponent) (comb : Option ℕ) → IsProp (IsWith part comb)
with_prop part None = hlevel props
with_prop part (Some g) = hlevel props

form_prop : (part : PlainComponent) (form : PlainForm) → IsProp (IsForm part form)
form_prop part Empty = hlevel props
form_prop part (Enable g) = hlevel props
form_prop part (Seq parts) = hlevel props
form_prop part (Par arms) = hlevel props
form_prop part (If test comb a b) = with_prop part comb
form_prop part (While test comb a) = with_prop part comb
form_prop part (Repeat count a) = hlevel props
form_prop part (StaticSeq length parts) = hlevel props
form_prop part (StaticPar length arms) = hlevel props
form_prop part (StaticIf length test a b) = hlevel props
form_prop part (StaticRepeat length count a) = hlevel props
form_prop part (Timed k) = hlevel props

kind_prop : (d : PlainDesign) (kind : PlainKind) → IsProp (IsKind d kind)
kind_prop d (OfPrimitive p) = hlevel props
kind_prop d (OfComponent k) = hlevel props

external_prop : (d : PlainDesign) (k : ℕ) (kind : PlainKind) → IsProp (IsExternal d k kind)
external_prop d k (OfPrimitive p) = hlevel props
external_prop d k (OfComponent j) = hlevel props

assign_prop : (i : Instance) (owner : Option ℕ) (a : PlainAssign) → IsProp (IsAssign i owner a)
assign_prop i owner a = hlevel (props, there_prop)

statement_prop : (i : Instance) (v : Visited) → IsProp (IsStatement i v)
statement_prop i v = hlevel (props, there_prop, form_prop)

cell_prop : (d : PlainDesign) (k : ℕ) (cell : PlainCell) → IsProp (IsCell d k cell)
cell_prop d k cell = hlevel (props, kind_prop, external_prop)

-- what is said of each of no static invokes, and of each of their numbers
of_none_prop : (vs : List PlainInvoke) (P : PlainInvoke → Type 0) → vs ≡ [] → IsProp ((v : PlainInvoke) → In vs v → P v)
of_none_prop [] P e = λ f g. λ i v x. let same : f v x ≡ g v x = absurd x in same i
of_none_prop (v ∷ vs) P e = absurd cc

numbered_none_prop : (vs : List PlainInvoke) (P : ℕ → Type 0) → vs ≡ [] → IsProp ((n : ℕ) → n < length vs → P n)
numbered_none_prop [] P e = λ f g. λ i n lt. let same : f n lt ≡ g n lt = absurd (omega (arith, lt)) in same i
numbered_none_prop (v ∷ vs) P e = absurd cc

component_prop : (d : PlainDesign) (k : ℕ) → (component_at d k).invokes ≡ [] → IsProp (IsComponent d k)
component_prop d k none =
    let invokes : IsProp ((v : PlainInvoke) → In (component_at d k).invokes v → IsInvoke (component_of d k) v) = of_none_prop (component_at d k).invokes (IsInvoke (component_of d k)) none in
    let invoked : IsProp ((n : ℕ) → n < length (component_at d k).invokes → In (invokes_of (component_at d k).control) n) = numbered_none_prop (component_at d k).invokes (In (invokes_of (component_at d k).control)) none in
    hlevel (props, assign_prop, statement_prop, cell_prop, invokes, invoked)

pub design_prop : (d : PlainDesign) → IsFlat d → IsProp (IsDesign d)
design_prop d flat =
    let parts : (k : ℕ) → k < length d.components → IsProp (IsComponent d k) = λ k within. component_prop d k (flat k within).no_invoke in
    hlevel (props, parts)
