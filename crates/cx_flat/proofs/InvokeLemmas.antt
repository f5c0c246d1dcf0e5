-- The ports, the copies and the control of a static child for an invoke.
use Rattle.std.proofs.Common.{◌≡◌, ℕ, ◌+◌, List, [], Option, Some, None, map, slice_get, refl, sym, ap, ◌∙◌}
use Rattle.std.proofs.Math.Path.{fun_ext}
use Rattle.std.proofs.lemmas.Option.{slice_get_within, get_or_from_slice_get}
use Rattle.std.proofs.lemmas.List.{get_or-map}
use Rattle.cx_meaning.specs.declared.ports.PortRef.{PortRef}
use Rattle.cx_meaning.specs.declared.ports.PortRef.TheVariants as ports
use Rattle.cx_meaning.specs.Designs.{PlainForm, PlainStatement, PlainInvoke, PlainComponent}
use Rattle.cx_meaning.specs.Control.{groups_of}
use Rattle.cx_design.specs.declared.components.Component.{Component}
use Rattle.cx_design.specs.declared.invokes.StaticInvoke.{StaticInvoke}
use Rattle.cx_design.specs.PlainForms.{plain_assigns, plain_component, plain_invoke}
use Rattle.cx_flattening.specs.Events.{source_to, the_invoke, no_invoke}
use Rattle.cx_flattening.specs.Copies.{copied_group, copied_statement, enabled_below, enabled_groups}
use Rattle.cx_flattening.specs.Flattened.{Kids, kid_at, own_port, child_port, invoke_port, copies_if, copies, first_copy, with_capture, inlined}
use Rattle.cx_flat.specs.declared.stands.Block.{Block}
use Rattle.cx_flat.specs.declared.stands.Stand.{Stand}
use Rattle.cx_flat.specs.declared.stands.Stand.TheVariants.{Inlined}
use Rattle.cx_flat.specs.declared.enabled.Enabled.{Enabled}
use Rattle.cx_flat.specs.Enabling.{below_by, copy_by}
use Rattle.cx_flat.specs.Stands.{stands_of, own_by, block_by}
use Rattle.cx_flat.specs.Maps.{sources_by}
use Rattle.cx_flat.specs.Controls.{inlined_at}
use Rattle.cx_flat.proofs.StandLemmas.{own-is, child-is}

module _ (kids : Kids) (part : PlainComponent) (stands : List Stand) (are : stands ≡ stands_of kids part.cells) where
  pub own_map : own_by stands ≡ own_port kids part
  own_map = ap own_by are ∙ own-is kids part

  at : (c : ℕ) (block : Block) → slice_get stands c ≡ Some (Inlined block) → slice_get (stands_of kids part.cells) c ≡ Some (Inlined block)
  at c block is = ap (λ ss. slice_get ss c) (sym are) ∙ is

  -- of the continuous assignments of a static child
  pub inner_map : (c : ℕ) (child : PlainComponent) (block : Block) → slice_get stands c ≡ Some (Inlined block) → kid_at kids c ≡ Some child
      → block_by block (λ n. ports.Input n) ≡ child_port kids part child c (λ n. ports.Input n)
  inner_map c child block is its = child-is kids part c child block (λ n. ports.Input n) (λ n. ports.Input n) (at c block is) its (λ n. refl)

  -- of a copy for an invoke
  pub invoked_map : (v : StaticInvoke) (child : PlainComponent) (block : Block) → slice_get stands v.cell ≡ Some (Inlined block) → kid_at kids v.cell ≡ Some child
      → block_by block (sources_by stands v) ≡ invoke_port kids part child (plain_invoke v)
  invoked_map v child block is its =
      child-is kids part v.cell child block (sources_by stands v) (λ n. own_port kids part (source_to v.cell (plain_assigns v.inputs.items) n)) (at v.cell block is) its
      (λ n. ap (λ f. f (source_to v.cell (plain_assigns v.inputs.items) n)) own_map)

-- the control of a child by the list of numbers
pub copied_by : (move other : PortRef → PortRef) (first : ℕ) (enabled : Enabled) (used : List ℕ) (s : PlainStatement) → move ≡ other → ((g : ℕ) → below_by enabled.below.items enabled.count g ≡ enabled_below used g)
    → copied_statement move (copy_by first enabled) s ≡ copied_statement other (λ g. first + enabled_below used g) s
copied_by move other first enabled used s same below =
    ap (λ m. copied_statement m (copy_by first enabled) s) same ∙ ap (λ f. copied_statement other f s) (fun_ext (λ g. ap (λ n. first + n) (below g)))

-- WHAT A STATIC INVOKE BECOMES, by what stands at its cell
pub inlined_some : (kids : Kids) (part : PlainComponent) (v : PlainInvoke) (k first : ℕ) (child : PlainComponent) (kid : Option PlainComponent) (s : PlainStatement) → kid ≡ Some child → first ≡ first_copy kids part k
    → s ≡ copied_statement (invoke_port kids part child v) (λ g. first + enabled_below (groups_of child.control) g) child.control
    → with_capture v.captures s ≡ inlined kids part kid k v
inlined_some kids part v k first child kid s its is made =
    ap (with_capture v.captures) made
    ∙ ap (λ n. with_capture v.captures (copied_statement (invoke_port kids part child v) (λ g. n + enabled_below (groups_of child.control) g) child.control)) is
    ∙ ap (λ x. inlined kids part x k v) (sym its)

pub the_invoke_is : (part : Component) (k : ℕ) (v : StaticInvoke) → slice_get part.invokes.items k ≡ Some v → the_invoke (plain_component part) k ≡ plain_invoke v
the_invoke_is part k v e =
    get_or-map plain_invoke part.invokes.items k v no_invoke (slice_get_within part.invokes.items k v e)
    ∙ ap plain_invoke (get_or_from_slice_get part.invokes.items k v v e)

pub inlined_here : (kids : Kids) (part : Component) (k : ℕ) (v : StaticInvoke) (f : PlainForm) → slice_get part.invokes.items k ≡ Some v
    → f ≡ inlined kids (plain_component part) (kid_at kids v.cell) k (plain_invoke v) → f ≡ inlined_at kids (plain_component part) k
inlined_here kids part k v f e made = made ∙ ap (λ x. inlined kids (plain_component part) (kid_at kids x.cell) k x) (sym (the_invoke_is part k v e))

-- THE COPIES for an invoke, by what stands at its cell
pub copies_some : (kids : Kids) (part : PlainComponent) (v : PlainInvoke) (child : PlainComponent) (move : PortRef → PortRef) → kid_at kids v.cell ≡ Some child → move ≡ invoke_port kids part child v
    → map (copied_group move) (enabled_groups (groups_of child.control) 0 child.groups) ≡ copies kids part v
copies_some kids part v child move its same =
    ap (λ m. map (copied_group m) (enabled_groups (groups_of child.control) 0 child.groups)) same ∙ ap (λ k. copies_if kids part k v) (sym its)

pub copies_none : (kids : Kids) (part : PlainComponent) (v : PlainInvoke) → kid_at kids v.cell ≡ None → [] ≡ copies kids part v
copies_none kids part v none = ap (λ k. copies_if kids part k v) (sym none)
