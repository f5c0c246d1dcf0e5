-- The assignments of a component beside those of another, in which their ports are moved and others stand between.
use Rattle.std.specs.Prelude.{◌≡◌, ℕ, false, List, [], ◌∷◌, ◌++◌, Some, None}
use Rattle.cx_meaning.specs.declared.ports.PortRef.{PortRef}
use Rattle.cx_meaning.specs.Designs.{PlainComponent}
use Rattle.cx_meaning.specs.Active.{Active, Owned, owned, owned_by_groups, offset_of, same_port}
use Rattle.cx_text.specs.Members.{In}
use Rattle.cx_rewrites.specs.Moving.{moved_assign}

-- the assignments of a component, not yet by place
abbrev pub assigns_of : PlainComponent → List Owned
assigns_of part = owned None part.always ++ owned_by_groups 0 part.groups

-- of the active assignments among these the move keeps those of p apart from the others
abbrev pub KeepsApart : (PortRef → PortRef) → Active → PortRef → List Owned → Type 0
KeepsApart move act p list =
    (o : Owned) (k : ℕ) → In list o → offset_of act o.owner ≡ Some k
    → same_port (move o.assign.target) (move p) ≡ same_port o.assign.target p

module _ (move : PortRef → PortRef) (act more : Active) (p : PortRef) where
  -- an assignment and the moved one: both act, at one offset, or neither does, and where they do they drive p and the moved port alike
  pub record IsMoved (o n : Owned) : Type 0 where
    pub assign : n.assign ≡ moved_assign move o.assign
    pub offset : offset_of more n.owner ≡ offset_of act o.owner
    pub target : (k : ℕ) → offset_of act o.owner ≡ Some k
        → same_port (move o.assign.target) (move p) ≡ same_port o.assign.target p

  -- all of a list, moved, in their order; between them others that do not act or drive other ports
  pub data Between : List Owned → List Owned → Type 0 where
    no_assigns : Between [] []
    kept : {o n : Owned} {os ns : List Owned} → IsMoved o n → Between os ns → Between (o ∷ os) (n ∷ ns)
    foreign : {n : Owned} {os ns : List Owned}
        → ((k : ℕ) → offset_of more n.owner ≡ Some k → same_port n.assign.target (move p) ≡ false)
        → Between os ns → Between os (n ∷ ns)
