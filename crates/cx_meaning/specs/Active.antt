-- Active sets, and the order of the assignments in them.
use Rattle.std.specs.Prelude.{ℕ, suc, Bool, true, false, ◌||◌, ◌&&◌, nat_eq, nat_lt, nat_le, List, [], ◌∷◌, ◌++◌, Option, Some, None, if◌then◌else◌}
use Rattle.cx_text.specs.declared.places.Place.{Place}
use Rattle.cx_meaning.specs.declared.ports.PortRef.{PortRef}
use Rattle.cx_meaning.specs.declared.ports.PortRef.TheVariants as ports
use Rattle.cx_meaning.specs.Designs.{PlainAssign, PlainGroup, PlainComponent}

-- an active set: the continuous assignments, the groups that are active, each at its offset, and the component cell
-- whose done is 1, if any. A plain group, a comb group and a call group are active at offset 0; an island has
-- several static groups active in a cycle, each at the offset since its occurrence began
pub record Active : Type 0 where
  pub offset : ℕ → Option ℕ
  pub done_cell : Option ℕ

-- the continuous assignments alone
abbrev pub nothing : Active
nothing = record { offset = λ g. None; done_cell = None }

abbrev pub only_at : ℕ → ℕ → Option ℕ
only_at g h = if nat_eq g h then Some 0 else None

-- with one group, plain or comb
abbrev pub group : ℕ → Active
group g = record { offset = only_at g; done_cell = None }

-- with the comb group of a test, where there is one
abbrev pub comb : Option ℕ → Active
comb None = nothing
comb (Some g) = group g

-- with a call group, in the cycle in which the done of its cell is 1
abbrev pub capture : ℕ → ℕ → Active
capture g c = record { offset = only_at g; done_cell = Some c }

-- a static group, and the offset at which it is active
pub record Entry : Type 0 where
  pub group : ℕ
  pub offset : ℕ

abbrev pub offset_in : List Entry → ℕ → Option ℕ
offset_in [] g = None
offset_in (e ∷ es) g = if nat_eq e.group g then Some e.offset else offset_in es g

-- with the static groups of a cycle of an island
abbrev pub entries : List Entry → Active
entries es = record { offset = offset_in es; done_cell = None }

-- an assignment, and the group that it stands in; none for a continuous one
pub record Owned : Type 0 where
  pub owner : Option ℕ
  pub assign : PlainAssign

abbrev pub owned : Option ℕ → List PlainAssign → List Owned
owned o [] = []
owned o (a ∷ rest) = record { owner = o; assign = a } ∷ owned o rest

abbrev pub owned_by_groups : ℕ → List PlainGroup → List Owned
owned_by_groups g [] = []
owned_by_groups g (x ∷ xs) = owned (Some g) x.assigns ++ owned_by_groups (suc g) xs

-- a stands no later in the text than b
abbrev pub no_later : Place → Place → Bool
no_later a b = nat_lt a.line b.line || (nat_eq a.line b.line && nat_le a.column b.column)

abbrev pub placed_in : Owned → List Owned → List Owned
placed_in a [] = a ∷ []
placed_in a (b ∷ bs) = if no_later a.assign.place b.assign.place then a ∷ b ∷ bs else b ∷ placed_in a bs

abbrev pub by_place : List Owned → List Owned
by_place [] = []
by_place (a ∷ rest) = placed_in a (by_place rest)

-- SOURCE ORDER: all assignments of a component by place; at one place the continuous ones first, then by the number
-- of the group, then as they stand in their list
abbrev pub source_order : PlainComponent → List Owned
source_order part = by_place (owned None part.always ++ owned_by_groups 0 part.groups)

-- an active assignment, at the offset of its group
pub record Acting : Type 0 where
  pub offset : ℕ
  pub assign : PlainAssign

abbrev pub offset_of : Active → Option ℕ → Option ℕ
offset_of act None = Some 0
offset_of act (Some g) = act.offset g

abbrev pub if_acting : Option ℕ → PlainAssign → List Acting → List Acting
if_acting None a rest = rest
if_acting (Some o) a rest = record { offset = o; assign = a } ∷ rest

-- the cell of a port of a cell, and the number of the port there
abbrev pub cell_number : PortRef → ℕ
cell_number (ports.Cell c p) = c
cell_number (ports.Input n) = 0
cell_number (ports.Output n) = 0
cell_number (ports.Done g) = 0
cell_number (ports.Literal w v) = 0

abbrev pub port_number : PortRef → ℕ
port_number (ports.Cell c p) = p
port_number (ports.Input n) = 0
port_number (ports.Output n) = 0
port_number (ports.Done g) = 0
port_number (ports.Literal w v) = 0

-- two references to one port
abbrev pub same_port : PortRef → PortRef → Bool
same_port (ports.Cell c p) (ports.Cell d q) = nat_eq c d && nat_eq p q
same_port (ports.Input i) (ports.Input j) = nat_eq i j
same_port (ports.Output i) (ports.Output j) = nat_eq i j
same_port (ports.Done g) (ports.Done h) = nat_eq g h
same_port (ports.Literal w v) (ports.Literal x u) = nat_eq w x && nat_eq v u
same_port p q = false

abbrev pub if_target : Bool → Active → Owned → List Acting → List Acting
if_target true act a rest = if_acting (offset_of act a.owner) a.assign rest
if_target false act a rest = rest

-- of a list of assignments the active ones whose target is the port
abbrev pub acting : Active → PortRef → List Owned → List Acting
acting act p [] = []
acting act p (a ∷ rest) = if_target (same_port a.assign.target p) act a (acting act p rest)

-- the active assignments of a port, in source order
abbrev pub drivers : PlainComponent → Active → PortRef → List Acting
drivers part act p = acting act p (source_order part)
