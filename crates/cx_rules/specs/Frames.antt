-- Frames: sets of ports outside which nothing matters to what is seen in them.
use Rattle.std.specs.Prelude.{◌≡◌, ℕ, Bool, true, ◌∷◌}
use Rattle.cx_text.specs.Members.{In}
use Rattle.cx_meaning.specs.declared.ports.PortRef.{PortRef}
use Rattle.cx_meaning.specs.declared.ports.PortRef.TheVariants as ports
use Rattle.cx_meaning.specs.Instances.{Instance, part_of, State, Path}
use Rattle.cx_meaning.specs.Active.{Active, Owned, source_order, offset_of}
use Rattle.cx_meaning.specs.Sights.{Held, is_done_cell}
use Rattle.cx_rules.specs.Footprints.{Leads}

-- a set of ports that is closed under what they depend on in one active set; another active set has the same assignments of
-- them; and the held inputs and the states of cells agree where they stand in the set
pub record IsFrame (i : Instance) (held other_held : Held) (act other : Active) (s t : State)
    (set : PortRef → Bool) : Type 0 where
  pub closed : (p q : PortRef) → set p ≡ true → Leads i act p q → set q ≡ true
  pub assigns : (o : Owned) → In (source_order (part_of i)) o → set o.assign.target ≡ true
      → offset_of act o.owner ≡ offset_of other o.owner
  pub inputs : (n : ℕ) → set (ports.Input n) ≡ true → held n ≡ other_held n
  pub dones : (c p : ℕ) → set (ports.Cell c p) ≡ true → is_done_cell act.done_cell c ≡ is_done_cell other.done_cell c
  pub states : (c p : ℕ) → set (ports.Cell c p) ≡ true → (path : Path) → s (c ∷ path) ≡ t (c ∷ path)
