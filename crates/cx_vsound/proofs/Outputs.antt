-- Outputs by their names, and what they drive.
use Rattle.std.proofs.Common.{◌≡◌, ℕ, Bool, true, false, ◌&&◌, ◌||◌, List, [], ◌∷◌, ◌++◌, refl, ap, sym, ◌∙◌, append_assoc, if◌then◌else◌}
use Rattle.cx_text.proofs.BoolLaws.{or_assoc}
use Rattle.cx_vtree.specs.InstanceTree.{same_name}
use Rattle.cx_vtree.specs.Plain.{PlainConn, PlainPort}
use Rattle.cx_vtree.specs.Sound.{doubles, driven_by, has_name, has_output}
use Rattle.cx_vsound.specs.Parts.{output_names}

-- a name is among those of the outputs where an output has it
pub has_name_outputs : (ps : List PlainPort) (name : List ℕ) → has_name (output_names ps) name ≡ has_output ps name
has_name_outputs [] name = refl
has_name_outputs (p ∷ ps) name = go p.output (has_name_outputs ps name)
  where
    go : (t : Bool) → has_name (output_names ps) name ≡ has_output ps name
        → has_name (if t then p.name ∷ output_names ps else output_names ps) name ≡ ((t && same_name p.name name) || has_output ps name)
    go true e = ap (λ b. same_name p.name name || b) e
    go false e = e

module _ (ps : List PlainPort) (k : PlainConn) (rest all : List PlainConn) (front : all ≡ k ∷ rest) where
  -- one more connection, of an output
  pub driven_by_output : has_output ps k.port ≡ true → (doubled whole more : Bool) (driven names next : List (List ℕ))
      → (doubled || doubles driven (driven_by ps all)) ≡ whole → driven ++ driven_by ps all ≡ names → more ≡ (doubled || has_name driven k.net) → next ≡ driven ++ k.net ∷ []
      → ((more || doubles next (driven_by ps rest)) ≡ whole) × (next ++ driven_by ps rest ≡ names)
  driven_by_output is doubled whole more driven names next h j is_more is_next =
      let one : driven_by ps all ≡ k.net ∷ driven_by ps rest = ap (driven_by ps) front ∙ ap (λ b. if b then k.net ∷ driven_by ps rest else driven_by ps rest) is in (
        ap (λ b. b || doubles next (driven_by ps rest)) is_more
            ∙ or_assoc doubled (has_name driven k.net) (doubles next (driven_by ps rest))
            ∙ ap (λ ns. doubled || (has_name driven k.net || doubles ns (driven_by ps rest))) is_next
            ∙ ap (λ ns. doubled || doubles driven ns) (sym one)
            ∙ h,
        ap (λ ns. ns ++ driven_by ps rest) is_next ∙ append_assoc driven (k.net ∷ []) (driven_by ps rest) ∙ ap (λ ns. driven ++ ns) (sym one) ∙ j,
      )

  -- and of another port
  pub driven_by_other : has_output ps k.port ≡ false → (doubled whole more : Bool) (driven names next : List (List ℕ))
      → (doubled || doubles driven (driven_by ps all)) ≡ whole → driven ++ driven_by ps all ≡ names → more ≡ doubled → next ≡ driven
      → ((more || doubles next (driven_by ps rest)) ≡ whole) × (next ++ driven_by ps rest ≡ names)
  driven_by_other is doubled whole more driven names next h j is_more is_next =
      let same : driven_by ps all ≡ driven_by ps rest = ap (driven_by ps) front ∙ ap (λ b. if b then k.net ∷ driven_by ps rest else driven_by ps rest) is in (
        ap (λ b. b || doubles next (driven_by ps rest)) is_more
            ∙ ap (λ ns. doubled || doubles ns (driven_by ps rest)) is_next
            ∙ ap (λ ns. doubled || doubles driven ns) (sym same)
            ∙ h,
        ap (λ ns. ns ++ driven_by ps rest) is_next ∙ ap (λ ns. driven ++ ns) (sym same) ∙ j,
      )
