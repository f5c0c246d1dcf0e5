-- Facts of what `Nets` defines, that several crates above take.
use Rattle.std.proofs.Common.{◌≡◌, ◌+◌, [], ◌∷◌, ◌++◌, length, map, length-append, arith, ℕ, false, refl, List, All}
use Rattle.std.proofs.lemmas.List.{length-map}
use Rattle.std.proofs.lemmas.List.Elements.{All-nil, All-cons}
use Rattle.cx_meaning.specs.declared.kinds.PortDecl.{PortDecl}
use Rattle.cx_net.specs.Nets.{PlainNetComponent, ToPort, ToHole, PlainNet}
use Rattle.cx_net.specs.NetFits.{signature_widths}
use Rattle.cx_meaning.specs.declared.ports.PortRef.{PortRef}
use Rattle.cx_meaning.specs.declared.ports.PortRef.TheVariants as ports
use Rattle.cx_net.specs.NetMeaning.{same_target}
use Rattle.cx_text.specs.Members.{Each}

-- what holds of each holds of all
pub each_all : {A : Type 0} (P : A → Type 0) (xs : List A) → Each P xs → All P xs
each_all P [] h = All-nil P
each_all P (x ∷ xs) h = All-cons P x xs h.0 (each_all P xs h.1)

-- the net of these components
abbrev pub net_in : List PlainNetComponent → ℕ → PlainNet
net_in components main = record { components = components; main = main }

pub length-signature : (part : PlainNetComponent) → length (signature_widths part) ≡ 2 + length part.inputs + length part.outputs
length-signature part =
    let inputs = length-map part.inputs (λ (d : PortDecl). d.width) in
    let outputs = length-map part.outputs (λ (d : PortDecl). d.width) in
    let front = length-append (1 ∷ map (λ (d : PortDecl). d.width) part.inputs) (map (λ (d : PortDecl). d.width) part.outputs) in
    let whole = length-append (1 ∷ map (λ (d : PortDecl). d.width) part.inputs ++ map (λ (d : PortDecl). d.width) part.outputs) (1 ∷ []) in
    omega arith

pub no_port_hole : (m : ℕ) (p : PortRef) → same_target (ToPort p) (ToHole m) ≡ false
no_port_hole m (ports.Cell c p) = refl
no_port_hole m (ports.Input i) = refl
no_port_hole m (ports.Output i) = refl
no_port_hole m (ports.Done g) = refl
no_port_hole m (ports.Literal w v) = refl
