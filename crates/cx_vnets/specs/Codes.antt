-- The value of a code, and its width.
use Rattle.std.specs.Prelude.{ℕ, ◌==◌, Option, Some, option_and_then, option_map, if◌then◌else◌}
use Rattle.cx_bits.specs.BitVector.{BitVector}
use Rattle.cx_vtree.specs.Operators.{operate, inverted, part_of, joined}
use Rattle.cx_vtree.specs.Sound.{applied_width, chosen_width, joined_width, part_width}
use Rattle.cx_vnets.specs.declared.codes.Code.{Code}
use Rattle.cx_vnets.specs.declared.codes.Code.TheVariants.{Net, Literal, Slice, Item', Binary', Not', Choose', Cat'}

-- a code, where `nets` is what is known of the nets; None where a net that it needs is not known
abbrev pub code_in : (ℕ → Option BitVector) → (ℕ → ℕ → BitVector) → Code → Option BitVector
code_in nets words (Net k) = nets k
code_in nets words (Literal b) = Some b
code_in nets words (Slice k high low) = option_map (part_of high low) (nets k)
code_in nets words (Item' a p i) = option_map (λ x. words a x.value) (code_in nets words i)
code_in nets words (Binary' op p a q b) =
    option_and_then (λ x. option_map (operate op x) (code_in nets words b)) (code_in nets words a)
code_in nets words (Not' p a) = option_map inverted (code_in nets words a)
code_in nets words (Choose' p c q a r b) =
    option_and_then (λ t. if t.value == 0 then code_in nets words b else code_in nets words a)
    (code_in nets words c)
code_in nets words (Cat' p a q b) =
    option_and_then (λ x. option_map (joined x) (code_in nets words b)) (code_in nets words a)

-- the width of a code, where its nets and arrays have these; None where widths do not fit, or a net or an array is not there
abbrev pub code_width : (ℕ → Option ℕ) → (ℕ → Option ℕ) → Code → Option ℕ
code_width nets arrays (Net k) = nets k
code_width nets arrays (Literal b) = Some b.width
code_width nets arrays (Slice k high low) = option_and_then (λ w. part_width w high low) (nets k)
code_width nets arrays (Item' a p i) = option_and_then (λ v. arrays a) (code_width nets arrays i)
code_width nets arrays (Binary' op p a q b) =
    option_and_then (λ v. option_and_then (applied_width op v) (code_width nets arrays b))
    (code_width nets arrays a)
code_width nets arrays (Not' p a) = code_width nets arrays a
code_width nets arrays (Choose' p c q a r b) =
    option_and_then (λ t. option_and_then
    (λ v. option_and_then (chosen_width t v) (code_width nets arrays b)) (code_width nets arrays a))
    (code_width nets arrays c)
code_width nets arrays (Cat' p a q b) =
    option_and_then (λ v. option_and_then (joined_width v) (code_width nets arrays b))
    (code_width nets arrays a)
