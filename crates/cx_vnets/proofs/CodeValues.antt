-- A code has the value of the expression that it stands for.
use Rattle.std.proofs.Common.{◌≡◌, ℕ, ◌==◌, List, Option, Some, option_and_then, option_map, ap, sym, ◌∙◌, if◌then◌else◌}
use Rattle.cx_bits.specs.BitVector.{BitVector}
use Rattle.cx_vtree.specs.Plain.{PlainExpr, Named, Number, Part, Word, Applied, Inverted, Chosen, Joined}
use Rattle.cx_vtree.specs.Operators.{operate, inverted, part_of, joined}
use Rattle.cx_vtree.specs.Meaning.{expr_in}
use Rattle.cx_vnets.specs.declared.codes.Code.{Code}
use Rattle.cx_vnets.specs.declared.codes.Code.TheVariants.{Net, Literal, Slice, Item', Binary', Not', Choose', Cat'}
use Rattle.cx_vnets.specs.Codes.{code_in}
use Rattle.cx_vnets.specs.ModuleCodes.{IsCode}

module _ (nets arrays : List ℕ → Option ℕ) (look : List ℕ → Option BitVector) (flat : ℕ → Option BitVector)
    (word : List ℕ → ℕ → BitVector) (words : ℕ → ℕ → BitVector)
    (same_nets : (n : List ℕ) (k : ℕ) → nets n ≡ Some k → look n ≡ flat k)
    (same_words : (n : List ℕ) (a index : ℕ) → arrays n ≡ Some a → word n index ≡ words a index) where
  abbrev by_name : PlainExpr → Option BitVector
  by_name e = expr_in look word e

  abbrev by_number : Code → Option BitVector
  by_number c = code_in flat words c

  pub same_value : (c : Code) (e : PlainExpr) → IsCode nets arrays c e → expr_in look word e ≡ code_in flat words c
  same_value (Net k) (Named n) h = same_nets n k h
  same_value (Literal b) (Number v) h = ap Some (sym h)
  same_value (Slice k high low) (Part n top bottom) h =
      ap (option_map (part_of top bottom)) (same_nets n k h.0)
      ∙ ap (λ x. option_map (part_of x bottom) (flat k)) (sym h.1)
      ∙ ap (λ x. option_map (part_of high x) (flat k)) (sym h.2)
  same_value (Item' a p i) (Word n j) h =
      ap (option_map (λ (x : BitVector). word n x.value)) (same_value i j h.1)
      ∙ ap (λ (f : BitVector → BitVector). option_map f (by_number i)) (λ t x. same_words n a x.value h.0 t)
  same_value (Binary' op p a q b) (Applied o x y) h =
      ap (λ z. option_and_then (λ v. option_map (operate o v) z) (by_name x)) (same_value b y h.2)
      ∙ ap (option_and_then (λ v. option_map (operate o v) (by_number b))) (same_value a x h.1)
      ∙ ap (λ g. option_and_then (λ v. option_map (operate g v) (by_number b)) (by_number a)) (sym h.0)
  same_value (Not' p a) (Inverted x) h = ap (option_map inverted) (same_value a x h)
  same_value (Choose' p c q a r b) (Chosen z x y) h =
      ap (λ o. option_and_then (λ (t : BitVector). if t.value == 0 then o else by_name x) (by_name z)) (same_value b y h.2)
      ∙ ap (λ o. option_and_then (λ (t : BitVector). if t.value == 0 then by_number b else o) (by_name z)) (same_value a x h.1)
      ∙ ap (option_and_then (λ (t : BitVector). if t.value == 0 then by_number b else by_number a)) (same_value c z h.0)
  same_value (Cat' p a q b) (Joined x y) h =
      ap (λ z. option_and_then (λ v. option_map (joined v) z) (by_name x)) (same_value b y h.1)
      ∙ ap (option_and_then (λ v. option_map (joined v) (by_number b))) (same_value a x h.0)
  same_value c e h = absurd h
