-- Parts of a line.
use Rattle.std.proofs.Common.{◌≡◌, ◌<◌, ◌≢◌, ◌++◌, ℕ, List, [], ◌∷◌, length, codes, refl, sym, ap, ◌∙◌, arith}
use Rattle.std.proofs.lemmas.List.{append_assoc}
use Rattle.cx_data.specs.declared.faults.DataFault.{DataFault}
use Rattle.cx_data.specs.declared.faults.DataFault.TheVariants.{OutOfRange}
use Rattle.cx_commands.specs.Messages.{part, number, data_line}

pub part_empty : (piece : List ℕ) → length piece ≡ 0 → part piece ≡ []
part_empty [] h = refl
part_empty (b ∷ bytes) h = absurd (omega (arith, h))

pub part_whole : (piece : List ℕ) → length piece ≢ 0 → part piece ≡ 32 ∷ piece
part_whole [] h = absurd (h refl)
part_whole (b ∷ bytes) h = refl

-- a third part behind two
pub behind_two : (line first second third mid end : List ℕ) → mid ≡ line ++ (first ++ second) → end ≡ mid ++ third → end ≡ line ++ (first ++ (second ++ third))
behind_two line first second third mid end m e = e ∙ ap (λ x. x ++ third) m ∙ append_assoc line (first ++ second) third ∙ ap (λ x. line ++ x) (append_assoc first second third)

-- the line of a number that is out of range, behind the word of all data files
pub out_of_range_line : (fault : DataFault) (name : List ℕ) (index : ℕ) (line mid end : List ℕ) → fault ≡ OutOfRange name index → mid ≡ line ++ codes "data"
    → end ≡ mid ++ (part (codes "out-of-range") ++ (part name ++ number index)) → end ≡ line ++ data_line fault
out_of_range_line fault name index line mid end f m e =
    let told : data_line fault ≡ codes "data" ++ (part (codes "out-of-range") ++ (part name ++ number index)) = ap (λ x. data_line x) f in
    e ∙ ap (λ x. x ++ (part (codes "out-of-range") ++ (part name ++ number index))) m
    ∙ append_assoc line (codes "data") (part (codes "out-of-range") ++ (part name ++ number index)) ∙ ap (λ x. line ++ x) (sym told)
