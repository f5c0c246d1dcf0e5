-- Facts of what `InstanceTree` defines, that several crates above take.
use Rattle.std.proofs.Common.{◌≡◌, ℕ, ◌+◌, ◌==◌, List, [], ◌∷◌, Option, Some, None, if◌then◌else◌, true, Bool, false, option_map, ◌<◌, ⊎_elim, ◌++◌, length, map, slice_get, refl}
use Rattle.std.specs.Option.{option_map_or}
use Rattle.cx_vtree.specs.InstanceTree.{Placed, driving_output, output_to, Origin, Outside, Tied, same_name, Held, nets_at, declared_nets, Given}
use Rattle.std.specs.Cmp.Lexicographic.{bytes_decides}
use Rattle.std.proofs.lemmas.Bool.{cases_lt}
use Rattle.std.proofs.lemmas.Option.{slice_get_past}
use Rattle.cx_vtree.specs.Plain.{PlainExpr}

pub driving_not_outside : (ps : List Placed) (number holder : ℕ) (net : List ℕ) → driving_output ps number holder net ≡ Some Outside → ⊥
driving_not_outside [] number holder net e = absurd (cc)
driving_not_outside (p ∷ rest) number holder net e =
    go (if p.holder == holder then output_to p.part.ports p.conns net else None) (driving_output rest (number + 1) holder net) (driving_not_outside rest (number + 1) holder net) e
  where
    go : (o : Option (List ℕ)) (d : Option Origin) → (d ≡ Some Outside → ⊥) → option_map_or (λ port. Some (Tied number port)) o d ≡ Some Outside → ⊥
    go None d h f = h f
    go (Some port) d h f = absurd (cc)

pub is_same : (a b : List ℕ) → a ≡ b → same_name a b ≡ true
is_same a b e = (bytes_decides a b).1 e

pub same_is : (a b : List ℕ) → same_name a b ≡ true → a ≡ b
same_is a b e = (bytes_decides a b).0 e

pub input_unheld : (t : Bool) (o : Option (List ℕ)) (holder w : ℕ) → (if t then Some Outside else option_map (Tied holder) o) ≡ Some (Held w) → ⊥
input_unheld true o holder w e = absurd (cc)
input_unheld false None holder w e = absurd (cc)
input_unheld false (Some n) holder w e = absurd (cc)

-- no output holds a value
pub output_unheld : (ps : List Placed) (number holder w : ℕ) (net : List ℕ) → driving_output ps number holder net ≡ Some (Held w) → ⊥
output_unheld [] number holder w net e = absurd (cc)
output_unheld (p ∷ rest) number holder w net e =
    go (if p.holder == holder then output_to p.part.ports p.conns net else None) (driving_output rest (number + 1) holder net) (output_unheld rest (number + 1) holder w net) e
  where
    go : (o : Option (List ℕ)) (d : Option Origin) → (d ≡ Some (Held w) → ⊥) → option_map_or (λ port. Some (Tied number port)) o d ≡ Some (Held w) → ⊥
    go None d h f = h f
    go (Some port) d h f = absurd (cc)

pub net_within : (tree : List Placed) (i k : ℕ) (n : List ℕ) → slice_get (nets_at tree i) k ≡ Some n → i < length tree
net_within tree i k n at = ⊎_elim (λ lt. lt) (λ le. absurd (past (slice_get tree i) (slice_get_past tree i le) at)) (cases_lt i (length tree))
  where
    past : (o : Option Placed) → o ≡ None → slice_get (map (λ p. p.name) (option_map_or (λ p. p.part.ports) o []) ++ declared_nets (option_map_or (λ p. p.part.decls) o [])) k ≡ Some n → ⊥
    past None e at = cc
    past (Some p) e at = cc

pub same_self : (n : List ℕ) → same_name n n ≡ true
same_self n = (bytes_decides n n).1 refl

pub assigned_unheld : (o : Option PlainExpr) (d : Option Origin) (w : ℕ) → (d ≡ Some (Held w) → ⊥) → option_map_or (λ e. Some (Given e)) o d ≡ Some (Held w) → ⊥
assigned_unheld None d w h f = h f
assigned_unheld (Some e) d w h f = absurd (cc)
