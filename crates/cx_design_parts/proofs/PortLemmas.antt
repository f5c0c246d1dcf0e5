-- The ports of a row by their numbers.
use Rattle.std.proofs.Common.{◌≡◌, ◌+◌, ℕ, zero, suc, true, false, cond, List, [], ◌∷◌, Option, Some, None, drop, slice_get, ap, ◌∙◌, arith, add-one}
use Rattle.cx_prim.specs.declared.ports.PortRow.{PortRow}
use Rattle.cx_design_parts.specs.Outputs.{is_read_port, read_count}

abbrev port_or : PortRow → Option PortRow → PortRow
port_or other None = other
port_or other (Some port) = port

drop_there : (ports : List PortRow) (n : ℕ) (port : PortRow) → slice_get ports n ≡ Some port → drop n ports ≡ port ∷ drop (suc n) ports
drop_there [] n port e = absurd (cc)
drop_there (first ∷ ports) zero port e = ap (λ o. port_or first o ∷ ports) e
drop_there (first ∷ ports) (suc n) port e = drop_there ports n port e

-- one more port is read
pub count_more : (ports : List PortRow) (n all : ℕ) (port : PortRow) → slice_get ports n ≡ Some port → is_read_port port ≡ true
    → n + read_count (drop n ports) ≡ all → (n + 1) + read_count (drop (n + 1) ports) ≡ all
count_more ports n all port at read so_far =
    let rest = read_count (drop (suc n) ports) in
    let here : read_count (drop n ports) ≡ suc rest = ap read_count (drop_there ports n port at) ∙ ap (λ b. cond b (suc rest) 0) read in
    let next : read_count (drop (n + 1) ports) ≡ rest = ap (λ k. read_count (drop k ports)) (add-one n) in
    omega (arith, here, next, so_far)

-- a port that is not read is the first of those that are left
pub count_stops : (ports : List PortRow) (n all : ℕ) (port : PortRow) → slice_get ports n ≡ Some port → is_read_port port ≡ false
    → n + read_count (drop n ports) ≡ all → n ≡ all
count_stops ports n all port at unread so_far =
    let rest = read_count (drop (suc n) ports) in
    let here : read_count (drop n ports) ≡ 0 = ap read_count (drop_there ports n port at) ∙ ap (λ b. cond b (suc rest) 0) unread in
    omega (arith, here, so_far)
