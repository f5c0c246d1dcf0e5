-- Ports of a row by their names.
use Rattle.std.proofs.Common.{◌≡◌, ℕ, zero, suc, ◌≤◌, ◌+◌, true, false, List, [], ◌∷◌, length, drop, Some, None, refl, sym, ap, ◌∙◌, arith, add-one, if◌then◌else◌}
use Rattle.std.proofs.lemmas.List.{drop_all}
use Rattle.std.specs.Prelude.{slice_get}
use Rattle.cx_prim.specs.declared.ports.PortName.{PortName}
use Rattle.cx_prim.specs.declared.ports.PortRow.{PortRow}
use Rattle.cx_promotion.specs.Promotable.{is_name, is_named, first_named}

pub is_named_at : (name : PortName) (ports : List PortRow) (p : ℕ) (row : PortRow) → slice_get ports p ≡ Some row → is_named name ports p ≡ is_name name row.name
is_named_at name [] p row e = absurd cc
is_named_at name (port ∷ rest) zero row e = let same : port ≡ row = cc in ap (λ r. is_name name r.name) same
is_named_at name (port ∷ rest) (suc p) row e = is_named_at name rest p row e

pub is_named_out : (name : PortName) (ports : List PortRow) (p : ℕ) → length ports ≤ p → is_named name ports p ≡ false
is_named_out name [] p out = refl
is_named_out name (port ∷ rest) zero out = absurd (omega (arith, out))
is_named_out name (port ∷ rest) (suc p) out = is_named_out name rest p (omega (arith, out))

-- from port n on, where the port n is known
from_here : (name : PortName) (ports : List PortRow) (n k : ℕ) (row : PortRow) → slice_get ports n ≡ Some row
    → first_named name (drop n ports) k ≡ (if is_name name row.name then Some k else first_named name (drop (suc n) ports) (suc k))
from_here name [] n k row e = absurd cc
from_here name (port ∷ rest) zero k row e = let same : port ≡ row = cc in ap (λ r. if is_name name r.name then Some k else first_named name rest (suc k)) same
from_here name (port ∷ rest) (suc n) k row e = from_here name rest n k row e

pub first_here : (name : PortName) (ports : List PortRow) (n : ℕ) (row : PortRow) → slice_get ports n ≡ Some row → is_name name row.name ≡ true
    → first_named name (drop n ports) n ≡ Some n
first_here name ports n row e named = from_here name ports n n row e ∙ ap (λ b. if b then Some n else first_named name (drop (suc n) ports) (suc n)) named

pub first_later : (name : PortName) (ports : List PortRow) (n : ℕ) (row : PortRow) → slice_get ports n ≡ Some row → is_name name row.name ≡ false
    → first_named name (drop (n + 1) ports) (n + 1) ≡ first_named name (drop n ports) n
first_later name ports n row e other =
    ap (λ k. first_named name (drop k ports) k) (add-one n)
    ∙ sym (from_here name ports n n row e ∙ ap (λ b. if b then Some n else first_named name (drop (suc n) ports) (suc n)) other)

pub first_none : (name : PortName) (ports : List PortRow) (n : ℕ) → length ports ≤ n → first_named name (drop n ports) n ≡ None
first_none name ports n out = ap (λ rest. first_named name rest n) (drop_all n ports out)
