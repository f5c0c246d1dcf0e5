-- Facts of what `Samples` defines, that several crates above take.
use Rattle.std.proofs.Common.{◌≡◌, ℕ, zero, suc, Bool, refl, ap, sym}
use Rattle.std.specs.Prelude.{if◌then◌else◌}
use Rattle.std.proofs.lemmas.Bool.{ne_eqb, eq-eqb}
use Rattle.cx_laws.specs.Samples.{Samples, begin, says}
use Rattle.cx_meaning.specs.declared.ports.PortRef.{PortRef}
use Rattle.cx_meaning.specs.Sights.{Look}
use Rattle.cx_meaning.specs.Islands.{History, and_now}

-- what is taken is taken by the static ifs of the statement
pub begin_other : (n j m : ℕ) (v : Bool) (kept : Samples) → (m ≡ n → ⊥) → begin n j v kept m ≡ kept m
begin_other n zero m v kept differ = ap (λ b. if b then v else kept m) (ne_eqb m n differ)
begin_other n (suc j) m v kept differ = refl

-- the cycles of an island
pub now_is : (h : History) (t : ℕ) (look : Look) (port : PortRef) → says look port ≡ and_now h t look port t
now_is h t look port = sym (ap (λ b. if b then says look port else h port t) (eq-eqb t t refl))
