-- Where what something does is one thing, an answer that there is is given and what stops it is told, unless memory is wanting.
use Rattle.std.proofs.Common.{◌≡◌, ◌⊎◌, inl, inr, ℕ, List, Result, Ok, Err, IfOk, IfErr, MatchResult, sym, ap}
use Rattle.cx_commands.specs.declared.stops.Stop.{Stop}
use Rattle.cx_commands.specs.declared.stops.Stop.TheVariants as stops

abbrev pub Told : Type 0
Told = Result (List ℕ) Stop

abbrev ok_or : List ℕ → Told → List ℕ
ok_or bytes (Ok answer) = answer
ok_or bytes (Err stop) = bytes

abbrev err_or : Stop → Told → Stop
err_or stop (Ok answer) = stop
err_or stop (Err why) = why

pub same_answer : (a b : List ℕ) → (let told : Told = Ok a in told ≡ Ok b) → a ≡ b
same_answer a b e = ap (ok_or a) e

pub same_stop : (a b : Stop) → (let told : Told = Err a in told ≡ Err b) → a ≡ b
same_stop a b e = ap (err_or a) e

pub not_both : (answer : List ℕ) (stop : Stop) → (let told : Told = Ok answer in told ≡ Err stop) → ⊥
not_both answer stop e = cc

-- want of memory, or what is made of a cause
pub or_memory : {P Q : Type 0} (stop : Stop) → (stop ≡ stops.Memory) ⊎ P → (P → Q) → (stop ≡ stops.Memory) ⊎ Q
or_memory stop (inl memory) f = inl memory
or_memory stop (inr h) f = inr (f h)

-- what is wanted of it, and what it does, are one thing
module _ {X : Type 0} (bytes : X → List ℕ) (Wants Does : Told → Type 0) (once : (a b : Told) → Wants a → Does b → a ≡ b) where
  pub all_answered : (r : Result X Stop) → IfOk r (λ x. Does (Ok (bytes x))) → IfErr r (λ stop. (stop ≡ stops.Memory) ⊎ Does (Err stop))
      → (answer : List ℕ) → Wants (Ok answer) → MatchResult r (λ x. bytes x ≡ answer) (λ stop. stop ≡ stops.Memory)
  all_answered (Ok x) h k answer i = sym (same_answer answer (bytes x) (once (Ok answer) (Ok (bytes x)) i h))
  all_answered (Err stop) h (inl memory) answer i = memory
  all_answered (Err stop) h (inr own) answer i = absurd (not_both answer stop (once (Ok answer) (Err stop) i own))

  pub all_stopped : (r : Result X Stop) → IfOk r (λ x. Does (Ok (bytes x))) → IfErr r (λ stop. (stop ≡ stops.Memory) ⊎ Does (Err stop))
      → (why : Stop) → Wants (Err why) → MatchResult r (λ _. ⊥) (λ stop. (stop ≡ stops.Memory) ⊎ (stop ≡ why))
  all_stopped (Ok x) h k why i = not_both (bytes x) why (sym (once (Err why) (Ok (bytes x)) i h))
  all_stopped (Err stop) h (inl memory) why i = inl memory
  all_stopped (Err stop) h (inr own) why i = inr (sym (same_stop why stop (once (Err why) (Err stop) i own)))
