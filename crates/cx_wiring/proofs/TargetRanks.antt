-- Two drivers of one target stand at one rank.
use Rattle.std.proofs.Common.{◌≡◌, ℕ, Bool, true, false, nat_eq, if◌then◌else◌, refl, ap, ◌∙◌, eqb-true}
use Rattle.cx_meaning.specs.declared.ports.PortRef.TheVariants as ports
use Rattle.cx_net.specs.Nets.{PlainNetTarget, ToPort, ToRegister, ToWire, ToHole, ToDone}
use Rattle.cx_net.specs.NetMeaning.{same_target}
use Rattle.cx_wiring.specs.Trees.{rank, rank_of}
use Rattle.cx_text.proofs.NumberLaws.{never}

one_cell : (c p d q : ℕ) (t : Bool) → nat_eq c d ≡ t → (if t then nat_eq p q else false) ≡ true → rank 0 c p ≡ rank 0 d q
one_cell c p d q true e h = ap (λ n. rank 0 n p) (eqb-true c d e) ∙ ap (λ n. rank 0 d n) (eqb-true p q h)
one_cell c p d q false e h = never h

pub same_rank : (a b : PlainNetTarget) → same_target a b ≡ true → rank_of a ≡ rank_of b
same_rank (ToPort (ports.Cell c p)) (ToPort (ports.Cell d q)) h = one_cell c p d q (nat_eq c d) refl h
same_rank (ToPort (ports.Cell c p)) (ToPort (ports.Input m)) h = never h
same_rank (ToPort (ports.Cell c p)) (ToPort (ports.Output m)) h = never h
same_rank (ToPort (ports.Cell c p)) (ToPort (ports.Done m)) h = never h
same_rank (ToPort (ports.Cell c p)) (ToPort (ports.Literal x u)) h = never h
same_rank (ToPort (ports.Cell c p)) (ToRegister m) h = never h
same_rank (ToPort (ports.Cell c p)) (ToWire m) h = never h
same_rank (ToPort (ports.Cell c p)) (ToHole m) h = never h
same_rank (ToPort (ports.Cell c p)) ToDone h = never h
same_rank (ToPort (ports.Input n)) (ToPort (ports.Cell d q)) h = never h
same_rank (ToPort (ports.Input n)) (ToPort (ports.Input m)) h = never h
same_rank (ToPort (ports.Input n)) (ToPort (ports.Output m)) h = never h
same_rank (ToPort (ports.Input n)) (ToPort (ports.Done m)) h = never h
same_rank (ToPort (ports.Input n)) (ToPort (ports.Literal x u)) h = never h
same_rank (ToPort (ports.Input n)) (ToRegister m) h = never h
same_rank (ToPort (ports.Input n)) (ToWire m) h = never h
same_rank (ToPort (ports.Input n)) (ToHole m) h = never h
same_rank (ToPort (ports.Input n)) ToDone h = never h
same_rank (ToPort (ports.Output n)) (ToPort (ports.Cell d q)) h = never h
same_rank (ToPort (ports.Output n)) (ToPort (ports.Input m)) h = never h
same_rank (ToPort (ports.Output n)) (ToPort (ports.Output m)) h = ap (λ k. rank 1 k 0) (eqb-true n m h)
same_rank (ToPort (ports.Output n)) (ToPort (ports.Done m)) h = never h
same_rank (ToPort (ports.Output n)) (ToPort (ports.Literal x u)) h = never h
same_rank (ToPort (ports.Output n)) (ToRegister m) h = never h
same_rank (ToPort (ports.Output n)) (ToWire m) h = never h
same_rank (ToPort (ports.Output n)) (ToHole m) h = never h
same_rank (ToPort (ports.Output n)) ToDone h = never h
same_rank (ToPort (ports.Done n)) (ToPort (ports.Cell d q)) h = never h
same_rank (ToPort (ports.Done n)) (ToPort (ports.Input m)) h = never h
same_rank (ToPort (ports.Done n)) (ToPort (ports.Output m)) h = never h
same_rank (ToPort (ports.Done n)) (ToPort (ports.Done m)) h = never h
same_rank (ToPort (ports.Done n)) (ToPort (ports.Literal x u)) h = never h
same_rank (ToPort (ports.Done n)) (ToRegister m) h = never h
same_rank (ToPort (ports.Done n)) (ToWire m) h = never h
same_rank (ToPort (ports.Done n)) (ToHole m) h = never h
same_rank (ToPort (ports.Done n)) ToDone h = never h
same_rank (ToPort (ports.Literal w v)) (ToPort (ports.Cell d q)) h = never h
same_rank (ToPort (ports.Literal w v)) (ToPort (ports.Input m)) h = never h
same_rank (ToPort (ports.Literal w v)) (ToPort (ports.Output m)) h = never h
same_rank (ToPort (ports.Literal w v)) (ToPort (ports.Done m)) h = never h
same_rank (ToPort (ports.Literal w v)) (ToPort (ports.Literal x u)) h = never h
same_rank (ToPort (ports.Literal w v)) (ToRegister m) h = never h
same_rank (ToPort (ports.Literal w v)) (ToWire m) h = never h
same_rank (ToPort (ports.Literal w v)) (ToHole m) h = never h
same_rank (ToPort (ports.Literal w v)) ToDone h = never h
same_rank (ToRegister n) (ToPort (ports.Cell d q)) h = never h
same_rank (ToRegister n) (ToPort (ports.Input m)) h = never h
same_rank (ToRegister n) (ToPort (ports.Output m)) h = never h
same_rank (ToRegister n) (ToPort (ports.Done m)) h = never h
same_rank (ToRegister n) (ToPort (ports.Literal x u)) h = never h
same_rank (ToRegister n) (ToRegister m) h = ap (λ k. rank 2 k 0) (eqb-true n m h)
same_rank (ToRegister n) (ToWire m) h = never h
same_rank (ToRegister n) (ToHole m) h = never h
same_rank (ToRegister n) ToDone h = never h
same_rank (ToWire n) (ToPort (ports.Cell d q)) h = never h
same_rank (ToWire n) (ToPort (ports.Input m)) h = never h
same_rank (ToWire n) (ToPort (ports.Output m)) h = never h
same_rank (ToWire n) (ToPort (ports.Done m)) h = never h
same_rank (ToWire n) (ToPort (ports.Literal x u)) h = never h
same_rank (ToWire n) (ToRegister m) h = never h
same_rank (ToWire n) (ToWire m) h = ap (λ k. rank 3 k 0) (eqb-true n m h)
same_rank (ToWire n) (ToHole m) h = never h
same_rank (ToWire n) ToDone h = never h
same_rank (ToHole n) (ToPort (ports.Cell d q)) h = never h
same_rank (ToHole n) (ToPort (ports.Input m)) h = never h
same_rank (ToHole n) (ToPort (ports.Output m)) h = never h
same_rank (ToHole n) (ToPort (ports.Done m)) h = never h
same_rank (ToHole n) (ToPort (ports.Literal x u)) h = never h
same_rank (ToHole n) (ToRegister m) h = never h
same_rank (ToHole n) (ToWire m) h = never h
same_rank (ToHole n) (ToHole m) h = ap (λ k. rank 4 k 0) (eqb-true n m h)
same_rank (ToHole n) ToDone h = never h
same_rank ToDone (ToPort (ports.Cell d q)) h = never h
same_rank ToDone (ToPort (ports.Input m)) h = never h
same_rank ToDone (ToPort (ports.Output m)) h = never h
same_rank ToDone (ToPort (ports.Done m)) h = never h
same_rank ToDone (ToPort (ports.Literal x u)) h = never h
same_rank ToDone (ToRegister m) h = never h
same_rank ToDone (ToWire m) h = never h
same_rank ToDone (ToHole m) h = never h
same_rank ToDone ToDone h = refl
