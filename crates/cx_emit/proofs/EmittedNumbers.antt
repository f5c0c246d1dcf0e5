-- Of a list of which something holds it holds of each element; numbers that fit.
use Rattle.std.proofs.Common.{◌≡◌, ℕ, zero, suc, ◌<◌, ◌≤◌, List, [], ◌∷◌, length, map, get_or, All, sym, ap, ◌∙◌, subst, arith}
use Rattle.std.proofs.lemmas.List.{length-map, get_or-map}
use Rattle.std.proofs.lemmas.List.Elements.{All-get_or}
use Rattle.std.proofs.lemmas.Nat.{pow_pos}
use denote.Param.Weighed.{most, at_most}
use Rattle.cx_bits.specs.BitVector.{Fits}
use Rattle.cx_prim.specs.Widths.{IsWidth}
use Rattle.cx_net.proofs.exprs.NetExpr.TheLaws.{the_size}
use Rattle.cx_net.specs.declared.exprs.NetExpr.{NetExpr}
use Rattle.cx_net.specs.Nets.{PlainNetExpr, exprs_of}
use Rattle.cx_emit.specs.Emitted.{LiteralsFit, AllLiteralsFit}

-- an element of a list, of whose images it holds
pub all_at : {A B : Type 0} (P : B → Type 0) (f : A → B) (xs : List A) (n : ℕ) (x : A) → All P (map f xs) → n < length xs → x ≡ get_or xs n x → P (f x)
all_at P f xs n x all within is =
    let long : length (map f xs) ≡ length xs = length-map xs f in
    subst P (get_or-map f xs n x (f x) within ∙ ap f (sym is)) (All-get_or P (map f xs) n (f x) (omega (arith, within, long)) all)

-- and an expression among others
pub literals_at : {A : Type 0} (f : A → PlainNetExpr) (xs : List A) (n : ℕ) (x : A) → AllLiteralsFit (exprs_of (map f xs)) → n < length xs → x ≡ get_or xs n x → LiteralsFit (f x)
literals_at f [] n x h less is = absurd (omega (arith, less))
literals_at f (y ∷ xs) zero x h less is = subst (λ z. LiteralsFit (f z)) (sym is) h.0
literals_at f (y ∷ xs) (suc n) x h less is = literals_at f xs n x h.1 (omega (arith, less)) is

-- which is no larger than the largest of them
pub part_size : (parts : List NetExpr) (n : ℕ) (x : NetExpr) → n < length parts → x ≡ get_or parts n x → the_size x ≤ most (λ y. the_size y) parts
part_size parts n x within is = subst (λ y. the_size y ≤ most (λ z. the_size z) parts) (sym is) (at_most (λ z. the_size z) parts n x within)

-- 0 fits each width
pub zero_fits : (width : ℕ) → IsWidth width → Fits (record { width = width; value = 0 })
zero_fits width wide = record { some_bits = wide.some_bits; few_bits = wide.few_bits; in_range = pow_pos width }
