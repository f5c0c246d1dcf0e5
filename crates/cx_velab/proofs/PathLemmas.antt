-- Paths, step by step.
use Rattle.std.proofs.Common.{◌≡◌, ◌≢◌, ℕ, zero, suc, ◌+◌, ◌<◌, ◌≤◌, ◌==◌, List, [], ◌∷◌, ◌++◌, Bool, true, false, Option, Some, None, map, length, get_or, option_map, slice_get, refl, sym, ap, ◌∙◌, append-nil, append_assoc, if◌then◌else◌, arith, ne_eqb}
use Rattle.std.specs.Option.{option_map_or}
use Rattle.std.proofs.lemmas.Option.{slice_get-map, slice_get_past}
use Rattle.cx_vtree.specs.declared.modules.ModulePort.{ModulePort}
use Rattle.cx_vtree.specs.PlainParts.{plain_port}
use Rattle.cx_vtree.specs.InstanceTree.{Placed}
use Rattle.cx_velab.specs.Paths.{up}
use Rattle.cx_text.proofs.ListLaws.{item_at, behind, append-front}
use Rattle.cx_vtree.proofs.ModulesLemmas.{ports-length}

-- a port of a module is a net of it
pub net-front : (ports xs : List ModulePort) (more : List (List ℕ)) (k : ℕ) (o : Option (List ℕ)) → xs ≡ ports → k < length ports → o ≡ slice_get (map (λ p. p.name) (map plain_port xs)) k
    → o ≡ slice_get (map (λ p. p.name) (map plain_port ports) ++ more) k
net-front ports xs more k o same lt e =
    e ∙ ap (λ (l : List ModulePort). slice_get (map (λ p. p.name) (map plain_port l)) k) same
    ∙ sym (append-front (map (λ p. p.name) (map plain_port ports)) more k (omega (arith, ports-length ports)))

-- and after the ports come the others
pub net-back : (ports : List ModulePort) (more : List (List ℕ)) (k j : ℕ) → k ≡ length ports + j → slice_get (map (λ p. p.name) (map plain_port ports) ++ more) k ≡ slice_get more j
net-back ports more k j e = behind (map (λ p. p.name) (map plain_port ports)) more k j (omega (arith, ports-length ports))

pub up-zero : (tree : List Placed) (n : ℕ) → up tree n 0 ≡ []
up-zero tree zero = refl
up-zero tree (suc k) = refl

pub up-none : (tree : List Placed) (n at : ℕ) → slice_get tree at ≡ None → up tree n at ≡ []
up-none tree zero at none = refl
up-none tree (suc k) at none = go (at == 0)
  where
    go : (b : Bool) → (if b then [] else option_map_or (λ p. at ∷ up tree k p.holder) (slice_get tree at) []) ≡ []
    go true = refl
    go false = ap (λ o. option_map_or (λ p. at ∷ up tree k p.holder) o []) none

up-some : (tree : List Placed) (k at : ℕ) (p : Placed) → at ≢ 0 → slice_get tree at ≡ Some p → up tree (suc k) at ≡ at ∷ up tree k p.holder
up-some tree k at p ne some =
    ap (λ b. if b then [] else option_map_or (λ q. at ∷ up tree k q.holder) (slice_get tree at) []) (ne_eqb at 0 ne)
    ∙ ap (λ o. option_map_or (λ q. at ∷ up tree k q.holder) o []) some

-- one instance more is on the way up
pub chain-more : (tree : List Placed) (xs ys whole : List ℕ) (n m at : ℕ) (p : Placed) → at ≢ 0 → slice_get tree at ≡ Some p → n ≡ m + 1 → ys ≡ xs ++ at ∷ [] → xs ++ up tree n at ≡ whole
    → ys ++ up tree m p.holder ≡ whole
chain-more tree xs ys whole n m at p ne some count pushed e =
    let next : n ≡ suc m = omega arith in
    ap (λ l. l ++ up tree m p.holder) pushed ∙ append_assoc xs (at ∷ []) (up tree m p.holder)
    ∙ ap (λ l. xs ++ l) (sym (ap (λ k. up tree k at) next ∙ up-some tree m at p ne some)) ∙ e

-- no instance more is
pub chain-end : (tree : List Placed) (xs whole : List ℕ) (n at : ℕ) → up tree n at ≡ [] → xs ++ up tree n at ≡ whole → xs ≡ whole
chain-end tree xs whole n at none e = sym (append-nil xs) ∙ ap (λ l. xs ++ l) (sym none) ∙ e

pub got-none : {A B : Type 0} (f : A → B) (xs : List A) (i : ℕ) → length xs ≤ i → slice_get (map f xs) i ≡ None
got-none f xs i le = slice_get-map f xs i ∙ ap (option_map f) (slice_get_past xs i le)

pub port-some : (ports : List ModulePort) (k : ℕ) (p : ModulePort) → k < length ports → p ≡ get_or ports k p → Some p.name ≡ slice_get (map (λ p. p.name) (map plain_port ports)) k
port-some ports k p lt e = sym (slice_get-map (λ p. p.name) (map plain_port ports) k ∙ ap (option_map (λ p. p.name)) (item_at plain_port ports k p lt e))

pub port-none : (ports : List ModulePort) (k : ℕ) → length ports ≤ k → None ≡ slice_get (map (λ p. p.name) (map plain_port ports)) k
port-none ports k le = sym (slice_get-map (λ p. p.name) (map plain_port ports) k ∙ ap (option_map (λ p. p.name)) (got-none plain_port ports k le))
