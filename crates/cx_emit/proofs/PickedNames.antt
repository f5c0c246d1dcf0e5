-- The names at some ports of the cells of a component: at its inputs, which are assigned, and its outputs, which instances drive.
use Rattle.std.proofs.Common.{◌≡◌, ℕ, zero, suc, ◌+◌, not, Bool, true, false, List, [], ◌∷◌, ◌++◌, Some, slice_get, refl, ap, sym, ◌∙◌, subst, if◌then◌else◌, arith, append_assoc}
use Rattle.std.specs.Prelude.{codes}
use Rattle.std.proofs.lemmas.Bool.{or_from, false_from_ne_true}
use Rattle.std.proofs.lemmas.Option.{slice_get_within}
use Rattle.cx_vtree.specs.Plain.{PlainPort}
use Rattle.cx_vtree.specs.Sound.{has_name}
use Rattle.cx_vlaws.proofs.Fresh.{at_has, has-append, Fresh, Within, within_out, within_next, within_more}
use Rattle.cx_emit.specs.Names.{cell_port_name}
use Rattle.cx_emit.specs.Numbered.{numbered_from, lists_from}
use Rattle.cx_emit.specs.Numbers.{AreFew, HaveFewPorts}
use Rattle.cx_emit.specs.Signatures.{PlainCellPorts}
use Rattle.cx_emit.proofs.NumberedLemmas.{In, lists_in}
use Rattle.cx_emit.proofs.NameLaws.{twice_numbered-injective}
use Rattle.cx_emit.proofs.ApartLaws.{letters_in, letters_in-twice_numbered, port_names, fresh_twice}

-- SOME OF A LIST, in its order
pub data Sub : List (List ℕ) → List (List ℕ) → Type 0 where
  sub_none : Sub [] []
  sub_kept : {x : List ℕ} {xs ys : List (List ℕ)} → Sub xs ys → Sub (x ∷ xs) (x ∷ ys)
  sub_left : {y : List ℕ} {xs ys : List (List ℕ)} → Sub xs ys → Sub xs (y ∷ ys)

pub sub_same : (xs : List (List ℕ)) → Sub xs xs
sub_same [] = sub_none
sub_same (x ∷ xs) = sub_kept (sub_same xs)

pub sub_both : (xs ys us vs : List (List ℕ)) → Sub xs ys → Sub us vs → Sub (xs ++ us) (ys ++ vs)
sub_both xs ys us vs sub_none k = k
sub_both xs ys us vs (sub_kept h) k = sub_kept (sub_both _ _ us vs h k)
sub_both xs ys us vs (sub_left h) k = sub_left (sub_both xs _ us vs h k)

-- where no two of all are the same, no two of some are
pub fresh_sub : (less more xs ys : List (List ℕ)) → Within less more → Sub xs ys → Fresh more ys → Fresh less xs
fresh_sub less more xs ys w sub_none f = tt
fresh_sub less more xs ys w (sub_kept {x = x} {xs = us} {ys = vs} h) f = (within_out less more x w f.0, fresh_sub (less ++ x ∷ []) (more ++ x ∷ []) us vs (within_next less more x w) h f.1)
fresh_sub less more xs ys w (sub_left {y = y} {xs = us} {ys = vs} h) f = fresh_sub less (more ++ y ∷ []) us vs (within_more less more y w) h f.1

-- names that others lack stay different from one another behind them
pub fresh_beyond : (earlier between ns : List (List ℕ)) → ((n : List ℕ) → In n ns → has_name earlier n ≡ false) → Fresh between ns → Fresh (earlier ++ between) ns
fresh_beyond earlier between [] lack f = tt
fresh_beyond earlier between (n ∷ ns) lack f = (
  has-append earlier between n ∙ or_from (has_name earlier n) (has_name between n) (lack n (zero, refl)) f.0,
  subst (λ e. Fresh e ns) (sym (append_assoc earlier between (n ∷ []))) (fresh_beyond earlier (between ++ n ∷ []) ns (λ m h. lack m (suc h.0, h.1)) f.1),
)

-- THE NAMES at the ports of a cell that keep a test
abbrev pub picked : (PlainPort → Bool) → ℕ → ℕ → List PlainPort → List (List ℕ)
picked test c b [] = []
picked test c b (p ∷ ps) = if test p then cell_port_name c b ∷ picked test c (suc b) ps else picked test c (suc b) ps

abbrev pub picked_of : (PlainPort → Bool) → ℕ → PlainCellPorts → List (List ℕ)
picked_of test c cell = picked test c 0 cell.ports

-- those of all cells
abbrev pub all_picked : (PlainPort → Bool) → ℕ → List PlainCellPorts → List (List ℕ)
all_picked test k cells = lists_from (picked_of test) k cells

module _ (test : PlainPort → Bool) where
  sub_picked : (c b : ℕ) (ps : List PlainPort) → Sub (picked test c b ps) (numbered_from (λ p port. cell_port_name c p) b ps)
  sub_picked c b [] = sub_none
  sub_picked c b (p ∷ ps) = go (test p) (sub_picked c (suc b) ps) where
    go : (t : Bool) → Sub (picked test c (suc b) ps) (numbered_from (λ p port. cell_port_name c p) (suc b) ps)
        → Sub (if t then cell_port_name c b ∷ picked test c (suc b) ps else picked test c (suc b) ps) (cell_port_name c b ∷ numbered_from (λ p port. cell_port_name c p) (suc b) ps)
    go true h = sub_kept h
    go false h = sub_left h

  pub sub_all_picked : (k : ℕ) (cells : List PlainCellPorts) → Sub (all_picked test k cells) (port_names (codes "c") k cells)
  sub_all_picked k [] = sub_none
  sub_all_picked k (cell ∷ cells) = sub_both (picked test k 0 cell.ports) _ (all_picked test (suc k) cells) (port_names (codes "c") (suc k) cells) (sub_picked k 0 cell.ports) (sub_all_picked (suc k) cells)

  pub in_picked : (c b : ℕ) (ps : List PlainPort) (j : ℕ) (port : PlainPort) → slice_get ps j ≡ Some port → test port ≡ true → In (cell_port_name c (b + j)) (picked test c b ps)
  in_picked c b [] j port e h = absurd (cc)
  in_picked c b (p ∷ ps) zero port e h =
      let same : p ≡ port = cc in
      let here : b ≡ b + 0 = omega arith in
      subst (λ n. In (cell_port_name c n) (picked test c b (p ∷ ps))) here
      (subst (λ t. In (cell_port_name c b) (if t then cell_port_name c b ∷ picked test c (suc b) ps else picked test c (suc b) ps)) (sym (ap test same ∙ h)) (zero, refl))
  in_picked c b (p ∷ ps) (suc j) port e h =
      let place : suc b + j ≡ b + suc j = omega arith in
      subst (λ n. In (cell_port_name c n) (picked test c b (p ∷ ps))) place (go (test p) (in_picked c (suc b) ps j port e h))
    where
      go : (t : Bool) → In (cell_port_name c (suc b + j)) (picked test c (suc b) ps) → In (cell_port_name c (suc b + j)) (if t then cell_port_name c b ∷ picked test c (suc b) ps else picked test c (suc b) ps)
      go true i = (suc i.0, i.1)
      go false i = i

  -- what it is the name of
  pub record Picked (c b : ℕ) (ps : List PlainPort) (n : List ℕ) : Type 0 where
    pub place : ℕ
    pub port : PlainPort
    pub there : slice_get ps place ≡ Some port
    pub kept : test port ≡ true
    pub is : n ≡ cell_port_name c (b + place)

  pub picked_in : (c b : ℕ) (ps : List PlainPort) (n : List ℕ) → In n (picked test c b ps) → Picked c b ps n
  picked_in c b [] n (q, e) = absurd (cc)
  picked_in c b (p ∷ ps) n i = go (test p) refl i (picked_in c (suc b) ps n) where
    later : Picked c (suc b) ps n → Picked c b (p ∷ ps) n
    later r = let place : suc b + r.place ≡ b + suc r.place = omega arith in record { place = suc r.place; port = r.port; there = r.there; kept = r.kept; is = r.is ∙ ap (cell_port_name c) place }

    go : (t : Bool) → test p ≡ t → In n (if t then cell_port_name c b ∷ picked test c (suc b) ps else picked test c (suc b) ps) → (In n (picked test c (suc b) ps) → Picked c (suc b) ps n) → Picked c b (p ∷ ps) n
    go true h (zero, e) next = let here : b ≡ b + 0 = omega arith in let same : cell_port_name c b ≡ n = cc in record { place = zero; port = p; there = refl; kept = h; is = sym same ∙ ap (cell_port_name c) here }
    go true h (suc q, e) next = later (next (q, e))
    go false h i next = later (next i)

  pub fresh_picked : (cells : List PlainCellPorts) → AreFew cells → HaveFewPorts cells → Fresh [] (all_picked test 0 cells)
  fresh_picked cells few ports = fresh_sub [] [] (all_picked test 0 cells) (port_names (codes "c") 0 cells) (λ n h. h) (sub_all_picked 0 cells) (fresh_twice (codes "c") cells few ports)

pub few_ports_at : (cells : List PlainCellPorts) (c : ℕ) (cell : PlainCellPorts) → HaveFewPorts cells → slice_get cells c ≡ Some cell → AreFew cell.ports
few_ports_at [] c cell few e = absurd (cc)
few_ports_at (x ∷ cells) zero cell few e = let same : x ≡ cell = cc in subst (λ (y : PlainCellPorts). AreFew y.ports) same few.0
few_ports_at (x ∷ cells) (suc c) cell few e = few_ports_at cells c cell few.1 e

-- no name at an output is one at an input
module _ (cells : List PlainCellPorts) (few : AreFew cells) (ports : HaveFewPorts cells) where
  abbrev inputs : List (List ℕ)
  inputs = all_picked (λ p. not p.output) 0 cells

  abbrev outputs : List (List ℕ)
  outputs = all_picked (λ p. p.output) 0 cells

  sides_differ : (n : List ℕ) → In n outputs → In n inputs → ⊥
  sides_differ n out inn =
      let (c, cell, at, i) = lists_in (picked_of (λ p. p.output)) cells n out in
      let (d, other, at_other, j) = lists_in (picked_of (λ p. not p.output)) cells n inn in
      let a = picked_in (λ p. p.output) c 0 cell.ports n i in
      let b = picked_in (λ p. not p.output) d 0 other.ports n j in
      let first = slice_get_within cells c cell at in
      let second = slice_get_within cells d other at_other in
      let few_here = few_ports_at cells c cell ports at in
      let few_there = few_ports_at cells d other ports at_other in
      let place = slice_get_within cell.ports a.place a.port a.there in
      let place_too = slice_get_within other.ports b.place b.port b.there in
      let same = twice_numbered-injective (codes "c") c (0 + a.place) d (0 + b.place) (omega (arith, first, few)) (omega (arith, place, few_here)) (omega (arith, second, few)) (omega (arith, place_too, few_there)) (sym a.is ∙ b.is) in
      let places : a.place ≡ b.place = (let e = same.1 in omega (arith, e)) in
      let there : Some cell ≡ Some other = sym at ∙ ap (slice_get cells) same.0 ∙ at_other in
      let cell_same : cell ≡ other = cc in
      let port_there : Some a.port ≡ Some b.port = sym a.there ∙ ap (slice_get cell.ports) places ∙ ap (λ (x : PlainCellPorts). slice_get x.ports b.place) cell_same ∙ b.there in
      let port_same : a.port ≡ b.port = cc in
      let kept : not a.port.output ≡ true = ap (λ (x : PlainPort). not x.output) port_same ∙ b.kept in
      wrong a.port.output a.kept kept
    where
      wrong : (b : Bool) → b ≡ true → not b ≡ true → ⊥
      wrong true e f = absurd (cc)
      wrong false e f = absurd (cc)

  pub output_letters : (n : List ℕ) → In n outputs → letters_in n ≡ codes "cx_c"
  output_letters n out =
      let (c, cell, at, i) = lists_in (picked_of (λ p. p.output)) cells n out in
      let a = picked_in (λ p. p.output) c 0 cell.ports n i in
      let first = slice_get_within cells c cell at in
      ap letters_in a.is ∙ letters_in-twice_numbered (codes "c") refl c (0 + a.place) (omega (arith, first, few))

  pub not_input : (n : List ℕ) → In n outputs → has_name inputs n ≡ false
  not_input n out = false_from_ne_true (has_name inputs n) (λ h. sides_differ n out (at_has inputs n h))
