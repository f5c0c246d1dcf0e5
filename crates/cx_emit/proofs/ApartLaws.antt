-- No two parts of a module have one name.
use Rattle.std.proofs.Common.{◌≡◌, ℕ, suc, ◌+◌, ◌<◌, ◌≤◌, ◌^◌, Bool, true, false, ◌&&◌, if◌then◌else◌, List, [], ◌∷◌, ◌++◌, length, map, refl, ap, sym, ◌∙◌, subst, arith, append_assoc, append-nil}
use Rattle.std.specs.Prelude.{codes, decimal}
use Rattle.std.specs.List.{list_all}
use Rattle.std.proofs.lemmas.Bool.{or_from, or_left, or_right, both_ways, false_from_ne_true}
use Rattle.std.proofs.lemmas.Fmt.{decimal_nonempty}
use Rattle.cx_vtree.specs.InstanceTree.{same_name}
use Rattle.cx_vtree.specs.Sound.{has_name}
use Rattle.cx_vlaws.proofs.Fresh.{has-append, Fresh, fresh_both}
use Rattle.cx_emit.specs.Numbered.{numbered_from, with_numbers, lists_from}
use Rattle.cx_emit.specs.Numbers.{AreFew, HaveFewPorts}
use Rattle.cx_emit.specs.Names.{numbered, twice_numbered}
use Rattle.cx_emit.specs.Signatures.{PlainCellPorts}
use Rattle.cx_emit.proofs.NameLaws.{is_digit, digits-decimal, numbered-injective, twice_numbered-injective}
use Rattle.cx_vtree.proofs.InstanceTreeLemmas.{same_is, is_same}

-- what stands before the first digit of a name
abbrev pub letters_in : List ℕ → List ℕ
letters_in [] = []
letters_in (c ∷ cs) = if is_digit c then [] else c ∷ letters_in cs

no_letters : (ds more : List ℕ) → 0 < length ds → list_all is_digit ds ≡ true → letters_in (ds ++ more) ≡ []
no_letters [] more some h = absurd (omega (arith, some))
no_letters (d ∷ ds) more some h = first (is_digit d) h where
  first : (b : Bool) → (b && list_all is_digit ds) ≡ true → (if b then [] else d ∷ letters_in (ds ++ more)) ≡ []
  first true h = refl
  first false h = absurd (cc)

letters_before : (letters more : List ℕ) → letters_in letters ≡ letters → letters_in more ≡ [] → letters_in (letters ++ more) ≡ letters
letters_before [] more own none = none
letters_before (c ∷ cs) more own none = first (is_digit c) own (letters_before cs more) where
  first : (b : Bool) → (if b then [] else c ∷ letters_in cs) ≡ c ∷ cs → (letters_in cs ≡ cs → letters_in more ≡ [] → letters_in (cs ++ more) ≡ cs) → (if b then [] else c ∷ letters_in (cs ++ more)) ≡ c ∷ cs
  first true own later = absurd (cc)
  first false own later = let rest : letters_in cs ≡ cs = cc in ap (λ xs. c ∷ xs) (later rest none)

module _ (letters : List ℕ) (own : letters_in (codes "cx_" ++ letters) ≡ codes "cx_" ++ letters) where
  -- those of a name with a number are `cx_` and the letters
  pub letters_in-numbered : (n : ℕ) → n < 2 ^ 64 → letters_in (numbered letters n) ≡ codes "cx_" ++ letters
  letters_in-numbered n small =
      letters_before (codes "cx_" ++ letters) (decimal n) own (alone (decimal n) (decimal_nonempty n small) (digits-decimal n small)) where
        alone : (ds : List ℕ) → 0 < length ds → list_all is_digit ds ≡ true → letters_in ds ≡ []
        alone [] some h = refl
        alone (d ∷ ds) some h = first (is_digit d) h where
          first : (b : Bool) → (b && list_all is_digit ds) ≡ true → (if b then [] else d ∷ letters_in ds) ≡ []
          first true h = refl
          first false h = absurd (cc)

  pub letters_in-twice_numbered : (n m : ℕ) → n < 2 ^ 64 → letters_in (twice_numbered letters n m) ≡ codes "cx_" ++ letters
  letters_in-twice_numbered n m small =
      ap letters_in (grouped n m)
      ∙ letters_before (codes "cx_" ++ letters) (decimal n ++ (codes "_" ++ decimal m)) own (no_letters (decimal n) (codes "_" ++ decimal m) (decimal_nonempty n small) (digits-decimal n small)) where
        grouped : (n m : ℕ) → twice_numbered letters n m ≡ (codes "cx_" ++ letters) ++ (decimal n ++ (codes "_" ++ decimal m))
        grouped n m = simp append_assoc

-- all of some names have these letters, or none of them has
abbrev pub HaveLetters : List ℕ → List (List ℕ) → Type 0
HaveLetters l [] = Unit {0}
HaveLetters l (n ∷ ns) = (letters_in n ≡ l) × HaveLetters l ns

abbrev pub LackLetters : List ℕ → List (List ℕ) → Type 0
LackLetters l [] = Unit {0}
LackLetters l (n ∷ ns) = (letters_in n ≡ l → ⊥) × LackLetters l ns

pub lack_other : (l m : List ℕ) (ns : List (List ℕ)) → (l ≡ m → ⊥) → HaveLetters m ns → LackLetters l ns
lack_other l m [] other h = tt
lack_other l m (n ∷ ns) other h = ((λ e. other (sym e ∙ h.0)), lack_other l m ns other h.1)

pub lacks_name : (l : List ℕ) (ns : List (List ℕ)) (m : List ℕ) → LackLetters l ns → letters_in m ≡ l → has_name ns m ≡ false
lacks_name l [] m h is = refl
lacks_name l (n ∷ ns) m h is =
    or_from (same_name n m) (has_name ns m) (false_from_ne_true (same_name n m) (λ same. h.0 (ap letters_in (same_is n m same) ∙ is))) (lacks_name l ns m h.1 is)

-- names that are no two the same stay so behind names of other letters
fresh_beside : (l : List ℕ) (earlier between ns : List (List ℕ)) → LackLetters l earlier → HaveLetters l ns → Fresh between ns → Fresh (earlier ++ between) ns
fresh_beside l earlier between [] lack have f = tt
fresh_beside l earlier between (n ∷ ns) lack have f = (
  has-append earlier between n ∙ or_from (has_name earlier n) (has_name between n) (lacks_name l earlier n lack have.0) f.0,
  subst (λ e. Fresh e ns) (sym (append_assoc earlier between (n ∷ []))) (fresh_beside l earlier (between ++ n ∷ []) ns lack have.1 f.1),
)

module _ {A : Type 0} (name : ℕ → List ℕ) (same : (i j : ℕ) → i < 2 ^ 64 → j < 2 ^ 64 → name i ≡ name j → i ≡ j) where
  -- names by number
  fresh_family : (earlier : List (List ℕ)) (k : ℕ) (xs : List A) → k + length xs ≤ 2 ^ 64 → ((j : ℕ) → k ≤ j → j < 2 ^ 64 → has_name earlier (name j) ≡ false)
      → Fresh earlier (numbered_from (λ j x. name j) k xs)
  fresh_family earlier k [] few none = tt
  fresh_family earlier k (x ∷ xs) few none =
      let within : k < 2 ^ 64 = omega (arith, few) in
      let later : suc k + length xs ≤ 2 ^ 64 = omega (arith, few) in (
        none k (omega arith) within,
        fresh_family (earlier ++ name k ∷ []) (suc k) xs later (λ j from small.
            has-append earlier (name k ∷ []) (name j)
            ∙ or_from (has_name earlier (name j)) (has_name (name k ∷ []) (name j)) (none j (omega (arith, from)) small)
            (or_from (same_name (name k) (name j)) false (false_from_ne_true (same_name (name k) (name j)) (λ e. let is : k ≡ j = same k j within small (same_is (name k) (name j) e) in omega (arith, from, is))) refl)),
      )

  have_family : (l : List ℕ) (k : ℕ) (xs : List A) → k + length xs ≤ 2 ^ 64 → ((j : ℕ) → j < 2 ^ 64 → letters_in (name j) ≡ l) → HaveLetters l (numbered_from (λ j x. name j) k xs)
  have_family l k [] few each = tt
  have_family l k (x ∷ xs) few each = let within : k < 2 ^ 64 = omega (arith, few) in let later : suc k + length xs ≤ 2 ^ 64 = omega (arith, few) in (each k within, have_family l (suc k) xs later each)

-- a family of names with one number
pub fresh_numbered : {A : Type 0} (letters : List ℕ) (xs : List A) → AreFew xs → Fresh [] (with_numbers (λ j x. numbered letters j) xs)
fresh_numbered letters xs few = fresh_family (numbered letters) (numbered-injective letters) [] 0 xs (omega (arith, few)) (λ j from small. refl)

pub have_numbered : {A : Type 0} (letters : List ℕ) → letters_in (codes "cx_" ++ letters) ≡ codes "cx_" ++ letters → (xs : List A) → AreFew xs
    → HaveLetters (codes "cx_" ++ letters) (with_numbers (λ j x. numbered letters j) xs)
have_numbered letters own xs few = have_family (numbered letters) (numbered-injective letters) (codes "cx_" ++ letters) 0 xs (omega (arith, few)) (λ j small. letters_in-numbered letters own j small)

lacks_family : {A : Type 0} (name : ℕ → List ℕ) (m : List ℕ) (k : ℕ) (xs : List A) → k + length xs ≤ 2 ^ 64 → ((i : ℕ) → i < 2 ^ 64 → name i ≡ m → ⊥) → has_name (numbered_from (λ j x. name j) k xs) m ≡ false
lacks_family name m k [] few other = refl
lacks_family name m k (x ∷ xs) few other =
    let within : k < 2 ^ 64 = omega (arith, few) in
    let later : suc k + length xs ≤ 2 ^ 64 = omega (arith, few) in
    or_from (same_name (name k) m) (has_name (numbered_from (λ j x. name j) (suc k) xs) m) (false_from_ne_true (same_name (name k) m) (λ e. other k within (same_is (name k) m e))) (lacks_family name m (suc k) xs later other)

have_both : (l : List ℕ) (ns ms : List (List ℕ)) → HaveLetters l ns → HaveLetters l ms → HaveLetters l (ns ++ ms)
have_both l [] ms h k = k
have_both l (n ∷ ns) ms h k = (h.0, have_both l ns ms h.1 k)

-- the names at the ports of cells, by the numbers of both
abbrev pub port_names : List ℕ → ℕ → List PlainCellPorts → List (List ℕ)
port_names letters k cells = lists_from (λ c cell. with_numbers (λ p port. twice_numbered letters c p) cell.ports) k cells

module _ (letters : List ℕ) where
  fresh_twice_from : (earlier : List (List ℕ)) (k : ℕ) (cells : List PlainCellPorts) → k + length cells ≤ 2 ^ 64 → HaveFewPorts cells
      → ((j p : ℕ) → k ≤ j → j < 2 ^ 64 → p < 2 ^ 64 → has_name earlier (twice_numbered letters j p) ≡ false) → Fresh earlier (port_names letters k cells)
  fresh_twice_from earlier k [] few ports none = tt
  fresh_twice_from earlier k (cell ∷ cells) few ports none =
      let within : k < 2 ^ 64 = omega (arith, few) in
      let later : suc k + length cells ≤ 2 ^ 64 = omega (arith, few) in
      let own : List (List ℕ) = with_numbers (λ p port. twice_numbered letters k p) cell.ports in
      let so_many = ports.0 in
      fresh_both earlier own (port_names letters (suc k) cells)
      (fresh_family (twice_numbered letters k) (λ i j small less e. (twice_numbered-injective letters k i k j within small within less e).1) earlier 0 cell.ports (omega (arith, so_many)) (λ p from small. none k p (omega arith) within small))
      (fresh_twice_from (earlier ++ own) (suc k) cells later ports.1 (λ j p from small less.
      has-append earlier own (twice_numbered letters j p)
      ∙ or_from (has_name earlier (twice_numbered letters j p)) (has_name own (twice_numbered letters j p)) (none j p (omega (arith, from)) small less)
      (lacks_family (twice_numbered letters k) (twice_numbered letters j p) 0 cell.ports (omega (arith, so_many))
      (λ q fits e. let is : k ≡ j = (twice_numbered-injective letters k q j p within fits small less e).0 in omega (arith, from, is)))))

  -- names with two numbers
  pub fresh_twice : (cells : List PlainCellPorts) → AreFew cells → HaveFewPorts cells → Fresh [] (port_names letters 0 cells)
  fresh_twice cells few ports = fresh_twice_from [] 0 cells (omega (arith, few)) ports (λ j p from small less. refl)

  module _ (own : letters_in (codes "cx_" ++ letters) ≡ codes "cx_" ++ letters) where
    have_twice_from : (k : ℕ) (cells : List PlainCellPorts) → k + length cells ≤ 2 ^ 64 → HaveFewPorts cells → HaveLetters (codes "cx_" ++ letters) (port_names letters k cells)
    have_twice_from k [] few ports = tt
    have_twice_from k (cell ∷ cells) few ports =
        let within : k < 2 ^ 64 = omega (arith, few) in
        let later : suc k + length cells ≤ 2 ^ 64 = omega (arith, few) in
        let so_many = ports.0 in
        have_both (codes "cx_" ++ letters) (with_numbers (λ p port. twice_numbered letters k p) cell.ports) (port_names letters (suc k) cells)
        (have_family (twice_numbered letters k) (λ i j small less e. (twice_numbered-injective letters k i k j within small within less e).1) (codes "cx_" ++ letters) 0 cell.ports (omega (arith, so_many)) (λ p small. letters_in-twice_numbered letters own k p within))
        (have_twice_from (suc k) cells later ports.1)

    pub have_twice : (cells : List PlainCellPorts) → AreFew cells → HaveFewPorts cells → HaveLetters (codes "cx_" ++ letters) (port_names letters 0 cells)
    have_twice cells few ports = have_twice_from 0 cells (omega (arith, few)) ports

-- names of the same letters, no two the same
pub record Kin : Type 0 where
  pub letters : List ℕ
  pub names : List (List ℕ)
  pub have : HaveLetters letters names
  pub apart : Fresh [] names

abbrev pub names_of : List Kin → List (List ℕ)
names_of [] = []
names_of (g ∷ gs) = g.names ++ names_of gs

-- the letters of each name are among these
abbrev pub AreAmong : List (List ℕ) → List (List ℕ) → Type 0
AreAmong ls [] = Unit {0}
AreAmong ls (n ∷ ns) = (has_name ls (letters_in n) ≡ true) × AreAmong ls ns

lack_among : (ls : List (List ℕ)) (l : List ℕ) (ns : List (List ℕ)) → has_name ls l ≡ false → AreAmong ls ns → LackLetters l ns
lack_among ls l [] out h = tt
lack_among ls l (n ∷ ns) out h = ((λ e. both_ways (has_name ls l) out (subst (λ m. has_name ls m ≡ true) e h.0)), lack_among ls l ns out h.1)

among_more : (ls : List (List ℕ)) (l : List ℕ) (ns : List (List ℕ)) → AreAmong ls ns → AreAmong (ls ++ l ∷ []) ns
among_more ls l [] h = tt
among_more ls l (n ∷ ns) h = (has-append ls (l ∷ []) (letters_in n) ∙ or_left (has_name ls (letters_in n)) (has_name (l ∷ []) (letters_in n)) h.0, among_more ls l ns h.1)

among_own : (ls : List (List ℕ)) (l : List ℕ) (ns : List (List ℕ)) → HaveLetters l ns → AreAmong (ls ++ l ∷ []) ns
among_own ls l [] h = tt
among_own ls l (n ∷ ns) h = (
  has-append ls (l ∷ []) (letters_in n) ∙ or_right (has_name ls (letters_in n)) (has_name (l ∷ []) (letters_in n)) (or_left (same_name l (letters_in n)) false (is_same l (letters_in n) (sym h.0))),
  among_own ls l ns h.1,
)

among_both : (ls ns ms : List (List ℕ)) → AreAmong ls ns → AreAmong ls ms → AreAmong ls (ns ++ ms)
among_both ls [] ms h k = k
among_both ls (n ∷ ns) ms h k = (h.0, among_both ls ns ms h.1 k)

-- kins of different letters have no name in common
pub fresh_kins : (ls earlier : List (List ℕ)) (gs : List Kin) → AreAmong ls earlier → Fresh ls (map (λ g. g.letters) gs) → Fresh earlier (names_of gs)
fresh_kins ls earlier [] among f = tt
fresh_kins ls earlier (g ∷ gs) among f =
    fresh_both earlier g.names (names_of gs)
    (subst (λ e. Fresh e g.names) (append-nil earlier) (fresh_beside g.letters earlier [] g.names (lack_among ls g.letters earlier f.0 among) g.have g.apart))
    (fresh_kins (ls ++ g.letters ∷ []) (earlier ++ g.names) gs (among_both (ls ++ g.letters ∷ []) earlier g.names (among_more ls g.letters earlier among) (among_own ls g.letters g.names g.have)) f.1)
