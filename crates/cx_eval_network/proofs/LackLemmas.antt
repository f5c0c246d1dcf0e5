-- The first node that is not known, and where a found port and the instance at a cell stand.
use Rattle.std.proofs.Common.{◌≡◌, ℕ, ◌<◌, inl, inr, Bool, true, false, Some, None, List, [], ◌∷◌, length, nat_lt, refl, sym, ap, ◌∙◌, subst}
use Rattle.std.specs.Prelude.{if◌then◌else◌}
use Rattle.cx_text.specs.Members.{In}
use Rattle.cx_state.specs.declared.tables.InstanceRow.{InstanceRow}
use Rattle.cx_state.specs.Tables.{child_of}
use Rattle.cx_eval_network.specs.declared.marks.NodeMark.{NodeMark}
use Rattle.cx_eval_network.specs.Demands.{known_at}
use Rattle.cx_eval_network.specs.declared.numbering.NodePort.{NodePort}
use Rattle.cx_eval_network.specs.Networks.{Asked}
use Rattle.cx_eval_network.specs.declared.asking.Asking.{Asking}
use Rattle.cx_eval_network.specs.Asked.{CanAsk, child_in}
use Rattle.cx_eval_network.specs.Askings.{IsFound, asked_of}
use Rattle.cx_eval_network.specs.Lacking.{unknown_in}
use Rattle.cx_text.proofs.OptionLaws.{same_some, none_is_some}
use Rattle.cx_text.proofs.NumberLaws.{lt_true}

-- THE FIRST that is not known
module _ (marks : List NodeMark) where
  pub first_none : (ms : List ℕ) → None ≡ unknown_in marks ms → (m : ℕ) → In ms m → known_at marks m ≡ true
  first_none [] e m i = absurd i
  first_none (k ∷ ks) e m i = choice (known_at marks k) refl (λ f j. first_none ks f m j) e i
    where
      choice : (b : Bool) → known_at marks k ≡ b → (None ≡ unknown_in marks ks → In ks m → known_at marks m ≡ true)
          → None ≡ (if b then unknown_in marks ks else Some k) → In (k ∷ ks) m → known_at marks m ≡ true
      choice true is behind f (inl same) = ap (known_at marks) (sym same) ∙ is
      choice true is behind f (inr j) = behind f j
      choice false is behind f j = absurd (none_is_some k f)

  pub first_some : (ms : List ℕ) (m : ℕ) → Some m ≡ unknown_in marks ms → In ms m × (known_at marks m ≡ false)
  first_some [] m e = absurd (none_is_some m (sym e))
  first_some (k ∷ ks) m e = choice (known_at marks k) refl (λ f. first_some ks m f) e
    where
      choice : (b : Bool) → known_at marks k ≡ b → (Some m ≡ unknown_in marks ks → In ks m × (known_at marks m ≡ false))
          → Some m ≡ (if b then unknown_in marks ks else Some k) → In (k ∷ ks) m × (known_at marks m ≡ false)
      choice true is behind f = let r = behind f in (inr r.0, r.1)
      choice false is behind f = let same : m ≡ k = same_some m k f in (inl (sym same), ap (known_at marks) same ∙ is)

-- WHAT A FOUND PORT leads to
module _ (asking : Asking) (can : CanAsk (asked_of asking) asking.nodes.now) (found : NodePort) (f : IsFound (asked_of asking) found) where
  abbrev a : Asked
  a = asked_of asking

  abbrev k : ℕ
  k = found.instance

  pub component_within : found.component < length a.design.components
  component_within = subst (λ m. m < length a.design.components) (sym f.component) (can.network.table.there k f.within)

-- THE INSTANCE at a cell
module _ (rows : List InstanceRow) (children : List ℕ) (n c : ℕ) where
  pub child_is : (child : ℕ) → Some child ≡ child_in rows children n c → child ≡ child_of rows children n c
  child_is child e = choice (nat_lt (child_of rows children n c) (length rows)) e
    where
      choice : (b : Bool) → Some child ≡ (if b then Some (child_of rows children n c) else None) → child ≡ child_of rows children n c
      choice true f = same_some child (child_of rows children n c) f
      choice false f = absurd (none_is_some child (sym f))

  pub child_there : child_of rows children n c < length rows → None ≡ child_in rows children n c → ⊥
  child_there lt e = choice (nat_lt (child_of rows children n c) (length rows)) (lt_true (child_of rows children n c) (length rows) lt) e
    where
      choice : (b : Bool) → b ≡ true → None ≡ (if b then Some (child_of rows children n c) else None) → ⊥
      choice true is f = none_is_some (child_of rows children n c) f
      choice false is f = absurd (let no : false ≡ true = is in cc)
