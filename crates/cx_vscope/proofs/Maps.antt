-- One more name in a map or a set.
use Rattle.std.proofs.Common.{◌≡◌, ℕ, ◌+◌, ◌<◌, suc, Bool, true, false, cond, if◌then◌else◌, List, [], ◌∷◌, ◌++◌, map, drop, get_or, length, Option, Some, unwrap_or, refl, ap, sym, ◌∙◌, drop-cons, add-one}
use Rattle.std.specs.HashMap as maps
use Rattle.std.specs.HashMap.{HashMap}
use Rattle.std.specs.HashSet as sets
use Rattle.std.specs.HashSet.{HashSet}
use Rattle.std.proofs.lemmas.List.Folds.{list_any-append}
use denote.Ref.{Bor}
use Rattle.cx_text.proofs.BoolLaws.{cond_either}
use Rattle.cx_vtree.specs.declared.meanings.Meaning.{Meaning}
use Rattle.cx_vtree.specs.declared.meanings.Meaning.TheVariants.{Nothing}
use Rattle.cx_vscope.specs.declared.drafts.DraftDecl.{DraftDecl}
use Rattle.cx_vtree.specs.declared.modules.ModulePort.{ModulePort}
use Rattle.cx_vtree.specs.InstanceTree.{same_name}
use Rattle.cx_vtree.specs.Plain.{PlainDecl}
use Rattle.cx_vtree.specs.PlainParts.{plain_port}
use Rattle.cx_vscope.specs.Drafts.{draft_decl}
use Rattle.cx_vtree.specs.Sound.{Scope, has_name, decl_name, decl_meaning, port_meaning, meant_decl, meant_in}
use Rattle.cx_vscope.specs.Scopes.{meant_by, HasAll}

abbrev by_bytes : Bor (List ℕ) → Bor (List ℕ) → Bool
by_bytes x y = same_name x.now y.now

pub has_push : {S : Type 0} (s t : HashSet (Bor (List ℕ)) S) (key : Bor (List ℕ)) (names : List (List ℕ)) → HasAll s names → sets.Updates by_bytes s t key true → HasAll t (names ++ key.now ∷ [])
has_push s t key names had up q =
    up.0 (record { ref_ptr = (0, 0); now = q })
    ∙ ap (λ h. cond (same_name key.now q) true h) (had q)
    ∙ cond_either (same_name key.now q) (has_name names q)
    ∙ sym (list_any-append (λ n. same_name n q) names (key.now ∷ []))

chosen : (b : Bool) (v : Meaning) (o : Option Meaning) (rest : Meaning) → unwrap_or o Nothing ≡ rest → unwrap_or (cond b (Some v) o) Nothing ≡ (if b then v else rest)
chosen true v o rest e = refl
chosen false v o rest e = e

-- the key has its new meaning, and the other names what they had
put : {S : Type 0} (m n : HashMap (Bor (List ℕ)) Meaning S) (key : List ℕ) (v : Meaning)
    → ((q : Bor (List ℕ)) → maps.get by_bytes n q ≡ cond (same_name key q.now) (Some v) (maps.get by_bytes m q))
    → (rest : Scope) → ((q : List ℕ) → meant_by m q ≡ rest q) → (q : List ℕ) → meant_by n q ≡ (if same_name key q then v else rest q)
put m n key v up rest had q =
    ap (λ o. unwrap_or o Nothing) (up (record { ref_ptr = (0, 0); now = q }))
    ∙ chosen (same_name key q) v (maps.get_by (λ k. same_name q k.now) m) (rest q) (had q)

module _ {S : Type 0} (m n : HashMap (Bor (List ℕ)) Meaning S) where
  pub decl_put : (v : Meaning) (ds : List DraftDecl) (i : ℕ) (d : DraftDecl) (key : List ℕ)
      → ((q : Bor (List ℕ)) → maps.get by_bytes n q ≡ cond (same_name key q.now) (Some v) (maps.get by_bytes m q))
      → key ≡ decl_name (draft_decl d) → v ≡ decl_meaning (draft_decl d) → i < length ds → d ≡ get_or ds i d
      → ((q : List ℕ) → meant_by m q ≡ meant_decl (map draft_decl (drop (i + 1) ds)) q) → (q : List ℕ) → meant_by n q ≡ meant_decl (map draft_decl (drop i ds)) q
  decl_put v ds i d key up is_key is_v lt at had q =
      put m n key v up (meant_decl (map draft_decl (drop (i + 1) ds))) had q
      ∙ ap (λ x. if same_name x q then v else meant_decl (map draft_decl (drop (i + 1) ds)) q) is_key
      ∙ ap (λ x. if same_name (decl_name (draft_decl d)) q then x else meant_decl (map draft_decl (drop (i + 1) ds)) q) is_v
      ∙ ap (λ xs. if same_name (decl_name (draft_decl d)) q then decl_meaning (draft_decl d) else meant_decl (map draft_decl xs) q) (ap (λ k. drop k ds) (add-one i))
      ∙ ap (λ x. meant_decl (map draft_decl (x ∷ drop (suc i) ds)) q) at
      ∙ ap (λ xs. meant_decl (map draft_decl xs) q) (sym (drop-cons ds i d lt))

  pub port_put : (v : Meaning) (ps : List ModulePort) (ds : List PlainDecl) (i : ℕ) (p : ModulePort)
      → ((q : Bor (List ℕ)) → maps.get by_bytes n q ≡ cond (same_name p.name q.now) (Some v) (maps.get by_bytes m q))
      → v ≡ port_meaning (plain_port p) → i < length ps → p ≡ get_or ps i p
      → ((q : List ℕ) → meant_by m q ≡ meant_in (map plain_port (drop (i + 1) ps)) ds q) → (q : List ℕ) → meant_by n q ≡ meant_in (map plain_port (drop i ps)) ds q
  port_put v ps ds i p up is_v lt at had q =
      put m n p.name v up (meant_in (map plain_port (drop (i + 1) ps)) ds) had q
      ∙ ap (λ x. if same_name p.name q then x else meant_in (map plain_port (drop (i + 1) ps)) ds q) is_v
      ∙ ap (λ xs. if same_name p.name q then port_meaning (plain_port p) else meant_in (map plain_port xs) ds q) (ap (λ k. drop k ps) (add-one i))
      ∙ ap (λ x. meant_in (map plain_port (x ∷ drop (suc i) ps)) ds q) at
      ∙ ap (λ xs. meant_in (map plain_port xs) ds q) (sym (drop-cons ps i p lt))
