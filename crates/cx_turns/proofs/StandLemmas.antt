-- What a design keeps of the statements of its instances: the ports of their tests, and their groups.
use Rattle.std.proofs.Common.{◌≡◌, ℕ, ◌<◌, Bool, true, false, List, [], length, Option, Some, None, inl, inr, refl, sym, ap, ◌∙◌, subst}
use Rattle.cx_text.proofs.MemberLaws.{number_in}
use Rattle.cx_text.specs.declared.places.Place.{Place}
use Rattle.cx_text.specs.declared.rules.Rule.TheVariants.{Literal}
use Rattle.cx_meaning.specs.declared.ports.PortRef.{PortRef}
use Rattle.cx_meaning.specs.declared.ports.PortRef.TheVariants as ports
use Rattle.cx_meaning.specs.declared.ports.PlacedPort.{PlacedPort}
use Rattle.cx_meaning.specs.Designs.{PlainDesign, PlainComponent, PlainForm, Enable, component_at}
use Rattle.cx_meaning.specs.Instances.{Instance, Path, part_of, instance_at, tree_of}
use Rattle.cx_text.specs.Members.{In}
use Rattle.cx_rules.specs.Accepted.{IsAccepted}
use Rattle.cx_rules.specs.Spots.{AStatement}
use Rattle.cx_rules.specs.Items.{Visited, Dynamic, statements_in, test_in}
use Rattle.cx_rules.specs.Ports.{component_of, keeps_literal}
use Rattle.cx_rules.specs.Wellformed.{IsDesign, IsThere, IsStatement, IsForm, IsWith}
use Rattle.cx_state.specs.declared.tables.InstanceRow.{InstanceRow}
use Rattle.cx_state.specs.Tables.{IsNumber, IsTable, row_at}
use Rattle.cx_eval.specs.Evaluated.{CanAct, IsPort, IsKept}
use Rattle.cx_eval_drives.specs.Actives.{CanBeActive}
use Rattle.cx_interp_islands.specs.Asked.{IsTestIn}
use Rattle.cx_turns.specs.Groups.{IsGroupOf}
use Rattle.cx_turns.specs.Machines.{FormStands}
use Rattle.cx_turns.specs.Tests.{comb_active}
use Rattle.cx_meaning.proofs.DesignsLemmas.{same_part}
use Rattle.cx_text.proofs.ListLaws.{there_below}

kept_literal : (port : PortRef) → ((w v : ℕ) → port ≡ ports.Literal w v → keeps_literal w v ≡ false → ⊥) → IsKept port
kept_literal (ports.Cell c p) h = tt
kept_literal (ports.Input n) h = tt
kept_literal (ports.Output n) h = tt
kept_literal (ports.Done g) h = tt
kept_literal (ports.Literal w v) h = kept (keeps_literal w v) (h w v refl)
  where
    kept : (b : Bool) → (b ≡ false → ⊥) → b ≡ true
    kept true no_break = refl
    kept false no_break = absurd (no_break refl)

module _ (d : PlainDesign) (accepted : IsAccepted d) (design : IsDesign d) (rows : List InstanceRow) (children : List ℕ) (table : IsTable d rows children) (n : ℕ) where
  module _ (path : Path) (number : IsNumber d n path) (v : Visited) (stands : In (statements_in (part_of (instance_at (tree_of d) path))) v) where
    abbrev pub k : ℕ
    k = (row_at rows n).component

    pub within : k < length d.components
    within = table.there n (subst (λ m. n < m) (sym table.count) (there_below _ n path number))

    is_part : part_of (instance_at (tree_of d) path) ≡ component_at d k
    is_part = ap part_of (table.component n path number) ∙ same_part d (length d.components) k

    pub in_part : In (statements_in (component_at d k)) v
    in_part = subst (λ x. In (statements_in x) v) is_part stands

    statement : IsDesign d → IsStatement (instance_at (tree_of d) path) v
    statement design = subst (λ i. IsStatement i v) (sym (table.component n path number)) ((design.components k within).statements v in_part)

    there : (port : PlacedPort) → test_in v.form ≡ Some port → IsDesign d → IsThere (instance_at (tree_of d) path) port.port
    there port e design = (statement design).test port e

    literal : (port : PlacedPort) → test_in v.form ≡ Some port → (w x : ℕ) → port.port ≡ ports.Literal w x → keeps_literal w x ≡ false → ⊥
    literal port e w x is bad =
        let f = number_in (statements_in (component_at d k)) v in_part in
        accepted.widths Literal (record { component = k; part = AStatement f.0 }) port.place [] refl
        (inr (inl (record { within = within; number = f.0; is = refl; statement = v; stands = f.1; breaks = (port, e, (w, x, is, bad), (refl, refl)) })))

    pub is_port : (port : PlacedPort) → test_in v.form ≡ Some port → IsThere (instance_at (tree_of d) path) port.port × IsKept port.port
    is_port port e = (there port e design, kept_literal port.port (literal port e))

    can_act : (comb : Option ℕ) → ((part : PlainComponent) → IsForm part v.form → IsWith part comb) → CanBeActive (instance_at (tree_of d) path) (comb_active comb)
    can_act None with = tt
    can_act (Some g) with = (with (part_of (instance_at (tree_of d) path)) (statement design).form).0

  -- the port of a test, its comb group, and the group of an enable
  pub test_port : (form : PlainForm) (port : PlacedPort) → FormStands d n form → test_in form ≡ Some port → IsPort d n port.port
  test_port form port (place, stands) e path number = is_port path number (record { context = Dynamic; form = form; place = place }) (stands path _ number (inl refl)) port e

  pub test_comb : (form : PlainForm) (comb : Option ℕ) → FormStands d n form → ((part : PlainComponent) → IsForm part form → IsWith part comb) → CanAct d n (comb_active comb)
  test_comb form comb (place, stands) with path number = can_act path number (record { context = Dynamic; form = form; place = place }) (stands path _ number (inl refl)) comb with

  pub enabled_group : (g : ℕ) → FormStands d n (Enable g) → IsGroupOf d n g
  enabled_group g (place, stands) path number =
      ((statement path number (record { context = Dynamic; form = Enable g; place = place }) (stands path _ number (inl refl)) design).form).0

  -- the conditions of statements are ports that may be asked
  pub tests_are_ports : (p : PortRef) → ((path : Path) → IsNumber d n path → IsTestIn (statements_in (part_of (instance_at (tree_of d) path))) p) → IsPort d n p
  tests_are_ports p is path number =
      let r = is path number in
      subst (λ (q : PortRef). IsThere (instance_at (tree_of d) path) q × IsKept q) r.4 (is_port path number r.0 r.2 r.1 r.3)
