use Rattle.std.proofs.Common.{◌≡◌, ◌∷◌, [], ◌++◌, true, false, length, ◌<◌, ◌≤◌, ap, sym, ◌∙◌, arith}
use Rattle.std.specs.Prelude.{is_some}
use Rattle.cx_names_scopes.specs.Numbered.{number_in}
use Rattle.cx_profiling.specs.FreeNames.{profile_name}
use Rattle.cx_profile.specs.Naming.{first_free}
use Rattle.cx_profile.proofs.NamingLemmas.{free_stays, free_skips, free_takes}
use Rattle.cx_profile.proofs.free_names.with_name.Goals as goal

pub returns-then-len-count : goal.returns-then-len-count
returns-then-len-count c =
    let many : c.args.count ≤ length (first_free c.args.taken.now c.args.count c.args.number) = omega (arith, ap length c.requires.free, c.len.ensures) in
    record { value = c.requires.free ∙ sym (free_stays c.args.taken.now c.args.count c.args.number many) }

pub returns-then-has : goal.returns-then-has
returns-then-has c =
    let taken : is_some (number_in c.args.taken.now (profile_name c.args.number)) ≡ true =
    ap (λ n. is_some (number_in c.args.taken.now n)) (sym c.in_ok-name.ensures.value) ∙ sym c.has.ensures ∙ c.if-has.true in
    record { value = c.requires.free ∙ sym (free_skips c.args.taken.now c.args.count c.args.number taken) }

pub returns : goal.returns
returns c =
    let free : is_some (number_in c.args.taken.now (profile_name c.args.number)) ≡ false =
    ap (λ n. is_some (number_in c.args.taken.now n)) (sym c.in_ok-name.ensures.value) ∙ sym c.has.ensures ∙ c.if-has.false in
    let few : length (first_free c.args.taken.now c.args.count c.args.number) < c.args.count = omega (arith, ap length c.requires.free, c.len.ensures) in
    record {
      value = c.in_ok-push.ensures.items ∙ ap (λ l. l ++ c.in_ok-name.name ∷ []) c.requires.free
          ∙ ap (λ n. first_free c.args.taken.now c.args.count c.args.number ++ n ∷ []) c.in_ok-name.ensures.value
          ∙ sym (free_takes c.args.taken.now c.args.count c.args.number free few);
    }
