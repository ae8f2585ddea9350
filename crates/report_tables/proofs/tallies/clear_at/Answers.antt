use Rattle.std.proofs.Common.{◌≡◌, ◌<◌, List, ℕ, None, length, pos, sym, ap, ◌∙◌, subst, unwrap_or}
use Rattle.std.specs.Prelude.{slice_get}
use Rattle.report_tables.proofs.Counting.{key_here, key_past, set_past}
use Rattle.report_tables.proofs.tallies.clear_at.Goals as goal

none : (c : goal.In_default) → ◌≡◌ {A = _} (slice_get c.args.groups.now.entries c.args.number) None
none c = sym c.in_default.ensures.entry

pub returns-in_default-clause-sum : goal.returns-in_default-clause-sum
returns-in_default-clause-sum c = set_past c.args.groups.now.entries c.args.number (pos 0) (none c)

pub returns-in_default-clause-named : goal.returns-in_default-clause-named
returns-in_default-clause-named c g at = absurd (key_past c.args.groups.now.entries c.args.number g (none c) at)

pub returns-in-Some-get_index_mut-clause-named : goal.returns-in-Some-get_index_mut-clause-named
returns-in-Some-get_index_mut-clause-named c g at =
    let own = key_here c.args.groups.now.entries c.args.number c.in-Some.group.now _ (sym c.in-Some.ensures.entry) in
    subst (λ (f : List ℕ). 0 < length f) (ap (λ o. unwrap_or o g) (sym own ∙ at)) c.as_bytes-bytes.ensures.group.some
