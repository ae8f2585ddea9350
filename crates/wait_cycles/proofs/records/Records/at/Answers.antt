use Rattle.std.proofs.Common.{ap, sym, ◌∙◌, Some}
use Rattle.std.specs.Prelude.{slice_get}
use Rattle.std.specs.Option.{option_copied}
use Rattle.std.proofs.lemmas.Option.{none-some}
use Rattle.wait_cycles.proofs.Listed.{once}
use Rattle.wait_cycles.proofs.Lists.{get-map}
use Rattle.wait_cycles.specs.Stored.{wait_under}
use Rattle.wait_cycles.proofs.Stored.{all_apart, record_at, wait_is}
use Rattle.wait_cycles.proofs.records.Records.at.Goals as goal

pub returns-in_err-record-clause-wait : goal.returns-in_err-record-clause-wait
returns-in_err-record-clause-wait c =
    let old = c.self.inside in
    let at = ap (λ ks. slice_get ks c.args.place) (sym c.as_slice.ensures.value) ∙ sym c.key_at.ensures ∙ c.in_ok-key.was in
    let r = record_at old.slab old.keys.items old.table.items c.self.invariant.0 c.args.place c.in_ok-key.key at in
    absurd (none-some r.0 (sym (ap option_copied c.in_err-record.was) ∙ c.get.ensures ∙ r.1))

pub returns-clause-wait : goal.returns-clause-wait
returns-clause-wait c =
    let old = c.self.inside in
    let at = ap (λ ks. slice_get ks c.args.place) (sym c.as_slice.ensures.value) ∙ sym c.key_at.ensures ∙ c.in_ok-key.was in
    let is = sym c.get.ensures ∙ ap option_copied c.in_ok-record.was in
    rw (sym c.self.view_is) (ap Some (sym (wait_is old.slab c.in_ok-key.key c.in_ok-record.record.now is)) ∙ sym (get-map (wait_under old.slab) old.keys.items c.args.place c.in_ok-key.key at))

pub returns-in_err-key-clause-once : goal.returns-in_err-key-clause-once
returns-in_err-key-clause-once c = rw (sym c.self.view_is) (once _ _ (all_apart c.self.inside.slab c.self.inside.keys.items c.self.inside.table.items c.self.invariant.0))

pub returns-in_err-record-clause-once : goal.returns-in_err-record-clause-once
returns-in_err-record-clause-once c = rw (sym c.self.view_is) (once _ _ (all_apart c.self.inside.slab c.self.inside.keys.items c.self.inside.table.items c.self.invariant.0))

pub returns-clause-once : goal.returns-clause-once
returns-clause-once c = rw (sym c.self.view_is) (once _ _ (all_apart c.self.inside.slab c.self.inside.keys.items c.self.inside.table.items c.self.invariant.0))
