use Rattle.std.proofs.Common.{◌∷◌, [], ℕ, ap, sym, subst, ◌∙◌, arith}
use Rattle.std.specs.Prelude.{Some}
use Rattle.std.proofs.lemmas.List.{length-append, length-set}
use Rattle.slab.specs.Slab.{Updates}
use Rattle.wait_cycles.specs.declared.waits.Wait.{Wait}
use Rattle.wait_cycles.proofs.Stored.{pushed, waits_pushed}
use Rattle.wait_cycles.proofs.records.Records.push.Goals as goal

pub invariant_of-self : goal.invariant_of-self
invariant_of-self c =
    let old = c.self.inside in
    let wait : Wait = record { txn = c.args.txn; asked = c.args.asked.now; by = c.args.by } in
    let e = c.insert_reserved-key.ensures in
    let none = rw (sym c.self.view_is) at c.requires.none in
    let updates = subst (λ (n : ℕ). Updates old.slab c.insert_reserved-key.new.self c.insert_reserved-key.result (Some (record { wait = wait; place = n }))) (c.len-place.ensures ∙ old.keys.ok.0) e.updates in
    let room = c.self.invariant.1 in
    let capacity = c.push_reserved.ensures.capacity in
    let some = c.requires.room in
    let is = ap (λ w. w.room) c.self.view_is in
    let long = length-append old.keys.items (c.insert_reserved-key.result ∷ []) in
    let wide = length-set old.table.items c.args.txn (Some c.insert_reserved-key.result) in
    rw (c.push_reserved.ensures.items, c.put_key.ensures) (
      pushed old.slab old.keys.items old.table.items c.self.invariant.0 _ c.insert_reserved-key.result wait e.was_vacant updates e.len none,
      record {
        in_slab = omega (arith, e.len, e.capacity, room.in_slab, some, is);
        in_keys = omega (arith, long, capacity, room.in_keys, some, is);
        made = λ more. let was = room.made (omega (arith, some, is)) in omega (arith, was, wide);
      },
    )

pub returns-clause-waits : goal.returns-clause-waits
returns-clause-waits c =
    let old = c.self.inside in
    let wait : Wait = record { txn = c.args.txn; asked = c.args.asked.now; by = c.args.by } in
    let e = c.insert_reserved-key.ensures in
    let none = rw (sym c.self.view_is) at c.requires.none in
    let updates = subst (λ (n : ℕ). Updates old.slab c.insert_reserved-key.new.self c.insert_reserved-key.result (Some (record { wait = wait; place = n }))) (c.len-place.ensures ∙ old.keys.ok.0) e.updates in
    rw (c.push_reserved.ensures.items, sym c.self.view_is) (waits_pushed old.slab old.keys.items old.table.items c.self.invariant.0 _ c.insert_reserved-key.result wait e.was_vacant updates e.len none)
