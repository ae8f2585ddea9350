use Rattle.std.proofs.Common.{SFits, w64, ap, ◌∙◌, arith, rules}
use Rattle.std.proofs.lemmas.Int.{to_z-of_z}
use Rattle.sqlite.specs.Held.{state}
use Rattle.sqlite.specs.State.{HasCleanDisk}
use Rattle.sqlite.specs.Tree.{Trees}
use Rattle.serial_spec.specs.Rows.{value_in}
use Rattle.sql_store.specs.Table.{map_of}
use Rattle.sql_store.proofs.Counted.{follows_stored, counted_stored, follows_left}
use Rattle.sql_store.proofs.commit.commit_under.Goals as goal

pub returns-in-Ok-clause-tried : goal.returns-in-Ok-clause-tried
returns-in-Ok-clause-tried g c =
    let fits : SFits w64 c.args.number = c.ranges.number in
    let numbers = c.args.numbers.now in
    let it = c.store_changes.ensures in
    let wrote = it.survives in
    let survives = simp to_z-of_z at wrote in
    let made = rw c.reserve.ensures.rows at c.change.ensures in
    let is = simp to_z-of_z at made in
    let was = λ (clean : HasCleanDisk (state g.S.Store c.store_changes.new.conn)). let before : HasCleanDisk (state g.S.Store c.args.conn.now) = omega (arith, it.survives.clean, clean) in before in
    let stored = λ (clean : HasCleanDisk (state g.S.Store c.store_changes.new.conn)). let h = c.in-Ok.ensures.stored clean in simp to_z-of_z at h in
    record {
      ok = λ clean kept counted.
          follows_stored g.S.Store c.args.number c.args.changes.now (value_in numbers.rows) c.args.conn.now c.store_changes.new.conn (was clean) kept counted
          numbers.top c.has_none_below_0.ensures c.requires.next c.requires.fits (stored clean);
      counted = λ clean kept counted.
          counted_stored g.S.Store c.args.number c.args.changes.now (value_in numbers.rows) c.args.conn.now c.store_changes.new.conn (was clean) kept counted
          (value_in c.change.new.self.rows) (stored clean) is;
      still = search rules;
      crash = λ clean kept counted left may.
          follows_left g.S.Store c.args.number c.args.changes.now (value_in numbers.rows) c.args.conn.now c.store_changes.new.conn (was clean) kept counted
          numbers.top c.has_none_below_0.ensures c.requires.next c.requires.fits clean survives left may;
      settled = λ clean kept left may. may.2 ∙ ap (λ (t : Trees). map_of (t 2)) (g.met.S.Store.settled _ may.0 (stored clean).is_open may.1);
      asked = search rules;
      refused = search rules;
      kept = search rules;
      spared = search rules;
      stays_open = search rules;
      clean = search rules;
      limit = search rules;
      numbers = is;
      stays = search rules;
    }

pub returns-in-Err-clause-tried : goal.returns-in-Err-clause-tried
returns-in-Err-clause-tried g c =
    let fits : SFits w64 c.args.number = c.ranges.number in
    let numbers = c.args.numbers.now in
    let wrote = c.store_changes.ensures.survives in
    let survives = simp to_z-of_z at wrote in
    record {
      ok = search rules;
      counted = search rules;
      still = search rules;
      crash = λ clean kept counted left may.
          let was : HasCleanDisk (state g.S.Store c.args.conn.now) = omega (arith, c.store_changes.ensures.survives.clean, clean) in
          follows_left g.S.Store c.args.number c.args.changes.now (value_in numbers.rows) c.args.conn.now c.store_changes.new.conn was kept counted
          numbers.top c.has_none_below_0.ensures c.requires.next c.requires.fits clean survives left may;
      settled = search rules;
      asked = search rules;
      refused = search rules;
      kept = search rules;
      spared = search rules;
      stays_open = search rules;
      clean = search rules;
      limit = search rules;
      numbers = search rules;
      stays = search rules;
    }

pub returns-in-Err-clause-reason : goal.returns-in-Err-clause-reason
returns-in-Err-clause-reason g c clean is =
    let fits : SFits w64 c.args.number = c.ranges.number in
    let why = c.in-Err.ensures.refused clean is in
    simp to_z-of_z at why
