use Rattle.std.proofs.Common.{rules, ◌≡◌, ◌⊎◌, ◌+ℤ◌, pos, subst}
use Rattle.std.specs.Prelude.{OnOk}
use Rattle.serial_spec.specs.Serial.{Map}
use Rattle.serial_spec.specs.Changes.{overlay}
use Rattle.durable_top.specs.Numbered.{Commits}
use Rattle.sql_store.specs.Asked.{Committed}
use Rattle.sql_store.specs.Refusals.{CannotCommit}
use Rattle.sql_store.specs.Stored.{Stored, may_leave, may_leave_numbered, numbered, table}
use Rattle.sql_store.proofs.Doubts.{no_doubt}
use Rattle.sql_store.proofs.Forgotten.{crash_forgotten, settled_forgotten}
use Rattle.durable_top.proofs.Exports.{values_committed}
use Rattle.sql_store.proofs.Steps.{on_ok_then, on_ok_both}
use Rattle.sql_store.proofs.store.SqlStoreTopStore.commit.Goals as goal

pub returns-then-is_err-clause-crash_numbers : goal.returns-then-is_err-clause-crash_numbers
returns-then-is_err-clause-crash_numbers g c none left may =
    let sure = no_doubt _ c.self.inside.is_known none in
    subst (λ (v : Stored _). may_leave_numbered g.S.Store v.connection left ⊎ Commits c.args.changes.now (numbered g.S.Store v.connection) left) c.self.view_is
    (c.commit_unless-answer.ensures.tried.crash sure.0 (λ _. c.self.invariant.0 sure.1) (λ _. c.self.invariant.1 sure.1) left may)

pub returns-then-is_err-clause-crash : goal.returns-then-is_err-clause-crash
returns-then-is_err-clause-crash g c none left may =
    let sure = no_doubt _ c.self.inside.is_known none in
    subst (λ (v : Stored _). may_leave g.S.Store v.connection left ⊎ (left ≡ overlay c.args.changes.now (table g.S.Store v.connection))) c.self.view_is
    (crash_forgotten g.S.Store c.self.inside.connection c.commit_unless-answer.new.conn c.args.changes.now (c.commit_unless-answer.ensures.tried.crash sure.0 (λ _. c.self.invariant.0 sure.1) (λ _. c.self.invariant.1 sure.1)) left may)

pub returns-else-is_err-clause-crash_numbers : goal.returns-else-is_err-clause-crash_numbers
returns-else-is_err-clause-crash_numbers g c none left may =
    let sure = no_doubt _ c.self.inside.is_known none in
    subst (λ (v : Stored _). may_leave_numbered g.S.Store v.connection left ⊎ Commits c.args.changes.now (numbered g.S.Store v.connection) left) c.self.view_is
    (c.commit_unless-answer.ensures.tried.crash sure.0 (λ _. c.self.invariant.0 sure.1) (λ _. c.self.invariant.1 sure.1) left may)

pub returns-else-is_err-clause-crash : goal.returns-else-is_err-clause-crash
returns-else-is_err-clause-crash g c none left may =
    let sure = no_doubt _ c.self.inside.is_known none in
    subst (λ (v : Stored _). may_leave g.S.Store v.connection left ⊎ (left ≡ overlay c.args.changes.now (table g.S.Store v.connection))) c.self.view_is
    (crash_forgotten g.S.Store c.self.inside.connection c.commit_unless-answer.new.conn c.args.changes.now (c.commit_unless-answer.ensures.tried.crash sure.0 (λ _. c.self.invariant.0 sure.1) (λ _. c.self.invariant.1 sure.1)) left may)

pub returns-else-is_err-clause-ok : goal.returns-else-is_err-clause-ok
returns-else-is_err-clause-ok g c none =
    let sure = no_doubt _ c.self.inside.is_known none in
    subst (λ (v : Stored _). OnOk c.commit_unless-answer.result (table g.S.Store c.commit_unless-answer.new.conn ≡ overlay c.args.changes.now (table g.S.Store v.connection))) c.self.view_is
    (on_ok_then c.commit_unless-answer.result (values_committed c.args.changes.now (numbered g.S.Store c.self.inside.connection) (numbered g.S.Store c.commit_unless-answer.new.conn))
    (c.commit_unless-answer.ensures.tried.ok sure.0 (λ _. c.self.invariant.0 sure.1) (λ _. c.self.invariant.1 sure.1)))

pub returns-else-is_err-clause-settled : goal.returns-else-is_err-clause-settled
returns-else-is_err-clause-settled g c none =
    let sure = no_doubt _ c.self.inside.is_known none in
    subst (λ (v : Stored _). OnOk c.commit_unless-answer.result ((left : Map) → may_leave g.S.Store c.commit_unless-answer.new.conn left → left ≡ overlay c.args.changes.now (table g.S.Store v.connection))) c.self.view_is
    (on_ok_both c.commit_unless-answer.result (settled_forgotten g.S.Store c.self.inside.connection c.commit_unless-answer.new.conn c.args.changes.now)
    (c.commit_unless-answer.ensures.tried.ok sure.0 (λ _. c.self.invariant.0 sure.1) (λ _. c.self.invariant.1 sure.1))
    (c.commit_unless-answer.ensures.tried.settled sure.0 (λ _. c.self.invariant.0 sure.1)))

pub returns-then-is_err-clause-asked : goal.returns-then-is_err-clause-asked
returns-then-is_err-clause-asked g c = record {
  failed = search rules;
  faults = search rules;
  known = search rules;
  numbers = search rules;
  stays = search rules;
  greatest = search rules;
  cause = search rules;
  asked = search rules;
  refused = λ clean is.
      subst (λ (v : Stored _). CannotCommit g.S.Store v.top c.args.changes.now v.connection c.commit_unless-answer.new.conn) c.self.view_is (c.commit_unless-answer.ensures.reason clean is);
  kept = search rules;
  spared = search rules;
  stays_open = search rules;
  limit = search rules;
}

pub returns-else-is_err-clause-asked : goal.returns-else-is_err-clause-asked
returns-else-is_err-clause-asked g c = record {
  failed = search rules;
  faults = search rules;
  known = search rules;
  numbers = search rules;
  stays = search rules;
  greatest = search rules;
  cause = search rules;
  asked = λ clean.
      subst (λ (v : Stored _). OnOk c.commit_unless-answer.result (Committed g.S.Store (v.top +ℤ pos 1) c.args.changes.now v.connection c.commit_unless-answer.new.conn)) c.self.view_is (c.commit_unless-answer.ensures.tried.asked clean);
  refused = search rules;
  kept = search rules;
  spared = search rules;
  stays_open = search rules;
  limit = search rules;
}
