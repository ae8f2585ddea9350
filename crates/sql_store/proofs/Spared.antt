-- What a call that fails or only reads leaves, whatever the database has.
use Rattle.std.proofs.Common.{ℕ, List, inl, inr, false, Err, Option, Some, None, sym, ◌∙◌}
use Rattle.std.proofs.lemmas.Bool.{cases_Bool}
use Rattle.sqlite_resolve.specs.declared.compiled.Compiled.{Compiled}
use Rattle.sqlite.specs.Order.{Row}
use Rattle.sqlite.specs.Clock.{timed}
use Rattle.sqlite.specs.declared.error.Error.{Error}
use Rattle.sqlite.specs.State.{State, Fails, IsUnchanged, IsRolledBack, IsNotRun, FailsToQuery, FailsToShow, RunsCommand, ExecutesIn, Executes, shows_rows}
use Rattle.sql_store.specs.Kept.{IsSettled, Spares}

pub same_spares : (old new : State) → IsUnchanged old new → Spares old new
same_spares old new h = record { was_open = λ _. h.0.was_open; now_is = λ _. h.0.now_is; committed_is = λ _. h.0.committed_is; mode = h.0.mode }

-- where no transaction is under way, a rollback leaves all as it was
back_spares : (old new : State) → IsSettled old → IsRolledBack old new → Spares old new
back_spares old new settled h = record {
  was_open = h.was_open;
  now_is = λ o. (h.undone o).0 ∙ sym (settled.1 (h.was_open o));
  committed_is = λ o. (h.undone o).1;
  mode = h.autocommit ∙ sym settled.0;
}

pub fails_spares : (old new : State) (U : Type 0) (e : Error) → IsSettled old → Fails old new U e → Spares old new
fails_spares old new U e settled f = back_spares old new settled f.3

pub not_run_spares : (old new : State) (sql : List ℕ) (params : Row) (e : Error) → IsSettled old → IsNotRun old new sql params e → Spares old new
unfolding IsNotRun
not_run_spares old new sql params e settled (inl h) = same_spares old new h.1
not_run_spares old new sql params e settled (inr f) = fails_spares old new _ e settled f

pub query_spares : (old new : State) (sql : List ℕ) (params : Row) (e : Error) → IsSettled old → FailsToQuery sql params old new e → Spares old new
unfolding FailsToQuery
query_spares old new sql params e settled (inl h) = not_run_spares old new sql params e settled h
query_spares old new sql params e settled (inr (c, it, h)) = go c.returning h
  where
    go : (o : Option _) → FailsToShow old new sql c (timed params c.formats it.now) e o → Spares old new
    go None f = same_spares old new f.3
    go (Some what) (inl f) = same_spares old new f.1
    go (Some what) (inr f) = fails_spares old new _ e settled f

command_spares : (old new : State) (sql : List ℕ) (c : Compiled) (params : Row) (e : Error) → IsSettled old → RunsCommand old new sql c params (Err e) → Spares old new
command_spares old new sql c params e settled (inl h) = same_spares old new h.1
command_spares old new sql c params e settled (inr f) = fails_spares old new _ e settled f

pub executes_spares : (old new : State) (sql : List ℕ) (params : Row) (e : Error) → IsSettled old → Executes sql params old new (Err e) → Spares old new
unfolding ExecutesIn
executes_spares old new sql params e settled (inl h) = not_run_spares old new sql params e settled h
executes_spares old new sql params e settled (inr h) = elim (cases_Bool (shows_rows false h.0)) [
  | inl shows ↦ same_spares old new (rw shows at h.2).1
  | inr runs ↦ command_spares old new sql h.0 _ e settled (rw runs at h.2)
]

-- one call behind the other
pub spares_then : (old mid new : State) → IsSettled old → Spares old mid
    → (IsSettled mid → Spares mid new) → Spares old new
spares_then old mid new settled first next =
    let still : IsSettled mid = (
      first.mode ∙ settled.0,
      λ o. first.now_is o ∙ settled.1 (first.was_open o) ∙ sym (first.committed_is o),
    ) in
    let last = next still in
    record {
      was_open = λ o. first.was_open (last.was_open o);
      now_is = λ o. last.now_is o ∙ first.now_is (last.was_open o);
      committed_is = λ o. last.committed_is o ∙ first.committed_is (last.was_open o);
      mode = last.mode ∙ first.mode;
    }
