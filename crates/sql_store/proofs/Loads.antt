-- What the query answers, and what it leaves.
use Rattle.std.proofs.Common.{◌⊎◌, cond, ◌≡◌, ℕ, List, [], ◌∷◌, codes, Option, Some, None, Result, IfOk, IfErr, inl, inr, true≢false, sym, ap, ◌∙◌}
use Rattle.std.specs.Prelude.{IsTrue}
use Rattle.std.specs.Global.{Vec}
use Rattle.std.proofs.lemmas.Result.{IfOk-weaker, IfErr-weaker}
use Rattle.sqlite.specs.Order.{Row}
use Rattle.sqlite.specs.declared.types.Value.TheVariants.{Null}
use Rattle.sqlite.specs.declared.error.Error.{Error}
use Rattle.sqlite.specs.Command.TheVariants.{Select}
use Rattle.sqlite.specs.Query.{Query, IsAnswer}
use Rattle.sqlite.specs.Program.{overlay}
use Rattle.sqlite.specs.State.{State, HasCleanDisk, Shown, ShowsRows, IsUnchanged, KeepsCommit, IsNotRun, FailsToQuery, FailsToShow, Fails, IsTooLate, Survives, CommitsShowing}
use Rattle.sqlite.specs.Clock.{timed}
use Rattle.sqlite.proofs.Callers.{reads_as}
use Rattle.sqlite.proofs.StateLemmas.{survives_weaker}
use Rattle.sqlite_resolve.specs.Compile.{first}
use Rattle.sql_store.specs.Inside.{Selects}
use Rattle.sql_store.specs.Results.{both_schema}
use Rattle.sql_store.specs.Load.{load_text, load_query, old_text, old_query, ids_text, ids_query, old_ids_text, old_ids_query}
use Rattle.sql_store.proofs.Bare.{IsMute, commits_none, load_mute, shown_same}
use Rattle.sql_store.proofs.Causes.{query_caused_inside}
use Rattle.sql_store.proofs.Steps.{at_both, goes_on, ok_from}
use Rattle.sql_store.proofs.Texts.{load_is, load_plain, old_is, old_plain, ids_is, ids_plain, old_ids_is, old_ids_plain}

pub loads : (old new : State) (rows : List Row) → old.now.schema ≡ both_schema → Shown load_text [] old new rows → IsAnswer load_query (overlay old.now.trees []) [] rows
loads old new rows has h = (reads_as load_text [] old new both_schema has (Select (record { lets = []; body = load_query }) (codes "k" ∷ codes "v" ∷ codes "n" ∷ [])) load_is load_plain.0 load_plain.1 rows h).answer Null

pub loads_old : (old new : State) (rows : List Row) → old.now.schema ≡ both_schema → Shown old_text [] old new rows → IsAnswer old_query (overlay old.now.trees []) [] rows
loads_old old new rows has h = (reads_as old_text [] old new both_schema has (Select (record { lets = []; body = old_query }) (codes "k" ∷ codes "v" ∷ [])) old_is old_plain.0 old_plain.1 rows h).answer Null

pub shows_ids : (old new : State) (rows : List Row) → old.now.schema ≡ both_schema → Shown ids_text [] old new rows → IsAnswer ids_query (overlay old.now.trees []) [] rows
shows_ids old new rows has h = (reads_as ids_text [] old new both_schema has (Select (record { lets = []; body = ids_query }) (codes "rowid" ∷ [])) ids_is ids_plain.0 ids_plain.1 rows h).answer Null

pub shows_old_ids : (old new : State) (rows : List Row) → old.now.schema ≡ both_schema → Shown old_ids_text [] old new rows → IsAnswer old_ids_query (overlay old.now.trees []) [] rows
shows_old_ids old new rows has h = (reads_as old_ids_text [] old new both_schema has (Select (record { lets = []; body = old_ids_query }) (codes "rowid" ∷ [])) old_ids_is old_ids_plain.0 old_ids_plain.1 rows h).answer Null

pub same_commit : (old new : State) → IsUnchanged old new → KeepsCommit old new
same_commit old new same = record { was_open = λ _. same.0.was_open; committed = λ _. same.0.committed_is }

pub fails_keep : (old new : State) (U : Type 0) (e : Error) → Fails old new U e → KeepsCommit old new
fails_keep old new U e f = record { was_open = f.3.was_open; committed = λ h. (f.3.undone h).1 }

pub not_run_keeps : (old new : State) (sql : List ℕ) (params : Row) (e : Error) → IsNotRun old new sql params e → KeepsCommit old new
unfolding IsNotRun
not_run_keeps old new sql params e (inl h) = same_commit old new h.1
not_run_keeps old new sql params e (inr f) = fails_keep old new _ e f

pub query_keeps : (old new : State) (sql : List ℕ) (params : Row) (e : Error) → FailsToQuery sql params old new e → KeepsCommit old new
unfolding FailsToQuery
query_keeps old new sql params e (inl h) = not_run_keeps old new sql params e h
query_keeps old new sql params e (inr (c, it, h)) = go c.returning h
  where
    go : (o : Option _) → FailsToShow old new sql c (timed params c.formats it.now) e o → KeepsCommit old new
    go None f = same_commit old new f.3
    go (Some what) (inl f) = same_commit old new f.1
    go (Some what) (inr f) = fails_keep old new _ e f

pub reads_only : (old new : State) → Survives old new (CommitsShowing load_text [] old) → Survives old new (λ _. ⊥)
reads_only old new h = survives_weaker old new (CommitsShowing load_text [] old) (λ _. ⊥) (λ _ db shows. commits_none load_text load_mute old db shows) h

-- ---- a query inside a transaction

-- whatever a query's text is, it commits nothing there and the transaction goes on
pub shown_inside : (old new : State) (sql : List ℕ) (params rows : List _) → Shown sql params old new rows → IsTrue old.in_transaction → KeepsCommit old new × IsTrue new.in_transaction × IsTrue old.is_open
unfolding Shown
shown_inside old new sql params rows (c, it, h) inside = go c.returning h
  where
    go : (o : Option _) → ShowsRows old new sql c (timed params c.formats it.now) rows o → KeepsCommit old new × IsTrue new.in_transaction × IsTrue old.is_open
    go None f = (same_commit old new f.3, f.3.0.mode ∙ inside, f.3.0.was_open)
    go (Some what) (count, w, is) = (
      record { was_open = λ _. w.shown.was_open; committed = λ _. w.shown.committed_is ∙ ap (λ b. cond b old.committed new.now) inside },
      w.shown.mode ∙ inside,
      w.shown.was_open,
    )

pub query_keeps_inside : (old new : State) (sql : List ℕ) (params : Row) (e : Error) → FailsToQuery sql params old new e ⊎ IsTooLate sql params old new e → KeepsCommit old new
query_keeps_inside old new sql params e (inl h) = query_keeps old new sql params e h
query_keeps_inside old new sql params e (inr h) = same_commit old new h.5

-- where a transaction is under way a query is not too late
pub not_late : (old new : State) (sql : List ℕ) (params : Row) (e : Error) → IsTrue old.in_transaction → FailsToQuery sql params old new e ⊎ IsTooLate sql params old new e → FailsToQuery sql params old new e
not_late old new sql params e inside (inl h) = h
not_late old new sql params e inside (inr h) = absurd (true≢false (sym inside ∙ h.3))

-- what such a query says
pub selects : (text : List ℕ) (query : Query) → IsMute (first text) → ((old new : State) (rows : List Row) → old.now.schema ≡ both_schema → Shown text [] old new rows → IsAnswer query (overlay old.now.trees []) [] rows)
    → (old new : State) (r : Result (Vec Row) Error) → Survives old new (λ _. ⊥) → (HasCleanDisk new → IfOk r (λ rows. Shown text [] old new rows.items))
    → (HasCleanDisk new → IfErr r (λ e. FailsToQuery text [] old new e ⊎ IsTooLate text [] old new e)) → Selects text query old new r
selects text query mute answers old new r survives ok err = record {
  steps = record {
    kept = λ clean inside. at_both r _ _ (KeepsCommit old new) (λ rows h. (shown_inside old new _ [] rows.items h inside).0) (λ e h. query_keeps_inside old new _ [] e h) (ok clean) (err clean);
    survives = survives;
  };
  on = goes_on r old new (λ clean inside. IfOk-weaker r _ _ (λ rows h. let it = shown_inside old new _ [] rows.items h inside in (it.1, it.2)) (ok clean));
  rows = λ clean has. IfOk-weaker r _ _ (λ rows h. answers old new rows.items has h) (ok clean);
  same = λ clean. ok_from r _ (λ rows h. shown_same text mute old new rows.items h) (ok clean);
  cause = λ clean. IfErr-weaker r _ _ (λ e h. query_caused_inside text [] old new e h) (err clean);
  refused = λ clean inside. IfErr-weaker r _ _ (λ e h. not_late old new text [] e inside h) (err clean);
  shown = ok;
}
