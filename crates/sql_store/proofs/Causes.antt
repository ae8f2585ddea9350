-- An error that stands for a failure of the device has one as its cause.
use Rattle.std.proofs.Common.{◌≡◌, ◌⊎◌, inl, inr, ℕ, Bool, false, List, [], Option, Some, None, Result, Ok, Err, IfErr, sym, subst, ◌∙◌, true≢false, arith}
use Rattle.std.proofs.lemmas.Bool.{cases_Bool}
use Rattle.sqlite_value.specs.Order.{Row}
use Rattle.sqlite_trees.specs.Tree.{Trees}
use Rattle.sqlite_trees.specs.declared.error.StoreError.{StoreError}
use Rattle.sqlite_trees.specs.declared.error.StoreError.TheVariants as cause
use Rattle.sqlite_schema.specs.declared.command.Command.{Command}
use Rattle.sqlite_schema.specs.declared.command.Returning.{Returning}
use Rattle.sqlite_resolve.specs.declared.compiled.Compiled.{Compiled}
use Rattle.sqlite.specs.declared.error.Error.{Error}
use Rattle.sqlite.specs.declared.error.Error.TheVariants.{ExecuteReturnedResults}
use Rattle.sqlite.specs.State.{State, HasCleanDisk, Survives, Fails, HasCause, store_error, IsMisplaced, IsNoStatement, IsNotRun, RunsCommand, RunsAlone, ExecutesIn, Executes, ExecutesInside, FailsToShow, FailsToQuery, IsTooLate, text_of, mode_of, shows_rows}
use Rattle.sqlite.specs.Store.{Ghosts}
use Rattle.sqlite.specs.Held.{Held, state}
use Rattle.sql_store.proofs.Texts.{probe_text, Fits, probe_fits}
use Rattle.durable_top.specs.declared.store.StoreFault.TheVariants.{Refused, Failed}
use Rattle.durable_top.specs.declared.store.StoreFault.{StoreFault}
use Rattle.sql_store.specs.Faults.{fault_of, IsDown, IsCaused, IsMeant, HasFailed}
use Rattle.sql_store.proofs.Calm.{IsCalm, apart, calm_as, does_calm, read_calm}

calm_caused : (old new : State) (e : Error) → IsCalm e → IsCaused old new e
calm_caused old new e calm failed = absurd (calm failed)

fault_caused : (old new : State) (too_big : Type 0) (why : StoreError) → HasCause old new too_big why → IsCaused old new (store_error why)
fault_caused old new too_big cause.OutOfMemory h failed = absurd cc
fault_caused old new too_big cause.Io h failed = inr h
fault_caused old new too_big cause.Corrupt h failed = inr h
fault_caused old new too_big cause.Full h failed = inr h
fault_caused old new too_big cause.Broken h failed = inl h
fault_caused old new too_big cause.Unstorable h failed = absurd cc

pub fails_caused : (old new : State) (too_big : Type 0) (e : Error) → Fails old new too_big e → IsCaused old new e
fails_caused old new too_big e h = subst (IsCaused old new) (sym h.1) (fault_caused old new too_big h.0 h.2)

no_statement_calm : (s : State) (sql : List ℕ) (params : Row) (e : Error) → IsNoStatement s sql params e → IsCalm e
no_statement_calm s sql params e (inl h) = calm_as _ e h.2 apart
no_statement_calm s sql params e (inr (c, is, inl h)) = calm_as _ e h.1 apart
no_statement_calm s sql params e (inr (c, is, inr (inl h))) = calm_as _ e h.1 apart
no_statement_calm s sql params e (inr (c, is, inr (inr h))) = calm_as _ e h.1 apart

pub not_run_caused : (old new : State) (sql : List ℕ) (params : Row) (e : Error) → IsNotRun old new sql params e → IsCaused old new e
unfolding IsNotRun
not_run_caused old new sql params e (inl h) = calm_caused old new e (no_statement_calm old sql params e h.0)
not_run_caused old new sql params e (inr h) = fails_caused old new ⊥ e h

misplaced_calm : (s : State) (command : Command) (e : Error) → IsMisplaced s command e → IsCalm e
misplaced_calm s command e (inl h) = calm_as _ e h.0 apart
misplaced_calm s command e (inr h) = calm_as _ e h.0 apart

command_caused : (old new : State) (sql : List ℕ) (c : Compiled) (params : Row) (e : Error) → RunsCommand old new sql c params (Err e) → IsCaused old new e
command_caused old new sql c params e (inl (inl h, same)) = calm_caused old new e (misplaced_calm old c.command e h)
command_caused old new sql c params e (inl (inr h, same)) = calm_caused old new e (does_calm old.step_limit (mode_of old) params old.now (text_of sql c) c.returning c.command e h.1)
command_caused old new sql c params e (inr h) = fails_caused old new _ e h

alone_caused : (in_batch : Bool) (old new : State) (sql : List ℕ) (c : Compiled) (params : Row) (e : Error) → RunsAlone in_batch old new sql c params (Err e) → IsCaused old new e
alone_caused in_batch old new sql c params e h = elim (cases_Bool (shows_rows in_batch c)) [
  | inl shows ↦ let it = rw shows at h in let same = it.0 in let k : e ≡ ExecuteReturnedResults = cc in calm_caused old new e (calm_as _ e k apart)
  | inr runs ↦ command_caused old new sql c params e (rw runs at h)
]

pub executes_caused : (sql : List ℕ) (params : Row) (old new : State) (e : Error) → Executes sql params old new (Err e) → IsCaused old new e
unfolding ExecutesIn
executes_caused sql params old new e (inl h) = not_run_caused old new sql params e h
executes_caused sql params old new e (inr h) = alone_caused false old new sql h.0 _ e h.2

pub inside_caused : (sql : List ℕ) (params : Row) (old new : State) (e : Error) → ExecutesInside 0 sql params old new (Err e) → IsCaused old new e
inside_caused sql params old new e (inl h) = executes_caused sql params old new e h.0
inside_caused sql params old new e (inr h) = calm_caused old new e (calm_as _ e h.1 apart)

show_caused : (old new : State) (sql : List ℕ) (c : Compiled) (params : Row) (e : Error) (o : Option Returning) → FailsToShow old new sql c params e o → IsCaused old new e
show_caused old new sql c params e None h = calm_caused old new e (read_calm old.step_limit c.command h.0 params e h.2)
show_caused old new sql c params e (Some what) h = command_caused old new sql c params e h

pub query_caused : (sql : List ℕ) (params : Row) (old new : State) (e : Error) → FailsToQuery sql params old new e → IsCaused old new e
unfolding FailsToQuery
query_caused sql params old new e (inl h) = not_run_caused old new sql params e h
query_caused sql params old new e (inr h) = show_caused old new sql h.0 _ e h.0.returning h.2

pub query_caused_inside : (sql : List ℕ) (params : Row) (old new : State) (e : Error) → FailsToQuery sql params old new e ⊎ IsTooLate sql params old new e → IsCaused old new e
query_caused_inside sql params old new e (inl h) = query_caused sql params old new e h
query_caused_inside sql params old new e (inr h) = calm_caused old new e (calm_as _ e h.4 apart)

-- ---- what is down later

-- a failure behind a call is one of both
pub down_later : (a b c : State) (P Q : Trees → Type 0) → Survives a b P → HasCleanDisk b → Survives b c Q → IsDown b c → IsDown a c
down_later a b c P Q first clean second (inl shut) = elim (cases_Bool a.is_open) [
  | inl open_then ↦ elim (first.closes clean open_then) [
    | inl still ↦ absurd (true≢false (sym still ∙ shut))
    | inr more ↦ inr (omega (arith, more, second.counts))
  ]
  | inr closed ↦ inl closed
]
down_later a b c P Q first clean second (inr more) = inr (omega (arith, more, first.counts))

-- an error that has its cause in the second of two calls has it in both
pub caused_later : {T : Type 0} (a b c : State) (r : Result T Error) → Survives a b (λ _. ⊥) → HasCleanDisk b → Survives b c (λ _. ⊥) → IfErr r (IsCaused b c) → IfErr r (IsCaused a c)
caused_later a b c (Ok x) first clean second h = tt
caused_later a b c (Err e) first clean second h = λ failed. down_later a b c _ _ first clean second (h failed)

-- and so is one before
pub down_before : (a b c : State) (Q : Trees → Type 0) → Survives b c Q → IsDown a b → IsDown a c
down_before a b c Q second (inl shut) = inl shut
down_before a b c Q second (inr more) = inr (omega (arith, more, second.counts))

-- ---- the probe, and what is told by it

-- the text of the probe is a statement, whatever the database has
always_fits : (s : State) (e : Error) → IsNoStatement s probe_text [] e → ⊥
always_fits s e (inl (fault, is, h)) = subst Fits is (probe_fits s.now.schema)
always_fits s e (inr (c, is, inl h)) = h.0 (subst Fits is (probe_fits s.now.schema)).0
always_fits s e (inr (c, is, inr (inl h))) = h.0 (subst Fits is (probe_fits s.now.schema)).1
always_fits s e (inr (c, is, inr (inr h))) = h.0 (subst Fits is (probe_fits s.now.schema)).2

pub unrefused : (old new : State) (e : Error) → Fails old new ⊥ e → fault_of e ≡ Refused → ⊥
unrefused old new e (cause.OutOfMemory, same, why, back, tells) refused = absurd (let k = subst (λ x. fault_of x ≡ Refused) same refused in cc)
unrefused old new e (cause.Io, same, why, back, tells) refused = absurd (let k = subst (λ x. fault_of x ≡ Refused) same refused in cc)
unrefused old new e (cause.Corrupt, same, why, back, tells) refused = absurd (let k = subst (λ x. fault_of x ≡ Refused) same refused in cc)
unrefused old new e (cause.Full, same, why, back, tells) refused = absurd (let k = subst (λ x. fault_of x ≡ Refused) same refused in cc)
unrefused old new e (cause.Broken, same, why, back, tells) refused = absurd (let k = subst (λ x. fault_of x ≡ Refused) same refused in cc)
unrefused old new e (cause.Unstorable, same, why, back, tells) refused = absurd why

-- the database never refuses the probe
pub probe_unrefused : (old new : State) (e : Error) → IsNotRun old new probe_text [] e → fault_of e ≡ Refused → ⊥
unfolding IsNotRun
probe_unrefused old new e (inl h) refused = absurd (always_fits old e h.0)
probe_unrefused old new e (inr h) refused = unrefused old new e h refused

module _ {S : Type 0} (g : Ghosts S) where
  -- what is told once more was asked
  pub failed_later : (a b c : Held S) (P Q : Trees → Type 0) (fault : StoreFault) → Survives (state g a) (state g b) P → HasCleanDisk (state g b) → Survives (state g b) (state g c) Q → IsMeant (state g a) (state g b) fault
      → (fault ≡ Failed) ⊎ HasFailed g b c → HasFailed g a c
  failed_later a b c P Q fault first clean second meant (inl failed) = inl (down_before (state g a) (state g b) (state g c) Q second (meant failed))
  failed_later a b c P Q fault first clean second meant (inr (inl down)) = inl (down_later (state g a) (state g b) (state g c) P Q first clean second down)
  failed_later a b c P Q fault first clean second meant (inr (inr lacks)) = inr lacks

  fails_for : (old new : Held S) (e : Error) → Fails (state g old) (state g new) ⊥ e → HasFailed g old new
  fails_for old new e (cause.OutOfMemory, same, why, back, tells) = inr (old, subst (Fails (state g old) (state g new) ⊥) same (cause.OutOfMemory, same, why, back, tells))
  fails_for old new e (cause.Io, same, why, back, tells) = inl (inr why)
  fails_for old new e (cause.Corrupt, same, why, back, tells) = inl (inr why)
  fails_for old new e (cause.Full, same, why, back, tells) = inl (inr why)
  fails_for old new e (cause.Broken, same, why, back, tells) = inl (inl why)
  fails_for old new e (cause.Unstorable, same, why, back, tells) = absurd why

  pub probe_fails : (old new : Held S) (e : Error) → IsNotRun (state g old) (state g new) probe_text [] e → HasFailed g old new
  unfolding IsNotRun
  probe_fails old new e (inl h) = absurd (always_fits (state g old) e h.0)
  probe_fails old new e (inr h) = fails_for old new e h
