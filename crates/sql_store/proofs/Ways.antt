-- What stands behind a statement that left a row to the next one.
use Rattle.std.proofs.Common.{◌≡◌, inl, inr, ℕ, ℤ, true, false, List, [], ◌∷◌, Option, Some, Result, Ok, Err, refl, sym, ap, subst, ◌∙◌}
use Rattle.std.specs.Prelude.{IsTrue}
use Rattle.std.proofs.lemmas.Bool.{cases_Bool, false≢true}
use Rattle.sqlite.specs.declared.types.Value.TheVariants.{Int, Text}
use Rattle.sqlite.specs.declared.error.Error.{Error}
use Rattle.sqlite.specs.Order.{Row as Values}
use Rattle.sqlite.specs.Effect.{Database}
use Rattle.sqlite.specs.Held.{Held, state}
use Rattle.sqlite.specs.Store.{Ghosts}
use Rattle.sqlite.specs.State.{State, HasCleanDisk, Survives, KeepsCommit, Executes, ExecutesInside, ExecutesIn, IsNotRun, RunsAlone, RunsCommand, IsUnchanged, Fails, shows_rows}
use Rattle.sqlite_resolve.specs.declared.compiled.Compiled.{Compiled}
use Rattle.sqlite_trees.specs.declared.error.StoreError.TheVariants as cause
use Rattle.sql_store.specs.Asked.{Answers, Answered, RunsStatement, IsLeft, PutsRow, PutGives, TriesFirst}
use Rattle.sql_store.specs.Calls.{IfInside}
use Rattle.sql_store.specs.Faults.{breaks_rule}
use Rattle.sql_store.specs.Laid.{put}
use Rattle.sql_store.specs.Table.{map_of, table_of, AreApart, IsReady, Makes}
use Rattle.sql_store.proofs.Texts.{upsert_text, update_text, insert_text}
use Rattle.sql_store.proofs.Steps.{clean_before, kept_by, on_ok_then, steps_from}
use Rattle.sql_store.proofs.Answering.{answers_then}
use Rattle.sql_store.proofs.Composed.{keeps_then}
use Rattle.sql_store.proofs.Updates.{updates, renews}
use Rattle.sql_store.proofs.Adding.{adds}
use Rattle.sql_store.proofs.Upserts.{enters}

-- ---- a rule that would have been broken

fails_apart : (old new : State) (P : Type 0) (e : Error) → breaks_rule e ≡ true → Fails old new P e → ⊥
fails_apart old new P e breaks (cause.OutOfMemory, same, why, back, tells) = false≢true (subst (λ x. breaks_rule x ≡ true) same breaks)
fails_apart old new P e breaks (cause.Io, same, why, back, tells) = false≢true (subst (λ x. breaks_rule x ≡ true) same breaks)
fails_apart old new P e breaks (cause.Corrupt, same, why, back, tells) = false≢true (subst (λ x. breaks_rule x ≡ true) same breaks)
fails_apart old new P e breaks (cause.Full, same, why, back, tells) = false≢true (subst (λ x. breaks_rule x ≡ true) same breaks)
fails_apart old new P e breaks (cause.Broken, same, why, back, tells) = false≢true (subst (λ x. breaks_rule x ≡ true) same breaks)
fails_apart old new P e breaks (cause.Unstorable, same, why, back, tells) = false≢true (subst (λ x. breaks_rule x ≡ true) same breaks)

command_stands : (old new : State) (sql : List ℕ) (c : Compiled) (params : Values) (e : Error) → breaks_rule e ≡ true → RunsCommand old new sql c params (Err e) → IsUnchanged old new
command_stands old new sql c params e breaks (inl h) = h.1
command_stands old new sql c params e breaks (inr h) = absurd (fails_apart old new _ e breaks h)

alone_stands : (old new : State) (sql : List ℕ) (c : Compiled) (params : Values) (e : Error) → breaks_rule e ≡ true → RunsAlone false old new sql c params (Err e) → IsUnchanged old new
alone_stands old new sql c params e breaks h = elim (cases_Bool (shows_rows false c)) [
  | inl shows ↦ (rw shows at h).1
  | inr runs ↦ command_stands old new sql c params e breaks (rw runs at h)
]

not_run_stands : (old new : State) (sql : List ℕ) (params : Values) (e : Error) → breaks_rule e ≡ true → IsNotRun old new sql params e → IsUnchanged old new
unfolding IsNotRun
not_run_stands old new sql params e breaks (inl h) = h.1
not_run_stands old new sql params e breaks (inr h) = absurd (fails_apart old new ⊥ e breaks h)

executes_stands : (sql : List ℕ) (params : Values) (old new : State) (e : Error) → breaks_rule e ≡ true → Executes sql params old new (Err e) → IsUnchanged old new
unfolding ExecutesIn
executes_stands sql params old new e breaks (inl h) = not_run_stands old new sql params e breaks h
executes_stands sql params old new e breaks (inr h) = alone_stands old new sql h.0 _ e breaks h.2

-- the transaction stands, and what is in it
pub stands : (sql : List ℕ) (params : Values) (old new : State) (e : Error) → breaks_rule e ≡ true → ExecutesInside 0 sql params old new (Err e) → IsUnchanged old new
stands sql params old new e breaks (inl h) = executes_stands sql params old new e breaks h.0
stands sql params old new e breaks (inr h) = h.2

-- ---- the table is as it was

pub record Passes (old new : State) : Type 0 where
  pub was_open : IsTrue old.is_open
  pub inside : IsTrue new.in_transaction
  pub kept : KeepsCommit old new
  pub ready : IsReady old.now → IsReady new.now
  pub table : IsReady old.now → table_of new.now ≡ table_of old.now
  pub others : IsReady old.now → new.now.trees 0 ≡ old.now.trees 0

pub passes_unchanged : (old new : State) → IsTrue old.in_transaction → KeepsCommit old new → IsUnchanged old new → Passes old new
passes_unchanged old new inside kept same = record {
  was_open = same.0.was_open;
  inside = same.0.mode ∙ inside;
  kept = kept;
  ready = λ ready. subst IsReady (sym same.0.now_is) ready;
  table = λ ready. ap table_of same.0.now_is;
  others = λ ready. ap (λ (d : Database). d.trees 0) same.0.now_is;
}

passes_none : (old new : State) (key : List ℕ) (value number : ℤ) → ExecutesInside 0 update_text (Text key ∷ Int value ∷ Int number ∷ []) old new (Ok 0) → Passes old new
passes_none old new key value number h =
    let done = λ (ready : IsReady old.now). updates old new key value number 0 ready h.0 in
    record {
      was_open = h.1.was_open;
      inside = h.1.mode;
      kept = kept_by update_text (Text key ∷ Int value ∷ Int number ∷ []) old new (Ok 0) h;
      ready = λ ready. record { schema = (done ready).schema; apart = subst AreApart (sym ((done ready).none refl).1) ready.apart };
      table = λ ready. ap map_of ((done ready).none refl).1;
      others = λ ready. ((done ready).none refl).0;
    }

makes_after : (a b c : State) (key : List ℕ) (entry : Option (ℤ × ℤ)) → Passes a b → Makes key entry b c → Makes key entry a c
makes_after a b c key entry first it = record {
  was_open = first.was_open;
  inside = it.inside;
  kept = keeps_then a b c first.kept it.kept;
  ready = λ ready. it.ready (first.ready ready);
  table = λ ready. it.table (first.ready ready) ∙ ap (λ m. put m key entry) (first.table ready);
  others = λ ready. it.others (first.ready ready) ∙ first.others ready;
}

-- ---- a row is put

module _ {S : Type 0} (g : Ghosts S) (key : List ℕ) (value number : ℤ) where
  abbrev params : Values
  params = Text key ∷ Int value ∷ Int number ∷ []

  -- what left the row to the upsert left the table as it was
  passes : (old new : Held S) → IsTrue (state g old).in_transaction → IsLeft g params old new → Passes (state g old) (state g new)
  passes old new inside (inl h) = passes_none (state g old) (state g new) key value number h
  passes old new inside (inr (e, breaks, h)) =
      passes_unchanged (state g old) (state g new) inside (kept_by insert_text params (state g old) (state g new) (Err e) h) (stands insert_text params (state g old) (state g new) e breaks h)

  -- whichever statement put it, the change is made
  pub makes_put : (old new : Held S) → IsTrue (state g old).in_transaction → PutsRow g params old new → Makes key (Some (value, number)) (state g old) (state g new)
  makes_put old new inside (inl (count, met, h)) = renews (state g old) (state g new) key value number count met h
  makes_put old new inside (inr (inl (count, h))) = adds (state g old) (state g new) key value number count h
  makes_put old new inside (inr (inr (next, was_left, (count, h)))) =
      makes_after (state g old) (state g next) (state g new) key (Some (value, number)) (passes old next inside was_left) (enters (state g next) (state g new) key value number count h)

  -- the upsert puts the row that was left to it
  pub left_put : {old next new : Held S} {r : Result (Unit {0}) Error} → IfInside g old next (IsLeft g params old next) → Survives (state g old) (state g next) (λ _. ⊥)
      → RunsStatement g upsert_text params next new r → Answers g (PutsRow g params) (PutGives g params) old new r
  left_put {old = old} {next = next} {r = r} were_left survives h =
      let stood = λ (clean : HasCleanDisk (state g next)) (inside : IsTrue (state g old).in_transaction). passes old next inside (were_left clean inside) in
      answers_then g (steps_from (state g old) (state g next) (λ clean inside. (stood clean inside).kept) survives) (λ clean inside. (stood clean inside).inside)
      (λ was inside. on_ok_then r (λ ran. inr (inr (next, were_left was inside, ran)))) (λ was inside e gave. inr (inr (next, were_left was inside, gave))) h

  -- a call that executes the upsert has an answer of it
  answered_last : (r : Result (Unit {0}) Error) (next new : Held S) → RunsStatement g upsert_text params next new r
      → IfInside g next new ((answer : Result ℕ Error) × Answered g upsert_text params next new answer)
  answered_last (Ok x) next new h clean inside = let it = h.asked clean inside in (Ok it.0, it.1)
  answered_last (Err e) next new h clean inside = (Err e, h.refused clean inside)

  -- what left the row to the upsert was tried first
  pub left_first : (text : List ℕ) (first : Result ℕ Error) (old next new : Held S) {r : Result (Unit {0}) Error} → IfInside g old next (Answered g text params old next first)
      → IfInside g old next (IsLeft g params old next) → RunsStatement g upsert_text params next new r → IfInside g old new (TriesFirst g text params old new)
  left_first text first old next new {r = r} ran were_left h clean inside =
      let was = clean_before (state g next) (state g new) h.steps.survives clean in
      let it = answered_last r next new h clean (passes old next inside (were_left was inside)).inside in
      inr (next, first, it.0, ran was inside, it.1)
