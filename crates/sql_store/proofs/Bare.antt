-- A query shows rows of its own, and no rows that a write returned, whatever the database has.
use Rattle.std.proofs.Common.{◌≡◌, ◌+◌, ℕ, Bool, true, false, cond, List, [], Option, Some, None, Result, Ok, Err, refl, sym, subst}
use Rattle.std.specs.Prelude.{IsSome}
use Rattle.sqlite_syntax.specs.declared.statement.Parsed.{Parsed}
use Rattle.sqlite_schema.specs.declared.command.Command.{Command}
use Rattle.sqlite_schema.specs.declared.command.Returning.{Returning}
use Rattle.sqlite_schema.specs.declared.schema.Schema.{Schema}
use Rattle.sqlite_resolve.specs.declared.compiled.Compiled.{Compiled}
use Rattle.sqlite_resolve.specs.declared.error.CompileError.{CompileError}
use Rattle.sqlite_resolve.specs.Lowering.{Checked, and_then}
use Rattle.sqlite_resolve.specs.Compile.{first, planned, meaning, returning, command, timed, small, with_command, compiled}
use Rattle.sqlite_tied.specs.Compute.{everything}
use Rattle.sqlite.specs.Order.{Row}
use Rattle.sqlite.specs.Clock as clock
use Rattle.sqlite.specs.Listing.{understood, reads_listing, if_select, is_select, listing_schema}
use Rattle.sqlite.specs.State.{State, CommitsShowing, Shown, ShowsRows, IsUnchanged}
use Rattle.sqlite.specs.Tree.{Trees}
use Rattle.sql_store.specs.Load.{load_text, old_text, ids_text, old_ids_text}

abbrev IsBare : Result Compiled CompileError → Type 0
IsBare (Ok c) = c.returning ≡ None
IsBare (Err e) = Unit {0}

-- no schema makes it show what a write returned
abbrev pub IsMute : Checked Parsed → Type 0
IsMute (Ok p) = (schema : Schema) (base : ℕ) → returning schema base p.statement ≡ Ok None
IsMute (Err e) = ⊥

pub load_mute : IsMute (first load_text)
unfolding first returning everything
load_mute schema base = refl

pub old_mute : IsMute (first old_text)
unfolding first returning everything
old_mute schema base = refl

pub old_ids_mute : IsMute (first old_ids_text)
unfolding first returning everything
old_ids_mute schema base = refl

pub ids_mute : IsMute (first ids_text)
unfolding first returning everything
ids_mute schema base = refl

bare_command : (p : Parsed) (formats : List (List ℕ)) (r : Checked Command)
    → IsBare (and_then (and_then (and_then r (λ c. Ok (c, None))) (λ found. Ok (formats, found))) (λ plan. Ok (with_command p plan)))
bare_command p formats (Ok c) = refl
bare_command p formats (Err e) = tt

bare_planned : (schema : Schema) (p : Parsed) → ((base : ℕ) → returning schema base p.statement ≡ Ok None) → IsBare (and_then (planned schema p) (λ plan. Ok (with_command p plan)))
unfolding planned meaning
bare_planned schema p mute =
    let formats = timed schema p.formats p.statement in
    let base = small p.names + small formats in
    subst (λ (shown : Checked (Option Returning)). IsBare (and_then (and_then (and_then shown (λ s. and_then (command schema p.formats base p.statement) (λ c. Ok (c, s)))) (λ found. Ok (formats, found))) (λ plan. Ok (with_command p plan))))
    (sym (mute base)) (bare_command p formats (command schema p.formats base p.statement))

bare_first : (schema : Schema) (r : Checked Parsed) → IsMute r → IsBare (and_then r (λ p. and_then (planned schema p) (λ plan. Ok (with_command p plan))))
bare_first schema (Ok p) mute = bare_planned schema p (mute schema)
bare_first schema (Err e) mute = absurd mute

bare_compiled : (schema : Schema) (text : List ℕ) → IsMute (first text) → IsBare (compiled schema text)
unfolding compiled
bare_compiled schema text mute = bare_first schema (first text) mute

bare_if : (b : Bool) (x y : Result Compiled CompileError) → IsBare x → IsBare y → IsBare (cond b x y)
bare_if true x y h k = h
bare_if false x y h k = k

bare_select : (r : Result Compiled CompileError) → IsBare r → IsBare (if_select r)
bare_select (Ok c) h = bare_if (is_select c.command) (Ok c) _ h tt
bare_select (Err e) h = tt

bare : (schema : Schema) (text : List ℕ) → IsMute (first text) → IsBare (understood schema text)
unfolding understood
bare schema text mute = bare_if (reads_listing schema text) _ _ (bare_select _ (bare_compiled listing_schema text mute)) (bare_compiled schema text mute)

shows_none : (o : Option Returning) → o ≡ None → IsSome o → ⊥
shows_none None none some = absurd cc
shows_none (Some x) none some = absurd cc

-- a query commits nothing
pub commits_none : (text : List ℕ) → IsMute (first text) → (s : State) (db : Trees) → CommitsShowing text [] s db → ⊥
unfolding CommitsShowing
commits_none text mute s db h = shows_none h.0.returning (subst IsBare h.1.is (bare s.now.schema text mute)) h.2

-- and leaves all as it was
pub shown_same : (text : List ℕ) → IsMute (first text) → (old new : State) (rows : List Row) → Shown text [] old new rows → IsUnchanged old new
unfolding Shown
shown_same text mute old new rows h =
    let none = subst IsBare h.1.is (bare old.now.schema text mute) in
    let it = subst (ShowsRows old new text h.0 (clock.timed [] h.0.formats h.1.now) rows) none h.2 in
    it.3
