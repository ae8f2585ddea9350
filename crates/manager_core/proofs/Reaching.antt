-- What an access comes to by the estate is what it comes to by the history.
use Rattle.std.proofs.Common.{◌≡◌, ℕ, Bool, true, false, not, true≢false, cond, ◌&&◌, List, None, refl, sym, ◌∙◌}
use Rattle.std.proofs.lemmas.Bool.{not-true}
use Rattle.std.specs.Prelude.{slice_get}
use Rattle.txn_tree.specs.States.{names}
use Rattle.txn_tree.specs.Asked.{IsNumberOf, is_name}
use Rattle.lock_table.specs.Inherited.{with_held}
use Rattle.lock_table.specs.ByAsked.{MayAsk}
use Rattle.version_stack.specs.Seen.{seen_in}
use Rattle.inherit.specs.LocksAndVersions.{LocksAndVersions, modes_of, left_of}
use Rattle.inherit.specs.Steps.{HasAccessed}
use Rattle.serial_spec.specs.declared.entry.By.{By}
use Rattle.serial_spec.specs.declared.operation.Reply.{Reply}
use Rattle.serial_spec.specs.declared.target.Asked.{Asked}
use Rattle.serial_spec.specs.declared.target.Target.{Target}
use Rattle.serial_spec.specs.Targets.{kind_of, target, target_eq}
use Rattle.serial_spec.specs.History.{Name, History, or_else}
use Rattle.serial_spec.specs.Locks.{mode_of, is_blocked}
use Rattle.serial_spec.specs.Serial.{reply_at}
use Rattle.serial_spec.specs.Values.{leaves_at, seen}
use Rattle.serial_spec.specs.Rows.{Rows, value_in}
use Rattle.serial_spec.specs.Legal.{AreAllowed}
use Rattle.serial_spec.specs.Allowed.{cause_at_access}
use Rattle.manager_core.specs.declared.accessing.Attempt.TheVariants.{Answered}
use Rattle.manager_core.specs.Kept.{AreTablesOf}
use Rattle.manager_core.specs.Tables.{Tabled, ComesTo, HasOtherRoom}
use Rattle.manager_core.proofs.Answers.{active_at_access}
use Rattle.manager_core.proofs.Locks.{may_as}
use Rattle.manager_core.proofs.Seen.{seen_as}
use Rattle.manager_core.proofs.Tabled.{tables_roomy}

-- a lock keeps out where it is told that none lets in
pub kept_by_lock : (b r : Bool) → r ≡ not b → r ≡ false → b ≡ true
kept_by_lock true r e f = refl
kept_by_lock false r e f = absurd (true≢false (sym e ∙ f))

module _ (rows : Rows) (h : History) (old mid : Tabled) (allowed : AreAllowed rows h) (are_old : AreTablesOf rows h old)
    (same : HasOtherRoom old mid) (t : Name) (n : ℕ) (number : IsNumberOf mid.tree t n) (asked : Asked) where
  are : AreTablesOf rows h mid
  are = tables_roomy rows h old mid are_old same

  let_in : MayAsk mid.tree mid.estate.locks n asked → is_blocked h t asked ≡ false
  let_in may = not-true (is_blocked h t asked) (sym (may_as rows h mid are t n number asked true (λ _. may, λ _. refl)))

  module _ (by : By) (none : None ≡ cause_at_access rows h by t asked) where
    sees : (k : List ℕ) → seen_in mid.tree mid.estate.versions n k ≡ seen (value_in rows) h t k
    sees k = seen_as rows h mid allowed are k t n (active_at_access rows h by t asked none) number

    pub comes_done : (reply : Reply) → MayAsk mid.tree mid.estate.locks n asked → reply ≡ reply_at (seen_in mid.tree mid.estate.versions n) asked
        → ComesTo rows h by t asked (Answered reply)
    comes_done reply may e = (none, let_in may, e ∙ (λ i. reply_at (λ k. sees k i) asked))

  -- by name what was done by number
  pub modes_by_name : (new : LocksAndVersions) (reply : Reply) → HasAccessed mid.estate new n asked reply → (u : ℕ) (s : Target)
      → modes_of new u s ≡ cond (is_name (slice_get (names mid.tree) u) t && target_eq (target asked) s) (with_held (modes_of old.estate u s) (mode_of (kind_of asked))) (modes_of old.estate u s)
  modes_by_name new reply has u s = has.modes u s ∙ (λ i. cond (number u i && target_eq (target asked) s) (with_held (same.estate.modes u s i) (mode_of (kind_of asked))) (same.estate.modes u s i))

  pub left_by_name : (new : LocksAndVersions) (reply : Reply) → HasAccessed mid.estate new n asked reply → (u : ℕ) (q : List ℕ)
      → left_of new u q ≡ cond (is_name (slice_get (names mid.tree) u) t) (or_else (leaves_at asked reply q) (left_of old.estate u q)) (left_of old.estate u q)
  left_by_name new reply has u q = has.left u q ∙ (λ i. cond (number u i) (or_else (leaves_at asked reply q) (same.estate.left u q i)) (same.estate.left u q i))
