-- An entry stands where it was put, whoever is aborted behind it.
use Rattle.std.proofs.Common.{◌≡◌, ℕ, List, [], ◌∷◌, ◌++◌, length, reverse, Some, refl, sym, ap, subst, ◌∙◌}
use Rattle.std.specs.Prelude.{slice_get}
use Rattle.std.proofs.lemmas.List.{length-reverse, reverse-append}
use Rattle.serial_spec.specs.declared.entry.Entry.{Entry}
use Rattle.serial_spec.specs.History.{History, Name}
use Rattle.serial_spec.specs.Interleaving.{AfterVictims, victim}
use Rattle.txn_tree.proofs.Exports.{get_front, get_last}
use Rattle.serial_spec.specs.declared.entry.By.{By}
use Rattle.serial_spec.specs.declared.event.Event.{Event}
use Rattle.manager_core.specs.declared.outcome.Outcome.{Outcome}
use Rattle.manager_core.specs.Calls.{Answered}
use Rattle.manager_core.specs.Outcomes.{TellsEntry, answer_of}
use Rattle.manager_core.specs.State.{State, entry}

-- one entry more
older : (v x : Entry) (h : History) (n : ℕ) → slice_get (reverse h) n ≡ Some x → slice_get (reverse (v ∷ h)) n ≡ Some x
older v x h n at = ap (λ es. slice_get es n) (reverse-append (v ∷ []) h) ∙ get_front (reverse h) (v ∷ []) n x at

kept : (x : Entry) (n : ℕ) (h h2 : History) (vs : List Name) → AfterVictims h vs h2 → slice_get (reverse h) n ≡ Some x → slice_get (reverse h2) n ≡ Some x
kept x n h h2 [] after at = subst (λ (k : History). slice_get (reverse k) n ≡ Some x) (sym after.1) at
kept x n h h2 (t ∷ ts) after at = kept x n (victim t ∷ h) h2 ts after.1 (older (victim t) x h n at)

entered : (x : Entry) (h h2 : History) (vs : List Name) → AfterVictims (x ∷ h) vs h2 → slice_get (reverse h2) (length h) ≡ Some x
entered x h h2 vs after = kept x (length h) (x ∷ h) h2 vs after newest
  where
    newest : slice_get (reverse (x ∷ h)) (length h) ≡ Some x
    newest = ap (λ es. slice_get es (length h)) (reverse-append (x ∷ []) h) ∙ ap (slice_get (reverse h ++ x ∷ [])) (sym (length-reverse h)) ∙ get_last (reverse h) x

-- so what is read off it is the outcome of the call
pub told_is : {S : Type 0} (old new : State S) (by : By) (event : Event) (outcome : Outcome) → Answered old new by event outcome → (place : ℕ) → place ≡ length old.history
    → (h2 : History) → h2 ≡ new.history → (told : Outcome) → TellsEntry (slice_get (reverse h2) place) told → told ≡ outcome
told_is old new by event outcome all place at h2 same told tells =
    let x : Entry = entry by event (answer_of outcome) in
    tells x
    (ap (λ (h : History). slice_get (reverse h) place) same ∙ ap (slice_get (reverse new.history)) at ∙ entered x old.history new.history all.victims all.broken)
    outcome refl
