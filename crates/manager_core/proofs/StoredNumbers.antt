-- The numbered table that a history leaves: what each entry adds, that its values are the stored table, and that it is one.
use Rattle.std.proofs.Common.{◌≡◌, inl, inr, ℕ, ℤ, pos, ◌+ℤ◌, ◌<◌, false, List, [], ◌∷◌, length, None, refl, sym, ap, subst, ◌∙◌, arith}
use Rattle.std.proofs.lemmas.Bool.{false≢true}
use Rattle.txn_names.specs.declared.change.Change.{Change}
use Rattle.serial_spec.specs.declared.entry.By.{By}
use Rattle.serial_spec.specs.declared.operation.Reply.TheVariants.{Ok}
use Rattle.serial_spec.specs.declared.event.Event.TheVariants.{Commit}
use Rattle.serial_spec.specs.declared.entry.Answer.TheVariants.{Done}
use Rattle.serial_spec.specs.declared.entry.Entry.{Entry}
use Rattle.serial_spec.specs.History.{Name, History, Effect, Begins, Accesses, Commits, Aborts, Nothing, effect}
use Rattle.serial_spec.specs.Serial.{Map, stored}
use Rattle.serial_spec.specs.Rows.{Rows, value_in}
use Rattle.serial_spec.specs.Changes.{IsChanges, change_at, overlay}
use Rattle.serial_spec.specs.Legal.{AreAllowed, is_top_level}
use Rattle.txn_history.specs.Laws.{table_next}
use Rattle.txn_history.proofs.Exports.{changes_made}
use Rattle.durable_top.specs.Numbered.{Numbered, values_of, entry_or, overlay_numbered}
use Rattle.durable_top.specs.Numbered.{Commits as MakesNumbered}
use Rattle.durable_top.proofs.Exports.{one_greatest, values_committed}
use Rattle.manager_core.specs.State.{entry}
use Rattle.manager_core.specs.StoredNumbers.{commits_top, EntryMakes, IsNumberedAfter, NumberedValues, NumberedOnce}
use Rattle.manager_core.proofs.Steps.{table_same}

-- ---- one entry more

-- a transaction that is not top-level
pub not_top : (t : Name) → 1 < length t → is_top_level t ≡ false
not_top [] below = absurd (omega (arith, below))
not_top (l ∷ []) below = absurd (omega (arith, below))
not_top (l ∷ m ∷ ls) below = refl

stays : (opening : Map) (h : History) (x : Effect) (table : Numbered) → commits_top x ≡ false → EntryMakes opening h x table table
stays opening h (Begins t) table other = refl
stays opening h (Accesses t a r) table other = refl
stays opening h (Commits []) table other = refl
stays opening h (Commits (l ∷ [])) table other = absurd (false≢true (sym other))
stays opening h (Commits (l ∷ m ∷ ls)) table other = refl
stays opening h (Aborts t) table other = refl
stays opening h Nothing table other = refl

-- an entry that commits no top-level transaction leaves the table
pub numbered_next : (opening : Numbered) (e : Entry) (h : History) (table : Numbered) → commits_top (effect e) ≡ false → IsNumberedAfter opening h table
    → IsNumberedAfter opening (e ∷ h) table
numbered_next opening e h table other after = (table, after, stays (values_of opening) h (effect e) table other)

-- the commit of one makes its changes
pub numbered_commit : (opening : Numbered) (h : History) (by : By) (t : Name) (changes : List Change) (old new : Numbered) → length t ≡ 1
    → IsChanges (values_of opening) h t changes → MakesNumbered changes old new → IsNumberedAfter opening h old
    → IsNumberedAfter opening (entry by (Commit t) (Done Ok) ∷ h) new
numbered_commit opening h by [] changes old new top due made after = absurd (omega (arith, top))
numbered_commit opening h by (l ∷ []) changes old new top due made after = (old, after, record { changes = changes; due = due; made = made })
numbered_commit opening h by (l ∷ m ∷ ls) changes old new top due made after = absurd (omega (arith, top))

-- ---- without its numbers it is the stored table

module _ (rows : Rows) (opening : Numbered) (values : values_of opening ≡ value_in rows) (e : Entry) (h : History) (allowed : AreAllowed rows (e ∷ h))
    (before left : Numbered) (so_far : (k : List ℕ) → values_of before k ≡ stored (value_in rows) h k) where
  stays_stored : (x : Effect) → effect e ≡ x → (k : List ℕ) → table_next (value_in rows) h x k ≡ stored (value_in rows) h k → left ≡ before
      → values_of left k ≡ stored (value_in rows) (e ∷ h) k
  stays_stored x does k same made =
      ap (λ (m : Numbered). values_of m k) made ∙ so_far k ∙ sym (table_same rows e h allowed k (ap (λ y. table_next (value_in rows) h y k) does ∙ same))

  is_stored : (x : Effect) → effect e ≡ x → EntryMakes (values_of opening) h x before left → (k : List ℕ) → values_of left k ≡ stored (value_in rows) (e ∷ h) k
  is_stored (Begins t) does made k = stays_stored (Begins t) does k refl made
  is_stored (Accesses t a r) does made k = stays_stored (Accesses t a r) does k refl made
  is_stored (Commits []) does made k = stays_stored (Commits []) does k refl made
  is_stored (Commits (l ∷ [])) does made k =
      let were : values_of before ≡ stored (value_in rows) h = λ i q. so_far q i in
      ap (λ (m : Map). m k) (values_committed made.changes before left made.made)
      ∙ ap (λ (m : Map). overlay made.changes m k) were
      ∙ sym (changes_made rows e h allowed l does made.changes (subst (λ (m : Map). IsChanges m h (l ∷ []) made.changes) values made.due) k)
  is_stored (Commits (l ∷ m ∷ ls)) does made k = stays_stored (Commits (l ∷ m ∷ ls)) does k refl made
  is_stored (Aborts t) does made k = stays_stored (Aborts t) does k refl made
  is_stored Nothing does made k = stays_stored Nothing does k refl made

pub values_stored : NumberedValues
values_stored rows [] allowed opening left values after k = ap (λ (m : Numbered). values_of m k) after ∙ ap (λ (m : Map). m k) values
values_stored rows (e ∷ h) allowed opening left values after k =
    is_stored rows opening values e h allowed after.0 left (values_stored rows h allowed.0 opening after.0 values after.1) (effect e) refl after.2 k

-- ---- there is one at most

-- under any number no changes make nothing
unnumbered : (changes : List Change) (m : Numbered) → ((k : List ℕ) → change_at changes k ≡ None) → (n : ℤ) → overlay_numbered n changes m ≡ m
unnumbered changes m none n =
    let each : (k : List ℕ) → overlay_numbered n changes m k ≡ m k = λ k. ap (λ x. entry_or n x (m k)) (none k) in
    λ i k. each k i

made_once : (cs ds : List Change) (old one other : Numbered) → ((k : List ℕ) → change_at cs k ≡ change_at ds k) → MakesNumbered cs old one → MakesNumbered ds old other
    → one ≡ other
made_once cs ds old one other same (inl none) (inl nil) = none.1 ∙ sym nil.1
made_once cs ds old one other same (inl none) (inr follows) = none.1 ∙ sym (follows.is ∙ unnumbered ds old (λ k. sym (same k) ∙ ap (λ (es : List Change). change_at es k) none.0) _)
made_once cs ds old one other same (inr follows) (inl nil) = follows.is ∙ unnumbered cs old (λ k. same k ∙ ap (λ (es : List Change). change_at es k) nil.0) _ ∙ sym nil.1
made_once cs ds old one other same (inr follows) (inr next) =
    let number : follows.top ≡ next.top = one_greatest old follows.top next.top follows.greatest next.greatest in
    let each : (k : List ℕ) → overlay_numbered (follows.top +ℤ pos 1) cs old k ≡ overlay_numbered (next.top +ℤ pos 1) ds old k = λ k.
    ap (λ n. entry_or (n +ℤ pos 1) (change_at cs k) (old k)) number ∙ ap (λ x. entry_or (next.top +ℤ pos 1) x (old k)) (same k) in
    follows.is ∙ (λ i k. each k i) ∙ sym next.is

module _ (opening : Numbered) (h : History) (old same one other : Numbered) (so_far : old ≡ same) where
  is_once : (x : Effect) → EntryMakes (values_of opening) h x old one → EntryMakes (values_of opening) h x same other → one ≡ other
  is_once (Begins t) a b = a ∙ so_far ∙ sym b
  is_once (Accesses t x r) a b = a ∙ so_far ∙ sym b
  is_once (Commits []) a b = a ∙ so_far ∙ sym b
  is_once (Commits (l ∷ [])) a b =
      made_once a.changes b.changes same one other (λ k. a.due.each k ∙ sym (b.due.each k)) (subst (λ (m : Numbered). MakesNumbered a.changes m one) so_far a.made) b.made
  is_once (Commits (l ∷ m ∷ ls)) a b = a ∙ so_far ∙ sym b
  is_once (Aborts t) a b = a ∙ so_far ∙ sym b
  is_once Nothing a b = a ∙ so_far ∙ sym b

pub numbered_once : NumberedOnce
numbered_once opening [] one other is also = is ∙ sym also
numbered_once opening (e ∷ h) one other is also =
    is_once opening h is.0 also.0 one other (numbered_once opening h is.0 also.0 is.1 also.1) (effect e) is.2 also.2
