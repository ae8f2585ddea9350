-- A line by which an access waits is the next of its session.
use Rattle.std.proofs.Common.{◌≡◌, ℕ, suc, inl, inr, ⊎_elim, Bool, true, false, not, cond, ◌&&◌, eqb, List, [], ◌∷◌, filter, find, Some, None, refl, sym, ap, subst, ◌∙◌}
use Rattle.std.specs.Prelude.{slice_get}
use Rattle.std.proofs.lemmas.Bool.{eq-eqb, not-true}
use Rattle.std.proofs.lemmas.Bool.Decides.{eqb_tells}
use Rattle.txn_names.proofs.Exports.{on_test}
use Rattle.serial_spec.specs.declared.event.Event.{Event}
use Rattle.serial_spec.specs.declared.event.Event.TheVariants.{Begin, Access, Sum, Commit, Abort, After}
use Rattle.serial_spec.specs.declared.entry.By.{By}
use Rattle.serial_spec.specs.declared.entry.By.TheVariants.{Line, Victim, Close}
use Rattle.serial_spec.specs.declared.entry.Answer.{Answer}
use Rattle.serial_spec.specs.declared.entry.Entry.{Entry}
use Rattle.serial_spec.specs.History.{Name, History, is_active}
use Rattle.serial_spec.specs.Rows.{Rows}
use Rattle.serial_spec.specs.Waits.{accesses, is_waits, open_waits, same_line}
use Rattle.serial_spec.specs.Interleaving.{Session, answered, is_answer_in, lines_of, next_event, IsInTurn, IsInterleaving}
use Rattle.txn_history.specs.Turns.{WaitIsNext}
use Rattle.txn_history.proofs.Tests.{clash}
use Rattle.txn_history.proofs.OpenWaits.{Has}
use Rattle.txn_history.proofs.OwnLines.{same_is}

-- ---- lists

-- what is found is in the list
has_found : {X : Type 0} (f : X → Bool) (xs : List X) (x : X) → find f xs ≡ Some x → Has x xs
has_found f [] x e = cc
has_found f (y ∷ ys) x e =
    on_test (f y) (λ b. cond b (Some y) (find f ys) ≡ Some x → Has x (y ∷ ys))
    (λ _ e. let same : y ≡ x = cc in inl same) (λ _ e. inr (has_found f ys x e)) e

-- what a filter keeps passes, and is in the whole list
kept_parts : {X : Type 0} (keep : X → Bool) (xs : List X) (x : X) → Has x (filter keep xs) → (keep x ≡ true) × Has x xs
kept_parts keep [] x h = absurd h
kept_parts keep (y ∷ ys) x h =
    on_test (keep y) (λ b. Has x (cond b (y ∷ filter keep ys) (filter keep ys)) → (keep x ≡ true) × Has x (y ∷ ys))
    (λ passes h. ⊎_elim
    (λ (same : y ≡ x). (ap keep (sym same) ∙ passes, inl same))
    (λ (later : Has x (filter keep ys)). let p = kept_parts keep ys x later in (p.0, inr p.1)) h)
    (λ _ h. let p = kept_parts keep ys x h in (p.0, inr p.1)) h

-- ---- lines that are answered

count_same : (x : Entry) (h : History) (s : ℕ) → is_answer_in s x.by x.answer ≡ false → answered (x ∷ h) s ≡ answered h s
count_same x h s e = ap (λ b. cond b (suc (answered h s)) (answered h s)) e

and_none : (b : Bool) → (b && false) ≡ false
and_none true = refl
and_none false = refl

-- one that waits is not
wait_answers_none : (s : ℕ) (by : By) (a : Answer) → is_waits a ≡ true → is_answer_in s by a ≡ false
wait_answers_none s (Line u l) a waits = ap (λ b. eqb s u && not b) waits ∙ and_none (eqb s u)
wait_answers_none s Victim a waits = refl
wait_answers_none s Close a waits = refl

module _ (rows : Rows) (ss : List Session) where
  -- nor is the next line of the session, but by an entry of its own
  others_answer_none : (h : History) (by : By) (e : Event) (a : Answer) → IsInTurn rows ss h by e a → (s l : ℕ) → l ≡ suc (answered h s) → same_line (Line s l) by ≡ false
      → is_answer_in s by a ≡ false
  others_answer_none h (Line u m) e a turn s l at other = ⊎_elim
      (λ (own : (eqb s u ≡ true) × (s ≡ u)).
      let line : l ≡ m = at ∙ ap (λ v. suc (answered h v)) own.1 ∙ sym turn.0 in
      clash (rw (own.0, eq-eqb l m line) refl) other)
      (λ (apart : (eqb s u ≡ false) × (s ≡ u → ⊥)). ap (λ b. b && not (is_waits a)) apart.0)
      (eqb_tells s u)
  others_answer_none h Victim e a turn s l at other = refl
  others_answer_none h Close e a turn s l at other = refl

  -- ---- open waits

  abbrev IsNext : History → Entry → Type 0
  IsNext h w = (s l : ℕ) → w.by ≡ Line s l → (l ≡ suc (answered h s)) × (next_event ss h s ≡ Some w.event)

  stays_next : (x : Entry) (h : History) (w : Entry) (s l : ℕ) → is_answer_in s x.by x.answer ≡ false → (l ≡ suc (answered h s)) × (next_event ss h s ≡ Some w.event)
      → (l ≡ suc (answered (x ∷ h) s)) × (next_event ss (x ∷ h) s ≡ Some w.event)
  stays_next x h w s l none was =
      let count = count_same x h s none in
      (was.0 ∙ ap suc (sym count), ap (λ n. slice_get (lines_of (slice_get ss s)) n) count ∙ was.1)

  -- so it stays with each entry
  next_more : (x : Entry) (h : History) → IsInTurn rows ss h x.by x.event x.answer → ((w : Entry) → Has w (open_waits h) → IsNext h w) → (w : Entry)
      → Has w (open_waits (x ∷ h)) → IsNext (x ∷ h) w
  next_more x h turn before w has =
      on_test (is_waits x.answer) (λ b. Has w (cond b (x ∷ rest) rest) → IsNext (x ∷ h) w)
      (λ waits has. ⊎_elim (λ (same : x ≡ w). newest waits same) (λ (later : Has w rest). older later) has)
      (λ _ has. older has)
      has
    where
      rest : List Entry
      rest = filter (λ v. not (same_line v.by x.by)) (open_waits h)

      newest : is_waits x.answer ≡ true → x ≡ w → IsNext (x ∷ h) w
      newest waits same s l by =
          let line : x.by ≡ Line s l = ap (λ (e : Entry). e.by) same ∙ by in
          let own = subst (λ (b : By). IsInTurn rows ss h b x.event x.answer) line turn in
          stays_next x h w s l (wait_answers_none s x.by x.answer waits) (own.0, own.1 ∙ ap (λ (e : Entry). Some e.event) same)

      older : Has w rest → IsNext (x ∷ h) w
      older later s l by =
          let kept = kept_parts (λ v. not (same_line v.by x.by)) (open_waits h) w later in
          let was = before w kept.1 s l by in
          let other : same_line (Line s l) x.by ≡ false = ap (λ b. same_line b x.by) (sym by) ∙ not-true (same_line w.by x.by) kept.0 in
          stays_next x h w s l (others_answer_none h x.by x.event x.answer turn s l was.0 other) was

  open_is_next : (h : History) → IsInterleaving rows ss h → (w : Entry) → Has w (open_waits h) → IsNext h w
  open_is_next [] i w has = absurd has
  open_is_next (x ∷ h) i w has = next_more x h i.1 (λ v there. open_is_next h i.0 v there) w has

  -- ---- by which an access waits

  found_if : (b : Bool) (p : Entry → Bool) (xs : List Entry) (w : Entry) → cond b (find p xs) None ≡ Some w → find p xs ≡ Some w
  found_if true p xs w e = e
  found_if false p xs w e = cc

  by_wait : (h : History) → IsInterleaving rows ss h → (t : Name) (s l : ℕ) (w : Entry) → cond (is_active h t) (find (λ v. accesses t v.event) (open_waits h)) None ≡ Some w
      → same_line w.by (Line s l) ≡ true → (l ≡ suc (answered h s)) × (next_event ss h s ≡ Some w.event)
  by_wait h i t s l w waits own =
      open_is_next h i w (has_found (λ v. accesses t v.event) (open_waits h) w (found_if (is_active h t) (λ v. accesses t v.event) (open_waits h) w waits)) s l (same_is w.by s l own)

pub wait_is_next : WaitIsNext
wait_is_next rows ss h i s l (Access t k o) (w, waits, own, is) = let n = by_wait rows ss h i t s l w waits own in (n.0, n.1 ∙ ap (λ (e : Event). Some e) is)
wait_is_next rows ss h i s l (Sum t g) (w, waits, own, is) = let n = by_wait rows ss h i t s l w waits own in (n.0, n.1 ∙ ap (λ (e : Event). Some e) is)
wait_is_next rows ss h i s l (Begin t) of = absurd of
wait_is_next rows ss h i s l (Commit t) of = absurd of
wait_is_next rows ss h i s l (Abort t) of = absurd of
wait_is_next rows ss h i s l (After t w) of = absurd of
