-- An entry that stands next in a legal history stands next in the report too, where its session has the number of its label.
use Rattle.std.proofs.Common.{◌≡◌, ℕ, zero, suc, ◌<◌, ◌≤◌, List, [], ◌∷◌, ◌++◌, length, get_or, true, not, ⊎_elim, Some, refl, sym, ap, ap₂, ◌∙◌, subst, arith}
use Rattle.std.specs.Prelude.{◌||◌}
use Rattle.std.specs.List.{AllByRecursion, IsDistinct, list_any}
use Rattle.std.proofs.lemmas.Bool.{and_from, eq-eqb, lt-ltb, or_right}
use Rattle.std.proofs.lemmas.Cmp.{nat_list_eq_equiv}
use Rattle.std.proofs.lemmas.List.{length-map}
use Rattle.std.proofs.lemmas.Map.Made.{length-le_from_is_member}
use Rattle.txn_names.specs.Path.{label_eq}
use Rattle.txn_names.proofs.Exports.{label_eq_self}
use Rattle.serial_spec.specs.declared.limits.TheConstants.{MOST_SESSIONS}
use Rattle.serial_spec.specs.declared.entry.By.{By}
use Rattle.serial_spec.specs.declared.entry.By.TheVariants as by
use Rattle.serial_spec.specs.declared.entry.Answer.{Answer}
use Rattle.serial_spec.specs.declared.entry.Answer.TheVariants.{Done}
use Rattle.serial_spec.specs.declared.operation.Reply.TheVariants.{Ok}
use Rattle.serial_spec.specs.declared.event.Event.{Event}
use Rattle.serial_spec.specs.declared.event.Event.TheVariants.{Abort}
use Rattle.line_language.specs.Report.{name_in}
use Rattle.serial_spec.specs.History.{History, Name, begun, effect_of}
use Rattle.serial_spec.specs.Rows.{Rows}
use Rattle.serial_spec.specs.Waits.{IsVictim}
use Rattle.serial_spec.specs.Legal.{IsAbortOf, Legal, MayCome, first_live}
use Rattle.serial_spec.specs.Interleaving.{IsInTurn, IsInterleaving, Session}
use Rattle.session_text.specs.Grammar.{AreApart, IsText, is_taken}
use Rattle.txn_history.proofs.Exports.{abort_of, clash, legal_allowed}
use Rattle.report_check.specs.Passing.{entry_in, goes_on, is_in_time, is_next, labels_after, may_close, may_follow, session_of}
use Rattle.report_laws.specs.Laws.{told_by}
use Rattle.report_laws.proofs.Doing.{may_close_next, may_do_next}
use Rattle.report_laws.proofs.Entries.{label_in, labels_of, line_of}
use Rattle.report_laws.proofs.Places.{placed, still_among, still_distinct}
use Rattle.report_laws.proofs.Renamed.{AreAlone, Holds, answered_same, closes_same, may_do_same, moved, moved_entry, renamed, waiting_same}
use Rattle.report_laws.proofs.Turns.{goes_on_next, in_time, with_parts}

-- ---- the labels that are named, in the order in which they are first named

module _ (labels : List (List ℕ)) where
  abbrev pub named : History → List (List ℕ)
  named [] = []
  named (e ∷ h) = labels_after (named h) (told_by labels e.by e.event e.answer)

-- the session has a number of its own among all that are named
abbrev pub IsFound : List (List ℕ) → List (List ℕ) → ℕ → Type 0
IsFound all labels s = (session_of all (label_in labels s) < length all) × (get_or all (session_of all (label_in labels s)) [] ≡ label_in labels s)

pub record IsNumberedBy (all before labels : List (List ℕ)) (b : By) : Type 0 where
  pub more : List (List ℕ)
  pub kept : all ≡ before ++ more
  pub found : Holds (IsFound all labels) b
  pub entry : Holds (λ s. session_of before (label_in labels s) ≡ session_of all (label_in labels s)) b

pub numbered : (all before more labels : List (List ℕ)) (b : By) (e : Event) (a : Answer) → all ≡ labels_after before (told_by labels b e a) ++ more → IsNumberedBy all before labels b
numbered all before more labels (by.Line s n) e a is =
    let p = placed all before more (label_in labels s) is in record { more = p.more; kept = p.kept; found = (p.within, p.found); entry = p.same }
numbered all before more labels by.Victim e a is = record { more = more; kept = is; found = tt; entry = tt }
numbered all before more labels by.Close e a is = record { more = more; kept = is; found = tt; entry = tt }

-- so has each session with entries
pub all_found : (all labels : List (List ℕ)) (h : History) (more : List (List ℕ)) → all ≡ named labels h ++ more → AllByRecursion (λ e. Holds (IsFound all labels) e.by) h
all_found all labels [] more is = tt
all_found all labels (e ∷ h) more is =
    let n = numbered all (named labels h) more labels e.by e.event e.answer is in (n.found, all_found all labels h n.more n.kept)

-- ---- sessions have labels of their own

taken_at : (ss : List Session) (l : List ℕ) (s : ℕ) → s < length ss → label_in (labels_of ss) s ≡ l → is_taken l ss ≡ true
taken_at [] l s within is = absurd (omega (arith, within))
taken_at (t ∷ ts) l zero within is = ap (λ b. b || is_taken l ts) (ap (λ x. label_eq x t.label) (sym is) ∙ label_eq_self t.label)
taken_at (t ∷ ts) l (suc s) within is = or_right (label_eq l t.label) (is_taken l ts) (taken_at ts l s (omega (arith, within)) is)

own_label : (ss : List Session) (s u : ℕ) → AreApart ss → s < length ss → u < length ss → label_in (labels_of ss) s ≡ label_in (labels_of ss) u → s ≡ u
own_label [] s u apart a b is = absurd (omega (arith, a))
own_label (t ∷ ts) zero zero apart a b is = refl
own_label (t ∷ ts) zero (suc u) apart a b is = clash (taken_at ts t.label u (omega (arith, b)) (sym is)) apart.0
own_label (t ∷ ts) (suc s) zero apart a b is = clash (taken_at ts t.label s (omega (arith, a)) is) apart.0
own_label (t ∷ ts) (suc s) (suc u) apart a b is = ap suc (own_label ts s u apart.1 (omega (arith, a)) (omega (arith, b)) is)

-- each entry of a line is of one of the sessions
pub in_sessions : (rows : Rows) (ss : List Session) (h : History) → IsText ss → IsInterleaving rows ss h → AllByRecursion (λ e. Holds (λ s. s < length ss) e.by) h
in_sessions rows ss [] text turns = tt
in_sessions rows ss (e ∷ h) text turns = (one e.by e.event e.answer turns.1, in_sessions rows ss h text turns.0)
  where
    one : (b : By) (x : Event) (a : Answer) → IsInTurn rows ss h b x a → Holds (λ s. s < length ss) b
    one (by.Line s n) x a turn = (line_of ss h s x text turn.1).within
    one by.Victim x a turn = tt
    one by.Close x a turn = tt

module _ (all : List (List ℕ)) (ss : List Session) (apart : AreApart ss) where
  abbrev at : ℕ → ℕ
  at s = session_of all (label_in (labels_of ss) s)

  alone_by : (s : ℕ) → s < length ss → IsFound all (labels_of ss) s → (b : By) → Holds (λ u. u < length ss) b → Holds (IsFound all (labels_of ss)) b → Holds (λ u. at s ≡ at u → s ≡ u) b
  alone_by s within found (by.Line u n) other is = λ same. own_label ss s u apart within other (sym found.1 ∙ ap (λ k. get_or all k []) same ∙ is.1)
  alone_by s within found by.Victim other is = tt
  alone_by s within found by.Close other is = tt

  pub alone : (s : ℕ) → s < length ss → IsFound all (labels_of ss) s → (h : History) → AllByRecursion (λ e. Holds (λ u. u < length ss) e.by) h → AllByRecursion (λ e. Holds (IsFound all (labels_of ss)) e.by) h
      → AreAlone at s h
  alone s within found [] others is = tt
  alone s within found (e ∷ h) others is = (alone_by s within found e.by others.0 is.0, alone s within found h others.1 is.1)

-- ---- no more labels are named than there are sessions

named_distinct : (labels : List (List ℕ)) (h : History) → IsDistinct label_eq (named labels h)
unfolding IsDistinct
named_distinct labels [] = tt
named_distinct labels (e ∷ h) = one e.by (named_distinct labels h)
  where
    one : (b : By) → IsDistinct label_eq (named labels h) → IsDistinct label_eq (labels_after (named labels h) (told_by labels b e.event e.answer))
    one (by.Line s n) d = still_distinct (named labels h) (label_in labels s) d
    one by.Victim d = d
    one by.Close d = d

label_there : (labels : List (List ℕ)) (s : ℕ) → s < length labels → list_any (label_eq (label_in labels s)) labels ≡ true
label_there [] s within = absurd (omega (arith, within))
label_there (l ∷ ls) zero within = ap (λ b. b || list_any (label_eq l) ls) (label_eq_self l)
label_there (l ∷ ls) (suc s) within = or_right (label_eq (label_in ls s) l) _ (label_there ls s (omega (arith, within)))

named_there : (labels : List (List ℕ)) (h : History) → AllByRecursion (λ e. Holds (λ s. s < length labels) e.by) h → (q : List ℕ) → list_any (label_eq q) (named labels h) ≡ true → list_any (label_eq q) labels ≡ true
named_there labels [] within q there = clash there refl
named_there labels (e ∷ h) within q there = one e.by (named_there labels h within.1 q) within.0 there
  where
    one : (b : By) → (list_any (label_eq q) (named labels h) ≡ true → list_any (label_eq q) labels ≡ true) → Holds (λ s. s < length labels) b
        → list_any (label_eq q) (labels_after (named labels h) (told_by labels b e.event e.answer)) ≡ true → list_any (label_eq q) labels ≡ true
    one (by.Line s n) before w h2 = ⊎_elim before (λ (same : q ≡ label_in labels s). subst (λ l. list_any (label_eq l) labels ≡ true) (sym same) (label_there labels s w)) (still_among (named labels h) (label_in labels s) q h2)
    one by.Victim before w h2 = before h2
    one by.Close before w h2 = before h2

pub named_few : (ss : List Session) (h : History) → AllByRecursion (λ e. Holds (λ s. s < length ss) e.by) h → length (named (labels_of ss) h) ≤ length ss
named_few ss h within =
    subst (λ n. length (named (labels_of ss) h) ≤ n) (length-map ss (λ s. s.label))
    (length-le_from_is_member nat_list_eq_equiv (named (labels_of ss) h) (labels_of ss) (named_distinct (labels_of ss) h)
    (named_there (labels_of ss) h (subst (λ n. AllByRecursion (λ e. Holds (λ s. s < n) e.by) h) (sym (length-map ss (λ s. s.label))) within)))

-- ---- the next entry

-- an entry of the manager is an abort that was done
abbrev pub IsManaged : By → Event → Answer → Type 0
IsManaged (by.Line s n) e a = Unit {0}
IsManaged by.Victim e a = (e ≡ Abort (name_in e)) × (a ≡ Done Ok)
IsManaged by.Close e a = (e ≡ Abort (name_in e)) × (a ≡ Done Ok)

managed_abort : (P : Name → Type 0) (e : Event) (a : Answer) → IsAbortOf P e a → (e ≡ Abort (name_in e)) × (a ≡ Done Ok)
managed_abort P e a m = let t = abort_of P e a m in (t.1 ∙ ap (λ u. Abort u) (sym (ap name_in t.1)), t.2)

pub managed : (rows : Rows) (h : History) (b : By) (e : Event) (a : Answer) → MayCome rows h b e a → IsManaged b e a
managed rows h (by.Line s n) e a may = tt
managed rows h by.Victim e a may = managed_abort (IsVictim h) e a may
managed rows h by.Close e a may = managed_abort (λ t. first_live h (begun h) ≡ Some t) e a may

pub told_entry : (before labels : List (List ℕ)) (at : ℕ → ℕ) (b : By) (e : Event) (a : Answer) → Holds (λ s. session_of before (label_in labels s) ≡ at s) b
    → IsManaged b e a → entry_in before (told_by labels b e a) ≡ moved_entry at (with_parts b e a)
told_entry before labels at (by.Line s n) e a same is = ap (λ k. with_parts (by.Line k n) e a) same
told_entry before labels at by.Victim e a same is = ap₂ (with_parts by.Victim) (sym is.0) (sym is.1)
told_entry before labels at by.Close e a same is = ap₂ (with_parts by.Close) (sym is.0) (sym is.1)

-- the session has a number of its own, and a small one
pub record IsOwn (at : ℕ → ℕ) (h : History) (s : ℕ) : Type 0 where
  pub alone : AreAlone at s h
  pub small : at s < MOST_SESSIONS

module _ (rows : Rows) (ss : List Session) (at : ℕ → ℕ) (h : History) (legal : Legal rows h) (turns : IsInterleaving rows ss h) where
  next_by : (b : By) (e : Event) (a : Answer) → IsInTurn rows ss h b e a → Holds (IsOwn at h) b → is_next (renamed at h) (moved at b) e a ≡ true
  next_by (by.Line s n) e a turn own =
      and_from _ _ (and_from _ _ (lt-ltb (at s) MOST_SESSIONS own.small) (eq-eqb n _ (turn.0 ∙ ap suc (sym (answered_same at s h own.alone)))))
      (ap (λ o. goes_on o e a) (waiting_same at s h own.alone) ∙ goes_on_next rows ss h turns s e turn.1 a turn.2)
  next_by by.Victim e a turn own = refl
  next_by by.Close e a turn own = refl

  time_by : (b : By) → is_in_time h b ≡ true → is_in_time (renamed at h) (moved at b) ≡ true
  time_by (by.Line s n) is = ap not (closes_same at h) ∙ is
  time_by by.Victim is = ap not (closes_same at h) ∙ is
  time_by by.Close is = refl

  close_by : (b : By) (e : Event) → may_close b e ≡ true → may_close (moved at b) e ≡ true
  close_by (by.Line s n) e is = refl
  close_by by.Victim e is = refl
  close_by by.Close e is = is

  pub follows : (b : By) (e : Event) (a : Answer) → Legal rows (with_parts b e a ∷ h) → IsInTurn rows ss h b e a → Holds (IsOwn at h) b
      → may_follow (renamed at h) (moved_entry at (with_parts b e a)) ≡ true
  follows b e a may turn own =
      let allowed = legal_allowed rows (with_parts b e a ∷ h) may in
      and_from _ _ (and_from _ _ (and_from _ _ (time_by b (in_time rows ss h b e a legal turns may.1 turn)) (next_by b e a turn own))
      (may_do_same at h (effect_of e a) ∙ may_do_next rows h b e a allowed.1)) (close_by b e (may_close_next rows h b e a allowed.1))
