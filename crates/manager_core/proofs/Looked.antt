-- Whoever was seen kept out is so until it ends or the one who keeps it out does: names stay, and locks only rise.
use Rattle.std.proofs.Common.{◌≡◌, ◌⊎◌, ℕ, zero, suc, ◌&&◌, nat_eq, Bool, true, false, cond, List, [], ◌∷◌, ◌++◌, Option, Some, None, replicate, is_some, unwrap_or, inl, inr, refl, sym, ap, subst, ◌∙◌}
use Rattle.std.specs.Prelude.{slice_get}
use Rattle.std.specs.List.{IsDistinct}
use Rattle.std.proofs.lemmas.Bool.{eq-eqb, eqb-true, false≢true, true≢false}
use Rattle.txn_names.specs.Path.{path_eq}
use Rattle.txn_names.proofs.Exports.{is_front_self}
use Rattle.txn_tree.specs.States.{States, names}
use Rattle.txn_tree.specs.Asked.{IsNumberOf}
use Rattle.txn_tree.proofs.Exports.{number_at, found_at, get_front}
use Rattle.serial_spec.specs.declared.mode.Mode.{Mode}
use Rattle.serial_spec.specs.declared.mode.Mode.TheVariants as mode
use Rattle.serial_spec.specs.declared.operation.Kind.{Kind}
use Rattle.serial_spec.specs.declared.target.Asked.{Asked}
use Rattle.serial_spec.specs.declared.target.Target.{Target}
use Rattle.serial_spec.specs.Targets.{kind_of, target_eq}
use Rattle.serial_spec.specs.History.{Name}
use Rattle.serial_spec.specs.Locks.{conflicts, greater}
use Rattle.lock_table.specs.declared.modes.Modes.{Modes}
use Rattle.lock_table.specs.Inherited.{free, whole, with_held, with_retained}
use Rattle.lock_table.specs.Locked.{is_it}
use Rattle.lock_table.specs.Blocking.{has_number, is_front_of, is_under}
use Rattle.lock_table.specs.ByAsked.{BlocksAsked, MayAsk}
use Rattle.lock_table.specs.Targeted.{Targeted, handed_up_at, held_at, modes_at}
use Rattle.serial_spec.specs.declared.entry.By.{By}
use Rattle.wait_cycles.specs.declared.waits.Wait.{Wait}
use Rattle.wait_cycles.specs.Waiting.{wait_in}
use Rattle.manager_core.specs.declared.looks.Looks.{Looks}
use Rattle.manager_core.specs.Looked.{AreSeen, HasSeen, IsApart, IsKeptFrom}
use Rattle.manager_core.proofs.Locks.{name_at}

-- ---- a lock that is raised

-- a greater mode keeps out whom a lesser does
greater_right : (a b : Mode) (x : Kind) → conflicts b x ≡ true → conflicts (greater a b) x ≡ true
greater_right mode.None b x e = e
greater_right mode.Read mode.None x e = absurd (false≢true e)
greater_right mode.Read mode.Read x e = e
greater_right mode.Read mode.Write x e = e
greater_right mode.Write b x e = refl

greater_left : (a b : Mode) (x : Kind) → conflicts a x ≡ true → conflicts (greater a b) x ≡ true
greater_left mode.None b x e = absurd (false≢true e)
greater_left mode.Read mode.None x e = e
greater_left mode.Read mode.Read x e = e
greater_left mode.Read mode.Write x e = refl
greater_left mode.Write b x e = refl

greater_one : (a b : Mode) (x : Kind) → conflicts (greater a b) x ≡ true → (conflicts a x ≡ true) ⊎ (conflicts b x ≡ true)
greater_one mode.None b x e = inr e
greater_one mode.Read mode.None x e = inl e
greater_one mode.Read mode.Read x e = inr e
greater_one mode.Read mode.Write x e = inr e
greater_one mode.Write b x e = inl refl

-- so does a lock whose held mode was raised
raised : (m : Modes) (more : Mode) (x : Kind) → conflicts (whole m) x ≡ true → conflicts (whole (with_held m more)) x ≡ true
raised m more x e =
    elim (greater_one m.held m.retained x e) [
      | inl held ↦ greater_left (greater more m.held) m.retained x (greater_right more m.held x held)
      | inr retained ↦ greater_right (greater more m.held) m.retained x retained
    ]

-- no place of these stands
pub none_stands : (n s : ℕ) → slice_get (replicate n false) s ≡ Some true → ⊥
none_stands zero s e = false≢true (ap is_some e)
none_stands (suc n) zero e = false≢true (ap (λ o. unwrap_or o false) e)
none_stands (suc n) (suc s) e = none_stands n s e

-- and one that is handed up to it
raised_by_child : (m child : Modes) (x : Kind) → conflicts (whole m) x ≡ true → conflicts (whole (with_retained m (whole child))) x ≡ true
raised_by_child m child x e =
    elim (greater_one m.held m.retained x e) [
      | inl held ↦ greater_left m.held (greater (whole child) m.retained) x held
      | inr retained ↦ greater_right m.held (greater (whole child) m.retained) x (greater_right (whole child) m.retained x retained)
    ]

-- ---- whoever keeps another out still does

module _ (tree : States) (waits : List Wait) (looks : Looks) (old new : Targeted)
    (rises : (u : ℕ) (v : Target) (x : Kind) → conflicts (whole (modes_at old u v)) x ≡ true → conflicts (whole (modes_at new u v)) x ≡ true) where
  still_kept : AreSeen tree old waits looks → AreSeen tree new waits looks
  still_kept seen by n m has =
      let was = seen by n m has in
      let b = was.blocks in
      record {
        begun = was.begun;
        asked = was.asked;
        waiting = was.waiting;
        blocks = record { begun = b.begun; beside = b.beside; reaches = (b.reaches.0, b.reaches.1, rises m b.reaches.0 (kind_of was.asked) b.reaches.2) };
      }

-- where no lock changed
pub seen_same : (tree : States) (waits : List Wait) (looks : Looks) (old new : Targeted) → ((u : ℕ) (v : Target) → modes_at new u v ≡ modes_at old u v)
    → AreSeen tree old waits looks → AreSeen tree new waits looks
seen_same tree waits looks old new same = still_kept tree waits looks old new (λ u v x e. subst (λ (m : Modes). conflicts (whole m) x ≡ true) (sym (same u v)) e)

-- and whoever may have what it asks still may
pub may_same : (tree : States) (old new : Targeted) → ((u : ℕ) (v : Target) → modes_at new u v ≡ modes_at old u v) → (n : ℕ) (a : Asked) → MayAsk tree old n a → MayAsk tree new n a
may_same tree old new same n a may u b =
    may u (record { begun = b.begun; beside = b.beside; reaches = (b.reaches.0, b.reaches.1, subst (λ (m : Modes). conflicts (whole m) (kind_of a) ≡ true) (same u b.reaches.0) b.reaches.2) })

-- where one was raised
pub seen_raised : (tree : States) (waits : List Wait) (looks : Looks) (old new : Targeted) (t : ℕ) (s : Target) (more : Mode)
    → ((u : ℕ) (v : Target) → modes_at new u v ≡ held_at old t s more u v) → AreSeen tree old waits looks → AreSeen tree new waits looks
seen_raised tree waits looks old new t s more held =
    still_kept tree waits looks old new (λ u v x e. subst (λ (m : Modes). conflicts (whole m) x ≡ true) (sym (held u v)) (either u v x e))
  where
    either : (u : ℕ) (v : Target) (x : Kind) → conflicts (whole (modes_at old u v)) x ≡ true → conflicts (whole (held_at old t s more u v)) x ≡ true
    either u v x e = by (nat_eq t u && target_eq s v)
      where
        by : (b : Bool) → conflicts (whole (cond b (with_held (modes_at old u v) more) (modes_at old u v))) x ≡ true
        by true = raised (modes_at old u v) more x e
        by false = e

-- where another has begun
pub seen_begun : (old tree : States) (t : Name) (locks : Targeted) (waits : List Wait) (looks : Looks) → names tree ≡ names old ++ t ∷ []
    → AreSeen old locks waits looks → AreSeen tree locks waits looks
seen_begun old tree t locks waits looks more seen b n m has =
    let was = seen b n m has in
    let own = was.blocks in
    record {
      begun = ap is_some (kept n was.begun) ∙ was.begun;
      asked = was.asked;
      waiting = was.waiting;
      blocks = record {
        begun = ap is_some (kept m own.begun) ∙ own.begun;
        beside = ap (λ o. is_front_of o (slice_get (names tree) n)) (kept m own.begun) ∙ ap (is_front_of (slice_get (names old) m)) (kept n was.begun) ∙ own.beside;
        reaches = own.reaches;
      };
    }
  where
    kept : (n : ℕ) → has_number old n ≡ true → slice_get (names tree) n ≡ slice_get (names old) n
    kept n e = by (slice_get (names old) n) refl e
      where
        by : (o : Option Name) → slice_get (names old) n ≡ o → is_some o ≡ true → slice_get (names tree) n ≡ slice_get (names old) n
        by None at f = absurd (false≢true f)
        by (Some u) at f = ap (λ ns. slice_get ns n) more ∙ get_front (names old) (t ∷ []) n u at ∙ sym at

-- ---- where a transaction ended

-- each lock of one that is not at or below it conflicts still with what it conflicted with
abbrev pub LocksStay : States → ℕ → Targeted → Targeted → Type 0
LocksStay tree t old new = (u : ℕ) (v : Target) (x : Kind) → has_number tree u ≡ true → is_under tree t u ≡ false → conflicts (whole (modes_at old u v)) x ≡ true
    → conflicts (whole (modes_at new u v)) x ≡ true

-- and each wait of such a one stands
abbrev pub WaitsStay : States → ℕ → List Wait → List Wait → Type 0
WaitsStay tree t old new = (n : ℕ) (w : Wait) → is_under tree t n ≡ false → wait_in old n ≡ Some w → wait_in new n ≡ Some w

-- whoever is remembered has nothing to do with it
pub seen_apart : (tree : States) (locks new : Targeted) (waits waits2 : List Wait) (before after : Looks) (t : ℕ) → LocksStay tree t locks new → WaitsStay tree t waits waits2
    → ((by : By) (n m : ℕ) → HasSeen after by n m → HasSeen before by n m × IsApart tree t n m)
    → AreSeen tree locks waits before → AreSeen tree new waits2 after
seen_apart tree locks new waits waits2 before after t stay wait each seen by n m has =
    let had = each by n m has in
    let was = seen by n m had.0 in
    let own = was.blocks in
    record {
      begun = was.begun;
      asked = was.asked;
      waiting = wait n _ had.1.waiter was.waiting;
      blocks = record {
        begun = own.begun;
        beside = own.beside;
        reaches = (own.reaches.0, own.reaches.1, stay m own.reaches.0 (kind_of was.asked) own.begun had.1.keeper own.reaches.2);
      };
    }

-- in a tree with the same names
pub seen_named : (old tree : States) (locks : Targeted) (waits : List Wait) (looks : Looks) → names tree ≡ names old → AreSeen old locks waits looks → AreSeen tree locks waits looks
seen_named old tree locks waits looks same seen by n m has =
    let was = seen by n m has in
    let own = was.blocks in
    record {
      begun = ap (λ ns. is_some (slice_get ns n)) same ∙ was.begun;
      asked = was.asked;
      waiting = was.waiting;
      blocks = record {
        begun = ap (λ ns. is_some (slice_get ns m)) same ∙ own.begun;
        beside = ap (λ ns. is_front_of (slice_get ns m) (slice_get ns n)) same ∙ own.beside;
        reaches = own.reaches;
      };
    }

-- whoever has begun is at or below itself
under_self : (tree : States) (u : ℕ) → has_number tree u ≡ true → is_under tree u u ≡ true
under_self tree u e = by (slice_get (names tree) u) e
  where
    by : (o : Option Name) → is_some o ≡ true → is_front_of o o ≡ true
    by None f = absurd (false≢true f)
    by (Some v) f = is_front_self v

-- where its locks go up
pub gone_up_stays : (tree : States) (old new : Targeted) (child : ℕ) (parent : Option ℕ) → ((u : ℕ) (v : Target) → modes_at new u v ≡ handed_up_at old child parent u v)
    → LocksStay tree child old new
gone_up_stays tree old new child parent up u v x begun apart e = subst (λ (m : Modes). conflicts (whole m) x ≡ true) (sym (up u v)) (by (nat_eq child u) refl (is_it parent u))
  where
    by : (b : Bool) → nat_eq child u ≡ b → (p : Bool)
        → conflicts (whole (cond b free (cond p (with_retained (modes_at old u v) (whole (modes_at old child v))) (modes_at old u v)))) x ≡ true
    by true is p = absurd (true≢false (sym (subst (λ w. is_under tree w u ≡ true) (sym (eqb-true child u is)) (under_self tree u begun)) ∙ apart))
    by false is true = raised_by_child (modes_at old u v) (modes_at old child v) x e
    by false is false = e

-- where they are dropped, with those of all below it
pub dropped_stays : (tree : States) (old new : Targeted) (t : ℕ) → ((u : ℕ) (v : Target) → modes_at new u v ≡ cond (is_under tree t u) free (modes_at old u v))
    → LocksStay tree t old new
dropped_stays tree old new t gone u v x begun apart e =
    subst (λ (m : Modes). conflicts (whole m) x ≡ true) (sym (gone u v ∙ ap (λ b. cond b free (modes_at old u v)) apart)) e

pub waits_dropped : (tree : States) (old new : List Wait) (t : ℕ) → ((u : ℕ) → wait_in new u ≡ cond (is_under tree t u) None (wait_in old u)) → WaitsStay tree t old new
waits_dropped tree old new t gone n w apart is = gone n ∙ ap (λ b. cond b None (wait_in old n)) apart ∙ is

-- ---- what was seen

-- one more that is kept out
pub seen_more : (tree : States) (locks : Targeted) (waits : List Wait) (old new : Looks) (by : By) (txn keeper : ℕ)
    → ((b : By) (n m : ℕ) → HasSeen new b n m → HasSeen old b n m ⊎ ((b ≡ by) × (n ≡ txn) × (m ≡ keeper)))
    → IsKeptFrom tree locks waits by txn keeper → AreSeen tree locks waits old → AreSeen tree locks waits new
seen_more tree locks waits old new by txn keeper each kept seen b n m has =
    elim (each b n m has) [
      | inl before ↦ seen b n m before
      | inr it ↦ subst (λ k. IsKeptFrom tree locks waits b n k) (sym it.2)
          (subst (λ k. IsKeptFrom tree locks waits b k keeper) (sym it.1) (subst (λ c. IsKeptFrom tree locks waits c txn keeper) (sym it.0) kept))
    ]

pub seen_none : (tree : States) (locks : Targeted) (waits : List Wait) (looks : Looks) → ((by : By) (n m : ℕ) → HasSeen looks by n m → ⊥) → AreSeen tree locks waits looks
seen_none tree locks waits looks none by n m has = absurd (none by n m has)

-- ---- who waits

module _ (tree : States) (locks : Targeted) (old new : List Wait) (txn : ℕ) (x : Option Wait) (sets : (u : ℕ) → wait_in new u ≡ cond (nat_eq txn u) x (wait_in old u)) where
  -- another waits as before
  still_waits : (n : ℕ) (w : Wait) → wait_in old n ≡ Some w → (txn ≡ n → ⊥) → wait_in new n ≡ Some w
  still_waits n w is other = sets n ∙ at (nat_eq txn n) refl
    where
      at : (b : Bool) → nat_eq txn n ≡ b → cond b x (wait_in old n) ≡ Some w
      at true e = absurd (other (eqb-true txn n e))
      at false e = is

  -- so where this one did not wait, whoever was seen waits
  pub seen_unless : (looks : Looks) → wait_in old txn ≡ None → AreSeen tree locks old looks → AreSeen tree locks new looks
  seen_unless looks none seen by n m has =
      let was = seen by n m has in
      record {
        begun = was.begun;
        asked = was.asked;
        waiting = still_waits n _ was.waiting (λ same. true≢false (sym (ap is_some was.waiting) ∙ ap (λ k. is_some (wait_in old k)) (sym same) ∙ ap is_some none));
        blocks = was.blocks;
      }

  -- and where it did, all but those of its line
  pub seen_ended : (before after : Looks) (w : Wait) → wait_in old txn ≡ Some w → ((b : By) (n m : ℕ) → HasSeen after b n m → HasSeen before b n m × (b ≡ w.by → ⊥))
      → AreSeen tree locks old before → AreSeen tree locks new after
  seen_ended before after w is each seen by n m has =
      let had = each by n m has in
      let was = seen by n m had.0 in
      record {
        begun = was.begun;
        asked = was.asked;
        waiting = still_waits n _ was.waiting (λ same. had.1 (ap (λ (o : Option Wait). (unwrap_or o w).by) (sym was.waiting ∙ ap (wait_in old) (sym same) ∙ is)));
        blocks = was.blocks;
      }

-- one that waits from now on is kept out
pub seen_started : (tree : States) (locks : Targeted) (old new : List Wait) (before after : Looks) (by : By) (txn keeper : ℕ) (asked : Asked)
    → ((u : ℕ) → wait_in new u ≡ cond (nat_eq txn u) (Some (record { txn = txn; asked = asked; by = by })) (wait_in old u)) → wait_in old txn ≡ None
    → ((b : By) (n m : ℕ) → HasSeen after b n m → HasSeen before b n m ⊎ ((b ≡ by) × (n ≡ txn) × (m ≡ keeper)))
    → (t : Name) → IsNumberOf tree t txn → BlocksAsked tree locks txn asked keeper → AreSeen tree locks old before → AreSeen tree locks new after
seen_started tree locks old new before after by txn keeper asked sets none each t number blocks seen =
    seen_more tree locks new before after by txn keeper each
    (record {
      begun = ap is_some (name_at tree t txn number);
      asked = asked;
      waiting = sets txn ∙ ap (λ b. cond b (Some (record { txn = txn; asked = asked; by = by })) (wait_in old txn)) (eq-eqb txn txn refl);
      blocks = blocks;
    })
    (seen_unless tree locks old new txn (Some (record { txn = txn; asked = asked; by = by })) sets before none seen)

-- whoever has a number has a name
pub numbered : (tree : States) → IsDistinct path_eq (names tree) → (n : ℕ) → has_number tree n ≡ true → (t : Name) × IsNumberOf tree t n
numbered tree distinct n e = by (slice_get (names tree) n) refl e
  where
    by : (o : Option Name) → slice_get (names tree) n ≡ o → is_some o ≡ true → (t : Name) × IsNumberOf tree t n
    by None at f = absurd (false≢true f)
    by (Some t) at f = (t, number_at (names tree) distinct t n (found_at (names tree) distinct t n at))
