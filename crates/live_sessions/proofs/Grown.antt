-- Sessions that a request made grow are under way.
use Rattle.std.proofs.Common.{◌≡◌, ◌<◌, ◌≤◌, ℕ, zero, suc, List, [], ◌∷◌, ◌++◌, length, slice_get, Option, Some, None, Result, Ok, Err, OnOk, IfOk, refl, sym, ap, ap₂, subst, ◌∙◌, arith, length-append}
use Rattle.std.proofs.lemmas.Bool.{le-ltb, lt-ltb}
use Rattle.serial_spec.specs.declared.event.Event.{Event}
use Rattle.serial_spec.specs.History.{History}
use Rattle.serial_spec.specs.Rows.{Rows}
use Rattle.serial_spec.specs.Interleaving.{Session, answered, lines_of, next_event}
use Rattle.line_language.specs.declared.fault.LineKind.TheVariants as kind
use Rattle.session_text.specs.Growing.{place_of, with_line_of}
use Rattle.session_text.specs.Texts.{with_header}
use Rattle.session_text.proofs.Exports.{same_count, places_found}
use Rattle.growing_sessions.specs.Growing.{IsOpenEnded, labels_in}
use Rattle.growing_sessions.proofs.Exports.{growth_keeps, new_session_unanswered, line_extends, session_extends}
use Rattle.manager_core.specs.State.{State}
use Rattle.interleavings.specs.declared.ready.Ready.{Ready}
use Rattle.interleavings.specs.declared.crowd.Crowd.{Crowd}
use Rattle.interleavings.specs.Crowds.{IsGathered, IsSameCrowd, WaitsIn}
use Rattle.interleavings.specs.LeftOut.{AreLeftOut, IsIdle, IsLeftOut, IsLeftOutByBegins, IsWoken, is_after}
use Rattle.interleavings.specs.Progressing.{Going, AreUnderWay, turning}
use Rattle.interleavings.specs.Turning.{AreTurns, has_answer}
use Rattle.live_sessions.specs.Requested.{fault_at}

-- ---- why a line is not taken

-- where a label has a place, the number of the next line is kept there
pub next_there : {S : Type 0} (ss : List Session) (p : Going S) → AreUnderWay ss p → (l : List ℕ) (s : ℕ) → place_of l ss ≡ Some s
    → slice_get p.next s ≡ Some (suc (answered p.core.history s))
next_there ss p way l s at = way.0.next.each s (places_found.1 l ss s at).0

-- the fault of a session that is there, as it is looked for
module _ (ss : List Session) (h : History) (s : ℕ) {place : Option ℕ} (at : place ≡ Some s) where
  abbrev lines : ℕ
  lines = length (lines_of (slice_get ss s))

  pub tells_turn : answered h s < lines → Some kind.Turn ≡ fault_at ss h place
  tells_turn less = rw at (rw (lt-ltb (answered h s) lines less) refl)

  pub tells_room : lines ≤ answered h s → lines < 1024 → None ≡ fault_at ss h place
  tells_room done room = rw at (rw (le-ltb (answered h s) lines done, lt-ltb lines 1024 room) refl)

  pub tells_full : lines ≤ answered h s → 1024 ≤ lines → Some kind.Limit ≡ fault_at ss h place
  tells_full done full = rw at (rw (le-ltb (answered h s) lines done, le-ltb lines 1024 full) refl)

-- ---- one session more

-- its place is their number, and it has no lines
pub new_lines : (ss : List Session) (l : List ℕ) → lines_of (slice_get (with_header ss l) (length ss)) ≡ []
new_lines [] l = refl
new_lines (x ∷ ss) l = new_lines ss l

pub labels_with : (ss : List Session) (l : List ℕ) → labels_in ss ++ l ∷ [] ≡ labels_in (with_header ss l)
labels_with [] l = refl
labels_with (x ∷ ss) l = ap (λ (ls : List (List ℕ)). x.label ∷ ls) (labels_with ss l)

-- so it has room for a line
pub new_room : {E : Type 0} (ss more : List Session) (l : List ℕ) (r : Result ℕ E) → IfOk r (λ s. s ≡ length ss) → OnOk r (more ≡ with_header ss l)
    → IfOk r (λ s. length (lines_of (slice_get more s)) < 1024)
new_room ss more l (Ok s) is grown =
    let none : length (lines_of (slice_get more s)) ≡ 0 =
    ap (λ x. length (lines_of (slice_get x s))) grown
    ∙ ap (λ n. length (lines_of (slice_get (with_header ss l) n))) is
    ∙ ap (λ (es : List Event). length es) (new_lines ss l) in
    omega (arith, none)
new_room ss more l (Err e) is grown = tt

-- behind numbers that are each one more than what is answered there stands that of a session none of whose lines is
numbers_with : (ns : List ℕ) (done : ℕ → ℕ) → ((u : ℕ) → u < length ns → slice_get ns u ≡ Some (suc (done u))) → done (length ns) ≡ 0
    → (u : ℕ) → u < suc (length ns) → slice_get (ns ++ 1 ∷ []) u ≡ Some (suc (done u))
numbers_with [] done each none zero there = ap (λ (n : ℕ). Some (suc n)) (sym none)
numbers_with [] done each none (suc u) there = absurd (omega (arith, there))
numbers_with (n ∷ ns) done each none zero there = each zero (omega arith)
numbers_with (n ∷ ns) done each none (suc u) there =
    numbers_with ns (λ v. done (suc v)) (λ v less. each (suc v) (omega (arith, less))) none u (omega (arith, there))

-- ---- who is left out

-- a session without a line gives nobody one
header_lines : (ss : List Session) (l : List ℕ) (u : ℕ) → lines_of (slice_get (with_header ss l) u) ≡ lines_of (slice_get ss u)
header_lines [] l zero = refl
header_lines [] l (suc u) = refl
header_lines (x ∷ ss) l zero = refl
header_lines (x ∷ ss) l (suc u) = header_lines ss l u

-- and a line of a session gives no other one
other_session : (ss : List Session) (s : ℕ) (e : Event) (u : ℕ) → (u ≡ s → ⊥) → slice_get (with_line_of ss s e) u ≡ slice_get ss u
other_session [] s e u other = refl
other_session (x ∷ ss) zero e zero other = absurd (other refl)
other_session (x ∷ ss) zero e (suc u) other = refl
other_session (x ∷ ss) (suc s) e zero other = refl
other_session (x ∷ ss) (suc s) e (suc u) other = other_session ss s e u (λ same. other (ap (λ (n : ℕ). suc n) same))

-- of a crowd each waits by the line that it had
waits_in_more : (ss more : List Session) (h : History) (c c2 : Crowd) (u : ℕ) → IsSameCrowd c c2 → next_event more h u ≡ next_event ss h u → WaitsIn ss h c u → WaitsIn more h c2 u
waits_in_more ss more h c c2 u same event w = record {
  txn = w.txn;
  key = w.key;
  op = w.op;
  at = record { key = same.key ∙ w.at.key; depth = same.depth ∙ w.at.depth };
  event = event ∙ w.event;
  begun = w.begun;
  waited = w.waited;
  waits = w.waits;
}

-- of those that are left out still each has the line that it had
left_more : (rows : Rows) (ss more : List Session) (h : History) (r r2 : Ready) → AreLeftOut rows ss h r
    → ((u : ℕ) → IsLeftOut r2 u → IsLeftOut r u × (next_event more h u ≡ next_event ss h u))
    → ((u : ℕ) → IsLeftOutByBegins r2 u → IsLeftOutByBegins r u)
    → ((u : ℕ) → IsIdle r2 u → IsIdle r u × (next_event more h u ≡ next_event ss h u))
    → ((u : ℕ) → IsGathered r2.crowd u → IsGathered r.crowd u × IsSameCrowd r.crowd r2.crowd × (next_event more h u ≡ next_event ss h u))
    → AreLeftOut rows more h r2
left_more rows ss more h r r2 left out begins idle crowd = record {
  held = λ u o. ap (has_answer rows h u) (out u o).1 ∙ left.held u (out u o).0;
  begins = λ u o. ap is_after (out u o.0).1 ∙ left.begins u (begins u o);
  idle = λ u o. (idle u o).1 ∙ left.idle u (idle u o).0;
  crowd = λ u low o. waits_in_more ss more h r.crowd r2.crowd u (crowd u o).1 (crowd u o).2 (left.crowd u low (crowd u o).0);
}

module _ {S : Type 0} (ss : List Session) (p : Going S) (way : AreUnderWay ss p) (lasting : IsOpenEnded p.core.history) where
  abbrev turns : AreTurns (turning ss p) p.next
  turns = way.0

  pub header_way : (l : List ℕ) → AreUnderWay (with_header ss l) (record { core = p.core; next = p.next ++ 1 ∷ []; ready = p.ready })
  header_way l =
      let more : length (with_header ss l) ≡ suc (length ss) = omega (arith, length-append {A = Session} ss (record { label = l; lines = [] } ∷ [])) in
      let longer : length (p.next ++ 1 ∷ []) ≡ suc (length p.next) = omega (arith, length-append {A = ℕ} p.next (1 ∷ [])) in
      let none : answered p.core.history (length p.next) ≡ 0 =
      new_session_unanswered p.core.rows ss p.core.history (length p.next) turns.way.in_turn (omega (arith, turns.next.count)) in (
        record {
          way = growth_keeps p.core.rows ss (with_header ss l) p.core.history (session_extends ss l) lasting turns.way;
          few = turns.few;
          next = record {
            count = omega (arith, more, longer, turns.next.count);
            each = λ u there. numbers_with p.next (answered p.core.history) (λ v less. turns.next.each v (omega (arith, less, turns.next.count))) none u
                (omega (arith, there, more, turns.next.count));
          };
        },
        left_more p.core.rows ss (with_header ss l) p.core.history p.ready p.ready way.1 (λ u o. (o, same u)) (λ u o. o) (λ u o. (o, same u))
            (λ u o. (o, record { key = refl; depth = refl }, same u)),
      )
    where
      same : (u : ℕ) → next_event (with_header ss l) p.core.history u ≡ next_event ss p.core.history u
      same u = ap (λ es. slice_get es (answered p.core.history u)) (header_lines ss l u)

  -- ---- one line more

  pub line_way : (s : ℕ) (e : Event) (r : Ready) → IsWoken p.ready r s → AreUnderWay (with_line_of ss s e) (record { core = p.core; next = p.next; ready = r })
  line_way s e r woken = (
    record {
      way = growth_keeps p.core.rows ss (with_line_of ss s e) p.core.history (line_extends ss s e) lasting turns.way;
      few = turns.few;
      next = record {
        count = turns.next.count ∙ sym (same_count ss s e);
        each = λ u there. turns.next.each u (subst (λ n. u < n) (same_count ss s e) there);
      };
    },
    left_more p.core.rows ss (with_line_of ss s e) p.core.history p.ready r way.1 (λ u o. ((woken.out u o).0, same u (woken.out u o).1)) woken.begins
        (λ u o. ((woken.idle u o).0, same u (woken.idle u o).1))
        (λ u o. let still = woken.crowd u o in (still.gathered, still.same, same u still.other)),
  )
    where
      same : (u : ℕ) → (u ≡ s → ⊥) → next_event (with_line_of ss s e) p.core.history u ≡ next_event ss p.core.history u
      same u other = ap (λ x. slice_get (lines_of x) (answered p.core.history u)) (other_session ss s e u other)

  pub line_way_of : (more : List Session) (new : Going S) (s : ℕ) (e : Event) → more ≡ with_line_of ss s e → new.core ≡ p.core → new.next ≡ p.next
      → IsWoken p.ready new.ready s → AreUnderWay more new
  line_way_of more new s e grown core next woken =
      let same : record { core = p.core; next = p.next; ready = new.ready } ≡ new =
      ap₂ (λ (m : State S) (ns : List ℕ). record { core = m; next = ns; ready = new.ready }) (sym core) (sym next) in
      subst (λ x. AreUnderWay x new) (sym grown) (subst (λ (x : Going S). AreUnderWay (with_line_of ss s e) x) same (line_way s e new.ready woken))

  pub header_way_of : (more : List Session) (new : Going S) (l : List ℕ) → more ≡ with_header ss l → new.core ≡ p.core → new.next ≡ p.next ++ 1 ∷ []
      → new.ready ≡ p.ready → AreUnderWay more new
  header_way_of more new l grown core next ready =
      let same : record { core = p.core; next = p.next ++ 1 ∷ []; ready = p.ready } ≡ new =
      (λ i. record { core = sym core i; next = sym next i; ready = sym ready i }) in
      subst (λ x. AreUnderWay x new) (sym grown) (subst (λ (x : Going S). AreUnderWay (with_header ss l) x) same (header_way l))

-- an attempt that was not made changes nothing of it
pub open_still : {S : Type 0} (p new : Going S) → new.core ≡ p.core → IsOpenEnded p.core.history → IsOpenEnded new.core.history
open_still p new core lasting = subst (λ (m : State _). IsOpenEnded m.history) (sym core) lasting

-- the labels stay
pub labels_still : (ss : List Session) (s : ℕ) (e : Event) → labels_in ss ≡ labels_in (with_line_of ss s e)
labels_still [] s e = refl
labels_still (x ∷ ss) zero e = refl
labels_still (x ∷ ss) (suc s) e = ap (λ (ls : List (List ℕ)). x.label ∷ ls) (labels_still ss s e)
