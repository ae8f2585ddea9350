-- What a request brought about, as it is shown.
use Rattle.std.proofs.Common.{◌≡◌, ◌≤◌, ℕ, List, length, reverse, Option, Some, None, sym, ap, subst, ◌∙◌, arith}
use Rattle.std.proofs.lemmas.List.{length-reverse}
use Rattle.txn_bytes.specs.Written.{Writer}
use Rattle.serial_spec.specs.declared.entry.Entry.{Entry}
use Rattle.serial_spec.specs.declared.event.Event.{Event}
use Rattle.serial_spec.specs.History.{History}
use Rattle.serial_spec.specs.Interleaving.{Session}
use Rattle.line_language.specs.Report.{spelled_history}
use Rattle.session_text.specs.Growing.{place_of}
use Rattle.growing_sessions.specs.Growing.{Extends, labels_in}
use Rattle.growing_sessions.proofs.Exports.{growths_join, line_extends, session_extends}
use Rattle.durable_top.specs.declared.store.TopStore.{Ghosts}
use Rattle.interleavings.specs.Scheduled.{Stands}
use Rattle.interleavings.specs.Turning.{Turning}
use Rattle.live_sessions.specs.Requested.{number_of, with_request, with_session}
use Rattle.live_sessions.specs.Handling.{IsTaken}
use Rattle.live_runs.specs.Hearing.{IsShownSince, IsUnshownSince}
use Rattle.live_runs.specs.Showing.{IsShown, IsUnshown, entries_behind}
use Rattle.live_runs.proofs.Shown.{as_many, begun_grown}

-- a request makes its sessions grow
session_more : (place : Option ℕ) (ss : List Session) (l : List ℕ) → Extends ss (with_session place ss l)
session_more None ss l = session_extends ss l
session_more (Some s) ss l = growths_join.0 ss

request_extends : (ss : List Session) (l : List ℕ) (e : Event) → Extends ss (with_request ss l e)
request_extends ss l e =
    let mid : List Session = with_session (place_of l ss) ss l in
    growths_join.1 ss mid (with_request ss l e) (session_more (place_of l ss) ss l) (line_extends mid (number_of l ss) e)

module _ {S : Type 0} (g : Ghosts S) (old new : Turning S) (bytes : List ℕ) (taken : IsTaken g old bytes new) (n : ℕ) (count : n ≡ length old.core.history)
    (items : List Entry) (history : reverse items ≡ new.core.history) where
  pub room_behind : n ≤ length items
  room_behind = omega (arith, count, as_many g old new taken.grows.on, length-reverse items, ap (λ (h : History). length h) history)

  module _ {W : Type 0} (w : Writer W) (stands : Stands g old) (ls : List (List ℕ)) (labelled : ls ≡ labels_in new.sessions) (out_old out_new : W) where
    abbrev more : List ℕ
    more = spelled_history (labels_in new.sessions) (entries_behind (length old.core.history) new.core.history)

    more_is : spelled_history ls (entries_behind n (reverse items)) ≡ more
    more_is =
        ap (λ x. spelled_history x (entries_behind n (reverse items))) labelled
        ∙ ap (λ m. spelled_history (labels_in new.sessions) (entries_behind m (reverse items))) count
        ∙ ap (λ h. spelled_history (labels_in new.sessions) (entries_behind (length old.core.history) h)) history

    extends : Extends old.sessions new.sessions
    extends = subst (Extends old.sessions) (sym taken.grows.sessions) (request_extends old.sessions taken.label taken.event)

    pub shown_since : IsShown w out_old out_new (spelled_history ls (entries_behind n (reverse items))) → IsShownSince w old new out_old out_new
    shown_since shown = record {
      more = more;
      grown = begun_grown g old new taken.grows.on extends stands.way.in_turn;
      shown = subst (IsShown w out_old out_new) more_is shown;
    }

    pub unshown_since : IsUnshown w out_old out_new (spelled_history ls (entries_behind n (reverse items)))
        → IsUnshownSince w old new out_old out_new
    unshown_since unshown = record {
      more = more;
      grown = begun_grown g old new taken.grows.on extends stands.way.in_turn;
      unshown = subst (IsUnshown w out_old out_new) more_is unshown;
    }
