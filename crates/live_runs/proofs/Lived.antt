-- What a whole live run comes to.
use Rattle.std.proofs.Common.{◌≡◌, ◌+◌, inr, Some, refl, sym, ap, subst, ◌∙◌, arith}
use Rattle.std.specs.Io.KnownBytes.{Appends}
use Rattle.txn_bytes.specs.Written.{Writer}
use Rattle.txn_bytes.proofs.Exports.{then}
use Rattle.serial_spec.specs.Interleaving.{IsFinished, IsInterleaving}
use Rattle.serial_spec.specs.History.{History}
use Rattle.serial_spec.specs.Rows.{Rows, value_in}
use Rattle.durable_top.specs.declared.store.TopStore.{Ghosts}
use Rattle.durable_top.specs.Store.{counted}
use Rattle.growing_sessions.specs.Growing.{labels_in}
use Rattle.manager_core.specs.declared.manager.AtOpening.{AtOpening}
use Rattle.manager_core.specs.Sound.{store_refusals}
use Rattle.interleavings.specs.Attempts.{GoesOn}
use Rattle.interleavings.specs.Runs.{WasAsked}
use Rattle.run_reports.specs.Told.{Told}
use Rattle.interleavings.specs.Trails.{Trail}
use Rattle.interleavings.specs.Turning.{Turning}
use Rattle.interleavings.proofs.Exports.{numbered_from, on_still, trail_more}
use Rattle.report_text.proofs.Exports.{accepted}
use Rattle.txn_bytes.specs.Sources.{Reader}
use Rattle.live_runs.specs.Hearing.{HearsAll, Moment, begun_of, holds_nothing, moment, sessions_heard}
use Rattle.live_runs.specs.declared.fault.LiveFault.{LiveFault}
use Rattle.live_runs.specs.Living.{Begins, ComesTo, Finishes, HasEndFault, HasLiveCause, IsLived}
use Rattle.live_runs.proofs.Heard.{hears_sessions, hears_went, hears_written, written_same}
use Rattle.live_runs.proofs.Shown.{end_trail, labels_are, opening_is, went}

module _ {R S W E : Type 0} (r : Reader R) (g : Ghosts S) (w : Writer W) (e : Writer E)
    (store : S) (in_old in_new : R) (out_old opened between out_new : W) (err_old err_new : E) (first last : Turning S) (left : S)
    (begins : Begins g w store first out_old opened)
    (heard : HearsAll r g w e (moment in_old holds_nothing first opened err_old) in_new last between err_new)
    (ends : Finishes g w last left between out_new) where
  abbrev told : Told
  told = ends.told

  abbrev at_first : Moment R S W E
  at_first = moment in_old holds_nothing first opened err_old

  sessions : last.sessions ≡ sessions_heard heard.list
  sessions =
      ap (λ (t : Turning S). t.sessions) heard.ends.same
      ∙ hears_sessions r g w e at_first heard.list heard.last begins.start.sessions heard.hears

  -- from the opening to the end of the input
  on : GoesOn g first.core last.core
  on = subst (λ (t : Turning S). GoesOn g first.core t.core) (sym heard.ends.same)
      (hears_went r g w e at_first heard.list heard.last heard.hears)

  -- and on to the close
  on_all : GoesOn g first.core ends.run.last.core
  on_all = on_still g first.core last.core ends.run.last.core on (went g last told left ends.run).on

  rows : told.opening ≡ first.core.rows
  rows = opening_is g last told left ends.run ∙ on.rows

  trail : Trail g first.core.rows first.core.history first.core.store told.history left
  trail =
      trail_more g first.core.rows first.core.history first.core.store last.core.history last.core.store told.history left on.trail
      (subst (λ (r : Rows). Trail g r last.core.history last.core.store told.history left) on.rows (end_trail g last told left ends.run))

  undoubted : g.doubt left ≡ 0 → g.doubt first.core.store ≡ 0
  undoubted none =
      let last_none : g.doubt ends.run.last.core.store ≡ 0 = sym (ap g.doubt ends.run.closed.store) ∙ none in
      omega (arith, on_all.later.doubt, last_none)

  -- the sessions stand still behind the input
  all_sessions : ends.run.last.sessions ≡ sessions_heard heard.list
  all_sessions = (went g last told left ends.run).sessions ∙ sessions

  written : Appends (w.contents out_old) (w.contents between) (begun_of last)
  written = written_same g w (w.contents out_old) heard.last.live last heard.last.out between heard.ends.same heard.ends.unwritten
      (hears_written r g w e at_first (w.contents out_old) heard.list heard.last begins.shown.given heard.hears)

  pub comes_to : ComesTo g w store heard.list told left out_old out_new
  comes_to = record {
    report = ends.report;
    labels = labels_are g last told left ends.run ∙ ap labels_in sessions;
    in_turn = subst (λ ss. IsInterleaving told.opening ss told.history) all_sessions ends.run.closed.interleaving;
    finished = subst (λ ss. IsFinished ss told.history) all_sessions ends.run.closed.finished;
    asked = subst (λ (r : Rows). WasAsked g store r told.history left) (sym rows) (record {
      first = first.core.store;
      given = first.core.opened.given.items;
      loaded = begins.start.opened.loaded;
      are = begins.start.opened.are;
      trail = subst (λ (h : History). Trail g first.core.rows h first.core.store told.history left) begins.start.opened.history trail;
    });
    opening = λ none. ap value_in rows ∙ begins.start.opened.rows (undoubted none);
    stored = ends.run.closed.stored;
    numbered = λ trusted.
        numbered_from g store first.core ends.run.last.core.opened told.history (g.numbered left) begins.start.opened on_all.opened (undoubted trusted.doubt)
        (ends.run.closed.numbered trusted);
    refusals =
        ends.run.closed.refusals
        ∙ ap (λ n. counted (n + store_refusals told.history)) (ap (λ (o : AtOpening). o.faults) on_all.opened ∙ begins.start.opened.faults);
    written = subst (λ bs. Appends (w.contents out_old) (w.contents out_new) bs) (sym ends.grown)
        (then (w.contents out_old) (w.contents between) (w.contents out_new) (begun_of last) ends.more written ends.shown.given);
    accepted = accepted told ends.report;
  }

-- a run that came to its end, and one that did not
module _ {R S W E : Type 0} (r : Reader R) (g : Ghosts S) (w : Writer W) (e : Writer E)
    (store : S) (in_old in_new : R) (out_old opened between out_new : W) (err_old err_new : E) (first last : Turning S)
    (begins : Begins g w store first out_old opened)
    (heard : HearsAll r g w e (moment in_old holds_nothing first opened err_old) in_new last between err_new) where
  pub lived : (left : S) → Finishes g w last left between out_new → IsLived r g w e store in_old in_new out_old out_new err_old err_new left
  lived left ends = record {
    first = first;
    opened = opened;
    begins = begins;
    last = last;
    between = between;
    heard = heard;
    finishes = ends;
    comes = comes_to r g w e store in_old in_new out_old opened between out_new err_old err_new first last left begins heard ends;
  }

  pub unlived : (fault : LiveFault) (left : S) → HasEndFault g w last between out_new left fault
      → HasLiveCause r g w e store in_old in_new out_old out_new err_old err_new (Some left) fault
  unlived fault left cause =
      inr (inr (record { given = left; is = refl; first = first; opened = opened; begins = begins; last = last; between = between; heard = heard; cause = cause }))
