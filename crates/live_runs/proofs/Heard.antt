-- What the lines of a live run come to, one after another.
use Rattle.std.proofs.Common.{◌≡◌, ℕ, List, [], ◌∷◌, Option, Some, None, sym, ap, subst, ◌∙◌}
use Rattle.std.proofs.lemmas.Option.{none-some}
use Rattle.std.specs.Io.KnownBytes.{Appends}
use Rattle.txn_bytes.specs.Written.{Writer}
use Rattle.txn_bytes.proofs.Exports.{then}
use Rattle.line_language.specs.declared.fault.LineKind.{LineKind}
use Rattle.line_language.specs.declared.fault.LineKind.TheVariants as kind
use Rattle.durable_top.specs.declared.store.TopStore.{Ghosts}
use Rattle.interleavings.specs.Attempts.{GoesOn}
use Rattle.interleavings.specs.Turning.{Turning}
use Rattle.interleavings.proofs.Exports.{on_same, on_still}
use Rattle.txn_bytes.specs.Sources.{Reader}
use Rattle.request_lines.specs.declared.lines.Taken.{Taken}
use Rattle.request_lines.specs.declared.lines.Taken.TheVariants.{Whole, Long, Cut, End}
use Rattle.live_runs.specs.Hearing.{Becomes, Heard, Hears, IsShownOf, Moment, begun_of, sessions_heard, with_heard, with_read}

module _ {S : Type 0} (g : Ghosts S) where
  sessions_become : (taken : Taken) (bytes : List ℕ) (fault : Option LineKind) (old new : Turning S) → Becomes g taken bytes fault old new
      → new.sessions ≡ with_heard fault bytes old.sessions
  sessions_become Whole bytes None old new t = t.grows.sessions ∙ ap (λ r. with_read r old.sessions) (sym t.read)
  sessions_become Whole bytes (Some k) old new t = ap (λ (x : Turning S). x.sessions) t.1
  sessions_become Long bytes fault old new t = ap (λ (x : Turning S). x.sessions) t.1 ∙ ap (λ f. with_heard f bytes old.sessions) (sym t.0)
  sessions_become Cut bytes fault old new t = absurd t
  sessions_become End bytes fault old new t = absurd t

  went_same : (old new : Turning S) → new ≡ old → GoesOn g old.core new.core
  went_same old new same = subst (λ (x : Turning S). GoesOn g old.core x.core) (sym same) (on_same g old.core)

  went_become : (taken : Taken) (bytes : List ℕ) (fault : Option LineKind) (old new : Turning S) → Becomes g taken bytes fault old new → GoesOn g old.core new.core
  went_become Whole bytes None old new t = t.grows.on
  went_become Whole bytes (Some k) old new t = went_same old new t.1
  went_become Long bytes fault old new t = went_same old new t.1
  went_become Cut bytes fault old new t = absurd t
  went_become End bytes fault old new t = absurd t

  module _ {W : Type 0} (w : Writer W) (a : Option (List ℕ)) where
    pub written_same : (old new : Turning S) (out_old out_new : W) → new ≡ old → out_new ≡ out_old → Appends a (w.contents out_old) (begun_of old)
        → Appends a (w.contents out_new) (begun_of new)
    written_same old new out_old out_new same out h =
        subst (λ (x : Turning S). Appends a (w.contents out_new) (begun_of x)) (sym same)
        (subst (λ x. Appends a (w.contents x) (begun_of old)) (sym out) h)

    written_become : (taken : Taken) (bytes : List ℕ) (fault : Option LineKind) (old new : Turning S) (out_old out_new : W) → Becomes g taken bytes fault old new
        → IsShownOf w fault old new out_old out_new → Appends a (w.contents out_old) (begun_of old) → Appends a (w.contents out_new) (begun_of new)
    written_become Whole bytes None old new out_old out_new t shown h =
        subst (λ bs. Appends a (w.contents out_new) bs) (sym shown.grown)
        (then a (w.contents out_old) (w.contents out_new) (begun_of old) shown.more h shown.shown.given)
    written_become Whole bytes (Some k) old new out_old out_new t shown h = written_same old new out_old out_new t.1 shown h
    written_become Long bytes None old new out_old out_new t shown h = absurd (none-some kind.Long t.0)
    written_become Long bytes (Some k) old new out_old out_new t shown h = written_same old new out_old out_new t.1 shown h
    written_become Cut bytes fault old new out_old out_new t shown h = absurd t
    written_become End bytes fault old new out_old out_new t shown h = absurd t

module _ {R S W E : Type 0} (r : Reader R) (g : Ghosts S) (w : Writer W) (e : Writer E)
    (first : Moment R S W E) where
  abbrev HearsHere : List Heard → Moment R S W E → Type 0
  HearsHere list last = Hears r g w e first list last

  -- the sessions are those that the lines make
  pub hears_sessions : (list : List Heard) (last : Moment R S W E) → first.live.sessions ≡ [] → HearsHere list last → last.live.sessions ≡ sessions_heard list
  hears_sessions [] last none same = ap (λ (m : Moment R S W E). m.live.sessions) same ∙ none
  hears_sessions (x ∷ list) last none (before, heard, one) =
      sessions_become g one.taken x.bytes x.fault before.live last.live one.becomes
      ∙ ap (λ ss. with_heard x.fault x.bytes ss) (hears_sessions list before none heard)

  -- they went on
  pub hears_went : (list : List Heard) (last : Moment R S W E) → HearsHere list last → GoesOn g first.live.core last.live.core
  hears_went [] last same = went_same g first.live last.live (ap (λ (m : Moment R S W E). m.live) same)
  hears_went (x ∷ list) last (before, heard, one) =
      on_still g first.live.core before.live.core last.live.core (hears_went list before heard)
      (went_become g one.taken x.bytes x.fault before.live last.live one.becomes)

  -- and what was written is the beginning of their report
  pub hears_written : (a : Option (List ℕ)) (list : List Heard) (last : Moment R S W E) → Appends a (w.contents first.out) (begun_of first.live) → HearsHere list last
      → Appends a (w.contents last.out) (begun_of last.live)
  hears_written a [] last h same =
      written_same g w a first.live last.live first.out last.out (ap (λ (m : Moment R S W E). m.live) same) (ap (λ (m : Moment R S W E). m.out) same) h
  hears_written a (x ∷ list) last h (before, heard, one) =
      written_become g w a one.taken x.bytes x.fault before.live last.live before.out last.out one.becomes one.shown (hears_written a list before h heard)
