-- The report of a run, from what the lock's value kept.
use Rattle.std.proofs.Common.{◌≡◌, ℕ, ◌+◌, ◌<◌, ◌⊎◌, inl, inr, Bool, true, false, List, map, Option, Some, None, IfSome, Result, Ok, Err, IfOk, IfErr, IsErrOf, OnErr, sym, ap, subst, ◌∙◌, arith}
use Rattle.std.proofs.lemmas.Bool.{false≢true}
use Rattle.serial_spec.specs.Rows.{value_in}
use Rattle.serial_spec.specs.Interleaving.{Session, IsInterleaving, IsFinished}
use Rattle.durable_top.specs.declared.store.TopStore.{Ghosts}
use Rattle.durable_top.specs.Store.{counted}
use Rattle.manager_core.specs.declared.manager.AtOpening.{AtOpening}
use Rattle.manager_core.specs.Sound.{store_refusals}
use Rattle.run_reports.specs.Told.{Told}
use Rattle.interleavings.specs.Turning.{Turning, IsClosed, IsStart}
use Rattle.interleavings.specs.Scheduled.{Goes, LetsGo}
use Rattle.interleavings.proofs.Exports.{broken_off, numbered_from, was_asked, given_few}
use Rattle.manager_core.specs.declared.outcome.OpenFault.{OpenFault}
use Rattle.interleavings.specs.declared.served.ServeFault.{ServeFault}
use Rattle.interleavings.specs.declared.served.ServeFault.TheVariants.{NoMemory, Open, Thread}
use Rattle.interleavings.specs.Served.{HasServeCause, IsServed, IsServedFrom, IsUnservedFrom}
use Rattle.worker_pool.specs.Openings.{HasGoneOn, IsKept}
use Rattle.worker_pool.specs.inner.Working.{IsAfterOpening, IsOfWork}

no_thread : {P : Type 0} → NoMemory ≡ Thread → P
no_thread h = cc

module _ {S : Type 0} (g : Ghosts S) where
  -- ---- from the lock's value

  closed_one : (opened : Option (Turning S)) (t : Turning S) (r : Told) (left : S) → HasGoneOn g opened t → IsClosed g t r left
      → IfSome opened (λ first. IsServedFrom g first r left)
  closed_one None t r left so_far closed = tt
  closed_one (Some first) t r left so_far closed = record { last = t; goes = so_far; closed = closed }

  pub closed_from : {E : Type 0} (opened : Option (Turning S)) (t : Turning S) (result : Result (Told × S) E) → HasGoneOn g opened t
      → IfOk result (λ run. IsClosed g t run.0 run.1) → IfOk result (λ run. IfSome opened (λ first. IsServedFrom g first run.0 run.1))
  closed_from opened t (Ok run) so_far closed = closed_one opened t run.0 run.1 so_far closed
  closed_from opened t (Err fault) so_far closed = tt

  pub unserved : (opened : Option (Turning S)) (t : Turning S) (tried : Bool) (fault : ServeFault) (left : S) → IsKept g opened t tried → LetsGo g t left
      → (fault ≡ Thread → tried ≡ false) → IfSome opened (λ first. IsUnservedFrom g first fault left)
  unserved None t tried fault left kept go thread = tt
  unserved (Some first) t tried fault left kept go thread = record {
    off = record { last = t; goes = kept.gone_on; go = go };
    untried = λ is. go.store ∙ ap (λ (u : Turning S). u.core.store) (kept.untried (thread is));
  }

  pub unserved_close : (opened : Option (Turning S)) (t : Turning S) (tried : Bool) (result : Result (Told × S) (ServeFault × S)) → IsKept g opened t tried
      → IfErr result (λ u. u.0 ≡ NoMemory) → IfErr result (λ u. LetsGo g t u.1) → IfErr result (λ u. IfSome opened (λ first. IsUnservedFrom g first u.0 u.1))
  unserved_close opened t tried (Ok run) kept is go = tt
  unserved_close opened t tried (Err u) kept is go = unserved opened t tried u.0 u.1 kept go (λ thread. no_thread (sym is ∙ thread))

  -- ---- from the opening

  pub is_served : (ss : List Session) (store : S) (first : Turning S) (r : Told) (left : S) → IsStart g ss store first → IsServedFrom g first r left → IsServed g ss store r left
  is_served ss store first r left start from = record {
    asked = was_asked g ss store first last r left start goes closed;
    opening = λ none. ap value_in rows ∙ start.opened.rows (undoubted none);
    labels = subst (λ x. r.labels ≡ map (λ s. s.label) x) sessions closed.labels;
    interleaving = subst (λ x. IsInterleaving r.opening x r.history) sessions closed.interleaving;
    finished = subst (λ x. IsFinished x r.history) sessions closed.finished;
    stored = closed.stored;
    numbered = λ trusted.
        numbered_from g store first.core last.core.opened r.history (g.numbered left) start.opened goes.on.opened (undoubted trusted.doubt) (closed.numbered trusted);
    refusals = closed.refusals ∙ ap (λ n. counted (n + store_refusals r.history)) (ap (λ (o : AtOpening). o.faults) goes.on.opened ∙ start.opened.faults);
  }
    where
      last : Turning S
      last = from.last

      goes : Goes g first last
      goes = from.goes

      closed : IsClosed g last r left
      closed = from.closed

      rows : r.opening ≡ first.core.rows
      rows = closed.opening ∙ goes.on.rows

      sessions : last.sessions ≡ ss
      sessions = goes.sessions ∙ start.sessions

      undoubted : g.doubt left ≡ 0 → g.doubt first.core.store ≡ 0
      undoubted none =
          let last_none : g.doubt last.core.store ≡ 0 = sym (ap g.doubt closed.store) ∙ none in
          omega (arith, goes.on.later.doubt, last_none)

  -- why there is none
  pub has_cause : (ss : List Session) (store : S) (first : Turning S) (workers : ℕ) (fault told : ServeFault) (left : S) → IsStart g ss store first → IsUnservedFrom g first fault left
      → IsAfterOpening workers fault → told ≡ fault → HasServeCause g ss store told
  has_cause ss store first workers fault told left start un after is = subst (HasServeCause g ss store) (sym is) (by fault un after)
    where
      by : (fault : ServeFault) → IsUnservedFrom g first fault left → IsAfterOpening workers fault → HasServeCause g ss store fault
      by NoMemory un after = broken_off g ss store first left start un.off
      by (Open fault) un after = absurd after
      by Thread un after = given_few g store first.core start.opened

-- ---- the fault of the work

-- a fault of the work is one that may come behind the opening, and so is want of memory
of_work : (workers : ℕ) (worked : Result (Unit {0}) ServeFault) (fault : ServeFault) → IfErr worked (IsAfterOpening workers) → IsOfWork worked fault → IsAfterOpening workers fault
of_work workers worked fault after (inl is) = subst (λ w. IfErr w (IsAfterOpening workers)) is after
of_work workers worked fault after (inr is) = subst (IsAfterOpening workers) (sym is) tt

pub if_of_work : {T S : Type 0} (workers : ℕ) (worked : Result (Unit {0}) ServeFault) (result : Result T (ServeFault × S)) → IfErr worked (IsAfterOpening workers)
    → IfErr result (λ u. IsOfWork worked u.0) → IfErr result (λ u. IsAfterOpening workers u.0)
if_of_work workers worked (Ok x) after is = tt
if_of_work workers worked (Err u) after is = of_work workers worked u.0 after is

pub thread_behind : {T : Type 0} (workers : ℕ) (fault told : ServeFault) → IsAfterOpening workers fault → told ≡ fault → IsErrOf {T = T} (Err told) Thread → 0 < workers
thread_behind workers fault told after same is = subst (λ r. IfErr r (IsAfterOpening workers)) is (subst (IsAfterOpening workers) (sym same) after)

-- memory that ran out behind the work
pub if_behind : {T S : Type 0} (worked : Result (Unit {0}) ServeFault) (result : Result T (ServeFault × S)) → IfErr result (λ u. u.0 ≡ NoMemory) → IfErr result (λ u. IsOfWork worked u.0)
if_behind worked (Ok x) is = tt
if_behind worked (Err u) is = inr is

-- an opening that failed is no thread that did
abbrev is_thread : {T : Type 0} → Result T ServeFault → Bool
is_thread (Ok x) = false
is_thread (Err NoMemory) = false
is_thread (Err (Open fault)) = false
is_thread (Err Thread) = true

pub open_is_no_thread : {T : Type 0} (workers : ℕ) (fault : OpenFault) → IsErrOf {T = T} (Err (Open fault)) Thread → 0 < workers
open_is_no_thread {T} workers fault is = absurd (false≢true (ap (is_thread {T = T}) is))

pub run_is_no_thread : {T : Type 0} (workers : ℕ) (x : T) → IsErrOf {T = T} (Ok x) Thread → 0 < workers
run_is_no_thread {T} workers x is = absurd (false≢true (ap (is_thread {T = T}) is))
