-- Bytes that were written, and then passed on or not.
use Rattle.std.proofs.Common.{ℕ, List, inl, inr, Result, Ok, Err, OnOk, OnErr}
use Rattle.std.specs.Io.KnownBytes.{Appends, Keeps}
use Rattle.txn_bytes.specs.Written.{AppendsFront, IsStopped, Writer}
use Rattle.txn_bytes.specs.declared.sink.WriteFault.{WriteFault}
use Rattle.txn_bytes.proofs.Exports.{kept}
use Rattle.live_runs.specs.Showing.{IsShown, IsUnshown}

module _ {W : Type 0} (w : Writer W) where
  module _ (old mid new : W) (bytes : List ℕ) (given : Appends (w.contents old) (w.contents mid) bytes) (still : Keeps (w.contents mid) (w.contents new)) where
    pub passed : (r : Result (Unit {0}) WriteFault) → w.flushes mid new r → OnOk r (IsShown w old new bytes)
    passed (Ok u) asked = record { given = kept (w.contents old) (w.contents mid) (w.contents new) bytes given still; passed = record { before = mid; asked = asked } }
    passed (Err fault) asked = tt

    pub unpassed : (r : Result (Unit {0}) WriteFault) → w.flushes mid new r → OnErr r (IsUnshown w old new bytes)
    unpassed (Ok u) asked = tt
    unpassed (Err fault) asked = inr (kept (w.contents old) (w.contents mid) (w.contents new) bytes given still, record { before = mid; asked = asked })

  pub cut : {T E : Type 0} (r : Result T E) (old new : W) (bytes : List ℕ) → AppendsFront (w.contents old) (w.contents new) bytes → IsStopped w new
      → OnErr r (IsUnshown w old new bytes)
  cut (Ok x) old new bytes front stopped = tt
  cut (Err e) old new bytes front stopped = inl (record { front = front; stopped = stopped })
