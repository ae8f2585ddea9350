-- A key that is put twice.
use Rattle.std.proofs.Common.{◌≡◌, ℕ, ℤ, Bool, true, false, cond, List, Option, refl}
use Rattle.txn_names.specs.Path.{label_eq}
use Rattle.durable_top.specs.Numbered.{Numbered}
use Rattle.sql_store.specs.Laid.{put}

pub put_again : (m : Numbered) (k : List ℕ) (v w : Option (ℤ × ℤ)) → put (put m k v) k w ≡ put m k w
put_again m k v w =
    let each : (q : List ℕ) → put (put m k v) k w q ≡ put m k w q = λ q. twice (label_eq k q) v w (m q) in λ i q. each q i
  where
    twice : (b : Bool) (v w x : Option (ℤ × ℤ)) → cond b w (cond b v x) ≡ cond b w x
    twice true v w x = refl
    twice false v w x = refl
