use Rattle.std.proofs.Common.{◌≡◌, ℕ, ◌<◌, true, not, nat_eq, get_or, List, refl, arith}
use Rattle.txn_names.specs.declared.classes.TheConstants.{CLASSES}
use Rattle.txn_names.specs.Text.{is_key_byte}
use Rattle.txn_names.proofs.ByTable.{agree_below, agree_at}
use Rattle.txn_names.proofs.classes.is_key_byte.Goals as goal

read : (table : List ℕ) (b : ℕ) → b < 256
    → agree_below (λ k. not (nat_eq (get_or table k 0) 44)) is_key_byte 256 ≡ true
    → not (nat_eq (get_or table b 0) 44) ≡ is_key_byte b
read table b lt h = agree_at _ _ 256 h b lt

pub returns : goal.returns
unfolding agree_below is_key_byte
returns c = read CLASSES c.args.b (omega arith) refl
