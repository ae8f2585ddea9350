use Rattle.std.proofs.Common.{◌≡◌, ℕ, ◌<◌, true, nat_eq, get_or, List, refl, arith}
use Rattle.txn_names.specs.declared.classes.TheConstants.{CLASSES}
use Rattle.txn_names.specs.Text.{is_label_byte}
use Rattle.txn_names.proofs.ByTable.{agree_below, agree_at}
use Rattle.txn_names.proofs.classes.is_label_byte.Goals as goal

read : (table : List ℕ) (b : ℕ) → b < 256
    → agree_below (λ k. nat_eq (get_or table k 0) 108) is_label_byte 256 ≡ true
    → nat_eq (get_or table b 0) 108 ≡ is_label_byte b
read table b lt h = agree_at _ _ 256 h b lt

pub returns : goal.returns
unfolding agree_below is_label_byte
returns c = read CLASSES c.args.b (omega arith) refl
