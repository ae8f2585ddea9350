-- Groups: the keys that begin with some bytes and a dot.
use Rattle.std.specs.Prelude.{◌≡◌, ℕ, ◌<◌, ◌≤◌, ◌==◌, ◌&&◌, Bool, false, List, [], ◌∷◌, length, nat_lt, nat_eq, if◌then◌else◌, Result, Ok, Err, not, IsTrue}
use Rattle.std.specs.List.{list_all}
use Rattle.txn_names.specs.Text.{is_key_byte}
use Rattle.txn_names.specs.declared.key.KeyFault.{KeyFault}
use Rattle.txn_names.specs.declared.key.KeyFault.TheVariants as key

-- 1 to 31 bytes of a key, so that a dot fits behind them
pub record IsGroup (bs : List ℕ) : Type 0 where
  pub some : 0 < length bs
  pub short : length bs ≤ 31
  pub plain : IsTrue (list_all is_key_byte bs)

-- of several faults the first
abbrev pub group_of : List ℕ → Result (List ℕ) KeyFault
group_of bs =
    if length bs == 0 then Err key.Empty
    else if not (list_all is_key_byte bs) then Err key.BadByte
    else if nat_lt 31 (length bs) then Err key.Long
    else Ok bs

-- the key begins with the bytes of the group, and a dot stands behind them
abbrev pub has : List ℕ → List ℕ → Bool
has [] [] = false
has [] (b ∷ k) = nat_eq b 46
has (c ∷ g) [] = false
has (c ∷ g) (b ∷ k) = nat_eq c b && has g k

-- a group of the key that has so many bytes
abbrev pub IsGroupBefore : List ℕ → ℕ → List ℕ → Type 0
IsGroupBefore k place g = IsTrue (has g k) × (0 < length g) × (length g ≡ place)
