-- Entries of a map as rows: what each key has.
use Rattle.std.proofs.Common.{◌≡◌, ℕ, ℤ, true, false, true≢false, is_some, cond, List, [], ◌∷◌, Option, Some, None, refl, sym, ap, ◌∙◌}
use Rattle.std.specs.Cmp.Lexicographic.{nat_list_eq_equiv}
use Rattle.std.proofs.lemmas.Bool.{false≢true}
use Rattle.std.specs.Map.{lookup}
use Rattle.std.specs.Option.{option_map}
use Rattle.txn_names.specs.Path.{label_eq}
use Rattle.serial_spec.specs.Rows.{Rows, value_in}
use Rattle.serial_spec.specs.Serial.{put}

pub value_looked_up : (es : Rows) (k : List ℕ) → value_in es k ≡ lookup (label_eq k) es
value_looked_up [] k = refl
value_looked_up (e ∷ es) k =
    ap (λ x. cond (label_eq e.0 k) (Some e.1) x) (value_looked_up es k)
    ∙ ap (λ b. cond b (Some e.1) (lookup (label_eq k) es)) (nat_list_eq_equiv.symm e.0 k)

-- what an insertion and a removal make of the entries
pub entries_put : (old new : Rows) (key : List ℕ) (w : Option ℤ) → ((q : List ℕ) → lookup (label_eq q) new ≡ cond (label_eq key q) w (lookup (label_eq q) old))
    → value_in new ≡ put (value_in old) key w
entries_put old new key w made =
    let each : (q : List ℕ) → value_in new q ≡ put (value_in old) key w q = λ q.
    value_looked_up new q ∙ made q ∙ ap (λ x. cond (label_eq key q) w x) (sym (value_looked_up old q)) in
    λ i q. each q i

pub number_given : (n : ℤ) (v : Option ℤ) → is_some v ≡ true → option_map (λ _. n) v ≡ Some n
number_given n None h = absurd (false≢true h)
number_given n (Some v) h = refl

pub number_taken : (n : ℤ) (v : Option ℤ) → is_some v ≡ false → option_map (λ _. n) v ≡ None
number_taken n None h = refl
number_taken n (Some v) h = absurd (true≢false h)
