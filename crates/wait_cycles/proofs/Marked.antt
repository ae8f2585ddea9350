-- The places of those who wait are marked for what they ask.
use Rattle.std.proofs.Common.{◌≡◌, ℕ, Bool, true, false, List, length, nat_eq, cond, get_or, Option, Some, None, refl, sym, ap, subst, ◌∙◌, bit_or}
use Rattle.std.specs.Prelude.{slice_get, IfNone}
use Rattle.std.proofs.lemmas.Bool.{eqb-true}
use Rattle.std.proofs.lemmas.Option.{slice_get_within}
use Rattle.txn_names.specs.Path.{label_eq}
use Rattle.txn_names.proofs.Exports.{same_label}
use Rattle.serial_spec.specs.declared.target.Asked.{Asked}
use Rattle.serial_spec.specs.declared.target.Asked.TheVariants.{At, Over}
use Rattle.wait_cycles.specs.declared.sieve.Sieve.{Sieve}
use Rattle.wait_cycles.specs.declared.waits.Wait.{Wait}
use Rattle.wait_cycles.specs.Waiting.{IsTaken}
use Rattle.wait_cycles.specs.Sieve.{AreMarked, HasPlace, IsUnmetAt, LacksPlace, mark_of, places_for}
use Rattle.wait_cycles.proofs.Bits.{neither, not_both}

-- each mark has the places that it had
abbrev pub AreKept : Sieve → Sieve → Type 0
AreKept s t = (a : Asked) (p : ℕ) → HasPlace (places_for s a) p → HasPlace (places_for t a) p

-- where one is taken out, the last, which stands there then, is marked there
pub left_marked : (s t : Sieve) (old new : List Wait) (p : ℕ) → IsTaken p old new → AreMarked s old → AreKept s t
    → ((w : Wait) → slice_get new p ≡ Some w → HasPlace (places_for t w.asked) p) → AreMarked t new
left_marked s t old new p taken all kept there i w at = by (nat_eq i p) refl
  where
    by : (b : Bool) → nat_eq i p ≡ b → HasPlace (places_for t w.asked) i
    by true e =
        let same : i ≡ p = eqb-true i p e in
        subst (λ j. HasPlace (places_for t w.asked) j) (sym same) (there w (ap (slice_get new) (sym same) ∙ at))
    by false e =
        let was : slice_get old i ≡ Some w = ap (λ b. slice_get old (cond b (length new) i)) (sym e) ∙ sym (taken.from i (slice_get_within new i w at)) ∙ at in
        kept w.asked i (all i w was)

-- whoever waits at a place that neither the mark of a key has nor that of all sums does not wait for the key
pub unmet : (s : Sieve) (k : List ℕ) (p : ℕ) → LacksPlace (bit_or s.sums (get_or s.marks (mark_of k) 0)) p → IsUnmetAt s k p
unmet s k p lacks (Over g) has = absurd (not_both s.sums p has (neither s.sums (get_or s.marks (mark_of k) 0) p lacks).0)
unmet s k p lacks (At q o) has = by (label_eq k q) refl
  where
    by : (b : Bool) → label_eq k q ≡ b → b ≡ false
    by true e =
        let mine = subst (λ (x : List ℕ). HasPlace (get_or s.marks (mark_of x) 0) p) (sym (same_label k q e)) has in
        absurd (not_both (get_or s.marks (mark_of k) 0) p mine (neither s.sums (get_or s.marks (mark_of k) 0) p lacks).1)
    by false e = refl

-- what follows from what is told of no result
pub none_told : {X P Q : Type 0} (o : Option X) → IfNone o P → (P → Q) → IfNone o Q
none_told None told f = f told
none_told (Some x) told f = told
