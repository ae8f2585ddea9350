-- The words of refusals, row by row.
use Rattle.std.proofs.Common.{◌≡◌, ℕ, List, [], ◌∷◌, ◌++◌, true, false, Bool, cond, not, Some, refl, ap, subst, ◌∙◌, true≢false}
use Rattle.std.specs.Prelude.{codes, find}
use Rattle.std.specs.List.{list_all}
use Rattle.std.proofs.lemmas.Bool.{and_parts, not-true}
use Rattle.std.specs.Str.{bytes_eq}
use Rattle.std.proofs.lemmas.Slice.Eq.{bytes_eq-Decides}
use Rattle.txn_names.proofs.Exports.{on_test}
use Rattle.serial_spec.specs.declared.entry.Refusal.{Refusal}
use Rattle.serial_spec.specs.declared.entry.Refusal.TheVariants.{Orphan}
use Rattle.serial_spec.specs.declared.entry.Answer.TheVariants.{Refused}
use Rattle.line_language.specs.Entries.{IsAnswer}
use Rattle.line_language.specs.Printing.{spelled_refusal}
use Rattle.line_language.specs.Refusals.{refusal_of, refusal_word, refusals}

-- told by one word behind `refused`, which names nobody
pub record IsPlain (r : Refusal) : Type 0 where
  pub spelled : codes "refused " ++ refusal_word r ≡ spelled_refusal r
  pub answer : IsAnswer (Refused r)
  pub again : refusal_of (refusal_word r) ≡ Some r

abbrev is_orphan : Refusal → Bool
is_orphan (Orphan t) = true
is_orphan r = false

-- as all are but an orphan's
plain : (r : Refusal) → is_orphan r ≡ false → IsPlain r
plain (Orphan t) h = absurd (true≢false h)
plain r h = record { spelled = refl; answer = tt; again = refl }

found : (w : List ℕ) (rs : List Refusal) (r : Refusal) → list_all (λ q. not (is_orphan q)) rs ≡ true → find (λ q. bytes_eq w (refusal_word q)) rs ≡ Some r
    → (is_orphan r ≡ false) × (w ≡ refusal_word r)
found w [] r all h = cc
found w (q ∷ rs) r all h =
    let p = and_parts (not (is_orphan q)) (list_all (λ q. not (is_orphan q)) rs) all in
    on_test (bytes_eq w (refusal_word q)) (λ b. cond b (Some q) (find (λ q. bytes_eq w (refusal_word q)) rs) ≡ Some r → (is_orphan r ≡ false) × (w ≡ refusal_word r))
    (λ is e. let same : q ≡ r = cc in subst (λ x. (is_orphan x ≡ false) × (w ≡ refusal_word x)) same (not-true (is_orphan q) p.0, (bytes_eq-Decides w (refusal_word q)).0 is))
    (λ _ e. found w rs r p.1 e)
    h

-- what is read behind `refused` is spelled so
pub refusal_reads : (w : List ℕ) (r : Refusal) → refusal_of w ≡ Some r → IsAnswer (Refused r) × (codes "refused " ++ w ≡ spelled_refusal r)
refusal_reads w r h =
    let is = found w refusals r refl h in
    let row = plain r is.0 in
    (row.answer, ap (λ (v : List ℕ). codes "refused " ++ v) is.1 ∙ row.spelled)
