-- An answer is read exactly where the bytes spell it.
use Rattle.std.proofs.Common.{◌≡◌, ℕ, List, ◌∷◌, ◌++◌, cond, Option, Some, None, refl, sym, ap, ap₂, ◌∙◌, subst}
use Rattle.std.specs.Prelude.{codes}
use Rattle.std.specs.Option.{option_map}
use Rattle.std.specs.Result.{result_ok}
use Rattle.std.specs.Str.{bytes_eq}
use Rattle.txn_names.specs.Text.{spelled_name}
use Rattle.txn_names.specs.Reading.{name_of}
use Rattle.txn_names.proofs.Exports.{name_of-spelled, read_is_name}
use Rattle.serial_spec.specs.declared.operation.Reply.TheVariants.{Ok as Fine, Value, Absent, New, Overflow}
use Rattle.serial_spec.specs.declared.entry.Refusal.TheVariants.{Orphan}
use Rattle.serial_spec.specs.declared.entry.Answer.{Answer}
use Rattle.serial_spec.specs.declared.entry.Answer.TheVariants.{Done, Waits, Stuck, Refused}
use Rattle.line_language.specs.Printing.{spelled_answer, spelled_number}
use Rattle.line_language.specs.Numbers.{number_of}
use Rattle.line_language.specs.Words.{before, behind}
use Rattle.line_language.proofs.Bytes.{Lacks}
use Rattle.line_language.proofs.ReadBack.{numbers_read_back}
use Rattle.line_language.proofs.Reading.{is_word, pick}
use Rattle.line_language.specs.Entries.{IsAnswer}
use Rattle.line_language.specs.Reading.{answer_of, one_word, two_words, words_of}
use Rattle.line_language.specs.Refusals.{refusal_of}
use Rattle.line_language.proofs.Refused.{refusal_reads}
use Rattle.line_language.proofs.Parts.{before_next, parted, same_some, was_ok, whole}

none_is : {A P : Type 0} (x : A) → None ≡ Some x → P
none_is x h = cc

map_some : {A B : Type 0} (f : A → B) (o : Option A) (y : B) → option_map f o ≡ Some y → (x : A) × (o ≡ Some x) × (f x ≡ y)
map_some f (Some x) y h = (x, refl, same_some (f x) y h)
map_some f None y h = cc

-- ---- one word

abbrev Is : List ℕ → Answer → Type 0
Is w x = IsAnswer x × (w ≡ spelled_answer x)

word : (w v : List ℕ) (a x : Answer) (o : Option Answer) → Is v a → cond (bytes_eq w v) (Some a) o ≡ Some x → (o ≡ Some x → Is w x) → Is w x
word w v a x o is h more =
    pick (bytes_eq w v) (Some a) o (Some x) h (λ b e. subst (Is w) (same_some a x e) (is.0, is_word w v b ∙ is.1)) (λ _ e. more e)

one_reads : (w : List ℕ) (x : Answer) → one_word w ≡ Some x → Is w x
one_reads w x h =
    word w (codes "ok") (Done Fine) x _ (tt, refl) h
    (λ h. word w (codes "none") (Done Absent) x _ (tt, refl) h
    (λ h. word w (codes "overflow") (Done Overflow) x _ (tt, refl) h
    (λ h. word w (codes "waits") Waits x _ (tt, refl) h
    (λ h. word w (codes "stuck") Stuck x _ (tt, refl) h
    (λ h. none_is x h)))))

-- ---- two words

abbrev Are : List ℕ → List ℕ → Answer → Type 0
Are w r x = Is (w ++ 32 ∷ r) x

value_reads : (w r : List ℕ) (x : Answer) → w ≡ codes "value" → option_map (λ v. Done (Value v)) (number_of r) ≡ Some x → Are w r x
value_reads w r x is h =
    let m = map_some (λ v. Done (Value v)) (number_of r) x h in
    let n = (numbers_read_back r m.0).0 m.1 in
    subst (Are w r) m.2 (n.0, ap₂ (λ a b. a ++ 32 ∷ b) is n.1)

new_reads : (w r : List ℕ) (x : Answer) → w ≡ codes "new" → option_map (λ v. Done (New v)) (number_of r) ≡ Some x → Are w r x
new_reads w r x is h =
    let m = map_some (λ v. Done (New v)) (number_of r) x h in
    let n = (numbers_read_back r m.0).0 m.1 in
    subst (Are w r) m.2 (n.0, ap₂ (λ a b. a ++ 32 ∷ b) is n.1)

refused_reads : (w r : List ℕ) (x : Answer) → w ≡ codes "refused" → option_map Refused (refusal_of r) ≡ Some x → Are w r x
refused_reads w r x is h =
    let m = map_some Refused (refusal_of r) x h in
    let n = refusal_reads r m.0 m.1 in
    subst (Are w r) m.2 (n.0, ap (λ a. a ++ 32 ∷ r) is ∙ n.1)

orphan_reads : (w r : List ℕ) (x : Answer) → w ≡ codes "orphan" → option_map (λ t. Refused (Orphan t)) (result_ok (name_of r)) ≡ Some x → Are w r x
orphan_reads w r x is h =
    let m = map_some (λ t. Refused (Orphan t)) (result_ok (name_of r)) x h in
    let n = read_is_name r m.0 (was_ok (name_of r) m.0 m.1) in
    subst (Are w r) m.2 (n.0, ap₂ (λ a b. a ++ 32 ∷ b) is n.1)

two_read : (w r : List ℕ) (x : Answer) → two_words w r ≡ Some x → Are w r x
two_read w r x h =
    pick (bytes_eq w (codes "value")) _ _ (Some x) h (λ b e. value_reads w r x (is_word w _ b) e)
    (λ _ h. pick (bytes_eq w (codes "new")) _ _ (Some x) h (λ b e. new_reads w r x (is_word w _ b) e)
    (λ _ h. pick (bytes_eq w (codes "refused")) _ _ (Some x) h (λ b e. refused_reads w r x (is_word w _ b) e)
    (λ _ h. pick (bytes_eq w (codes "orphan")) _ _ (Some x) h (λ b e. orphan_reads w r x (is_word w _ b) e)
    (λ _ h. none_is x h))))

-- ---- both ways

reads_by : (bs : List ℕ) (o : Option (List ℕ)) (x : Answer) → behind 32 bs ≡ o → words_of (before 32 bs) o ≡ Some x → Is bs x
reads_by bs None x e h = let is = one_reads (before 32 bs) x h in (is.0, sym (whole 32 bs e) ∙ is.1)
reads_by bs (Some r) x e h = let is = two_read (before 32 bs) r x h in (is.0, parted 32 bs r e ∙ is.1)

pub answer_reads : (bs : List ℕ) (x : Answer) → answer_of bs ≡ Some x → IsAnswer x × (bs ≡ spelled_answer x)
answer_reads bs x h = reads_by bs (behind 32 bs) x refl h

-- a word, a space and what stands behind
by_words : (w r : List ℕ) → Lacks 32 w → answer_of (w ++ 32 ∷ r) ≡ two_words w r
by_words w r h = let p = before_next 32 w r h in ap₂ words_of p.0 p.1

pub answer_again : (x : Answer) → IsAnswer x → answer_of (spelled_answer x) ≡ Some x
answer_again (Done Fine) h = refl
answer_again (Done (Value v)) h =
    by_words (codes "value") (spelled_number v) refl ∙ ap (option_map (λ v. Done (Value v))) ((numbers_read_back (spelled_number v) v).1 (h, refl))
answer_again (Done Absent) h = refl
answer_again (Done (New v)) h =
    by_words (codes "new") (spelled_number v) refl ∙ ap (option_map (λ v. Done (New v))) ((numbers_read_back (spelled_number v) v).1 (h, refl))
answer_again (Done Overflow) h = refl
answer_again Waits h = refl
answer_again Stuck h = refl
answer_again (Refused (Orphan t)) h =
    by_words (codes "orphan") (spelled_name t) refl ∙ ap (λ r. option_map (λ t. Refused (Orphan t)) (result_ok r)) (name_of-spelled t h)
answer_again (Refused r) h = refl
