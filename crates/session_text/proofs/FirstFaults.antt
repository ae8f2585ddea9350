-- The first fault of a text.
use Rattle.std.proofs.Common.{◌≡◌, ℕ, ◌+◌, ◌<◌, List, [], ◌∷◌, ◌++◌, length, true, false, Bool, cond, nat_eq, inl, inr, None, Result, Ok, Err, refl, sym, ap, ◌∙◌, subst, arith, append_assoc, length-append}
use Rattle.std.specs.List.{join_with_byte, list_any, onto_first, AllByRecursion}
use Rattle.std.proofs.lemmas.Bool.{or_from, eqb-false}
use Rattle.serial_spec.specs.Interleaving.{Session}
use Rattle.serial_spec.specs.declared.event.Event.{Event}
use Rattle.line_language.specs.declared.fault.LineKind.{LineKind}
use Rattle.line_language.specs.declared.fault.LineKind.TheVariants as kind
use Rattle.session_text.specs.Texts.{TextLine, Header, Command}
use Rattle.session_text.specs.Grammar.{IsText, spelled_text}
use Rattle.session_text.specs.Laws.{line_count, IsFirstFault, FirstFaultsTold}
use Rattle.line_language.specs.Steps.{◌>>=◌, unless}
use Rattle.session_text.specs.Texts.{Read, grown, misplaced, line_of, with_line, with_bytes, at_line, read_from}
use Rattle.line_language.specs.Words.{cut_at}
use Rattle.session_text.proofs.Adding.{some_placed}
use Rattle.line_language.proofs.Exports.{joined_cut, bind_ok}
use Rattle.session_text.proofs.Growth.{longer, parted, with_line-last}
use Rattle.session_text.proofs.WholeTexts.{with_bytes_reads, faultless, empty}

-- ---- parts have none of the bytes at which they were cut

abbrev IsPart : ℕ → List ℕ → Type 0
IsPart c p = list_any (λ b. nat_eq b c) p ≡ false

onto_parts : (c b : ℕ) (ps : List (List ℕ)) → nat_eq b c ≡ false → AllByRecursion (IsPart c) ps → AllByRecursion (IsPart c) (onto_first b ps)
onto_parts c b [] e h = (or_from _ _ e refl, tt)
onto_parts c b (p ∷ ps) e h = (or_from _ _ e h.0, h.1)

parts_by : (c b : ℕ) (bs : List ℕ) (t : Bool) → nat_eq b c ≡ t → AllByRecursion (IsPart c) (cut_at c bs) → AllByRecursion (IsPart c) (cut_at c (b ∷ bs))
parts_by c b bs true e h = rw e (refl, h)
parts_by c b bs false e h = rw e (onto_parts c b (cut_at c bs) e h)

parts : (c : ℕ) (bs : List ℕ) → AllByRecursion (IsPart c) (cut_at c bs)
parts c [] = (refl, tt)
parts c (b ∷ bs) = parts_by c b bs (nat_eq b c) refl (parts c bs)

-- ---- lines are counted

line_count-append : (xs ys : List Session) → line_count (xs ++ ys) ≡ line_count xs + line_count ys
line_count-append [] ys = omega arith
line_count-append (x ∷ xs) ys = omega (arith, line_count-append xs ys)

count_line : (ss : List Session) (e : Event) → 0 < length ss → line_count (with_line ss e) ≡ line_count ss + 1
count_line ss e some =
    let p = parted ss (λ z. omega (arith, z, some)) in
    let new : line_count (with_line ss e) ≡ line_count (p.0 ++ longer p.1 e ∷ []) = ap (λ (ts : List Session). line_count (with_line ts e)) p.2 ∙ ap line_count (with_line-last p.0 p.1 e) in
    let old : line_count ss ≡ line_count (p.0 ++ p.1 ∷ []) = ap line_count p.2 in
    omega (arith, new, old, line_count-append p.0 (longer p.1 e ∷ []), line_count-append p.0 (p.1 ∷ []), length-append {A = Event} p.1.lines (e ∷ []))

count_grown : (ss : List Session) (l : TextLine) → misplaced ss l ≡ None → line_count (grown ss l) ≡ line_count ss + 1
count_grown ss (Header l) h = omega (arith, line_count-append ss (record { label = l; lines = [] } ∷ []))
count_grown ss (Command e) h = count_line ss e (some_placed ss e h)

count_more : (ss more : List Session) (p : List ℕ) → with_bytes ss p ≡ Ok more → line_count more ≡ line_count ss + 1
count_more ss more p e =
    let l = bind_ok (line_of p) (λ l. unless (misplaced ss l) (grown ss l)) more e in
    let f = faultless (misplaced ss l.0) (grown ss l.0) more l.2 in
    ap line_count (sym f.1) ∙ count_grown ss l.0 f.0

-- ---- the first fault

same_err : {A : Type 0} (m n : ℕ) (j k : LineKind) → ◌≡◌ {A = Result A (ℕ × LineKind)} (Err (m, j)) (Err (n, k)) → (m ≡ n) × (j ≡ k)
same_err m n j k h =
    let same : ◌≡◌ {A = ℕ × LineKind} (m, j) (n, k) = cc in
    (ap (λ (p : ℕ × LineKind). p.0) same, ap (λ (p : ℕ × LineKind). p.1) same)

at_end : (p : List ℕ) (n : ℕ) (ss : List Session) (m : ℕ) (k : LineKind) (t : Bool) → nat_eq (length p) 0 ≡ t → IsText ss → n ≡ line_count ss + 1 → IsPart 10 p
    → ◌≡◌ {A = Read} (cond t (Ok ss) (Err (n, kind.End))) (Err (m, k)) → IsFirstFault (spelled_text ss ++ p) m k
at_end p n ss m k true e h count one r = cc
at_end p n ss m k false e h count one r =
    let same = same_err n m kind.End k r in
    let some : length p ≡ 0 → ⊥ = eqb-false (length p) 0 e in
    record {
      before = ss;
      text = h;
      counted = sym same.0 ∙ count;
      line = p;
      one_line = one;
      faulty = inl (refl, omega arith, sym same.1);
    }

-- the faulty line, and what comes behind it
in_line : (p : List ℕ) (rest : List ℕ) (n : ℕ) (ss : List Session) (j : LineKind) (m : ℕ) (k : LineKind) → IsText ss → n ≡ line_count ss + 1 → IsPart 10 p
    → with_bytes ss p ≡ Err j → (n ≡ m) × (j ≡ k) → IsFirstFault (spelled_text ss ++ (p ++ 10 ∷ rest)) m k
in_line p rest n ss j m k h count one bad same = record {
  before = ss;
  text = h;
  counted = sym same.0 ∙ count;
  line = p;
  one_line = one;
  faulty = inr (rest, sym (append_assoc (spelled_text ss) p (10 ∷ rest)), bad ∙ ap Err same.1);
}

-- a line that is read, or the fault
line_by : (p q : List ℕ) (ps : List (List ℕ)) (n : ℕ) (ss : List Session) (m : ℕ) (k : LineKind) (r : Result (List Session) LineKind)
    → ((more : List Session) → IsText more → n + 1 ≡ line_count more + 1 → read_from (n + 1) more (q ∷ ps) ≡ Err (m, k) → IsFirstFault (spelled_text more ++ join_with_byte 10 (q ∷ ps)) m k)
    → IsText ss → n ≡ line_count ss + 1 → IsPart 10 p → with_bytes ss p ≡ r
    → (at_line n r >>= λ more. read_from (n + 1) more (q ∷ ps)) ≡ Err (m, k) → IsFirstFault (spelled_text ss ++ join_with_byte 10 (p ∷ q ∷ ps)) m k
line_by p q ps n ss m k (Err j) next h count one bad e =
    in_line p (join_with_byte 10 (q ∷ ps)) n ss j m k h count one bad (same_err n m j k e)
line_by p q ps n ss m k (Ok more) next h count one good e =
    let line = with_bytes_reads ss more p h good in
    let bytes : spelled_text more ++ join_with_byte 10 (q ∷ ps) ≡ spelled_text ss ++ join_with_byte 10 (p ∷ q ∷ ps) =
    ap (λ bs. bs ++ join_with_byte 10 (q ∷ ps)) line.1
    ∙ append_assoc (spelled_text ss) (p ++ 10 ∷ []) (join_with_byte 10 (q ∷ ps))
    ∙ ap (λ bs. spelled_text ss ++ bs) (append_assoc p (10 ∷ []) (join_with_byte 10 (q ∷ ps))) in
    subst (λ (bs : List ℕ). IsFirstFault bs m k) bytes (next more line.0 (omega (arith, count, count_more ss more p good)) e)

fault_reads : (ps : List (List ℕ)) (n : ℕ) (ss : List Session) (m : ℕ) (k : LineKind) → IsText ss → n ≡ line_count ss + 1 → AllByRecursion (IsPart 10) ps
    → read_from n ss ps ≡ Err (m, k) → IsFirstFault (spelled_text ss ++ join_with_byte 10 ps) m k
fault_reads [] n ss m k h count one e = cc
fault_reads (p ∷ []) n ss m k h count one e = at_end p n ss m k (nat_eq (length p) 0) refl h count one.0 e
fault_reads (p ∷ q ∷ ps) n ss m k h count one e =
    line_by p q ps n ss m k (with_bytes ss p) (λ more kept c r. fault_reads (q ∷ ps) (n + 1) more m k kept c one.1 r) h count one.0 refl e

pub first_faults_told : FirstFaultsTold
first_faults_told bs n k e =
    subst (λ (cs : List ℕ). IsFirstFault cs n k) (joined_cut 10 bs) (fault_reads (cut_at 10 bs) 1 [] n k empty refl (parts 10 bs) e)
