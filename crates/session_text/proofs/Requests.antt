-- Requests: what is read is spelled so, and what is spelled so is read.
use Rattle.std.proofs.Common.{◌≡◌, ℕ, List, [], ◌∷◌, ◌++◌, length, true, false, Bool, cond, not, nat_eq, Ok, Err, Option, Some, refl, ap, ap₂, ◌∙◌, subst, arith, length-append}
use Rattle.std.specs.Option.{ok_or}
use Rattle.std.specs.List.{list_all}
use Rattle.std.proofs.lemmas.Bool.{and_parts, not-true, eq-eqb, eqb-true, ne_eqb}
use Rattle.line_language.specs.Printing.{spelled_event}
use Rattle.serial_spec.specs.declared.event.Event.{Event}
use Rattle.serial_spec.specs.declared.event.Event.TheVariants.{Begin, Access, Sum, Commit, Abort, After}
use Rattle.line_language.specs.declared.fault.LineKind.TheVariants as kind
use Rattle.line_language.specs.Commands.{event_of}
use Rattle.line_language.specs.Events.{IsEvent}
use Rattle.session_text.specs.Requests.{unconditional, request_by, request_of, IsRequest, RequestsReadBack}
use Rattle.line_language.specs.Steps.{◌>>=◌}
use Rattle.line_language.specs.Commands.{label_in}
use Rattle.line_language.specs.Words.{before, behind}
use Rattle.line_language.proofs.Exports.{Lacks, bind_ok, ok_or_ok, same_ok, pick, not_word, label_reads, label_again, event_reads, space, label_lacks, event_again}

-- ---- what stands before a byte and behind it

rejoined_by : (c b : ℕ) (bs rest : List ℕ) (t : Bool) → nat_eq b c ≡ t → cond t (Some bs) (behind c bs) ≡ Some rest
    → (behind c bs ≡ Some rest → bs ≡ before c bs ++ c ∷ rest) → b ∷ bs ≡ before c (b ∷ bs) ++ c ∷ rest
rejoined_by c b bs rest true e h more =
    let same : bs ≡ rest = cc in
    rw e (ap₂ (λ x xs. x ∷ xs) (eqb-true b c e) same)
rejoined_by c b bs rest false e h more = rw e (ap (λ xs. b ∷ xs) (more h))

rejoined : (c : ℕ) (bs rest : List ℕ) → behind c bs ≡ Some rest → bs ≡ before c bs ++ c ∷ rest
rejoined c [] rest h = cc
rejoined c (b ∷ bs) rest h = rejoined_by c b bs rest (nat_eq b c) refl h (rejoined c bs rest)

parts_again : (c : ℕ) (w rest : List ℕ) → Lacks c w → (before c (w ++ c ∷ rest) ≡ w) × (behind c (w ++ c ∷ rest) ≡ Some rest)
parts_again c [] rest h = rw (eq-eqb c c refl) (refl, refl)
parts_again c (b ∷ w) rest h =
    let p = and_parts (not (nat_eq b c)) (list_all (λ b. not (nat_eq b c)) w) h in
    let more = parts_again c w rest p.1 in
    rw (not-true (nat_eq b c) p.0) (ap (λ xs. b ∷ xs) more.0, more.1)

-- ---- what is read

asked_same : (d e : Event) → unconditional d ≡ Ok e → (d ≡ e) × (unconditional e ≡ Ok e)
asked_same d e h = (same d h, subst (λ (x : Event). unconditional x ≡ Ok e) (same d h) h)
  where
    same : (x : Event) → unconditional x ≡ Ok e → x ≡ e
    same (Begin n) h = same_ok _ e h
    same (Access n k o) h = same_ok _ e h
    same (Sum n g) h = same_ok _ e h
    same (Commit n) h = same_ok _ e h
    same (Abort n) h = same_ok _ e h
    same (After n t) h = not_word kind.Word e h

reads_by : (w : List ℕ) (left : Option (List ℕ)) (bs l : List ℕ) (e : Event) → ((rest : List ℕ) → left ≡ Some rest → bs ≡ w ++ 32 ∷ rest)
    → request_by w left ≡ Ok (l, e) → IsRequest bs l e
reads_by w left bs l e joined h =
    let a = bind_ok (label_in w) (λ l. ok_or left kind.Shape >>= λ text. event_of text >>= λ e. unconditional e >>= λ asked. Ok (l, asked)) (l, e) h in
    let b = bind_ok (ok_or left kind.Shape) (λ text. event_of text >>= λ e. unconditional e >>= λ asked. Ok (a.0, asked)) (l, e) a.2 in
    let d = bind_ok (event_of b.0) (λ e. unconditional e >>= λ asked. Ok (a.0, asked)) (l, e) b.2 in
    let u = bind_ok (unconditional d.0) (λ asked. Ok (a.0, asked)) (l, e) d.2 in
    let same : (a.0, u.0) ≡ (l, e) = same_ok (a.0, u.0) (l, e) u.2 in
    let label = label_reads w a.0 a.1 in
    let event = event_reads b.0 d.0 d.1 in
    let asked = asked_same d.0 u.0 u.1 in
    subst (λ (q : List ℕ × Event). IsRequest bs q.0 q.1) same (record {
      label = label.0;
      event = subst IsEvent asked.0 event.0;
      asked = asked.1;
      spelled = joined b.0 (ok_or_ok left kind.Shape b.0 b.1)
          ∙ ap₂ (λ (x y : List ℕ). x ++ 32 ∷ y) label.1 (event.1 ∙ ap spelled_event asked.0);
    })

request_reads : (bs l : List ℕ) (e : Event) → request_of bs ≡ Ok (l, e) → IsRequest bs l e
request_reads bs l e h =
    pick (nat_eq (length bs) 0) (Err kind.Empty) (request_by (before 32 bs) (behind 32 bs)) (Ok (l, e)) h
    (λ _ no. not_word kind.Empty (l, e) no)
    (λ _ r. reads_by (before 32 bs) (behind 32 bs) bs l e (rejoined 32 bs) r)

-- ---- what is spelled

request_again : (bs l : List ℕ) (e : Event) → IsRequest bs l e → request_of bs ≡ Ok (l, e)
request_again bs l e h =
    let text : List ℕ = spelled_event e in
    let line : List ℕ = l ++ 32 ∷ text in
    let some : nat_eq (length line) 0 ≡ false = ne_eqb (length line) 0 (λ z. omega (arith, z, length-append l (32 ∷ text))) in
    let parts = parts_again 32 l text (label_lacks 32 space l h.label.plain) in
    ap request_of h.spelled
    ∙ rw (some, parts.0, parts.1, label_again l h.label, event_again e h.event, h.asked) refl

pub requests_read_back : RequestsReadBack
requests_read_back bs l e = (request_reads bs l e, request_again bs l e)
