-- The lines of a text: what is read is spelled so, and what is spelled so is read.
use Rattle.std.proofs.Common.{◌≡◌, ℕ, ◌≤◌, List, [], ◌∷◌, ◌++◌, length, false, cond, Ok, refl, sym, ap, ap₂, ◌∙◌, subst, arith}
use Rattle.std.specs.Prelude.{codes}
use Rattle.std.specs.List.{join_with_byte}
use Rattle.std.specs.Str.{bytes_eq}
use Rattle.std.proofs.lemmas.Bool.{false_from_ne_true}
use Rattle.std.proofs.lemmas.Slice.Eq.{bytes_eq-Decides}
use Rattle.txn_names.specs.Text.{IsLabel}
use Rattle.line_language.specs.Printing.{spelled_event}
use Rattle.line_language.specs.declared.lengths.TheConstants.{MOST_WORD}
use Rattle.line_language.specs.Verbs.{operand, word}
use Rattle.line_language.proofs.Exports.{word_length, Lacks, Lacks-append, cut_lacking, cut_behind, joined_cut, bind_ok, same_ok, pick, not_word, is_word, one_reads, label_reads, label_again, event_reads, access_operands, words_of, space, line_feed, label_lacks, cut_event, event_again, event_lacks}
use Rattle.serial_spec.specs.declared.event.Event.{Event}
use Rattle.serial_spec.specs.declared.event.Event.TheVariants.{Begin, Access, Sum, Commit, Abort, After}
use Rattle.line_language.specs.declared.fault.LineKind.TheVariants as kind
use Rattle.session_text.specs.Texts.{TextLine, Header, Command}
use Rattle.line_language.specs.Commands.{Words, one, event_of}
use Rattle.line_language.specs.Events.{IsEvent}
use Rattle.line_language.specs.Steps.{◌>>=◌}
use Rattle.session_text.specs.Texts.{IsTextLine, labelled, header_of, line_by, line_of}
use Rattle.line_language.specs.Commands.{label_in}
use Rattle.line_language.specs.Words.{cut_at}

abbrev pub spelled_line : TextLine → List ℕ
spelled_line (Header l) = codes "session " ++ l
spelled_line (Command e) = spelled_event e

-- ---- what is read

pub labelled_reads : (ws : Words) (l : List ℕ) → labelled ws ≡ Ok l → IsLabel l × (ws ≡ l ∷ [])
labelled_reads ws l h =
    let w = bind_ok (one ws) label_in l h in
    let r = label_reads w.0 l w.2 in
    (r.0, one_reads ws w.0 w.1 ∙ ap (λ v. v ∷ []) r.1)

abbrev Spells : List ℕ → TextLine → Type 0
Spells bs l = IsTextLine l × (bs ≡ spelled_line l)

header_reads : (w : List ℕ) (ws : Words) (bs : List ℕ) (l : TextLine) → bs ≡ join_with_byte 32 (w ∷ ws) → w ≡ codes "session" → header_of ws ≡ Ok l → Spells bs l
header_reads w ws bs l cut is h =
    let x = bind_ok (labelled ws) (λ x. Ok (Header x)) l h in
    let r = labelled_reads ws x.0 x.1 in
    subst (Spells bs) (same_ok _ l x.2) (r.0, cut ∙ ap (join_with_byte 32) (ap₂ (λ v vs. v ∷ vs) is r.1))

command_reads : (bs : List ℕ) (l : TextLine) → (event_of bs >>= λ e. Ok (Command e)) ≡ Ok l → Spells bs l
command_reads bs l h =
    let e = bind_ok (event_of bs) (λ e. Ok (Command e)) l h in
    subst (Spells bs) (same_ok _ l e.2) (event_reads bs e.0 e.1)

reads_by : (ws : Words) (bs : List ℕ) (l : TextLine) → bs ≡ join_with_byte 32 ws → line_by ws bs ≡ Ok l → Spells bs l
reads_by [] bs l cut h = not_word kind.Word l h
reads_by (w ∷ ws) bs l cut h =
    pick (bytes_eq w (codes "session")) (header_of ws) (event_of bs >>= λ e. Ok (Command e)) (Ok l) h
    (λ t r. header_reads w ws bs l cut (is_word w _ t) r)
    (λ _ r. command_reads bs l r)

pub line_reads : (bs : List ℕ) (l : TextLine) → line_of bs ≡ Ok l → Spells bs l
line_reads bs l h = reads_by (cut_at 32 bs) bs l (sym (joined_cut 32 bs)) h

-- ---- what is spelled

header_again : (l : List ℕ) → IsLabel l → line_of (codes "session " ++ l) ≡ Ok (Header l)
header_again l h =
    let cut : cut_at 32 (codes "session " ++ l) ≡ codes "session" ∷ l ∷ [] =
    cut_behind 32 (codes "session") l refl ∙ ap (λ ws. codes "session" ∷ ws) (cut_lacking 32 l (label_lacks 32 space l h.plain)) in
    ap (λ ws. line_by ws (codes "session " ++ l)) cut ∙ ap (λ r. r >>= λ x. Ok (Header x)) (label_again l h)

no_header : (w : List ℕ) → length w ≤ MOST_WORD → bytes_eq w (codes "session") ≡ false
no_header w short = false_from_ne_true _ (λ e. let same = ap (λ (xs : List ℕ). length xs) ((bytes_eq-Decides w (codes "session")).0 e) in omega (arith, short, same))

-- the first word of a command is not a header's
by_words : (e : Event) (bs : List ℕ) → line_by (words_of e) bs ≡ (event_of bs >>= λ d. Ok (Command d))
by_words (Begin n) bs = refl
by_words (Access n k o) bs = ap (λ b. cond b (header_of (access_operands n k (operand o))) (event_of bs >>= λ d. Ok (Command d))) (no_header (word o) (word_length o))
by_words (Sum n g) bs = refl
by_words (Commit n) bs = refl
by_words (Abort n) bs = refl
by_words (After n t) bs = refl

command_again : (e : Event) → IsEvent e → line_of (spelled_event e) ≡ Ok (Command e)
command_again e h =
    ap (λ ws. line_by ws (spelled_event e)) (cut_event e h)
    ∙ by_words e (spelled_event e)
    ∙ ap (λ r. r >>= λ d. Ok (Command d)) (event_again e h)

pub line_again : (l : TextLine) → IsTextLine l → line_of (spelled_line l) ≡ Ok l
line_again (Header l) h = header_again l h
line_again (Command e) h = command_again e h

pub line_lacks : (l : TextLine) → IsTextLine l → Lacks 10 (spelled_line l)
line_lacks (Header l) h = Lacks-append 10 (codes "session ") l refl (label_lacks 10 line_feed l h.plain)
line_lacks (Command e) h = event_lacks e h
