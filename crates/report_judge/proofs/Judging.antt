-- What is judged, some bytes later.
use Rattle.std.proofs.Common.{◌≡◌, ◌≢◌, inl, inr, ℕ, ◌+◌, ◌<◌, Bool, true, false, not, cond, ◌&&◌, List, [], ◌∷◌, ◌++◌, length, Option, Some, None, Result, Ok, Err, refl, sym, ap, subst, ◌∙◌, true≢false, arith, append_assoc, length-append}
use Rattle.std.specs.Prelude.{◌==◌, OnOk}
use Rattle.std.proofs.lemmas.Bool.{and_parts, eqb-true}
use Rattle.std.specs.Io.KnownBytes.{Consumes, IsAtEnd}
use Rattle.std.proofs.KnownBytes.{Consumes-trans}
use Rattle.txn_bytes.specs.Sources.{HasGiven, Reader}
use Rattle.txn_bytes.proofs.Exports.{given_more}
use Rattle.line_language.specs.Words.{cut_at}
use Rattle.line_language.proofs.Exports.{Lacks-append, cut_behind, cut_lacking}
use Rattle.report_check.specs.Passing.{Read, Part, Start, Opening, Entries, Final, Ended, has_ended, next, read, read_from, unread}
use Rattle.report_check.specs.Verdicts.{HasVerdict, IsJudged, IsRun, first_wrong}
use Rattle.report_check.specs.declared.verdict.Verdict.{Verdict}
use Rattle.report_check.specs.declared.verdict.Verdict.TheVariants.{No, Yes}
use Rattle.report_judge.specs.Judging.{AreLines, GoesFrom, IsDue, IsLine, IsReport, IsSettled, IsVerdictOn, Stands, WantsMore, is_over}
use Rattle.report_judge.specs.Kept.{IsSeen, Steps, line_of, part_of}
use Rattle.report_judge.specs.declared.lines.Judge.{Judge}
use Rattle.report_judge.specs.declared.lines.Standing.{Standing}
use Rattle.report_judge.specs.declared.seen.Seen.{Seen}
use Rattle.report_judge.proofs.Lining.{line_faulty, line_read, long_faulty, next_line, read_last}

-- bytes that are told apart otherwise
moved : (bs cs rest : List ℕ) → read ((bs ++ cs) ++ rest) ≡ read (bs ++ (cs ++ rest))
moved bs cs rest = ap read (append_assoc bs cs rest)

-- ---- the lines that have ended

lines_ended : (bs p : List ℕ) (line : ℕ) → IsLine p → AreLines bs p line → AreLines (bs ++ 10 ∷ []) [] (line + 1)
lines_ended bs p line whole a = record {
  ended = a.ended ++ p ∷ [];
  cut = λ rest. ap (cut_at 10) (append_assoc bs (10 ∷ []) rest) ∙ a.cut (10 ∷ rest) ∙ ap (λ (ps : List (List ℕ)). a.ended ++ ps) (cut_behind 10 p rest whole)
      ∙ sym (append_assoc a.ended (p ∷ []) (cut_at 10 rest));
  count = omega (arith, a.count, length-append a.ended (p ∷ []));
}

lines_kept : (bs p cs : List ℕ) (line : ℕ) → AreLines bs p line → AreLines (bs ++ cs) (p ++ cs) line
lines_kept bs p cs line a = record {
  ended = a.ended;
  cut = λ rest. ap (cut_at 10) (append_assoc bs cs rest) ∙ a.cut (cs ++ rest) ∙ ap (λ (xs : List ℕ). a.ended ++ cut_at 10 xs) (sym (append_assoc p cs rest));
  count = a.count;
}

-- ---- a line has ended

pub faulty_stays : (bs cs p q : List ℕ) (line : ℕ) (s z : Seen) → GoesFrom bs p line s true → GoesFrom (bs ++ cs) q line z true
faulty_stays bs cs p q line s z due rest = moved bs cs rest ∙ due (cs ++ rest)

pub line_ended : (bs p : List ℕ) (line : ℕ) (s z : Seen) → IsLine p → GoesFrom bs p line s false → ((r : Read) → IsSeen r s → line ≡ line_of r → Steps true (next r p) z)
    → GoesFrom (bs ++ 10 ∷ []) [] (line + 1) z false
line_ended bs p line s z whole due takes = by (next due.0 p) refl (takes due.0 due.1 due.2)
  where
    r : Read
    r = due.0

    by : (o : Option Read) → next due.0 p ≡ o → Steps true o z → GoesFrom (bs ++ 10 ∷ []) [] (line + 1) z false
    by None e steps = absurd steps
    by (Some x) e steps = (
      x,
      steps,
      ap (λ n. n + 1) due.2 ∙ sym (next_line due.0 x p e),
      λ rest. moved bs (10 ∷ []) rest ∙ due.3 (10 ∷ rest) ∙ line_read line due.0 x p rest whole e,
      lines_ended bs p line whole due.4,
    )

pub line_refused : (bs p : List ℕ) (line : ℕ) (s z : Seen) → IsLine p → GoesFrom bs p line s false → ((r : Read) → IsSeen r s → line ≡ line_of r → Steps false (next r p) z)
    → GoesFrom (bs ++ 10 ∷ []) [] line z true
line_refused bs p line s z whole due takes rest = moved bs (10 ∷ []) rest ∙ due.3 (10 ∷ rest) ∙ line_faulty line due.0 p rest whole (takes due.0 due.1 due.2)

-- ---- bytes of a line that has not ended

pub bytes_kept : (bs p cs : List ℕ) (line : ℕ) (s : Seen) (b : Bool) → GoesFrom bs p line s b → GoesFrom (bs ++ cs) (p ++ cs) line s b
bytes_kept bs p cs line s true due = faulty_stays bs cs p (p ++ cs) line s s due
bytes_kept bs p cs line s false due = (
  due.0,
  due.1,
  due.2,
  λ rest. moved bs cs rest ∙ due.3 (cs ++ rest) ∙ ap (λ xs. read_from line due.0 (cut_at 10 xs)) (sym (append_assoc p cs rest)),
  lines_kept bs p cs line due.4,
)

pub bytes_long : (bs p cs q : List ℕ) (line : ℕ) (s z : Seen) (b : Bool) → IsLine p → IsLine cs → 633 < length p + length cs → GoesFrom bs p line s b → GoesFrom (bs ++ cs) q line z true
bytes_long bs p cs q line s z true whole more long due = faulty_stays bs cs p q line s z due
bytes_long bs p cs q line s z false whole more long due = λ rest.
    moved bs cs rest ∙ due.3 (cs ++ rest) ∙ ap (λ xs. read_from line due.0 (cut_at 10 xs)) (sym (append_assoc p cs rest))
    ∙ long_faulty line due.0 (p ++ cs) rest (Lacks-append 10 p cs whole more) (omega (arith, long, length-append p cs))

-- ---- the end

append_none : (xs : List ℕ) → xs ++ [] ≡ xs
append_none [] = refl
append_none (x ∷ xs) = ap (λ ys. x ∷ ys) (append_none xs)

-- the report has ended, with what is seen
pub record IsEnded (bs : List ℕ) (j : Judge) : Type 0 where
  pub last : Read
  pub seen : IsSeen last j.standing.seen
  pub ended : last.part ≡ Ended
  pub line : j.standing.line ≡ line_of last
  pub reads : read bs ≡ Ok last

was_ended : (p : Part) → has_ended p ≡ true → p ≡ Ended
was_ended Start e = absurd (true≢false (sym e))
was_ended Opening e = absurd (true≢false (sym e))
was_ended Entries e = absurd (true≢false (sym e))
was_ended Final e = absurd (true≢false (sym e))
was_ended Ended e = refl

same_line : (m n : ℕ) → ◌≡◌ {A = Result Read ℕ} (Err m) (Err n) → m ≡ n
same_line m n e = cc

-- the verdict, by what reading gives
pub judged_faulty : (bs : List ℕ) (n : ℕ) → read bs ≡ Err n → HasVerdict bs (No n)
judged_faulty bs n reads = subst (λ (j : Result Read ℕ). IsJudged j (No n)) (sym reads) refl

pub judged_whole : (bs : List ℕ) (r : Read) (v : Verdict) → read bs ≡ Ok r → IsRun r (first_wrong r) v → HasVerdict bs v
judged_whole bs r v reads run = subst (λ (j : Result Read ℕ). IsJudged j v) (sym reads) run

module _ (bs : List ℕ) (j : Judge) (stands : Stands bs j) where
  abbrev p : List ℕ
  p = j.kept

  reads_last : (r : Read) → ((rest : List ℕ) → read (bs ++ rest) ≡ read_from j.standing.line r (cut_at 10 (p ++ rest)))
      → read bs ≡ cond (length p == 0 && has_ended r.part) (Ok r) (Err j.standing.line)
  reads_last r due = ap read (sym (append_none bs)) ∙ due [] ∙ read_last j.standing.line r p stands.line

  pub over : is_over j.standing.faulty p (part_of j.standing.seen.part) ≡ true → IsEnded bs j
  over is = by j.standing.faulty stands.due (and_parts (not j.standing.faulty) (length p == 0 && has_ended (part_of j.standing.seen.part)) is)
    where
      by : (b : Bool) → GoesFrom bs p j.standing.line j.standing.seen b → (not b ≡ true) × ((length p == 0 && has_ended (part_of j.standing.seen.part)) ≡ true) → IsEnded bs j
      by true due both = absurd (true≢false (sym both.0))
      by false due both =
          let parts = and_parts (length p == 0) (has_ended (part_of j.standing.seen.part)) both.1 in
          let same : (length p == 0 && has_ended due.0.part) ≡ true = ap (λ q. length p == 0 && has_ended q) (sym due.1.part) ∙ both.1 in
          record {
            last = due.0;
            seen = due.1;
            ended = was_ended due.0.part (ap has_ended (sym due.1.part) ∙ parts.1);
            line = due.2;
            reads = reads_last due.0 due.3 ∙ ap (λ b. cond b (Ok due.0) (Err j.standing.line)) same;
          }

  pub not_over : is_over j.standing.faulty p (part_of j.standing.seen.part) ≡ false → read bs ≡ Err j.standing.line
  not_over is = by j.standing.faulty stands.due is
    where
      by : (b : Bool) → GoesFrom bs p j.standing.line j.standing.seen b → is_over b p (part_of j.standing.seen.part) ≡ false → read bs ≡ Err j.standing.line
      by true due is = ap read (sym (append_none bs)) ∙ due []
      by false due is =
          let same : (length p == 0 && has_ended due.0.part) ≡ false = ap (λ q. length p == 0 && has_ended q) (sym due.1.part) ∙ is in
          reads_last due.0 due.3 ∙ ap (λ b. cond b (Ok due.0) (Err j.standing.line)) same

  -- the first fault is no line that has ended
  pub open_still : j.standing.faulty ≡ false → WantsMore bs
  open_still is = by (subst (λ (b : Bool). GoesFrom bs p j.standing.line j.standing.seen b) is stands.due)
    where
      by : GoesFrom bs p j.standing.line j.standing.seen false → WantsMore bs
      by due = record {
        ended = due.4.ended;
        part = p;
        lines = ap (cut_at 10) (sym (append_none bs)) ∙ due.4.cut [] ∙ ap (λ (xs : List ℕ). due.4.ended ++ cut_at 10 xs) (append_none p)
            ∙ ap (λ (ps : List (List ℕ)). due.4.ended ++ ps) (cut_lacking 10 p stands.line);
        right = λ n e. last (length p == 0 && has_ended due.0.part) n (sym (reads_last due.0 due.3) ∙ e);
        short = stands.short;
      }
        where
          last : (b : Bool) (n : ℕ) → cond b (Ok due.0) (Err j.standing.line) ≡ Err n → length due.4.ended < n
          last true n e = absurd (cc)
          last false n e = omega (arith, same_line j.standing.line n e, due.4.count)

  -- whatever follows
  pub settled_so : j.standing.faulty ≡ true → IsSettled bs (No j.standing.line)
  settled_so is rest =
      judged_faulty (bs ++ rest) j.standing.line
      (subst (λ (b : Bool). GoesFrom bs p j.standing.line j.standing.seen b) is stands.due rest)

-- nothing has come yet
pub wants_first : WantsMore []
wants_first = record {
  ended = [];
  part = [];
  lines = refl;
  right = λ n e. omega (arith, same_line 1 n e);
  short = omega arith;
}

-- ---- how much was read

module _ {R : Type 0} (r : Reader R) (n : ℕ) (old mid new : R) (bytes piece : List ℕ) (v : Verdict) (few : n < 134217728) (given : HasGiven r WantsMore n old mid bytes) (wanted : WantsMore bytes)
    (taken : Consumes (r.remaining old) (r.remaining mid) bytes) (last : r.gives mid new (Ok piece)) (more : Consumes (r.remaining mid) (r.remaining new) piece) where
  -- the reader came to its end
  pub verdict_whole : piece ≡ [] → IsAtEnd (r.remaining new) → HasVerdict bytes v → IsVerdictOn r old new v
  verdict_whole none ended verdict = inl (record {
    bytes = bytes;
    whole = record { calls = n; few = few; before = mid; given = given; wanted = wanted; ended = subst (λ (ys : List ℕ). r.gives mid new (Ok ys)) none last };
    taken = subst (λ (ys : List ℕ). Consumes (r.remaining old) (r.remaining new) ys) (ap (λ (ys : List ℕ). bytes ++ ys) none ∙ append_none bytes) (Consumes-trans _ _ _ _ _ taken more);
    ended = ended;
    verdict = verdict;
  })

  -- and what was kept of it is a report
  pub report_whole : piece ≡ [] → IsAtEnd (r.remaining new) → HasVerdict bytes v → v ≡ Yes → {kept : List ℕ} → kept ≡ bytes → IsReport r old new kept
  report_whole none ended verdict is {kept} same = subst (λ (ys : List ℕ). IsReport r old new ys) (sym same) (record {
    whole = record { calls = n; few = few; before = mid; given = given; wanted = wanted; ended = subst (λ (ys : List ℕ). r.gives mid new (Ok ys)) none last };
    taken = subst (λ (ys : List ℕ). Consumes (r.remaining old) (r.remaining new) ys) (ap (λ (ys : List ℕ). bytes ++ ys) none ∙ append_none bytes) (Consumes-trans _ _ _ _ _ taken more);
    ended = ended;
    verdict = subst (λ (w : Verdict). HasVerdict bytes w) is verdict;
  })

  -- what it gave settled the verdict
  pub verdict_early : piece ≢ [] → IsSettled (bytes ++ piece) v → IsVerdictOn r old new v
  verdict_early some settled = inr (record {
    calls = n + 1;
    few = omega (arith, few);
    bytes = bytes ++ piece;
    given = given_more r WantsMore n old mid new bytes piece given wanted last some;
    taken = Consumes-trans _ _ _ _ _ taken more;
    settled = settled;
  })

-- what is kept has the next bytes behind it
pub kept_more : (old new bytes piece : List ℕ) → new ≡ old ++ piece → old ≡ bytes → new ≡ bytes ++ piece
kept_more old new bytes piece more same = more ∙ ap (λ (xs : List ℕ). xs ++ piece) same

-- ---- a bytes' worth of steps

pub on_ok_map : {A E : Type 0} (r : Result A E) (P Q : Type 0) → OnOk r P → (P → Q) → OnOk r Q
on_ok_map (Ok v) P Q h f = f h
on_ok_map (Err e) P Q h f = tt

pub first_stands : (s : Seen) → IsSeen unread s → GoesFrom [] [] 1 s false
first_stands s seen = (unread, seen, refl, λ rest. refl, record { ended = []; cut = λ rest. refl; count = refl })

pub no_bytes : (xs : List ℕ) → (length xs == 0) ≡ true → xs ≡ []
no_bytes [] e = refl
no_bytes (x ∷ xs) e = let none = eqb-true (length (x ∷ xs)) 0 e in absurd (omega (arith, none))

-- the end of a line that is not kept
pub ended_apart : (bs bytes kept : List ℕ) (x y : Standing) → kept ≡ [] → IsDue bs kept x → (IsDue (bs ++ bytes) bytes x → IsDue ((bs ++ bytes) ++ 10 ∷ []) [] y) → IsDue (bs ++ (bytes ++ 10 ∷ [])) kept y
ended_apart bs bytes kept x y none due takes =
    let more : IsDue (bs ++ bytes) bytes x = subst (λ (p : List ℕ). GoesFrom (bs ++ bytes) (p ++ bytes) x.line x.seen x.faulty) none (bytes_kept bs kept bytes x.line x.seen x.faulty due) in
    subst (λ (cs : List ℕ). GoesFrom cs kept y.line y.seen y.faulty) (append_assoc bs bytes (10 ∷ []))
    (subst (λ (p : List ℕ). GoesFrom ((bs ++ bytes) ++ 10 ∷ []) p y.line y.seen y.faulty) (sym none) (takes more))

-- ---- bytes line by line

-- so much has been taken of the bytes that were handed over
pub record IsUnderWay (bs all rest : List ℕ) (j : Judge) : Type 0 where
  pub taken : List ℕ
  pub is : all ≡ taken ++ rest
  pub stands : Stands (bs ++ taken) j

pub way_first : (bs all : List ℕ) (j : Judge) → Stands bs j → IsUnderWay bs all all j
way_first bs all j stands = record { taken = []; is = refl; stands = subst (λ (xs : List ℕ). Stands xs j) (sym (append_none bs)) stands }

pub way_next : (bs all rest line behind : List ℕ) (j k : Judge) → IsUnderWay bs all rest j → rest ≡ line ++ 10 ∷ behind
    → ((cs : List ℕ) → Stands cs j → Stands (cs ++ (line ++ 10 ∷ [])) k) → IsUnderWay bs all behind k
way_next bs all rest line behind j k u cut takes = record {
  taken = u.taken ++ (line ++ 10 ∷ []);
  is = u.is ∙ ap (λ xs. u.taken ++ xs) (cut ∙ sym (append_assoc line (10 ∷ []) behind)) ∙ sym (append_assoc u.taken (line ++ 10 ∷ []) behind);
  stands = subst (λ (xs : List ℕ). Stands xs k) (append_assoc bs u.taken (line ++ 10 ∷ [])) (takes (bs ++ u.taken) u.stands);
}

pub way_last : (bs all rest : List ℕ) (j k : Judge) → IsUnderWay bs all rest j → ((cs : List ℕ) → Stands cs j → Stands (cs ++ rest) k) → Stands (bs ++ all) k
way_last bs all rest j k u takes =
    subst (λ (xs : List ℕ). Stands xs k) (append_assoc bs u.taken rest ∙ ap (λ xs. bs ++ xs) (sym u.is)) (takes (bs ++ u.taken) u.stands)
