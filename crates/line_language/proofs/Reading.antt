-- Commands read from their words, and their words spelled again.
use Rattle.std.proofs.Common.{◌≡◌, ℕ, ℤ, pos, List, [], ◌∷◌, length, true, false, Bool, cond, not, nat_eq, nat_lt, Result, Ok, Err, Option, Some, None, refl, sym, ap, ap₂, ◌∙◌, subst, arith, append_assoc}
use Rattle.std.specs.Prelude.{◌++◌, codes, IfSome, IsTrue}
use Rattle.std.specs.List.{list_all, join_with_byte}
use Rattle.std.specs.Option.{ok_or}
use Rattle.std.specs.Str.{bytes_eq}
use Rattle.std.proofs.lemmas.Bool.{eqb-false, ltb-false, ne_eqb, le-ltb}
use Rattle.std.proofs.lemmas.Slice.Eq.{bytes_eq-Decides}
use Rattle.txn_names.specs.Path.{Path}
use Rattle.txn_names.specs.Groups.{IsGroup, group_of}
use Rattle.txn_names.specs.Text.{IsName, IsKey, IsLabel, is_key_byte, is_label_byte, spelled_name}
use Rattle.txn_names.specs.Reading.{name_of, key_of, label_of}
use Rattle.txn_names.specs.declared.key.KeyFault.TheVariants as key
use Rattle.txn_names.specs.declared.label.LabelFault.TheVariants as label
use Rattle.txn_names.proofs.Exports.{name_of-spelled, read_is_name}
use Rattle.serial_spec.specs.Operations.{is_i64}
use Rattle.line_language.specs.Printing.{spelled_event, spelled_number, spelled_when, with_number}
use Rattle.line_language.specs.Verbs.{IsOp, operand, operation_of, with_operand, word}
use Rattle.serial_spec.specs.declared.operation.Op.{Op}
use Rattle.serial_spec.specs.declared.event.When.{When}
use Rattle.serial_spec.specs.declared.event.When.TheVariants.{Begun, Done}
use Rattle.serial_spec.specs.declared.event.Event.{Event}
use Rattle.serial_spec.specs.declared.event.Event.TheVariants.{Begin, Access, Sum, Commit, Abort, After}
use Rattle.line_language.specs.declared.fault.LineKind.{LineKind}
use Rattle.line_language.specs.declared.fault.LineKind.TheVariants as kind
use Rattle.line_language.specs.Commands.{Words, one, two, three, name_in, key_in, group_in, number_in, when_in, named, keyed, grouped, valued, timed, begin_of, access_by, access_of, by_operation, other_of, sum_of, commit_of, abort_of, after_of, command_of, event_of}
use Rattle.line_language.specs.Events.{IsEvent}
use Rattle.line_language.specs.Numbers.{number_of}
use Rattle.line_language.specs.Steps.{◌>>=◌, or_fault}
use Rattle.line_language.specs.Commands.{label_in}
use Rattle.line_language.specs.Words.{cut_at}
use Rattle.line_language.proofs.Bytes.{cut_some, joined_cut}
use Rattle.line_language.proofs.Numerals.{number_reads, number_again}
use Rattle.line_language.proofs.Operations.{operand_with, with_again, with_none, word_again, word_reads, word_with}

-- two words or more are not one
pub one-more : (bs w rest : List ℕ) → cut_at 32 bs ≡ w ∷ cut_at 32 rest → one (cut_at 32 bs) ≡ Err kind.Shape
one-more bs w rest e = let s = cut_some 32 rest in ap one (e ∙ ap (λ ws. w ∷ ws) s.2)

-- ---- steps

pub bind_ok : {A B E : Type 0} (r : Result A E) (f : A → Result B E) (y : B) → (r >>= f) ≡ Ok y → (x : A) × (r ≡ Ok x) × (f x ≡ Ok y)
bind_ok (Ok x) f y h = (x, refl, h)
bind_ok (Err e) f y h = cc

pub or_fault_ok : {A D E : Type 0} (e : E) (r : Result A D) (x : A) → or_fault e r ≡ Ok x → r ≡ Ok x
or_fault_ok e (Ok y) x h = cc
or_fault_ok e (Err d) x h = cc

pub ok_or_ok : {A E : Type 0} (o : Option A) (e : E) (x : A) → ok_or o e ≡ Ok x → o ≡ Some x
ok_or_ok (Some y) e x h = cc
ok_or_ok None e x h = cc

pub same_ok : {A : Type 0} (x y : A) → ◌≡◌ {A = Result A LineKind} (Ok x) (Ok y) → x ≡ y
same_ok x y h = cc

-- which way a test went
pub pick : {A P : Type 0} (b : Bool) (x y z : A) → cond b x y ≡ z → (b ≡ true → x ≡ z → P) → (b ≡ false → y ≡ z → P) → P
pick true x y z h f g = f refl h
pick false x y z h f g = g refl h

-- ---- each operand: what is read is spelled so, and what is spelled so is read

pub name_reads : (w : List ℕ) (n : Path) → name_in w ≡ Ok n → IsName n × (w ≡ spelled_name n)
name_reads w n h = read_is_name w n (or_fault_ok kind.Name (name_of w) n h)

name_again : (n : Path) → IsName n → name_in (spelled_name n) ≡ Ok n
name_again n h = ap (or_fault kind.Name) (name_of-spelled n h)

-- the tests that a key, a group or a label passes, one after another
passed : {E : Type 0} (a b c : Bool) (e1 e2 e3 : E) (w k : List ℕ)
    → cond a (Err e1) (cond (not b) (Err e2) (cond c (Err e3) (Ok w))) ≡ Ok k
    → (a ≡ false) × (b ≡ true) × (c ≡ false) × (w ≡ k)
passed false true false e1 e2 e3 w k h = (refl, refl, refl, cc)
passed true b c e1 e2 e3 w k h = cc
passed false false c e1 e2 e3 w k h = cc
passed false true true e1 e2 e3 w k h = cc

pub key_reads : (w k : List ℕ) → key_in w ≡ Ok k → IsKey k × (w ≡ k)
key_reads w k h =
    let p = passed (nat_eq (length w) 0) (list_all is_key_byte w) (nat_lt 32 (length w)) key.Empty key.BadByte key.Long w k (or_fault_ok kind.Key (key_of w) k h) in
    let whole : IsKey w = record { some = omega (arith, eqb-false (length w) 0 p.0); short = omega (arith, ltb-false 32 (length w) p.2); plain = p.1 } in
    (subst IsKey p.3 whole, p.3)

pub key_again : (k : List ℕ) → IsKey k → key_in k ≡ Ok k
key_again k h =
    let some : nat_eq (length k) 0 ≡ false = ne_eqb (length k) 0 (λ e. omega (arith, e, h.some)) in
    let short : nat_lt 32 (length k) ≡ false = le-ltb 32 (length k) h.short in
    rw (some, h.plain, short) refl

group_reads : (w g : List ℕ) → group_in w ≡ Ok g → IsGroup g × (w ≡ g)
group_reads w g h =
    let p = passed (nat_eq (length w) 0) (list_all is_key_byte w) (nat_lt 31 (length w)) key.Empty key.BadByte key.Long w g (or_fault_ok kind.Key (group_of w) g h) in
    let whole : IsGroup w = record { some = omega (arith, eqb-false (length w) 0 p.0); short = omega (arith, ltb-false 31 (length w) p.2); plain = p.1 } in
    (subst IsGroup p.3 whole, p.3)

group_again : (g : List ℕ) → IsGroup g → group_in g ≡ Ok g
group_again g h =
    let some : nat_eq (length g) 0 ≡ false = ne_eqb (length g) 0 (λ e. omega (arith, e, h.some)) in
    let short : nat_lt 31 (length g) ≡ false = le-ltb 31 (length g) h.short in
    rw (some, h.plain, short) refl

pub label_reads : (w l : List ℕ) → label_in w ≡ Ok l → IsLabel l × (w ≡ l)
label_reads w l h =
    let p = passed (nat_eq (length w) 0) (list_all is_label_byte w) (nat_lt 16 (length w)) label.Empty label.BadByte label.Long w l (or_fault_ok kind.Label (label_of w) l h) in
    let whole : IsLabel w = record { some = omega (arith, eqb-false (length w) 0 p.0); short = omega (arith, ltb-false 16 (length w) p.2); plain = p.1 } in
    (subst IsLabel p.3 whole, p.3)

pub label_again : (l : List ℕ) → IsLabel l → label_in l ≡ Ok l
label_again l h =
    let some : nat_eq (length l) 0 ≡ false = ne_eqb (length l) 0 (λ e. omega (arith, e, h.some)) in
    let short : nat_lt 16 (length l) ≡ false = le-ltb 16 (length l) h.short in
    rw (some, h.plain, short) refl

pub value_reads : (w : List ℕ) (v : ℤ) → number_in w ≡ Ok v → IsTrue (is_i64 v) × (w ≡ spelled_number v)
value_reads w v h = number_reads w v (ok_or_ok (number_of w) kind.Number v h)

value_again : (v : ℤ) → IsTrue (is_i64 v) → number_in (spelled_number v) ≡ Ok v
value_again v h = ap (λ (o : Option ℤ). ok_or o kind.Number) (number_again v h)

-- the test of a word, and what it says
pub is_word : (w v : List ℕ) → bytes_eq w v ≡ true → w ≡ v
is_word w v h = (bytes_eq-Decides w v).0 h

pub not_word : {A P : Type 0} (k : LineKind) (x : A) → ◌≡◌ {A = Result A LineKind} (Err k) (Ok x) → P
not_word k x h = cc

when_reads : (w : List ℕ) (t : When) → when_in w ≡ Ok t → w ≡ spelled_when t
when_reads w t h =
    pick (bytes_eq w (codes "begun")) (Ok Begun) (cond (bytes_eq w (codes "done")) (Ok Done) (Err kind.Word)) (Ok t) h
    (λ b e. is_word w _ b ∙ ap spelled_when (same_ok Begun t e))
    (λ _ no. pick (bytes_eq w (codes "done")) (Ok Done) (Err kind.Word) (Ok t) no
    (λ b e. is_word w _ b ∙ ap spelled_when (same_ok Done t e))
    (λ _ e. not_word kind.Word t e))

-- ---- operands, as many as are asked

pub one_reads : (ws : Words) (a : List ℕ) → one ws ≡ Ok a → ws ≡ a ∷ []
one_reads [] a h = cc
one_reads (b ∷ []) a h = cc
one_reads (b ∷ c ∷ ws) a h = cc

two_reads : (ws : Words) (p : List ℕ × List ℕ) → two ws ≡ Ok p → ws ≡ p.0 ∷ p.1 ∷ []
two_reads [] p h = cc
two_reads (a ∷ ws) p h =
    let s = bind_ok (one ws) (λ b. Ok (a, b)) p h in
    let same : (a, s.0) ≡ p = same_ok (a, s.0) p s.2 in
    ap (λ vs. a ∷ vs) (one_reads ws s.0 s.1) ∙ ap (λ (q : List ℕ × List ℕ). q.0 ∷ q.1 ∷ []) same

three_reads : (ws : Words) (p : List ℕ × List ℕ × List ℕ) → three ws ≡ Ok p → ws ≡ p.0 ∷ p.1 ∷ p.2 ∷ []
three_reads [] p h = cc
three_reads (a ∷ ws) p h =
    let s = bind_ok (two ws) (λ b. Ok (a, b.0, b.1)) p h in
    let same : (a, s.0.0, s.0.1) ≡ p = same_ok (a, s.0.0, s.0.1) p s.2 in
    ap (λ vs. a ∷ vs) (two_reads ws s.0 s.1) ∙ ap (λ (q : List ℕ × List ℕ × List ℕ). q.0 ∷ q.1 ∷ q.2 ∷ []) same

named_reads : (ws : Words) (n : Path) → named ws ≡ Ok n → IsName n × (ws ≡ spelled_name n ∷ [])
named_reads ws n h =
    let w = bind_ok (one ws) name_in n h in
    let r = name_reads w.0 n w.2 in
    (r.0, one_reads ws w.0 w.1 ∙ ap (λ v. v ∷ []) r.1)

keyed_reads : (ws : Words) (p : Path × List ℕ) → keyed ws ≡ Ok p → IsName p.0 × IsKey p.1 × (ws ≡ spelled_name p.0 ∷ p.1 ∷ [])
keyed_reads ws p h =
    let w = bind_ok (two ws) (λ w. name_in w.0 >>= λ n. key_in w.1 >>= λ k. Ok (n, k)) p h in
    let n = bind_ok (name_in w.0.0) (λ n. key_in w.0.1 >>= λ k. Ok (n, k)) p w.2 in
    let k = bind_ok (key_in w.0.1) (λ k. Ok (n.0, k)) p n.2 in
    let same : (n.0, k.0) ≡ p = same_ok (n.0, k.0) p k.2 in
    let rn = name_reads w.0.0 n.0 n.1 in
    let rk = key_reads w.0.1 k.0 k.1 in
    subst (λ (q : Path × List ℕ). IsName q.0 × IsKey q.1 × (ws ≡ spelled_name q.0 ∷ q.1 ∷ [])) same
    (rn.0, rk.0, two_reads ws w.0 w.1 ∙ ap₂ (λ a b. a ∷ b ∷ []) rn.1 rk.1)

grouped_reads : (ws : Words) (p : Path × List ℕ) → grouped ws ≡ Ok p → IsName p.0 × IsGroup p.1 × (ws ≡ spelled_name p.0 ∷ p.1 ∷ [])
grouped_reads ws p h =
    let w = bind_ok (two ws) (λ w. name_in w.0 >>= λ n. group_in w.1 >>= λ g. Ok (n, g)) p h in
    let n = bind_ok (name_in w.0.0) (λ n. group_in w.0.1 >>= λ g. Ok (n, g)) p w.2 in
    let g = bind_ok (group_in w.0.1) (λ g. Ok (n.0, g)) p n.2 in
    let same : (n.0, g.0) ≡ p = same_ok (n.0, g.0) p g.2 in
    let rn = name_reads w.0.0 n.0 n.1 in
    let rg = group_reads w.0.1 g.0 g.1 in
    subst (λ (q : Path × List ℕ). IsName q.0 × IsGroup q.1 × (ws ≡ spelled_name q.0 ∷ q.1 ∷ [])) same
    (rn.0, rg.0, two_reads ws w.0 w.1 ∙ ap₂ (λ a b. a ∷ b ∷ []) rn.1 rg.1)

abbrev ReadsValued : Words → Path × List ℕ × ℤ → Type 0
ReadsValued ws q = IsName q.0 × IsKey q.1 × IsTrue (is_i64 q.2) × (ws ≡ spelled_name q.0 ∷ q.1 ∷ spelled_number q.2 ∷ [])

valued_reads : (ws : Words) (p : Path × List ℕ × ℤ) → valued ws ≡ Ok p → ReadsValued ws p
valued_reads ws p h =
    let w = bind_ok (three ws) (λ w. name_in w.0 >>= λ n. key_in w.1 >>= λ k. number_in w.2 >>= λ v. Ok (n, k, v)) p h in
    let n = bind_ok (name_in w.0.0) (λ n. key_in w.0.1 >>= λ k. number_in w.0.2 >>= λ v. Ok (n, k, v)) p w.2 in
    let k = bind_ok (key_in w.0.1) (λ k. number_in w.0.2 >>= λ v. Ok (n.0, k, v)) p n.2 in
    let v = bind_ok (number_in w.0.2) (λ v. Ok (n.0, k.0, v)) p k.2 in
    let same : (n.0, k.0, v.0) ≡ p = same_ok (n.0, k.0, v.0) p v.2 in
    let rn = name_reads w.0.0 n.0 n.1 in
    let rk = key_reads w.0.1 k.0 k.1 in
    let rv = value_reads w.0.2 v.0 v.1 in
    subst (ReadsValued ws) same (
      rn.0,
      rk.0,
      rv.0,
      three_reads ws w.0 w.1 ∙ ap₂ (λ a bs. a ∷ bs) rn.1 (ap₂ (λ a b. a ∷ b ∷ []) rk.1 rv.1),
    )

timed_reads : (ws : Words) (p : Path × When) → timed ws ≡ Ok p → IsName p.0 × (ws ≡ spelled_name p.0 ∷ spelled_when p.1 ∷ [])
timed_reads ws p h =
    let w = bind_ok (two ws) (λ w. name_in w.0 >>= λ n. when_in w.1 >>= λ t. Ok (n, t)) p h in
    let n = bind_ok (name_in w.0.0) (λ n. when_in w.0.1 >>= λ t. Ok (n, t)) p w.2 in
    let t = bind_ok (when_in w.0.1) (λ t. Ok (n.0, t)) p n.2 in
    let same : (n.0, t.0) ≡ p = same_ok (n.0, t.0) p t.2 in
    let rn = name_reads w.0.0 n.0 n.1 in
    let rt = when_reads w.0.1 t.0 t.1 in
    subst (λ (q : Path × When). IsName q.0 × (ws ≡ spelled_name q.0 ∷ spelled_when q.1 ∷ [])) same
    (rn.0, two_reads ws w.0 w.1 ∙ ap₂ (λ a b. a ∷ b ∷ []) rn.1 rt)

-- ---- commands

-- the number behind the key, if there is one
abbrev pub number_words : Option ℤ → Words
number_words None = []
number_words (Some v) = spelled_number v ∷ []

-- the operands of an access, spelled
abbrev pub access_operands : Path → List ℕ → Option ℤ → Words
access_operands n k v = spelled_name n ∷ k ∷ number_words v

-- the words of a command line
abbrev pub words_of : Event → Words
words_of (Begin n) = codes "begin" ∷ spelled_name n ∷ []
words_of (Access n k o) = word o ∷ access_operands n k (operand o)
words_of (Sum n g) = codes "sum" ∷ spelled_name n ∷ g ∷ []
words_of (Commit n) = codes "commit" ∷ spelled_name n ∷ []
words_of (Abort n) = codes "abort" ∷ spelled_name n ∷ []
words_of (After n t) = codes "after" ∷ spelled_name n ∷ spelled_when t ∷ []

joined_access : (w : List ℕ) (n : Path) (k : List ℕ) (v : Option ℤ) → join_with_byte 32 (w ∷ access_operands n k v) ≡ with_number (w ++ codes " " ++ spelled_name n ++ codes " " ++ k) v
joined_access w n k None = simp append_assoc
joined_access w n k (Some v) = simp append_assoc

-- joined by spaces they are its spelling
pub joined_words : (e : Event) → join_with_byte 32 (words_of e) ≡ spelled_event e
joined_words (Begin n) = refl
joined_words (Access n k o) = joined_access (word o) n k (operand o)
joined_words (Sum n g) = simp append_assoc
joined_words (Commit n) = refl
joined_words (Abort n) = refl
joined_words (After n t) = simp append_assoc

abbrev Spells : Words → Event → Type 0
Spells ws e = IsEvent e × (ws ≡ words_of e)

begin_reads : (w : List ℕ) (ws : Words) (e : Event) → w ≡ codes "begin" → begin_of ws ≡ Ok e → Spells (w ∷ ws) e
begin_reads w ws e is h =
    let n = bind_ok (named ws) (λ n. Ok (Begin n)) e h in
    let r = named_reads ws n.0 n.1 in
    subst (Spells (w ∷ ws)) (same_ok _ e n.2) (r.0, ap₂ (λ v vs. v ∷ vs) is r.1)

abbrev IsNumber : Option ℤ → Type 0
IsNumber o = IfSome o (λ v. IsTrue (is_i64 v))

access_reads : (w : List ℕ) (ws : Words) (o : Op) (e : Event) → w ≡ word o → access_of o ws ≡ Ok e → Spells (w ∷ ws) e
access_reads w ws o e is h = by (operand o) refl h
  where
    by : (m : Option ℤ) → operand o ≡ m → access_by m o ws ≡ Ok e → Spells (w ∷ ws) e
    by None none h =
        let a = bind_ok (keyed ws) (λ a. Ok (Access a.0 a.1 o)) e h in
        let r = keyed_reads ws a.0 a.1 in
        subst (Spells (w ∷ ws)) (same_ok _ e a.2) (
          (r.0, r.1, subst IsNumber (sym none) tt),
          ap₂ (λ v vs. v ∷ vs) is (r.2 ∙ ap (λ (n : Option ℤ). spelled_name a.0.0 ∷ a.0.1 ∷ number_words n) (sym none)),
        )
    by (Some u) some h =
        let a = bind_ok (valued ws) (λ a. Ok (Access a.0 a.1 (with_operand o a.2))) e h in
        let r = valued_reads ws a.0 a.1 in
        let has : operand (with_operand o a.0.2) ≡ Some a.0.2 = operand_with o u a.0.2 some in
        subst (Spells (w ∷ ws)) (same_ok _ e a.2) (
          (r.0, r.1, subst IsNumber (sym has) r.2),
          ap₂ (λ v vs. v ∷ vs) (is ∙ sym (word_with o a.0.2)) (r.3 ∙ ap (λ (n : Option ℤ). spelled_name a.0.0 ∷ a.0.1 ∷ number_words n) (sym has)),
        )

sum_reads : (w : List ℕ) (ws : Words) (e : Event) → w ≡ codes "sum" → sum_of ws ≡ Ok e → Spells (w ∷ ws) e
sum_reads w ws e is h =
    let a = bind_ok (grouped ws) (λ a. Ok (Sum a.0 a.1)) e h in
    let r = grouped_reads ws a.0 a.1 in
    subst (Spells (w ∷ ws)) (same_ok _ e a.2) ((r.0, r.1), ap₂ (λ v vs. v ∷ vs) is r.2)

commit_reads : (w : List ℕ) (ws : Words) (e : Event) → w ≡ codes "commit" → commit_of ws ≡ Ok e → Spells (w ∷ ws) e
commit_reads w ws e is h =
    let n = bind_ok (named ws) (λ n. Ok (Commit n)) e h in
    let r = named_reads ws n.0 n.1 in
    subst (Spells (w ∷ ws)) (same_ok _ e n.2) (r.0, ap₂ (λ v vs. v ∷ vs) is r.1)

abort_reads : (w : List ℕ) (ws : Words) (e : Event) → w ≡ codes "abort" → abort_of ws ≡ Ok e → Spells (w ∷ ws) e
abort_reads w ws e is h =
    let n = bind_ok (named ws) (λ n. Ok (Abort n)) e h in
    let r = named_reads ws n.0 n.1 in
    subst (Spells (w ∷ ws)) (same_ok _ e n.2) (r.0, ap₂ (λ v vs. v ∷ vs) is r.1)

after_reads : (w : List ℕ) (ws : Words) (e : Event) → w ≡ codes "after" → after_of ws ≡ Ok e → Spells (w ∷ ws) e
after_reads w ws e is h =
    let a = bind_ok (timed ws) (λ a. Ok (After a.0 a.1)) e h in
    let r = timed_reads ws a.0 a.1 in
    subst (Spells (w ∷ ws)) (same_ok _ e a.2) (r.0, ap₂ (λ v vs. v ∷ vs) is r.1)

other_reads : (w : List ℕ) (ws : Words) (e : Event) → other_of w ws ≡ Ok e → Spells (w ∷ ws) e
other_reads w ws e h =
    pick (bytes_eq w (codes "begin")) _ _ (Ok e) h (λ t r. begin_reads w ws e (is_word w _ t) r) (λ _ h1.
    pick (bytes_eq w (codes "sum")) _ _ (Ok e) h1 (λ t r. sum_reads w ws e (is_word w _ t) r) (λ _ h2.
    pick (bytes_eq w (codes "commit")) _ _ (Ok e) h2 (λ t r. commit_reads w ws e (is_word w _ t) r) (λ _ h3.
    pick (bytes_eq w (codes "abort")) _ _ (Ok e) h3 (λ t r. abort_reads w ws e (is_word w _ t) r) (λ _ h4.
    pick (bytes_eq w (codes "after")) _ _ (Ok e) h4 (λ t r. after_reads w ws e (is_word w _ t) r)
    (λ _ h5. not_word kind.Word e h5)))))

command_reads : (w : List ℕ) (ws : Words) (e : Event) → command_of (w ∷ ws) ≡ Ok e → Spells (w ∷ ws) e
command_reads w ws e h = by (operation_of w) refl h
  where
    by : (m : Option Op) → operation_of w ≡ m → by_operation w ws m ≡ Ok e → Spells (w ∷ ws) e
    by (Some o) is h = access_reads w ws o e (word_reads w o is) h
    by None is h = other_reads w ws e h

words_read : (ws : Words) (e : Event) → command_of ws ≡ Ok e → Spells ws e
words_read [] e h = not_word kind.Word e h
words_read (w ∷ ws) e h = command_reads w ws e h

-- what is read is an event, and is spelled so
pub event_reads : (bs : List ℕ) (e : Event) → event_of bs ≡ Ok e → IsEvent e × (bs ≡ spelled_event e)
event_reads bs e h =
    pick (nat_eq (length bs) 0) (Err kind.Empty) (command_of (cut_at 32 bs)) (Ok e) h
    (λ _ no. not_word kind.Empty e no)
    (λ _ r. let s = words_read (cut_at 32 bs) e r in
    (s.0, sym (joined_cut 32 bs) ∙ ap (join_with_byte 32) s.1 ∙ joined_words e))

-- ---- what is spelled is read again

access_again : (n : Path) (k : List ℕ) (o : Op) → IsName n → IsKey k → IsOp o → command_of (words_of (Access n k o)) ≡ Ok (Access n k o)
access_again n k o name key op = ap (by_operation (word o) (access_operands n k (operand o))) (word_again o) ∙ by (operand o) refl op
  where
    asked : Op
    asked = with_operand o (pos 0)

    by : (m : Option ℤ) → operand o ≡ m → IsNumber m → access_of asked (access_operands n k m) ≡ Ok (Access n k o)
    by None none is =
        let same : asked ≡ o = with_none o (pos 0) none in
        ap (λ (p : Op). access_by (operand p) p (access_operands n k None)) same
        ∙ ap (λ m. access_by m o (access_operands n k None)) none
        ∙ rw (name_again n name, key_again k key) refl
    by (Some v) some is =
        ap (λ m. access_by m asked (access_operands n k (Some v))) (operand_with o v (pos 0) some)
        ∙ rw (name_again n name, key_again k key, value_again v is) refl
        ∙ ap (λ (p : Op). Ok (Access n k p)) (with_again o (pos 0) v some)

pub command_again : (e : Event) → IsEvent e → command_of (words_of e) ≡ Ok e
command_again (Begin n) h = rw (name_again n h) refl
command_again (Access n k o) h = access_again n k o h.0 h.1 h.2
command_again (Sum n g) h = rw (name_again n h.0, group_again g h.1) refl
command_again (Commit n) h = rw (name_again n h) refl
command_again (Abort n) h = rw (name_again n h) refl
command_again (After n Begun) h = rw (name_again n h) refl
command_again (After n Done) h = rw (name_again n h) refl
