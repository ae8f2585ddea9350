-- Words of a line that asks for an access, of which the last is not searched for a space.
use Rattle.std.proofs.Common.{◌≡◌, ℕ, ℤ, List, [], ◌∷◌, ◌++◌, Result, Ok, Err, Option, Some, None, MatchResult, refl, sym, ap, ◌∙◌, subst}
use Rattle.std.specs.List.{join_with_byte}
use Rattle.std.specs.Option.{ok_or}
use Rattle.txn_names.specs.Fields.{spelled_pieces}
use Rattle.txn_names.specs.Path.{Path}
use Rattle.txn_names.specs.Reading.{name_of}
use Rattle.txn_names.specs.Text.{IsKey, is_key_byte}
use Rattle.txn_names.proofs.Exports.{name_of-spelled}
use Rattle.event_lists.specs.Words.{IsRead, named}
use Rattle.event_lists.specs.declared.word.NameWord.{NameWord}
use Rattle.line_language.specs.declared.fault.LineKind.{LineKind}
use Rattle.line_language.specs.Commands.{Words, one, name_in, key_in, number_in, named as named_alone, keyed, valued}
use Rattle.line_language.specs.declared.fault.LineKind.TheVariants as kind
use Rattle.line_language.specs.Steps.{◌>>=◌, or_fault}
use Rattle.line_language.specs.Numbers.{number_of}
use Rattle.line_language.specs.Words.{cut_at}
use Rattle.line_language.proofs.Bytes.{Lacks, Lacks-from_all, cut_behind, cut_lacking, joined_cut}
use Rattle.line_language.proofs.Numerals.{number_reads}
use Rattle.line_language.proofs.Reading.{name_reads, one_reads}
use Rattle.line_language.proofs.Spelled.{name_lacks, number_lacks, space}

-- a key has no space, so it is one word
pub key_alone : (k : List ℕ) → IsKey k → cut_at 32 k ≡ k ∷ []
key_alone k h = cut_lacking 32 k (Lacks-from_all 32 is_key_byte space.key k h.plain)

-- nor has a number
pub number_alone : (w : List ℕ) (v : ℤ) → number_of w ≡ Some v → cut_at 32 w ≡ w ∷ []
number_alone w v h =
    let r = number_reads w v h in
    cut_lacking 32 w (subst (Lacks 32) (sym r.1) (number_lacks 32 space v r.0))

-- nor has a name
name_alone : (w : List ℕ) (p : Path) → name_in w ≡ Ok p → cut_at 32 w ≡ w ∷ []
name_alone w p h =
    let r = name_reads w p h in
    cut_lacking 32 w (subst (Lacks 32) (sym r.1) (name_lacks 32 space p r.0))

pub read_alone : (w : List ℕ) (p : Path) → name_of w ≡ Ok p → named_alone (cut_at 32 w) ≡ Ok p
read_alone w p h =
    let read : name_in w ≡ Ok p = ap (or_fault kind.Name) h in
    ap named_alone (name_alone w p read) ∙ read

-- where there is one word, it is all that was cut
pub one_whole : (bs w : List ℕ) → one (cut_at 32 bs) ≡ Ok w → bs ≡ w
one_whole bs w h = sym (joined_cut 32 bs) ∙ ap (λ ws. join_with_byte 32 ws) (one_reads (cut_at 32 bs) w h)

-- ---- the operands, where the last is not cut off

-- one fault, unless there are more words
abbrev pub Before : Words → LineKind → LineKind → Type 0
Before ws k f = MatchResult (one ws) (λ _. f ≡ k) (λ shape. f ≡ shape)

-- the steps of reading, once one word is left
abbrev word_after : List ℕ → Result (List ℕ) LineKind → Result (List ℕ × List ℕ) LineKind
word_after a r = r >>= λ b. Ok (a, b)

abbrev words_after : List ℕ → Result (List ℕ × List ℕ) LineKind → Result (List ℕ × List ℕ × List ℕ) LineKind
words_after a r = r >>= λ bc. Ok (a, bc.0, bc.1)

abbrev with_key : List ℕ → Path → Result (Path × List ℕ) LineKind
with_key w n = key_in w >>= λ k. Ok (n, k)

abbrev with_number : List ℕ → Path → List ℕ → Result (Path × List ℕ × ℤ) LineKind
with_number u n k = number_in u >>= λ v. Ok (n, k, v)

abbrev keyed_on : List ℕ → Result (List ℕ) LineKind → Result (Path × List ℕ) LineKind
keyed_on a r = word_after a r >>= λ w. name_in w.0 >>= with_key w.1

abbrev valued_on : List ℕ → List ℕ → Result (List ℕ) LineKind → Result (Path × List ℕ × ℤ) LineKind
valued_on a k r = words_after a (word_after k r) >>= λ w. name_in w.0 >>= λ n. key_in w.1 >>= with_number w.2 n

key_fault_by : (a k : List ℕ) (p : Path) (f : LineKind) (r : Result (List ℕ) LineKind) → one (cut_at 32 k) ≡ r
    → name_in a ≡ Ok p → key_in k ≡ Err kind.Key → MatchResult r (λ _. f ≡ kind.Key) (λ shape. f ≡ shape) → keyed (a ∷ cut_at 32 k) ≡ Err f
key_fault_by a k p f (Ok w) is hn hk m =
    let pair : Path → List ℕ → Path × List ℕ = λ n k. (n, k) in
    ap (keyed_on a) is
    ∙ ap (λ (r : Result Path LineKind). r >>= with_key w) hn
    ∙ ap (λ (r : Result (List ℕ) LineKind). r >>= λ k. Ok (pair p k)) (ap key_in (sym (one_whole k w is)) ∙ hk)
    ∙ ap Err (sym m)
key_fault_by a k p f (Err s) is hn hk m = ap (keyed_on a) is ∙ ap Err (sym m)

pub key_fault : (a k : List ℕ) (p : Path) (f : LineKind) → name_in a ≡ Ok p → key_in k ≡ Err kind.Key → Before (cut_at 32 k) kind.Key f
    → keyed (a ∷ cut_at 32 k) ≡ Err f
key_fault a k p f hn hk m = key_fault_by a k p f (one (cut_at 32 k)) refl hn hk m

number_read : (a k u : List ℕ) (p : Path) → name_in a ≡ Ok p → key_in k ≡ Ok k → valued_on a k (Ok u) ≡ with_number u p k
number_read a k u p hn hk =
    ap (λ (r : Result Path LineKind). r >>= λ n. key_in k >>= with_number u n) hn
    ∙ ap (λ (r : Result (List ℕ) LineKind). r >>= with_number u p) hk

number_fault_by : (a k w : List ℕ) (p : Path) (f : LineKind) (r : Result (List ℕ) LineKind) → one (cut_at 32 w) ≡ r
    → name_in a ≡ Ok p → key_in k ≡ Ok k → number_in w ≡ Err kind.Number → MatchResult r (λ _. f ≡ kind.Number) (λ shape. f ≡ shape)
    → valued (a ∷ k ∷ cut_at 32 w) ≡ Err f
number_fault_by a k w p f (Ok u) is hn hk hv m =
    let triple : ℤ → Path × List ℕ × ℤ = λ v. (p, k, v) in
    ap (valued_on a k) is
    ∙ number_read a k u p hn hk
    ∙ ap (λ (r : Result ℤ LineKind). r >>= λ v. Ok (triple v)) (ap number_in (sym (one_whole w u is)) ∙ hv)
    ∙ ap Err (sym m)
number_fault_by a k w p f (Err s) is hn hk hv m = ap (valued_on a k) is ∙ ap Err (sym m)

pub number_fault : (a k w : List ℕ) (p : Path) (f : LineKind) → name_in a ≡ Ok p → key_in k ≡ Ok k → number_of w ≡ None
    → Before (cut_at 32 w) kind.Number f → valued (a ∷ k ∷ cut_at 32 w) ≡ Err f
number_fault a k w p f hn hk hv m =
    number_fault_by a k w p f (one (cut_at 32 w)) refl hn hk (ap (λ (o : Option ℤ). ok_or o kind.Number) hv) m

pub number_fits : (a k w : List ℕ) (p : Path) (v : ℤ) → name_in a ≡ Ok p → key_in k ≡ Ok k → number_of w ≡ Some v
    → valued (a ∷ k ∷ cut_at 32 w) ≡ Ok (p, k, v)
number_fits a k w p v hn hk hv =
    let triple : ℤ → Path × List ℕ × ℤ = λ v. (p, k, v) in
    ap (λ (ws : Words). valued_on a k (one ws)) (number_alone w v hv)
    ∙ number_read a k w p hn hk
    ∙ ap (λ (o : Option ℤ). ok_or o kind.Number >>= λ v. Ok (triple v)) hv

-- ---- a word that is known to spell a name, in front of a space

word_named : (w : NameWord) → IsRead w → name_in w.bytes.now ≡ Ok (named w)
word_named w h = ap (or_fault kind.Name) (ap name_of (sym (spelled_pieces w.bytes.now)) ∙ name_of-spelled (named w) h.name)

pub word_cut : (bs : List ℕ) (w : NameWord) (rest : List ℕ) → IsRead w → bs ≡ w.bytes.now ++ 32 ∷ rest → cut_at 32 bs ≡ w.bytes.now ∷ cut_at 32 rest
word_cut bs w rest h e =
    ap (cut_at 32) e ∙ cut_behind 32 w.bytes.now rest (subst (Lacks 32) (spelled_pieces w.bytes.now) (name_lacks 32 space (named w) h.name))

pub keyed_known : (w : NameWord) (k : List ℕ) → IsRead w → IsKey k → key_in k ≡ Ok k → keyed (w.bytes.now ∷ cut_at 32 k) ≡ Ok (named w, k)
keyed_known w k h key hk =
    let pair : Path → List ℕ → Path × List ℕ = λ n k. (n, k) in
    ap (λ (ws : Words). keyed (w.bytes.now ∷ ws)) (key_alone k key)
    ∙ ap (λ (r : Result Path LineKind). r >>= with_key k) (word_named w h)
    ∙ ap (λ (r : Result (List ℕ) LineKind). r >>= λ k. Ok (pair (named w) k)) hk

pub valued_known : (w : NameWord) (rest k u : List ℕ) (v : ℤ) → IsRead w → cut_at 32 rest ≡ k ∷ cut_at 32 u → key_in k ≡ Ok k → number_of u ≡ Some v
    → valued (w.bytes.now ∷ cut_at 32 rest) ≡ Ok (named w, k, v)
valued_known w rest k u v h parts hk hv =
    ap (λ (ws : Words). valued (w.bytes.now ∷ ws)) parts
    ∙ number_fits w.bytes.now k u (named w) v (word_named w h) hk hv
