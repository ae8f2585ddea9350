-- Command lines as they are spelled: where they can be cut, and that they are read again.
use Rattle.std.proofs.Common.{◌≡◌, ℕ, ℤ, pos, negsuc, suc, ◌^◌, ◌<◌, List, [], ◌∷◌, length, true, false, Bool, cond, not, nat_eq, Option, Some, None, Result, Ok, Err, refl, sym, ap, ◌∙◌, subst, arith, length-append}
use Rattle.std.specs.Prelude.{◌++◌, codes, decimal, IfSome}
use Rattle.std.specs.Char.{is_ascii_digit}
use Rattle.std.specs.List.{list_all, list_any, join_with_byte, AllByRecursion}
use Rattle.std.proofs.lemmas.Bool.{and_from, ne_eqb, ltb-true, not_from_false}
use Rattle.std.proofs.lemmas.Fmt.{digits_decimal}
use Rattle.txn_names.specs.Path.{Path}
use Rattle.txn_names.specs.Groups.{IsGroup}
use Rattle.txn_names.specs.Text.{IsName, IsKey, is_label_byte, is_key_byte, spelled_name}
use Rattle.txn_names.specs.Reading.{pieces, is_empty, is_name_byte}
use Rattle.txn_names.specs.declared.name.NameFault.TheVariants as name
use Rattle.txn_names.proofs.Exports.{name_of-spelled}
use Rattle.serial_spec.specs.Operations.{is_i64}
use Rattle.line_language.specs.Printing.{spelled_event, spelled_number, spelled_when, with_number}
use Rattle.line_language.specs.Verbs.{operand, word}
use Rattle.serial_spec.specs.declared.event.When.{When}
use Rattle.serial_spec.specs.declared.event.When.TheVariants.{Begun, Done}
use Rattle.serial_spec.specs.declared.event.Event.{Event}
use Rattle.serial_spec.specs.declared.event.Event.TheVariants.{Begin, Access, Sum, Commit, Abort, After}
use Rattle.line_language.specs.Commands.{Words, command_of, event_of}
use Rattle.line_language.specs.Events.{IsEvent}
use Rattle.line_language.specs.Words.{cut_at}
use Rattle.line_language.proofs.Bytes.{Lacks, Lacks-append, Lacks-from_all, cut_joined}
use Rattle.line_language.proofs.Numerals.{own}
use Rattle.line_language.proofs.Reading.{number_words, words_of, joined_words, command_again}
use Rattle.line_language.proofs.Operations.{word_plain}

-- ---- bytes that no word has

pub record IsGap (c : ℕ) : Type 0 where
  pub label : is_label_byte c ≡ false
  pub name : is_name_byte c ≡ false
  pub key : is_key_byte c ≡ false
  pub digit : is_ascii_digit c ≡ false

pub space : IsGap 32
space = record { label = refl; name = refl; key = refl; digit = refl }

pub line_feed : IsGap 10
line_feed = record { label = refl; name = refl; key = refl; digit = refl }

-- the second of the tests that a name passes
plain_name : {E : Type 0} (a b : Bool) (e1 e2 : E) (r : Result Path E) (n : Path) → cond a (Err e1) (cond (not b) (Err e2) r) ≡ Ok n → b ≡ true
plain_name false true e1 e2 r n h = refl
plain_name true b e1 e2 r n h = cc
plain_name false false e1 e2 r n h = cc

pub name_lacks : (c : ℕ) → IsGap c → (n : Path) → IsName n → Lacks c (spelled_name n)
name_lacks c g n h =
    let bs : List ℕ = spelled_name n in
    Lacks-from_all c is_name_byte g.name bs
    (plain_name (list_any is_empty (pieces bs)) (list_all is_name_byte bs) name.Empty name.BadByte _ n (name_of-spelled n h))

key_lacks : (c : ℕ) → IsGap c → (k : List ℕ) → IsKey k → Lacks c k
key_lacks c g k h = Lacks-from_all c is_key_byte g.key k h.plain

group_lacks : (c : ℕ) → IsGap c → (k : List ℕ) → IsGroup k → Lacks c k
group_lacks c g k h = Lacks-from_all c is_key_byte g.key k h.plain

pub label_lacks : (c : ℕ) → IsGap c → (l : List ℕ) → list_all is_label_byte l ≡ true → Lacks c l
label_lacks c g l h = Lacks-from_all c is_label_byte g.label l h

pub decimal_lacks : (c : ℕ) → IsGap c → (n : ℕ) → n < 2 ^ 64 → Lacks c (decimal n)
decimal_lacks c g n h = Lacks-from_all c is_ascii_digit g.digit (decimal n) (digits_decimal own n h)

pub number_lacks : (c : ℕ) → IsGap c → (v : ℤ) → is_i64 v ≡ true → Lacks c (spelled_number v)
number_lacks c g (pos n) h = decimal_lacks c g n (omega (arith, ltb-true n (2 ^ 63) h))
number_lacks c g (negsuc n) h =
    Lacks-append c (45 ∷ []) (decimal (suc n)) (Lacks-from_all c is_key_byte g.key (45 ∷ []) refl)
    (decimal_lacks c g (suc n) (omega (arith, ltb-true n (2 ^ 63) h)))

when_lacks : (c : ℕ) → IsGap c → (t : When) → Lacks c (spelled_when t)
when_lacks c g Begun = label_lacks c g (codes "begun") refl
when_lacks c g Done = label_lacks c g (codes "done") refl

number_lack : (c : ℕ) → IsGap c → (m : Option ℤ) → IfSome m (λ v. is_i64 v ≡ true) → AllByRecursion (Lacks c) (number_words m)
number_lack c g None h = tt
number_lack c g (Some v) h = (number_lacks c g v h, tt)

words_lack : (c : ℕ) → IsGap c → (e : Event) → IsEvent e → AllByRecursion (Lacks c) (words_of e)
words_lack c g (Begin n) h = (label_lacks c g (codes "begin") refl, (name_lacks c g n h, tt))
words_lack c g (Access n k o) h = (label_lacks c g (word o) (word_plain o), (name_lacks c g n h.0, (key_lacks c g k h.1, number_lack c g (operand o) h.2)))
words_lack c g (Sum n k) h = (label_lacks c g (codes "sum") refl, (name_lacks c g n h.0, (group_lacks c g k h.1, tt)))
words_lack c g (Commit n) h = (label_lacks c g (codes "commit") refl, (name_lacks c g n h, tt))
words_lack c g (Abort n) h = (label_lacks c g (codes "abort") refl, (name_lacks c g n h, tt))
words_lack c g (After n t) h = (label_lacks c g (codes "after") refl, (name_lacks c g n h, (when_lacks c g t, tt)))

joined_lacks : (c d : ℕ) (ws : Words) → nat_eq d c ≡ false → AllByRecursion (Lacks c) ws → Lacks c (join_with_byte d ws)
joined_lacks c d [] e h = refl
joined_lacks c d (w ∷ []) e h = h.0
joined_lacks c d (w ∷ v ∷ vs) e h =
    Lacks-append c w (d ∷ join_with_byte d (v ∷ vs)) h.0 (and_from _ _ (not_from_false (nat_eq d c) e) (joined_lacks c d (v ∷ vs) e h.1))

-- a command has no byte but spaces that none of its words has
pub event_lacks_gap : (c : ℕ) → IsGap c → nat_eq 32 c ≡ false → (e : Event) → IsEvent e → Lacks c (spelled_event e)
event_lacks_gap c g other e h = subst (Lacks c) (joined_words e) (joined_lacks c 32 (words_of e) other (words_lack c g e h))

-- and no line feed
pub event_lacks : (e : Event) → IsEvent e → Lacks 10 (spelled_event e)
event_lacks e h = event_lacks_gap 10 line_feed refl e h

-- ---- it is read again

some_words : (e : Event) → 0 < length (words_of e)
some_words (Begin n) = omega arith
some_words (Access n k o) = omega arith
some_words (Sum n g) = omega arith
some_words (Commit n) = omega arith
some_words (Abort n) = omega arith
some_words (After n t) = omega arith

some_access : (w : List ℕ) (n : Path) (k : List ℕ) (m : Option ℤ) → 0 < length (with_number (w ++ codes " " ++ spelled_name n ++ codes " " ++ k) m)
some_access w n k None = omega (arith, length-append {A = ℕ})
some_access w n k (Some v) = omega (arith, length-append {A = ℕ})

some_bytes : (e : Event) → 0 < length (spelled_event e)
some_bytes (Begin n) = omega arith
some_bytes (Access n k o) = some_access (word o) n k (operand o)
some_bytes (Sum n g) = omega arith
some_bytes (Commit n) = omega arith
some_bytes (Abort n) = omega arith
some_bytes (After n t) = omega arith

cut_all : (c : ℕ) (ws : Words) → 0 < length ws → AllByRecursion (Lacks c) ws → cut_at c (join_with_byte c ws) ≡ ws
cut_all c [] some h = absurd (omega (arith, some))
cut_all c (w ∷ ws) some h = cut_joined c w ws h.0 h.1

-- its spaces stand between its words
pub cut_event : (e : Event) → IsEvent e → cut_at 32 (spelled_event e) ≡ words_of e
cut_event e h = ap (cut_at 32) (sym (joined_words e)) ∙ cut_all 32 (words_of e) (some_words e) (words_lack 32 space e h)

event_from : (bs : List ℕ) (ws : Words) (e : Event) → 0 < length bs → cut_at 32 bs ≡ ws → command_of ws ≡ Ok e → event_of bs ≡ Ok e
event_from bs ws e some cut h =
    let no : nat_eq (length bs) 0 ≡ false = ne_eqb (length bs) 0 (λ z. omega (arith, z, some)) in
    rw no (ap command_of cut ∙ h)

pub event_again : (e : Event) → IsEvent e → event_of (spelled_event e) ≡ Ok e
event_again e h = event_from (spelled_event e) (words_of e) e (some_bytes e) (cut_event e h) (command_again e h)
