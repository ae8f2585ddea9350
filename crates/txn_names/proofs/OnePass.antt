-- A name read in one pass: labels that are cut off bytes, one after another.
use Rattle.std.proofs.Common.{◌≡◌, ℕ, zero, suc, ◌+◌, ◌<◌, ◌≤◌, Bool, true, false, List, [], ◌∷◌, ◌++◌, length, take, drop, get_or, nat_lt, Ok, Err, refl, sym, ap, ◌∙◌, subst, arith, true≢false, append_assoc, append-nil, length-append}
use Rattle.std.specs.List.{list_all, list_any, AllByRecursion}
use Rattle.std.proofs.lemmas.Bool.Decides.{nat_tests}
use Rattle.std.proofs.lemmas.List.{take_at}
use Rattle.txn_names.specs.Path.{Path}
use Rattle.txn_names.specs.Text.{IsLabel, IsName, is_label_byte, spelled_name}
use Rattle.txn_names.specs.Reading.{onto, pieces, is_empty, is_long, is_name_byte, name_of}
use Rattle.txn_names.specs.inner.Cutting.{HasOtherFirst, onto_all}
use Rattle.txn_names.specs.declared.name.NameFault.TheVariants as name
use Rattle.txn_names.proofs.Pieces.{plain}
use Rattle.txn_names.specs.Fields.{some, spelled_pieces}
use Rattle.txn_names.proofs.Valid.{first, second, labels, mid}
use Rattle.txn_names.proofs.ReadBack.{label_no_slash, name_of-spelled}

-- ---- bytes of a label at the front

pub past : (bs : List ℕ) (k : ℕ) → k ≤ length bs → list_all is_label_byte (take k bs) ≡ true → pieces bs ≡ onto_all (take k bs) (pieces (drop k bs))
past bs zero h t = refl
past [] (suc k) h t = absurd (omega (arith, h))
past (b ∷ bs) (suc k) h t =
    plain b bs (label_no_slash b (first _ _ t)) ∙ ap (onto b) (past bs k (omega (arith, h)) (second _ _ t))

head_plain : (b : ℕ) (qs ps : Path) (p : List ℕ) → onto b qs ≡ p ∷ ps → list_all is_label_byte p ≡ true → is_label_byte b ≡ true
head_plain b [] ps p e l =
    let same : b ∷ [] ≡ p = cc in first _ _ (subst (λ (x : List ℕ). list_all is_label_byte x ≡ true) (sym same) l)
head_plain b (q ∷ qs) ps p e l =
    let same : b ∷ q ≡ p = cc in first _ _ (subst (λ (x : List ℕ). list_all is_label_byte x ≡ true) (sym same) l)

-- no byte before the first piece's end is another's
abbrev NonePlain : Path → Type 0
NonePlain qs = (p : List ℕ) (ps : Path) → qs ≡ p ∷ ps → list_all is_label_byte p ≡ true → ⊥

none_behind : (b : ℕ) (qs : Path) → 0 < length qs → NonePlain qs → NonePlain (onto b qs)
none_behind b [] h bad p ps e l = absurd (omega (arith, h))
none_behind b (q ∷ qs) h bad p ps e l =
    let same : b ∷ q ≡ p = cc in bad q qs refl (second _ _ (subst (λ (x : List ℕ). list_all is_label_byte x ≡ true) (sym same) l))

pub other : (bs : List ℕ) (k : ℕ) → k < length bs → list_all is_label_byte (take k bs) ≡ true → is_label_byte (get_or bs k 0) ≡ false → (get_or bs k 0 ≡ 47 → ⊥) → HasOtherFirst bs
other [] k h t o n p ps e l = absurd (omega (arith, h))
other (b ∷ bs) zero h t o n p ps e l =
    absurd (true≢false (sym (head_plain b (pieces bs) ps p (sym (plain b bs n) ∙ e) l) ∙ o))
other (b ∷ bs) (suc k) h t o n p ps e l =
    none_behind b (pieces bs) (some bs) (other bs k (omega (arith, h)) (second _ _ t) o n) p ps (sym (plain b bs (label_no_slash b (first _ _ t))) ∙ e) l

-- ---- what is left, behind labels

none_whole : (done qs whole : Path) → 0 < length qs → done ++ qs ≡ whole → NonePlain qs → AllByRecursion IsLabel whole → ⊥
none_whole done [] whole h e bad all = absurd (omega (arith, h))
none_whole done (q ∷ qs) whole h e bad all = bad q qs refl (mid done q qs (subst (AllByRecursion IsLabel) (sym e) all)).plain

pub not_whole : (done : Path) (left bs : List ℕ) → done ++ pieces left ≡ pieces bs → HasOtherFirst left → IsName (pieces bs) → ⊥
not_whole done left bs e bad n = none_whole done (pieces left) (pieces bs) (some left) e bad n.labels

pub all_more : (xs : Path) (x : List ℕ) → AllByRecursion IsLabel xs → IsLabel x → AllByRecursion IsLabel (xs ++ x ∷ [])
all_more [] x all h = (h, tt)
all_more (y ∷ xs) x all h = (all.0, all_more xs x all.1 h)

-- ---- names, and what is none

pub named : (bs : List ℕ) (n : Path) → n ≡ pieces bs → IsName n → Ok n ≡ name_of bs
named bs n e h =
    let spelled : spelled_name n ≡ bs = ap spelled_name e ∙ spelled_pieces bs in sym (name_of-spelled n h) ∙ ap name_of spelled

deep_by : (bs : List ℕ) (t : Bool) → nat_lt 16 (length (pieces bs)) ≡ t → list_any is_empty (pieces bs) ≡ false → list_all is_name_byte bs ≡ true → list_any is_long (pieces bs) ≡ false → (IsName (pieces bs) → ⊥) → t ≡ true
deep_by bs true d e n l not = refl
deep_by bs false d e n l not =
    absurd (not (record { some = some bs; short = grind (arith, nat_tests, d); labels = labels bs n e l }))

pub deep : (bs : List ℕ) → list_any is_empty (pieces bs) ≡ false → list_all is_name_byte bs ≡ true → list_any is_long (pieces bs) ≡ false → (IsName (pieces bs) → ⊥) → name_of bs ≡ Err name.Deep
deep bs e n l not =
    let d : nat_lt 16 (length (pieces bs)) ≡ true = deep_by bs (nat_lt 16 (length (pieces bs))) refl e n l not in rw (e, n, l, d) refl

-- ---- pieces one after another

-- the pieces before this one, and this
pub next_piece : (done : Path) (piece : List ℕ) (more whole : Path) (d : ℕ) → length done ≡ d → done ++ piece ∷ more ≡ whole → take (d + 1) whole ≡ done ++ piece ∷ []
next_piece done piece more whole d m e =
    ap (take (d + 1)) (sym e ∙ sym (append_assoc done (piece ∷ []) more))
    ∙ take_at (done ++ piece ∷ []) more (d + 1) (omega (arith, m, length-append done (piece ∷ [])))

-- labels that are all pieces
pub whole_name : (bs : List ℕ) (d : ℕ) → d ≤ 16 → length (take d (pieces bs)) ≡ d → AllByRecursion IsLabel (take d (pieces bs)) → take d (pieces bs) ++ [] ≡ pieces bs → (d ≡ length (pieces bs)) × IsName (pieces bs)
whole_name bs d h m all e =
    let same : take d (pieces bs) ≡ pieces bs = sym (append-nil (take d (pieces bs))) ∙ e in
    let many : length (pieces bs) ≡ d = ap (λ (p : Path). length p) (sym same) ∙ m in (
      sym many,
      record { some = some bs; short = omega (arith, many, h); labels = subst (AllByRecursion IsLabel) same all },
    )
