-- Bytes without a given one, and parts that are joined by it.
use Rattle.std.proofs.Common.{◌≡◌, ℕ, List, [], ◌∷◌, ◌++◌, true, false, Bool, not, nat_eq, refl, sym, ap, ◌∙◌}
use Rattle.std.specs.List.{list_all, onto_first, join_with_byte, AllByRecursion}
use Rattle.std.proofs.lemmas.Bool.{and_parts, and_from, not-true, not_from_false, eq-eqb, eqb-true, true≢false}
use Rattle.std.proofs.lemmas.List.Splits.{join_with_byte-slice_split}
use Rattle.line_language.specs.Words.{cut_at}

-- no byte is c
abbrev pub Lacks : ℕ → List ℕ → Type 0
Lacks c bs = list_all (λ b. not (nat_eq b c)) bs ≡ true

pub Lacks-append : (c : ℕ) (xs ys : List ℕ) → Lacks c xs → Lacks c ys → Lacks c (xs ++ ys)
Lacks-append c [] ys h k = k
Lacks-append c (x ∷ xs) ys h k =
    let p = and_parts (not (nat_eq x c)) (list_all (λ b. not (nat_eq b c)) xs) h in
    and_from _ _ p.0 (Lacks-append c xs ys p.1 k)

-- bytes that pass a test which c does not pass
pub Lacks-from_all : (c : ℕ) (p : ℕ → Bool) → p c ≡ false → (bs : List ℕ) → list_all p bs ≡ true → Lacks c bs
Lacks-from_all c p e [] h = refl
Lacks-from_all c p e (b ∷ bs) h =
    let q = and_parts (p b) (list_all p bs) h in
    and_from _ _ (not_from_false (nat_eq b c) (differs (nat_eq b c) refl q.0)) (Lacks-from_all c p e bs q.1)
  where
    differs : (t : Bool) → nat_eq b c ≡ t → p b ≡ true → t ≡ false
    differs true f q = absurd (true≢false (sym q ∙ ap p (eqb-true b c f) ∙ e))
    differs false f q = refl

pub cut_lacking : (c : ℕ) (w : List ℕ) → Lacks c w → cut_at c w ≡ w ∷ []
cut_lacking c [] h = refl
cut_lacking c (b ∷ w) h =
    let p = and_parts (not (nat_eq b c)) (list_all (λ b. not (nat_eq b c)) w) h in
    rw (not-true (nat_eq b c) p.0) (ap (onto_first b) (cut_lacking c w p.1))

pub cut_behind : (c : ℕ) (w rest : List ℕ) → Lacks c w → cut_at c (w ++ c ∷ rest) ≡ w ∷ cut_at c rest
cut_behind c [] rest h = rw (eq-eqb c c refl) refl
cut_behind c (b ∷ w) rest h =
    let p = and_parts (not (nat_eq b c)) (list_all (λ b. not (nat_eq b c)) w) h in
    rw (not-true (nat_eq b c) p.0) (ap (onto_first b) (cut_behind c w rest p.1))

-- words without c, joined by it, are cut into themselves
pub cut_joined : (c : ℕ) (w : List ℕ) (ws : List (List ℕ)) → Lacks c w → AllByRecursion (Lacks c) ws → cut_at c (join_with_byte c (w ∷ ws)) ≡ w ∷ ws
cut_joined c w [] h hs = cut_lacking c w h
cut_joined c w (v ∷ vs) h hs = cut_behind c w (join_with_byte c (v ∷ vs)) h ∙ ap (λ ps. w ∷ ps) (cut_joined c v vs hs.0 hs.1)

pub joined_cut : (c : ℕ) (bs : List ℕ) → join_with_byte c (cut_at c bs) ≡ bs
joined_cut c bs = join_with_byte-slice_split c bs

-- there is a first part
onto_some : (b : ℕ) (ps : List (List ℕ)) → (q : List ℕ) × (qs : List (List ℕ)) × (onto_first b ps ≡ q ∷ qs)
onto_some b [] = (b ∷ [], [], refl)
onto_some b (p ∷ ps) = (b ∷ p, ps, refl)

some_by : (c b : ℕ) (bs : List ℕ) (t : Bool) → nat_eq b c ≡ t → (q : List ℕ) × (qs : List (List ℕ)) × (cut_at c (b ∷ bs) ≡ q ∷ qs)
some_by c b bs true e = ([], cut_at c bs, rw e refl)
some_by c b bs false e = let s = onto_some b (cut_at c bs) in (s.0, s.1, rw e s.2)

pub cut_some : (c : ℕ) (bs : List ℕ) → (q : List ℕ) × (qs : List (List ℕ)) × (cut_at c bs ≡ q ∷ qs)
cut_some c [] = ([], [], refl)
cut_some c (b ∷ bs) = some_by c b bs (nat_eq b c) refl
