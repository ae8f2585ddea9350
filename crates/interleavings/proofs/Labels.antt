-- The sessions' labels, one after another.
use Rattle.std.proofs.Common.{◌≡◌, ℕ, ◌+◌, ◌<◌, ◌≤◌, ◌⊎◌, inl, inr, List, [], ◌∷◌, ◌++◌, length, map, take, get_or, Option, Some, None, is_some, option_map, slice_get, refl, sym, ap, ◌∙◌}
use Rattle.std.proofs.lemmas.Bool.{false≢true}
use Rattle.std.proofs.lemmas.List.{map-append, take_all}
use Rattle.std.proofs.lemmas.Option.{slice_get_within, slice_get_cases}
use Rattle.serial_spec.specs.Interleaving.{Session}
use Rattle.serial_spec.proofs.Exports.{take_next}
use Rattle.session_text.specs.Texts.{label_at}

abbrev label_of : Session → List ℕ
label_of s = s.label

-- a session that has this label
of_label : (o : Option Session) (l : List ℕ) → Some l ≡ option_map label_of o → (s : Session) × (o ≡ Some s) × (l ≡ s.label)
of_label None l is = absurd (false≢true (sym (ap is_some is)))
of_label (Some s) l is = (s, refl, cc)

no_session : (o : Option Session) → None ≡ option_map label_of o → o ≡ None
no_session None is = refl
no_session (Some s) is = absurd (false≢true (ap is_some is))

module _ (ss : List Session) (n : ℕ) where
  pub label_there : (l : List ℕ) → Some l ≡ label_at ss n → n < length ss
  label_there l is = let s = of_label (slice_get ss n) l is in slice_get_within ss n s.0 s.1

  pub labels_more : (l : List ℕ) → Some l ≡ label_at ss n → map label_of (take n ss) ++ l ∷ [] ≡ map label_of (take (n + 1) ss)
  labels_more l is =
      let s = of_label (slice_get ss n) l is in
      ap (λ (x : List ℕ). map label_of (take n ss) ++ x ∷ []) s.2
      ∙ sym (map-append label_of (take n ss) (s.0 ∷ []))
      ∙ ap (map label_of) (sym (take_next ss n s.0 s.1))

  pub labels_all : None ≡ label_at ss n → map label_of (take n ss) ≡ map label_of ss
  labels_all is = by (slice_get_cases ss n).1
    where
      by : ((x : Session) × (n < length ss) × (slice_get ss n ≡ Some x) × (get_or ss n x ≡ x)) ⊎ ((length ss ≤ n) × (slice_get ss n ≡ None)) → map label_of (take n ss) ≡ map label_of ss
      by (inl there) = absurd (false≢true (ap is_some (sym (no_session (slice_get ss n) is) ∙ there.2)))
      by (inr past) = ap (map label_of) (take_all n ss past.0)
