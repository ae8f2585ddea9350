-- One more line, and one more session.
use Rattle.std.proofs.Common.{◌≡◌, ℕ, zero, suc, List, [], ◌∷◌, ◌++◌, slice_get, Some, refl, ap, ◌∙◌}
use Rattle.std.proofs.lemmas.Option.{none-some}
use Rattle.serial_spec.specs.declared.event.Event.{Event}
use Rattle.serial_spec.specs.Interleaving.{Session, lines_of}
use Rattle.session_text.specs.Growing.{with_line_of}
use Rattle.session_text.specs.Texts.{with_header}
use Rattle.growing_sessions.specs.Growing.{GrowthsJoin, LineExtends, SessionExtends, labels_in}

-- what stands at a place stands there when more come behind
pub at_front : {X : Type 0} (xs ys : List X) (n : ℕ) (x : X) → slice_get xs n ≡ Some x → slice_get (xs ++ ys) n ≡ Some x
at_front [] ys n x at = absurd (none-some x at)
at_front (y ∷ xs) ys zero x at = at
at_front (y ∷ xs) ys (suc n) x at = at_front xs ys n x at

lines_more : (ss : List Session) (t : ℕ) (d : Event) (s n : ℕ) (e : Event) → slice_get (lines_of (slice_get ss s)) n ≡ Some e
    → slice_get (lines_of (slice_get (with_line_of ss t d) s)) n ≡ Some e
lines_more [] t d s n e at = at
lines_more (x ∷ ss) zero d zero n e at = at_front x.lines (d ∷ []) n e at
lines_more (x ∷ ss) zero d (suc s) n e at = at
lines_more (x ∷ ss) (suc t) d zero n e at = at
lines_more (x ∷ ss) (suc t) d (suc s) n e at = lines_more ss t d s n e at

same_labels : (ss : List Session) (t : ℕ) (d : Event) → labels_in (with_line_of ss t d) ≡ labels_in ss
same_labels [] t d = refl
same_labels (x ∷ ss) zero d = refl
same_labels (x ∷ ss) (suc t) d = ap (λ (ls : List (List ℕ)). x.label ∷ ls) (same_labels ss t d)

pub line_extends : LineExtends
line_extends ss s e = record {
  lines = lines_more ss s e;
  labels = λ u l at. ap (λ (ls : List (List ℕ)). slice_get ls u) (same_labels ss s e) ∙ at;
}

pub growths_join : GrowthsJoin
growths_join = (
  λ ss. record { lines = λ s n e at. at; labels = λ s l at. at },
  λ ss mid more one other. record {
    lines = λ s n e at. other.lines s n e (one.lines s n e at);
    labels = λ s l at. other.labels s l (one.labels s l at);
  },
)

lines_with_header : (ss : List Session) (l : List ℕ) (s n : ℕ) (e : Event) → slice_get (lines_of (slice_get ss s)) n ≡ Some e
    → slice_get (lines_of (slice_get (with_header ss l) s)) n ≡ Some e
lines_with_header [] l s n e at = absurd (none-some e at)
lines_with_header (x ∷ ss) l zero n e at = at
lines_with_header (x ∷ ss) l (suc s) n e at = lines_with_header ss l s n e at

labels_with_header : (ss : List Session) (l : List ℕ) (s : ℕ) (m : List ℕ) → slice_get (labels_in ss) s ≡ Some m → slice_get (labels_in (with_header ss l)) s ≡ Some m
labels_with_header [] l s m at = absurd (none-some m at)
labels_with_header (x ∷ ss) l zero m at = at
labels_with_header (x ∷ ss) l (suc s) m at = labels_with_header ss l s m at

pub session_extends : SessionExtends
session_extends ss l = record { lines = lines_with_header ss l; labels = labels_with_header ss l }
