-- A line whose third byte is not that of a header is a command.
use Rattle.std.proofs.Common.{◌≡◌, ℕ, ◌<◌, List, [], ◌∷◌, length, get_or, true, false, Bool, refl, sym, ap, subst, ◌∙◌, arith}
use Rattle.std.specs.Prelude.{codes}
use Rattle.std.specs.List.{join_with_byte}
use Rattle.std.specs.Str.{bytes_eq}
use Rattle.std.proofs.lemmas.Slice.Eq.{bytes_eq-Decides}
use Rattle.line_language.specs.Commands.{Words}
use Rattle.session_text.specs.Texts.{command_of, line_by, line_of}
use Rattle.line_language.specs.Words.{cut_at}
use Rattle.line_language.proofs.Exports.{cut_some, joined_cut}

-- the third byte of a header
abbrev pub HasThird : List ℕ → Type 0
HasThird bs = (2 < length bs) × (get_or bs 2 0 ≡ 115)

joined_third : (ws : Words) → HasThird (join_with_byte 32 (codes "session" ∷ ws))
joined_third [] = (omega arith, refl)
joined_third (w ∷ ws) = (omega arith, refl)

third : (bs : List ℕ) (ws : Words) → cut_at 32 bs ≡ codes "session" ∷ ws → HasThird bs
third bs ws e = subst HasThird (ap (join_with_byte 32) (sym e) ∙ joined_cut 32 bs) (joined_third ws)

pub command_alone : (bs : List ℕ) → (HasThird bs → ⊥) → line_of bs ≡ command_of bs
command_alone bs other = let s = cut_some 32 bs in ap (λ ws. line_by ws bs) s.2 ∙ by_word s.0 s.1 s.2 (bytes_eq s.0 (codes "session")) refl
  where
    by_word : (w : List ℕ) (ws : Words) → cut_at 32 bs ≡ w ∷ ws → (t : Bool) → bytes_eq w (codes "session") ≡ t → line_by (w ∷ ws) bs ≡ command_of bs
    by_word w ws e true is = absurd (other (third bs ws (e ∙ ap (λ v. v ∷ ws) ((bytes_eq-Decides w (codes "session")).0 is))))
    by_word w ws e false is = rw is refl
