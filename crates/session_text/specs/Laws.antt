-- Reading and spelling fit: bytes are read as a text exactly where they spell it, as statements. So
-- each has one spelling, and all that is spelled otherwise is refused: at its first faulty line.
use Rattle.std.specs.Prelude.{◌≡◌, ◌↔◌, ◌⊎◌, ℕ, ◌+◌, ◌<◌, ◌==◌, IsFalse, List, [], ◌∷◌, ◌++◌, length, Ok, Err}
use Rattle.std.specs.List.{list_any}
use Rattle.serial_spec.specs.Interleaving.{Session}
use Rattle.line_language.specs.declared.fault.LineKind.{LineKind}
use Rattle.line_language.specs.declared.fault.LineKind.TheVariants as kind
use Rattle.session_text.specs.Grammar.{IsText, spelled_text}
use Rattle.session_text.specs.Texts.{sessions_of, with_bytes}

abbrev pub TextsReadBack : Type 0
TextsReadBack = (bs : List ℕ) (ss : List Session)
    → (sessions_of bs ≡ Ok ss) ↔ (IsText ss × (bs ≡ spelled_text ss))

-- how many lines spell these sessions, headers counted
abbrev pub line_count : List Session → ℕ
line_count [] = 0
line_count (s ∷ ss) = 1 + length s.lines + line_count ss

-- the bytes end with this line, which has no line feed
abbrev pub EndsEarly : List ℕ → List ℕ → List ℕ → LineKind → Type 0
EndsEarly bs before line k = (bs ≡ before ++ line) × (0 < length line) × (k ≡ kind.End)

-- the lines before line n are a text, and line n may not stand behind them
pub record IsFirstFault (bs : List ℕ) (n : ℕ) (k : LineKind) : Type 0 where
  pub before : List Session
  pub text : IsText before
  pub counted : n ≡ line_count before + 1
  pub line : List ℕ
  pub one_line : IsFalse (list_any (λ b. b == 10) line)
  pub faulty : EndsEarly bs (spelled_text before) line k
      ⊎ ((rest : List ℕ) × (bs ≡ spelled_text before ++ line ++ 10 ∷ rest)
      × (with_bytes before line ≡ Err k))

abbrev pub FirstFaultsTold : Type 0
FirstFaultsTold = (bs : List ℕ) (n : ℕ) (k : LineKind) → sessions_of bs ≡ Err (n, k)
    → IsFirstFault bs n k
