-- What stands around the bars of a picture: the head, the times, the legend and the summary.
use Rattle.std.specs.Prelude.{ℕ, zero, suc, ◌-◌, ◌/◌, max, nat_le, if◌then◌else◌, List, [], ◌∷◌, ◌++◌, codes, decimal}
use Rattle.std.specs.List.{flat_map}
use Rattle.tree_pictures.specs.Elements.{escaped, opened_line, opened_text, tenths}
use Rattle.tree_pictures.specs.Scale.{bottom_of, line_of, plus, product, x_of}
use Rattle.tree_pictures.specs.declared.frame.TheConstants.{FOOT, LEGEND, PATTERNS, STYLE}
use Rattle.tree_pictures.specs.declared.scale.Scale.{Scale}
use Rattle.tree_pictures.specs.declared.scale.TheConstants.{TOP, WIDTH}

-- ---- the head

-- it scales to the width that it is given
abbrev pub opening : Scale → List ℕ
opening sc = codes "<svg xmlns=\"http://www.w3.org/2000/svg\" viewBox=\"0 0 " ++ tenths WIDTH
    ++ codes " " ++ tenths (plus (bottom_of sc) FOOT) ++ codes "\">\n"

abbrev pub head_text : ℕ → ℕ → List ℕ
head_text count transactions = opened_text (codes "head") 100 200 ++ decimal count
    ++ (codes " entries, " ++ decimal transactions) ++ codes " transactions</text>\n"

abbrev pub head : Scale → ℕ → List ℕ
head sc transactions = opening sc ++ STYLE.now ++ PATTERNS.now ++ head_text sc.entries transactions

-- ---- the times: lines of the report, up to eleven, at equal steps

abbrev pub time_at : Scale → ℕ → List ℕ
time_at sc n = opened_line (codes "grid") (x_of sc n) (TOP - 60) (bottom_of sc)
    ++ opened_text (codes "time") (x_of sc n) (TOP - 100) ++ decimal (line_of sc n)
    ++ codes "</text>\n"

abbrev pub time_if : Scale → ℕ → List ℕ
time_if sc n = if nat_le n sc.entries then time_at sc n else []

abbrev pub step_of : Scale → ℕ
step_of sc = max (sc.entries / 10) 1

unfoldable pub times_to : Scale → ℕ → List ℕ
times_to sc zero = []
times_to sc (suc k) = times_to sc k ++ time_if sc (product (step_of sc) k)

abbrev pub times : Scale → List ℕ
times sc = opened_text (codes "axis") 100 (TOP - 100) ++ codes "line</text>\n" ++ times_to sc 11

-- ---- what stands below

abbrev pub legend : Scale → List ℕ
legend sc = codes "<g transform=\"translate(0 " ++ tenths (plus (bottom_of sc) 150)
    ++ codes ")\">\n" ++ LEGEND.now ++ codes "</g>\n"

abbrev pub note_line : ℕ → List ℕ → List ℕ
note_line y bs = opened_text (codes "note") 100 y ++ flat_map escaped bs ++ codes "</text>\n"

-- each line below the one before; behind the last line feed nothing stands
abbrev pub notes : ℕ → List (List ℕ) → List ℕ
notes y [] = []
notes y (p ∷ []) = []
notes y (p ∷ q ∷ ps) = note_line y p ++ notes (plus y 170) (q ∷ ps)
