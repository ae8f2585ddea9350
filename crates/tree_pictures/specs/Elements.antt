-- Text, numbers and elements of SVG.
use Rattle.std.specs.Prelude.{ℕ, ◌/◌, ◌%◌, ◌==◌, if◌then◌else◌, List, [], ◌∷◌, ◌++◌, codes, decimal}

-- ---- text: no byte of it is read as markup

abbrev pub escaped : ℕ → List ℕ
escaped b = if b == 38 then codes "&amp;" else (if b == 60 then codes "&lt;"
    else (if b == 62 then codes "&gt;" else (if b == 34 then codes "&quot;"
    else (if b == 39 then codes "&#39;" else b ∷ []))))

-- ---- numbers: tenths of a unit

abbrev pub tenths : ℕ → List ℕ
tenths n = decimal (n / 10) ++ codes "." ++ decimal (n % 10)

abbrev pub point : ℕ → ℕ → List ℕ
point x y = tenths x ++ codes " " ++ tenths y

-- ` NAME="12.3"`
abbrev pub attribute : List ℕ → ℕ → List ℕ
attribute name n = codes " " ++ name ++ codes "=\"" ++ tenths n ++ codes "\""

-- ---- elements, up to where they are closed

abbrev pub opened : List ℕ → List ℕ → List ℕ
opened name class = codes "<" ++ name ++ codes " class=\"" ++ class ++ codes "\""

abbrev pub place_xy : ℕ → ℕ → List ℕ
place_xy x y = attribute (codes "x") x ++ attribute (codes "y") y

-- a rectangle with its left upper corner, its width and its height
abbrev pub opened_rect : List ℕ → ℕ → ℕ → ℕ → ℕ → List ℕ
opened_rect class x y width height = opened (codes "rect") class ++ place_xy x y
    ++ attribute (codes "width") width ++ attribute (codes "height") height ++ codes ">"

abbrev pub opened_text : List ℕ → ℕ → ℕ → List ℕ
opened_text class x y = opened (codes "text") class ++ place_xy x y ++ codes ">"

-- an upright line, from a height to a height
abbrev pub opened_line : List ℕ → ℕ → ℕ → ℕ → List ℕ
opened_line class x from to = opened (codes "line") class ++ attribute (codes "x1") x
    ++ attribute (codes "y1") from ++ attribute (codes "x2") x ++ attribute (codes "y2") to
    ++ codes "/>\n"
