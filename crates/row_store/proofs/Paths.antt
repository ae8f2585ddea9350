-- What a log of undone writes keeps: a write leads back to what stood before it, and the states on the way stay sound.
use Rattle.std.proofs.Common.{◌≡◌, ℕ, ◌≤◌, List, [], ◌∷◌, ◌++◌, get_or, refl, ap, ◌∙◌, arith}
use Rattle.row_store.specs.declared.log.Undo.{Undo}
use Rattle.row_store.specs.Path.{State, undo, Fits, undone, IsSound, IsPath}

pub undone-push : (log : List Undo) (u : Undo) (s : State) → undone (log ++ u ∷ []) s ≡ undone log (undo u s)
undone-push [] u s = refl
undone-push (v ∷ log) u s = ap (undo v) (undone-push log u s)

pub undone-append : (first last : List Undo) (s : State) → undone (first ++ last) s ≡ undone first (undone last s)
undone-append [] last s = refl
undone-append (v ∷ first) last s = ap (undo v) (undone-append first last s)

pub path_push : (room : List ℕ) (log : List Undo) (u : Undo) (old new : State) → undo u new ≡ old → Fits u new → IsSound room new → IsPath room log old
    → IsPath room (log ++ u ∷ []) new
path_push room [] u old new back fits sound h = (sound, fits, rw back h)
path_push room (v ∷ log) u old new back fits sound h =
    let same : undone (log ++ u ∷ []) new ≡ undone log old = undone-push log u new ∙ ap (undone log) back in
    (path_push room log u old new back fits sound h.0, rw same h.1, rw same h.2)

pub path_pop : (room : List ℕ) (log : List Undo) (u : Undo) (s : State) → IsPath room (log ++ u ∷ []) s → IsPath room log (undo u s) × Fits u s
path_pop room [] u s h = (h.2, h.1)
path_pop room (v ∷ log) u s h =
    let rest = path_pop room log u s h.0 in
    let same = undone-push log u s in
    ((rest.0, rw same at h.1, rw same at h.2), rest.1)

pub path_grow : (small large : List ℕ) (log : List Undo) (s : State) → ((t : ℕ) → get_or small t 0 ≤ get_or large t 0) → IsPath small log s → IsPath large log s
path_grow small large [] s more h = record { count = h.count; shaped = h.shaped; short = λ t. omega (arith, more t, h.short t) }
path_grow small large (u ∷ log) s more h =
    (path_grow small large log s more h.0, h.1, record { count = h.2.count; shaped = h.2.shaped; short = λ t. omega (arith, more t, h.2.short t) })
